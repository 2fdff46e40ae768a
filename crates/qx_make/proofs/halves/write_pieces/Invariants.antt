use Rattle.std.proofs.Common.{◌≡◌, ℕ, ◌-◌, ◌≤◌, List, length}
use Rattle.std.specs.List.{flat_map, range_with_len}
use Rattle.qx_outside.specs.Calls.{LeavesRest}
use Rattle.qx_outside.specs.Ranges.{put_at}
use Rattle.qx_make.specs.Blocks.{made_block_bytes}
use Rattle.qx_make.specs.Stages.{blocks_stage}
use Rattle.qx_make.proofs.StageSteps.{HasBegun}
use Rattle.qx_make.proofs.halves.write_pieces.Given as goal

abbrev pub invariant-loop-first : goal.invariant-loop-first
invariant-loop-first g l = record {
  begun : (bytes : List ℕ) → l.volume.geometry.len4 ≤ length bytes
      → HasBegun (blocks_stage l.volume.geometry l.volume.order l.volume.moment bytes)
      (put_at bytes 0x3000 (flat_map (made_block_bytes l.volume.geometry l.volume.order l.volume.moment) (range_with_len 0 l.first))) (g.D.Dev.outside l.fn.host) (g.D.Dev.outside l.host);
  others : LeavesRest (g.D.Dev.outside l.fn.host) (g.D.Dev.outside l.host);
  faults : (g.D.Dev.outside l.host).dev_faults ≡ (g.D.Dev.outside l.fn.host).dev_faults;
  buffer : length l.buffer ≡ 65536;
  within : l.first ≤ l.blocks;
}

abbrev pub decreases-loop-first : goal.decreases-loop-first
decreases-loop-first g l = l.blocks - l.first
