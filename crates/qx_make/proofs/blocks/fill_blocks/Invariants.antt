use Rattle.std.proofs.Common.{◌≡◌, ◌*◌, take}
use Rattle.std.specs.List.{flat_map, range_with_len}
use Rattle.qx_make.specs.Blocks.{made_block_bytes}
use Rattle.qx_make.proofs.blocks.fill_blocks.Given as goal

abbrev pub invariant-loop-index : goal.invariant-loop-index
invariant-loop-index l =
    take (l.index * l.volume.geometry.blocksize) l.into ≡ flat_map (made_block_bytes l.volume.geometry l.volume.order l.volume.moment) (range_with_len l.first l.index)
