use Rattle.std.proofs.Common.{◌≡◌, ◌*◌, ◌/◌, ℕ}
use Rattle.std.specs.Prelude.{Ok}
use Rattle.std.specs.List.{range_with_len}
use Rattle.qx_nodes.specs.BlockMap.{BlockMap}
use Rattle.qx_nodes.specs.Leaves.{Block, leaf_of}
use Rattle.qx_view.specs.Images.{Roots}
use Rattle.qx_walk.specs.Kept.{Kept}
use Rattle.qx_walk.specs.Rows.{Holds, WalksThrough}
use Rattle.qx_walk.specs.Steps.{Lists}
use Rattle.qx_pointers.specs.Shown.{Shows}
use Rattle.qx_tables.specs.Tables.{HoldsInodes}
use Rattle.qx_walk.proofs.directory.walk_leaf.Given as goal

-- the records so far were gone through
abbrev pub invariant-loop-place : goal.invariant-loop-place
invariant-loop-place g l = record {
  walked : (m : BlockMap) (r : Roots) (kept : Kept) → Shows l.ground.shape (g.D.Dev.outside l.host) m
      → HoldsInodes m r.inodes l.ground.table → Holds m r.longfile kept l.fn.seen → leaf_of m l.directory.node l.fn.leaf.index ≡ Block l.fn.leaf.block
      → WalksThrough {T = ℕ} m r l.directory (range_with_len (l.fn.leaf.index * (m.size / 32)) l.place) kept (Ok 0) l.seen;
  lists : Lists {T = ℕ} l.ground l.place l.fn.seen l.seen (g.D.Dev.outside l.initial.host) (g.D.Dev.outside l.host) (Ok 0);
}
