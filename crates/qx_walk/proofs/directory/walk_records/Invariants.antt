use Rattle.std.proofs.Common.{◌≡◌, ◌*◌, ℕ, List, take}
use Rattle.std.specs.Prelude.{Ok, Contains}
use Rattle.qx_nodes.specs.BlockMap.{BlockMap}
use Rattle.qx_view.specs.Images.{Roots}
use Rattle.qx_walk.proofs.LeafWalks.{records_of}
use Rattle.qx_walk.proofs.RowsInOrder.{kept_before}
use Rattle.qx_pointers.specs.declared.node.LeafPlace.{LeafPlace}
use Rattle.qx_walk.specs.Rows.{WalksThrough, begins_with_dots}
use Rattle.qx_walk.specs.Steps.{Lists, leaf_reads}
use Rattle.qx_pointers.specs.Shown.{Shows}
use Rattle.qx_tables.specs.Tables.{AreLeaves, HasListed, HoldsInodes, HoldsNames}
use Rattle.qx_walk.proofs.directory.walk_records.Given as goal

-- the records of the leaves so far were gone through
abbrev pub invariant-loop-leaf : goal.invariant-loop-leaf
invariant-loop-leaf g l = record {
  walked : (m : BlockMap) (r : Roots) (queue : List (ℕ × ℕ)) (listed numbers : List ℕ) → Shows l.ground.shape (g.D.Dev.outside l.host) m
      → HoldsInodes m r.inodes l.ground.table → HoldsNames m r.longfile numbers l.fn.seen.longs → HasListed queue listed l.fn.seen.listing
      → AreLeaves m l.directory.node l.leaves
      → WalksThrough {T = ℕ} m r l.directory (records_of m l.directory (take l.leaf-index l.leaves)) (kept_before queue listed numbers) (Ok 0) l.seen;
  dots : (m : BlockMap) (p : LeafPlace) → Shows l.ground.shape (g.D.Dev.outside l.host) m → AreLeaves m l.directory.node l.leaves
      → Contains (take l.leaf-index l.leaves) p → p.index ≡ 0 → l.dots ≡ begins_with_dots m l.directory.node;
  lists : Lists {T = ℕ} l.ground (l.leaf-index * leaf_reads l.ground.shape) l.fn.seen l.seen (g.D.Dev.outside l.fn.host) (g.D.Dev.outside l.host) (Ok 0);
}
