use Rattle.std.proofs.Common.{◌≡◌, ◌*◌, ◌-◌, ◌≤◌, length}
use Rattle.qx_geom.specs.Lists.{IsAscending}
use Rattle.qx_nodes.specs.BlockMap.{BlockMap}
use Rattle.qx_tables.proofs.FilledLeaves.{IsFilled}
use Rattle.qx_tables.proofs.LeafLists.{numbers_of}
use Rattle.qx_pointers.specs.Shown.{JustReads, Shows}
use Rattle.qx_tables.proofs.table.InodeTable.read.Given as goal

-- the leaves so far stand in their places, and the others are 0
abbrev pub invariant-loop-at : goal.invariant-loop-at
invariant-loop-at g l = record {
  filled : (m : BlockMap) → Shows l.fn.shape (g.D.Dev.outside l.host) m → IsAscending (numbers_of l.leaves) → IsFilled m l.count l.leaves l.at l.bytes.items;
  long : length l.bytes.items ≡ l.count * l.fn.shape.blocksize;
  taken : l.at ≤ length l.leaves;
  reads : JustReads 0 l.at (g.D.Dev.outside l.fn.host) (g.D.Dev.outside l.host);
  faults : (g.D.Dev.outside l.host).dev_faults ≡ (g.D.Dev.outside l.fn.host).dev_faults;
}

-- the leaves that are left
abbrev pub decreases-loop-at : goal.decreases-loop-at
decreases-loop-at g l = length l.leaves - l.at
