use Rattle.std.proofs.Common.{ℕ, ◌-◌}
use Rattle.std.specs.Prelude.{Ok}
use Rattle.qx_nodes.specs.BlockMap.{BlockMap}
use Rattle.qx_view.specs.Images.{Roots}
use Rattle.qx_walk.proofs.AllInodes.{IsOnWay}
use Rattle.qx_walk.specs.Inodes.{Begins}
use Rattle.qx_walk.specs.Steps.{AreWalked, Carries}
use Rattle.qx_pointers.specs.Shown.{Shows}
use Rattle.qx_tables.specs.Tables.{HoldsInodes, places_of, taken_in}
use Rattle.qx_walk.proofs.inodes.walk_inodes.Given as goal

-- the inodes that were taken so far were walked
abbrev pub invariant-loop-queued : goal.invariant-loop-queued
invariant-loop-queued g l = record {
  way : (m : BlockMap) (r : Roots) → Shows l.ground.shape (g.D.Dev.outside l.host) m → HoldsInodes m r.inodes l.ground.table → Begins m r l.fn.way l.fn.seen → IsOnWay m r l.way l.seen;
  walked : AreWalked l.ground (taken_in l.seen.listing);
  carries : Carries {T = ℕ} l.ground 0 l.fn.way l.way l.fn.seen l.seen (g.D.Dev.outside l.fn.host) (g.D.Dev.outside l.host) (Ok 0);
}

-- the places less the inodes that were taken
abbrev pub decreases-loop-queued : goal.decreases-loop-queued
decreases-loop-queued g l = places_of l.ground.table - l.seen.listing.next
