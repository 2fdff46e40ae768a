use Rattle.std.proofs.Common.{◌<◌, ◌≤◌, ◌+◌, ◌*◌}
use Rattle.std.specs.Prelude.{All, IfSome, Ok}
use Rattle.qx_nodes.specs.BlockMap.{BlockMap}
use Rattle.qx_pointers.specs.Marks.{Follows}
use Rattle.qx_pointers.specs.Parts.{IsLeafOf}
use Rattle.qx_pointers.specs.Passage.{Sees, bare_beside, strays_beside, visits_beside}
use Rattle.qx_pointers.specs.Shown.{Shows}
use Rattle.qx_pointers.proofs.pointers.+pointers.Given as goal

-- the level, and pointers side by side before one of them
abbrev pub decreases-visit : goal.decreases-visit
decreases-visit g l = 2 * l.position.level

abbrev pub decreases-visit_each : goal.decreases-visit_each
decreases-visit_each g l = 2 * l.first.level + 1

-- the pointers so far were gone through
abbrev pub invariant-visit_each-loop-place : goal.invariant-visit_each-loop-place
invariant-visit_each-loop-place g l = record {
  sees : (m : BlockMap) → Shows l.visitor.shape (g.D.Dev.outside l.host) m
      → Sees m l.visitor l.last (visits_beside m l.last l.first.level l.first.index l.blocks l.place) (strays_beside m l.last l.first.level l.first.index l.blocks l.place) (bare_beside m l.last l.first.level l.first.index l.blocks l.place) (Ok l.all) l.fn.met l.met l.fn.leaves.items l.leaves.items;
  few : l.all.leaves ≤ l.place * l.first.span;
  placed : All (IsLeafOf l.visitor.shape.count l.last) l.leaves.items;
  end : IfSome l.all.end (λ block. block < l.visitor.shape.count);
  follows : Follows l.fn.met l.met l.fn.leaves.items l.leaves.items (g.D.Dev.outside l.fn.host) (g.D.Dev.outside l.host) (Ok l.all);
}
