use Rattle.std.proofs.Common.{◌≡◌, ◌+◌, ◌*◌, Ok}
use Rattle.qx_geom.specs.Pointer.{per_block}
use Rattle.qx_blocks.specs.Calls.{Keeps}
use Rattle.qx_ptree.specs.Building.{GivesUp, LiesUnder}
use Rattle.qx_ptree.proofs.giving_up.+subtree.Given as goal

-- a pointer by itself comes before a row of pointers of its level
abbrev pub decreases-give_up_below : goal.decreases-give_up_below
decreases-give_up_below g l = 2 * l.level

abbrev pub decreases-give_up_each : goal.decreases-give_up_each
decreases-give_up_each g l = 2 * l.level + 1

-- the blocks below the pointers so far are noted
abbrev pub invariant-give_up_each-loop-w : goal.invariant-give_up_each-loop-w
invariant-give_up_each-loop-w g l = record {
  gone : GivesUp (g.B.Blocks.state l.fn.blocks) (g.B.Blocks.state l.blocks) l.fn.work l.work l.fn.plan
      (LiesUnder (per_block (g.B.Blocks.state l.fn.blocks).holdings.size) (record { level = l.level; first = l.first; count = l.w })) (Ok tt);
  keeps : Keeps (g.B.Blocks.state l.fn.blocks) (g.B.Blocks.state l.blocks);
  aside : (g.B.Blocks.beside l.blocks).aside ≡ (g.B.Blocks.beside l.fn.blocks).aside;
  faults : (g.B.Blocks.beside l.blocks).faults ≡ (g.B.Blocks.beside l.fn.blocks).faults;
}
