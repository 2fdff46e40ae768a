use Rattle.std.proofs.Common.{◌≡◌, ◌≤◌, ◌+◌, ◌*◌, ◌^◌, IsTrue, ◌-◌}
use Rattle.qx_geom.specs.Layout.{levels_for}
use Rattle.qx_geom.specs.Pointer.{per_block}
use Rattle.qx_blocks.specs.Calls.{Keeps}
use Rattle.qx_ptree.specs.Fates.{leaves_after}
use Rattle.qx_ptree.specs.Parts.{part_of, parts_up_to}
use Rattle.qx_ptree.specs.Plans.{alteration_in}
use Rattle.qx_ptree.proofs.fresh_blocks.+part_at.Given as goal

abbrev pub decreases-part_at : goal.decreases-part_at
decreases-part_at g l = l.level

-- the parts below the words so far are side by side
abbrev pub invariant-loop-w : goal.invariant-loop-w
invariant-loop-w g l =
    let m = g.B.Blocks.state l.fn.blocks in
    record {
      part : IsTrue (g.B.Blocks.state l.blocks).tells → l.level ≤ levels_for m.holdings.size (leaves_after m.holdings.size l.plan.change)
          → l.part ≡ parts_up_to l.w (λ w. part_of (alteration_in l.plan m) (l.level - 1) (l.index * per_block m.holdings.size + w));
      told : IsTrue (g.B.Blocks.state l.blocks).tells → IsTrue (g.B.Blocks.state l.initial.blocks).tells;
      few : l.part.need + l.w ≤ l.w * (2 * per_block m.holdings.size ^ (l.level - 1));
      keeps : Keeps m (g.B.Blocks.state l.blocks);
      aside : (g.B.Blocks.beside l.blocks).aside ≡ (g.B.Blocks.beside l.fn.blocks).aside;
      faults : (g.B.Blocks.beside l.blocks).faults ≡ (g.B.Blocks.beside l.fn.blocks).faults;
    }
