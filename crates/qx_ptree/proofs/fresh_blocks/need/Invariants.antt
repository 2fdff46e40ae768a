use Rattle.std.proofs.Common.{◌≡◌, ◌≤◌, ◌+◌, ◌*◌, ◌^◌, IsTrue}
use Rattle.qx_geom.specs.Pointer.{per_block}
use Rattle.qx_blocks.specs.Calls.{Keeps}
use Rattle.qx_ptree.specs.Parts.{part_of}
use Rattle.qx_ptree.specs.Plans.{alteration_in}
use Rattle.qx_ptree.proofs.SumsBelow.{sum_up_to}
use Rattle.qx_ptree.proofs.fresh_blocks.need.Given as goal

-- what the parts below the node's pointers so far take
abbrev pub invariant-loop-j : goal.invariant-loop-j
invariant-loop-j g l =
    let m = g.B.Blocks.state l.fn.blocks in
    record {
      need : IsTrue (g.B.Blocks.state l.blocks).tells → l.need ≡ sum_up_to l.j (λ j. (part_of (alteration_in l.plan m) l.level j).need);
      few : l.need + l.j ≤ l.j * (2 * per_block m.holdings.size ^ l.level);
      told : IsTrue (g.B.Blocks.state l.blocks).tells → IsTrue (g.B.Blocks.state l.initial.blocks).tells;
      keeps : Keeps m (g.B.Blocks.state l.blocks);
      aside : (g.B.Blocks.beside l.blocks).aside ≡ (g.B.Blocks.beside l.fn.blocks).aside;
      faults : (g.B.Blocks.beside l.blocks).faults ≡ (g.B.Blocks.beside l.fn.blocks).faults;
    }
