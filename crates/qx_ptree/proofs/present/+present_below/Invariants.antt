use Rattle.std.proofs.Common.{◌≡◌, ◌+◌, ◌*◌, ◌-◌, ◌^◌, IsTrue}
use Rattle.qx_geom.specs.Pointer.{per_block}
use Rattle.qx_nodes.specs.Visits.{present_of}
use Rattle.qx_blocks.specs.Calls.{Keeps}
use Rattle.qx_ptree.specs.Present.{HasNone}
use Rattle.qx_ptree.specs.Trees.{block_map}
use Rattle.qx_ptree.proofs.present.+present_below.Given as goal

abbrev pub decreases-present_below : goal.decreases-present_below
decreases-present_below g l = l.level

-- no leaf below the words so far is present
abbrev pub invariant-loop-w : goal.invariant-loop-w
invariant-loop-w g l =
    let m = g.B.Blocks.state l.fn.blocks in
    let b = m.holdings.size in
    record {
      none : IsTrue (g.B.Blocks.state l.blocks).tells → HasNone (present_of (block_map l.order m) l.node) l.from (l.index * per_block b ^ l.level) ((l.index * per_block b + l.w) * per_block b ^ (l.level - 1));
      told : IsTrue (g.B.Blocks.state l.blocks).tells → IsTrue (g.B.Blocks.state l.initial.blocks).tells;
      keeps : Keeps m (g.B.Blocks.state l.blocks);
      aside : (g.B.Blocks.beside l.blocks).aside ≡ (g.B.Blocks.beside l.fn.blocks).aside;
      faults : (g.B.Blocks.beside l.blocks).faults ≡ (g.B.Blocks.beside l.fn.blocks).faults;
    }
