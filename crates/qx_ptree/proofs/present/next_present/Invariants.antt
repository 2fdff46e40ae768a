use Rattle.std.proofs.Common.{◌≡◌, ◌*◌, ◌^◌, IsTrue}
use Rattle.qx_geom.specs.Pointer.{per_block}
use Rattle.qx_nodes.specs.Visits.{present_of}
use Rattle.qx_blocks.specs.Calls.{Keeps}
use Rattle.qx_ptree.specs.Present.{HasNone}
use Rattle.qx_ptree.specs.Trees.{block_map}
use Rattle.qx_ptree.proofs.present.next_present.Given as goal

-- no leaf below the pointers so far is present
abbrev pub invariant-loop-j : goal.invariant-loop-j
invariant-loop-j g l =
    let m = g.B.Blocks.state l.fn.blocks in
    record {
      none : IsTrue (g.B.Blocks.state l.blocks).tells → HasNone (present_of (block_map l.order m) l.node) l.from 0 (l.j * per_block m.holdings.size ^ l.node.levels);
      keeps : Keeps m (g.B.Blocks.state l.blocks);
      aside : (g.B.Blocks.beside l.blocks).aside ≡ (g.B.Blocks.beside l.fn.blocks).aside;
      faults : (g.B.Blocks.beside l.blocks).faults ≡ (g.B.Blocks.beside l.fn.blocks).faults;
    }
