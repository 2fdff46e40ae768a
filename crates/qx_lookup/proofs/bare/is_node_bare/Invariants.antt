use Rattle.std.proofs.Common.{◌≡◌, ◌-◌, IsTrue}
use Rattle.qx_geom.specs.Pointer.{ceil_div}
use Rattle.qx_blocks.specs.Calls.{Keeps}
use Rattle.qx_ptree.specs.Trees.{block_map}
use Rattle.qx_lookup.specs.Links.{says_link}
use Rattle.qx_lookup.proofs.DirectoryRecords.{NoneBefore}
use Rattle.qx_lookup.proofs.bare.is_node_bare.Given as goal

-- none of the leaves so far has such a row
abbrev pub invariant-loop-leaf : goal.invariant-loop-leaf
invariant-loop-leaf g l =
    let m = g.B.Blocks.state l.fn.blocks in
    record {
      none : IsTrue (g.B.Blocks.state l.blocks).tells → NoneBefore (block_map l.order m) l.longfile l.node says_link l.from;
      keeps : Keeps m (g.B.Blocks.state l.blocks);
      aside : (g.B.Blocks.beside l.blocks).aside ≡ (g.B.Blocks.beside l.fn.blocks).aside;
      faults : (g.B.Blocks.beside l.blocks).faults ≡ (g.B.Blocks.beside l.fn.blocks).faults;
    }

abbrev pub decreases-loop-leaf : goal.decreases-loop-leaf
decreases-loop-leaf g l = ceil_div l.node.size (g.B.Blocks.state l.fn.blocks).holdings.size - l.from
