use Rattle.std.proofs.Common.{◌≡◌, IsTrue, true}
use Rattle.qx_nodes.specs.LongNames.{long_name}
use Rattle.qx_blocks.specs.Calls.{Keeps}
use Rattle.qx_ptree.specs.Trees.{block_map}
use Rattle.qx_lookup.specs.Links.{IsBareFrom}
use Rattle.qx_lookup.specs.Rows.{slot_in_block}
use Rattle.qx_lookup.proofs.bare.is_block_bare.Given as goal

-- none of the records so far is such a row
abbrev pub invariant-loop-place : goal.invariant-loop-place
invariant-loop-place g l =
    let m = g.B.Blocks.state l.fn.blocks in
    record {
      none : IsTrue (g.B.Blocks.state l.blocks).tells → IsBareFrom (slot_in_block l.order (long_name (block_map l.order m) l.longfile) (m.bytes l.block)) 0 l.place true;
      keeps : Keeps m (g.B.Blocks.state l.blocks);
      aside : (g.B.Blocks.beside l.blocks).aside ≡ (g.B.Blocks.beside l.fn.blocks).aside;
      faults : (g.B.Blocks.beside l.blocks).faults ≡ (g.B.Blocks.beside l.fn.blocks).faults;
    }
