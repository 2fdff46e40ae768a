use Rattle.std.proofs.Common.{◌≡◌, ◌-◌, IsTrue}
use Rattle.qx_nodes.specs.LongNames.{long_name}
use Rattle.qx_blocks.specs.Calls.{Keeps}
use Rattle.qx_ptree.specs.Trees.{block_map}
use Rattle.qx_lookup.specs.Rows.{NoneHas, slot_in_block}
use Rattle.qx_lookup.proofs.rows.find_in_block.Given as goal

-- none of the records so far has the name
abbrev pub invariant-loop-from : goal.invariant-loop-from
invariant-loop-from g l =
    let m = g.B.Blocks.state l.fn.blocks in
    record {
      none : IsTrue (g.B.Blocks.state l.blocks).tells → NoneHas (slot_in_block l.order (long_name (block_map l.order m) l.longfile) (m.bytes l.block)) l.name 0 l.from;
      keeps : Keeps m (g.B.Blocks.state l.blocks);
      aside : (g.B.Blocks.beside l.blocks).aside ≡ (g.B.Blocks.beside l.fn.blocks).aside;
      faults : (g.B.Blocks.beside l.blocks).faults ≡ (g.B.Blocks.beside l.fn.blocks).faults;
    }

abbrev pub decreases-loop-from : goal.decreases-loop-from
decreases-loop-from g l = l.count - l.from
