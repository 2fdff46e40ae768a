use Rattle.std.proofs.Common.{◌≡◌, ◌≤◌, ◌-◌, ◌^◌, IsTrue}
use Rattle.qx_geom.specs.declared.root.Root.{Root}
use Rattle.qx_geom.specs.Pointer.{ceil_div}
use Rattle.qx_blocks.specs.Calls.{Keeps}
use Rattle.qx_ptree.specs.Trees.{block_map}
use Rattle.qx_lookup.specs.UnusedRecords.{says_unused}
use Rattle.qx_lookup.proofs.DirectoryRecords.{NoneBefore}
use Rattle.qx_lookup.proofs.unused.unused_record.Given as goal

-- none of the records of the leaves so far is unused
abbrev pub invariant-loop-leaf : goal.invariant-loop-leaf
invariant-loop-leaf g l =
    let m = g.B.Blocks.state l.fn.blocks in
    record {
      none : IsTrue (g.B.Blocks.state l.blocks).tells → (longfile : Root) → NoneBefore (block_map l.order m) longfile l.node says_unused l.from;
      few : l.from ≤ 2 ^ 54;
      keeps : Keeps m (g.B.Blocks.state l.blocks);
      aside : (g.B.Blocks.beside l.blocks).aside ≡ (g.B.Blocks.beside l.fn.blocks).aside;
      faults : (g.B.Blocks.beside l.blocks).faults ≡ (g.B.Blocks.beside l.fn.blocks).faults;
    }

abbrev pub decreases-loop-leaf : goal.decreases-loop-leaf
decreases-loop-leaf g l = ceil_div l.node.size (g.B.Blocks.state l.fn.blocks).holdings.size - l.from
