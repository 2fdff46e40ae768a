use Rattle.std.proofs.Common.{◌≡◌, Some, sym, ◌∙◌}
use Rattle.std.specs.Prelude.{None}
use Rattle.qx_blocks.specs.BlockState.{BlockState}
use Rattle.qx_ptree.proofs.KeptPlans.{told_before}
use Rattle.qx_working.specs.States.{copy_of}
use Rattle.qx_lookup.specs.Names.{directory_in}
use Rattle.qx_lookup.proofs.FreeRecords.{unused_without}
use Rattle.qx_lookup.proofs.ReadableNodes.{directory_node, node_levels, unused_told, slots_none}
use Rattle.qx_lookup.proofs.unused.free_record.Goals as goal

pub unused_record-requires-clause-levels : goal.unused_record-requires-clause-levels
unused_record-requires-clause-levels g c =
    let is : directory_in c.args.state.now.table.inodes c.args.dir ≡ Some c.in-Some.node = sym c.directory.ensures ∙ c.in-Some.is in
    node_levels (g.B.Blocks.state c.args.blocks.now) c.args.state.now c.args.dir c.in-Some.node c.requires.readable (directory_node (copy_of c.args.state.now) c.args.dir c.in-Some.node is)

pub unused_record-requires-clause-works : goal.unused_record-requires-clause-works
unused_record-requires-clause-works g c told =
    let is : directory_in c.args.state.now.table.inodes c.args.dir ≡ Some c.in-Some.node = sym c.directory.ensures ∙ c.in-Some.is in
    c.requires.readable.works told c.args.dir c.in-Some.node (directory_node (copy_of c.args.state.now) c.args.dir c.in-Some.node is)

pub returns-in_default-clause-unused : goal.returns-in_default-clause-unused
returns-in_default-clause-unused g c told t stands =
    let is : directory_in c.args.state.now.table.inodes c.args.dir ≡ None = sym c.directory.ensures ∙ c.in_default.is in
    unused_without t c.args.dir (slots_none (g.B.Blocks.state c.args.blocks.now) c.args.state.now c.size-size.ensures.consistent told t stands c.args.dir is)

pub returns-clause-unused : goal.returns-clause-unused
returns-clause-unused g c =
    let m : BlockState = g.B.Blocks.state c.args.blocks.now in
    let is : directory_in c.args.state.now.table.inodes c.args.dir ≡ Some c.in-Some.node = sym c.directory.ensures ∙ c.in-Some.is in
    unused_told m (g.B.Blocks.state c.unused_record.new.blocks) c.args.state.now c.args.dir c.in-Some.node c.unused_record.result c.size-size.ensures.consistent (told_before m (g.B.Blocks.state c.unused_record.new.blocks) c.unused_record.ensures.reads.keeps) is
    c.unused_record.ensures.unused
