use Rattle.std.proofs.Common.{◌≡◌, Some, refl, sym, ◌∙◌}
use Rattle.std.specs.Prelude.{None}
use Rattle.qx_blocks.specs.BlockState.{BlockState}
use Rattle.qx_ptree.proofs.KeptPlans.{told_before}
use Rattle.qx_working.specs.States.{copy_of}
use Rattle.qx_lookup.specs.Names.{directory_in}
use Rattle.qx_lookup.proofs.BareRecords.{bare_without}
use Rattle.qx_lookup.proofs.ReadableNodes.{directory_node, node_levels, bare_told, slots_none}
use Rattle.qx_lookup.proofs.bare.is_bare.Goals as goal

pub is_node_bare-requires-clause-levels : goal.is_node_bare-requires-clause-levels
is_node_bare-requires-clause-levels g c =
    let is : directory_in c.args.state.now.table.inodes c.args.dir ≡ Some c.in-Some.node = sym c.directory.ensures ∙ c.in-Some.is in
    node_levels (g.B.Blocks.state c.args.blocks.now) c.args.state.now c.args.dir c.in-Some.node c.requires.readable (directory_node (copy_of c.args.state.now) c.args.dir c.in-Some.node is)

pub is_node_bare-requires-clause-works : goal.is_node_bare-requires-clause-works
is_node_bare-requires-clause-works g c told =
    let is : directory_in c.args.state.now.table.inodes c.args.dir ≡ Some c.in-Some.node = sym c.directory.ensures ∙ c.in-Some.is in
    c.requires.readable.works told c.args.dir c.in-Some.node (directory_node (copy_of c.args.state.now) c.args.dir c.in-Some.node is)

pub is_node_bare-requires-clause-long_levels : goal.is_node_bare-requires-clause-long_levels
is_node_bare-requires-clause-long_levels g c = node_levels (g.B.Blocks.state c.args.blocks.now) c.args.state.now 0 c.args.state.now.long c.requires.readable refl

pub is_node_bare-requires-clause-long_works : goal.is_node_bare-requires-clause-long_works
is_node_bare-requires-clause-long_works g c told = c.requires.readable.works told 0 c.args.state.now.long refl

pub returns-in_default-clause-bare : goal.returns-in_default-clause-bare
returns-in_default-clause-bare g c told t stands =
    let is : directory_in c.args.state.now.table.inodes c.args.dir ≡ None = sym c.directory.ensures ∙ c.in_default.is in
    bare_without t c.args.dir (slots_none (g.B.Blocks.state c.args.blocks.now) c.args.state.now c.size-size.ensures.consistent told t stands c.args.dir is)

pub returns-clause-bare : goal.returns-clause-bare
returns-clause-bare g c =
    let m : BlockState = g.B.Blocks.state c.args.blocks.now in
    let is : directory_in c.args.state.now.table.inodes c.args.dir ≡ Some c.in-Some.node = sym c.directory.ensures ∙ c.in-Some.is in
    bare_told m (g.B.Blocks.state c.is_node_bare.new.blocks) c.args.state.now c.args.dir c.in-Some.node c.is_node_bare.result c.size-size.ensures.consistent (told_before m (g.B.Blocks.state c.is_node_bare.new.blocks) c.is_node_bare.ensures.reads.keeps) is
    c.is_node_bare.ensures.bare
