use Rattle.std.proofs.Common.{◌≡◌, Some, refl, sym, ◌∙◌}
use Rattle.std.specs.Prelude.{None}
use Rattle.qx_blocks.specs.BlockState.{BlockState}
use Rattle.qx_ptree.proofs.KeptPlans.{told_before}
use Rattle.qx_working.specs.States.{copy_of}
use Rattle.qx_lookup.specs.Names.{directory_in}
use Rattle.qx_lookup.proofs.NamedRows.{no_row_listed}
use Rattle.qx_lookup.proofs.ReadableNodes.{directory_node, node_levels, row_told, slots_none}
use Rattle.qx_lookup.proofs.named.row_named.Goals as goal

pub find_row-requires-clause-levels : goal.find_row-requires-clause-levels
find_row-requires-clause-levels g c =
    let is : directory_in c.args.state.now.table.inodes c.args.dir ≡ Some c.in-Some.node = sym c.directory.ensures ∙ c.in-Some.is in
    node_levels (g.B.Blocks.state c.args.blocks.now) c.args.state.now c.args.dir c.in-Some.node c.requires.readable (directory_node (copy_of c.args.state.now) c.args.dir c.in-Some.node is)

pub find_row-requires-clause-works : goal.find_row-requires-clause-works
find_row-requires-clause-works g c told =
    let is : directory_in c.args.state.now.table.inodes c.args.dir ≡ Some c.in-Some.node = sym c.directory.ensures ∙ c.in-Some.is in
    c.requires.readable.works told c.args.dir c.in-Some.node (directory_node (copy_of c.args.state.now) c.args.dir c.in-Some.node is)

pub find_row-requires-clause-long_levels : goal.find_row-requires-clause-long_levels
find_row-requires-clause-long_levels g c = node_levels (g.B.Blocks.state c.args.blocks.now) c.args.state.now 0 c.args.state.now.long c.requires.readable refl

pub find_row-requires-clause-long_works : goal.find_row-requires-clause-long_works
find_row-requires-clause-long_works g c told = c.requires.readable.works told 0 c.args.state.now.long refl

pub returns-in_default-clause-row : goal.returns-in_default-clause-row
returns-in_default-clause-row g c told t stands =
    let is : directory_in c.args.state.now.table.inodes c.args.dir ≡ None = sym c.directory.ensures ∙ c.in_default.is in
    no_row_listed t c.args.dir c.args.name.now (slots_none (g.B.Blocks.state c.args.blocks.now) c.args.state.now c.size-size.ensures.consistent told t stands c.args.dir is)

pub returns-clause-row : goal.returns-clause-row
returns-clause-row g c =
    let m : BlockState = g.B.Blocks.state c.args.blocks.now in
    let is : directory_in c.args.state.now.table.inodes c.args.dir ≡ Some c.in-Some.node = sym c.directory.ensures ∙ c.in-Some.is in
    row_told m (g.B.Blocks.state c.find_row.new.blocks) c.args.state.now c.args.dir c.in-Some.node c.args.name.now c.find_row.result c.size-size.ensures.consistent (told_before m (g.B.Blocks.state c.find_row.new.blocks) c.find_row.ensures.reads.keeps) is
    c.find_row.ensures.row
