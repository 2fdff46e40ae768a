use Rattle.std.proofs.Common.{rules, ◌≤◌, ◌*◌, subst}
use Rattle.std.specs.Prelude.{IsTrue, None, Some}
use Rattle.qx_nodes.specs.LongNames.{long_name}
use Rattle.qx_blocks.specs.BlockState.{BlockState}
use Rattle.qx_ptree.specs.Trees.{block_map}
use Rattle.qx_ptree.proofs.KeptPlans.{told_before}
use Rattle.qx_lookup.specs.Rows.{IsFirstRow, slot_in_block}
use Rattle.qx_lookup.proofs.DirectoryRecords.{rows_of_leaf}
use Rattle.qx_lookup.proofs.rows.find_in_leaf.Goals as goal

pub returns-in_default-clause-row : goal.returns-in_default-clause-row
returns-in_default-clause-row g c told =
    let m : BlockState = g.B.Blocks.state c.args.blocks.now in
    let was : IsTrue m.tells = told_before m (g.B.Blocks.state c.find_in_block.new.blocks) c.in_ok-row.ensures.reads.keeps told in
    let few : 32 * c.count.result ≤ m.holdings.size = search rules in
    rows_of_leaf c.args.order m c.args.longfile.now c.args.node.now c.args.leaf.index c.args.leaf.block c.of-records.result.first c.of-records.result.end c.count.result c.args.name.now None
    c.of-records.ensures.consistent (c.requires.works was) (c.requires.present was) c.of-records.ensures.first c.of-records.ensures.end c.of-records.ensures.some c.count.ensures few
    (subst (λ f. IsFirstRow (slot_in_block c.args.order (long_name (block_map c.args.order m) c.args.longfile.now) (m.bytes c.args.leaf.block)) c.args.name.now 0 c.count.result f) c.in_default.is (c.in_ok-row.ensures.row told))

pub returns-clause-row : goal.returns-clause-row
returns-clause-row g c told =
    let m : BlockState = g.B.Blocks.state c.args.blocks.now in
    let was : IsTrue m.tells = told_before m (g.B.Blocks.state c.find_in_block.new.blocks) c.in_ok-row.ensures.reads.keeps told in
    let few : 32 * c.count.result ≤ m.holdings.size = search rules in
    rows_of_leaf c.args.order m c.args.longfile.now c.args.node.now c.args.leaf.index c.args.leaf.block c.of-records.result.first c.of-records.result.end c.count.result c.args.name.now (Some c.in-Some.row)
    c.of-records.ensures.consistent (c.requires.works was) (c.requires.present was) c.of-records.ensures.first c.of-records.ensures.end c.of-records.ensures.some c.count.ensures few
    (subst (λ f. IsFirstRow (slot_in_block c.args.order (long_name (block_map c.args.order m) c.args.longfile.now) (m.bytes c.args.leaf.block)) c.args.name.now 0 c.count.result f) c.in-Some.is (c.in_ok-row.ensures.row told))
