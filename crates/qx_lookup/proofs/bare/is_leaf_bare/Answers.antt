use Rattle.std.proofs.Common.{rules, ◌≤◌, ◌*◌, ◌/◌, ℕ, Bool}
use Rattle.std.specs.Prelude.{Result, Ok, Err, IfOk, IsTrue}
use Rattle.qx_geom.specs.declared.root.Root.{Root}
use Rattle.qx_fields.specs.declared.order.Order.{Order}
use Rattle.qx_nodes.specs.LongNames.{long_name}
use Rattle.qx_blocks.specs.BlockState.{BlockState}
use Rattle.qx_blocks.specs.declared.blocks.Stop.{Stop}
use Rattle.qx_ptree.specs.Trees.{block_map}
use Rattle.qx_ptree.proofs.KeptPlans.{told_before}
use Rattle.qx_lookup.specs.Links.{IsBareFrom}
use Rattle.qx_lookup.specs.Rows.{records_end, slot_in, slot_in_block}
use Rattle.qx_lookup.proofs.BareRecords.{bare_of_leaf}
use Rattle.qx_lookup.proofs.bare.is_leaf_bare.Goals as goal

-- an answer for a block is one for a leaf
for_leaf : (order : Order) (m new : BlockState) (longfile node : Root) (index block count : ℕ) (result : Result Bool Stop)
    → ((bare : Bool) → IsTrue new.tells → IsBareFrom (slot_in_block order (long_name (block_map order m) longfile) (m.bytes block)) 0 count bare
    → IsBareFrom (slot_in (block_map order m) longfile node) (index * (m.holdings.size / 32)) (records_end m.holdings.size node.size index) bare)
    → IfOk result (λ bare. IsTrue new.tells → IsBareFrom (slot_in_block order (long_name (block_map order m) longfile) (m.bytes block)) 0 count bare)
    → IfOk result (λ bare. IsTrue new.tells → IsBareFrom (slot_in (block_map order m) longfile node) (index * (m.holdings.size / 32)) (records_end m.holdings.size node.size index) bare)
for_leaf order m new longfile node index block count (Ok bare) step h = λ told. step bare told (h told)
for_leaf order m new longfile node index block count (Err stop) step h = tt

pub returns-clause-bare : goal.returns-clause-bare
returns-clause-bare g c =
    let m : BlockState = g.B.Blocks.state c.args.blocks.now in
    let new : BlockState = g.B.Blocks.state c.is_block_bare.new.blocks in
    let few : 32 * c.count.result ≤ m.holdings.size = search rules in
    for_leaf c.args.order m new c.args.longfile.now c.args.node.now c.args.leaf.index c.args.leaf.block c.count.result c.is_block_bare.result
    (λ bare told. let was : IsTrue m.tells = told_before m new c.is_block_bare.ensures.reads.keeps told in
    bare_of_leaf c.args.order m c.args.longfile.now c.args.node.now c.args.leaf.index c.args.leaf.block c.of-records.result.first c.of-records.result.end c.count.result bare
    c.of-records.ensures.consistent (c.requires.works was) (c.requires.present was) c.of-records.ensures.first c.of-records.ensures.end c.of-records.ensures.some c.count.ensures few)
    c.is_block_bare.ensures.bare
