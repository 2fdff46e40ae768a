use Rattle.std.proofs.Common.{rules, ◌≤◌, ◌*◌, subst}
use Rattle.std.specs.Prelude.{IsTrue, None, Some}
use Rattle.qx_blocks.specs.BlockState.{BlockState}
use Rattle.qx_ptree.proofs.KeptPlans.{told_before}
use Rattle.qx_lookup.specs.UnusedRecords.{IsFirstOf}
use Rattle.qx_lookup.proofs.FreeRecords.{free_at, unused_of_leaf}
use Rattle.qx_lookup.proofs.unused.unused_in_leaf.Goals as goal

pub returns-in_default-clause-unused : goal.returns-in_default-clause-unused
returns-in_default-clause-unused g c told longfile =
    let m : BlockState = g.B.Blocks.state c.args.blocks.now in
    let was : IsTrue m.tells = told_before m (g.B.Blocks.state c.unused_in_block.new.blocks) c.in_ok-place.ensures.reads.keeps told in
    let few : 32 * c.count.result ≤ m.holdings.size = search rules in
    unused_of_leaf c.args.order m longfile c.args.node.now c.args.leaf.index c.args.leaf.block c.of-records.result.first c.of-records.result.end c.count.result None
    c.of-records.ensures.consistent (c.requires.works was) (c.requires.present was) c.of-records.ensures.first c.of-records.ensures.end c.of-records.ensures.some c.count.ensures few
    (subst (λ f. IsFirstOf (free_at c.args.order (m.bytes c.args.leaf.block)) 0 c.count.result f) c.in_default.is (c.in_ok-place.ensures.unused told))

pub returns-clause-unused : goal.returns-clause-unused
returns-clause-unused g c told longfile =
    let m : BlockState = g.B.Blocks.state c.args.blocks.now in
    let was : IsTrue m.tells = told_before m (g.B.Blocks.state c.unused_in_block.new.blocks) c.in_ok-place.ensures.reads.keeps told in
    let few : 32 * c.count.result ≤ m.holdings.size = search rules in
    unused_of_leaf c.args.order m longfile c.args.node.now c.args.leaf.index c.args.leaf.block c.of-records.result.first c.of-records.result.end c.count.result (Some c.in-Some.place)
    c.of-records.ensures.consistent (c.requires.works was) (c.requires.present was) c.of-records.ensures.first c.of-records.ensures.end c.of-records.ensures.some c.count.ensures few
    (subst (λ f. IsFirstOf (free_at c.args.order (m.bytes c.args.leaf.block)) 0 c.count.result f) c.in-Some.is (c.in_ok-place.ensures.unused told))
