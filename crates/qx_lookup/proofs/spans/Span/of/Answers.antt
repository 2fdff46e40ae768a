use Rattle.std.proofs.Common.{◌≡◌, ◌≤◌, ◌/◌, ◌*◌, ◌+◌, ◌-◌, arith, ap, subst, sym, ◌∙◌}
use Rattle.qx_blocks.specs.BlockState.{BlockState}
use Rattle.qx_lookup.specs.Rows.{records_end}
use Rattle.qx_lookup.proofs.LeafRecords.{leaf_bounds}
use Rattle.qx_lookup.proofs.spans.Span.of.Goals as goal

pub overflow_mul-result : goal.overflow_mul-result
overflow_mul-result g c =
    let m : BlockState = g.B.Blocks.state c.args.blocks.now in
    omega (arith, ap (λ n. c.args.index * (n / 32)) c.size.ensures.size, (leaf_bounds m.holdings.size c.args.node.now.size c.args.index c.size.ensures.consistent.size c.requires.below).begins)

pub overflow_add-index : goal.overflow_add-index
overflow_add-index g c =
    let m : BlockState = g.B.Blocks.state c.args.blocks.now in
    omega (arith, (leaf_bounds m.holdings.size c.args.node.now.size c.args.index c.size.ensures.consistent.size c.requires.below).next)

pub overflow_mul-index : goal.overflow_mul-index
overflow_mul-index g c =
    let m : BlockState = g.B.Blocks.state c.args.blocks.now in
    omega (arith, ap (λ n. (c.args.index + 1) * (n / 32)) c.size.ensures.size, (leaf_bounds m.holdings.size c.args.node.now.size c.args.index c.size.ensures.consistent.size c.requires.below).behind)

pub returns-clause-some : goal.returns-clause-some
returns-clause-some g c =
    let m : BlockState = g.B.Blocks.state c.args.blocks.now in
    let begins : c.args.index * (c.size.result / 32) ≡ c.args.index * (m.holdings.size / 32) = ap (λ n. c.args.index * (n / 32)) c.size.ensures.size in
    let ends : c.min.result ≡ records_end m.holdings.size c.args.node.now.size c.args.index = c.min.ensures ∙ ap (λ n. records_end n c.args.node.now.size c.args.index) c.size.ensures.size in
    let some : c.args.index * (m.holdings.size / 32) ≤ records_end m.holdings.size c.args.node.now.size c.args.index = (leaf_bounds m.holdings.size c.args.node.now.size c.args.index c.size.ensures.consistent.size c.requires.below).some in
    subst (λ a. a ≤ c.min.result) (sym begins) (subst (λ b. c.args.index * (m.holdings.size / 32) ≤ b) (sym ends) some)

pub returns-clause-few : goal.returns-clause-few
returns-clause-few g c =
    let m : BlockState = g.B.Blocks.state c.args.blocks.now in
    let begins : c.args.index * (c.size.result / 32) ≡ c.args.index * (m.holdings.size / 32) = ap (λ n. c.args.index * (n / 32)) c.size.ensures.size in
    let ends : c.min.result ≡ records_end m.holdings.size c.args.node.now.size c.args.index = c.min.ensures ∙ ap (λ n. records_end n c.args.node.now.size c.args.index) c.size.ensures.size in
    let few : 32 * (records_end m.holdings.size c.args.node.now.size c.args.index - c.args.index * (m.holdings.size / 32)) ≤ m.holdings.size = (leaf_bounds m.holdings.size c.args.node.now.size c.args.index c.size.ensures.consistent.size c.requires.below).few in
    subst (λ a. 32 * (c.min.result - a) ≤ m.holdings.size) (sym begins) (subst (λ b. 32 * (b - c.args.index * (m.holdings.size / 32)) ≤ m.holdings.size) (sym ends) few)
