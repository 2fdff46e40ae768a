use Rattle.std.proofs.Common.{sym, subst, ◌∙◌}
use Rattle.std.proofs.lemmas.Result.{err_from_is_err_and}
use Rattle.std.specs.Prelude.{IsTrue, suc, Ok}
use Rattle.qx_blocks.specs.BlockState.{BlockState}
use Rattle.qx_path.specs.Names.{names_in}
use Rattle.qx_ptree.proofs.KeptPlans.{told_before}
use Rattle.qx_model.specs.Paths.{LastLink, walk}
use Rattle.qx_working.specs.Standing.{StandsForTree}
use Rattle.qx_resolve.specs.Answers.{Answers, last_of}
use Rattle.qx_resolve.specs.Turns.{Turns}
use Rattle.qx_resolve.specs.declared.following.Turn.{Turn}
use Rattle.qx_resolve.specs.declared.following.Turn.TheVariants as turns
use Rattle.qx_resolve.proofs.WalkedTurns.{refused_as, within_first, within_is}
use Rattle.qx_resolve.proofs.following.walk.Goals as goal

pub returns-in-Ends-clause-walked : goal.returns-in-Ends-clause-walked
returns-in-Ends-clause-walked g c = λ told t stands.
    let last : LastLink = last_of c.args.last in
    let names = names_in c.args.bytes.now in
    let turn : Turns t last 15 (Ok (turns.Ends c.in-Ends.n)) (walk (suc 15) t last c.args.from names) = subst (λ (x : Turn). Turns t last 15 (Ok x) (walk (suc 15) t last c.args.from names)) c.in-Ends.is (c.in_ok-n.ensures.turns told t stands 15) in
    within_first t last c.args.from names ∙ turn

pub returns-in-Goes-clause-walked : goal.returns-in-Goes-clause-walked
returns-in-Goes-clause-walked g c = λ told t stands.
    let old : BlockState = g.B.Blocks.state c.args.blocks.now in
    let mid : BlockState = g.B.Blocks.state c.walk_on.new.blocks in
    let new : BlockState = g.B.Blocks.state c.walk_through.new.blocks in
    let last : LastLink = last_of c.args.last in
    let names = names_in c.args.bytes.now in
    let next = c.in-Goes.next in
    let told_mid : IsTrue mid.tells = told_before mid new c.walk_through.ensures.looks.keeps told in
    let there : StandsForTree mid c.args.state.now t = subst (λ (m : BlockState). StandsForTree m c.args.state.now t) (sym (c.walk_on.ensures.looks.keeps.told told_mid)) stands in
    let turn : Turns t last 15 (Ok (turns.Goes next)) (walk (suc 15) t last c.args.from names) = subst (λ (x : Turn). Turns t last 15 (Ok x) (walk (suc 15) t last c.args.from names)) c.in-Goes.is (c.in_ok-n.ensures.turns told_mid t stands 15) in
    subst (λ says. Answers c.walk_through.result says) (sym (within_first t last c.args.from names ∙ turn ∙ sym (within_is t last next.at (names_in next.bytes.items) 15))) (c.walk_through.ensures.walked told t there)

pub returns-in_err-n-clause-walked : goal.returns-in_err-n-clause-walked
returns-in_err-n-clause-walked g c = λ told t stands.
    let p = err_from_is_err_and c.from_residual.result c.from_residual.ensures.1 in
    rw (p.1, p.2) (refused_as c.in_err-n.field-0.0 _ _ (within_first t (last_of c.args.last) c.args.from (names_in c.args.bytes.now)) (c.in_err-n.ensures.turns told t stands 15))
