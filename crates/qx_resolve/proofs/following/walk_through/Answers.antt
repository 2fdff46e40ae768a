use Rattle.std.proofs.Common.{◌≡◌, ℕ, ◌-◌, ◌+◌, List, inr, sym, ap, subst, ◌∙◌, arith}
use Rattle.std.proofs.lemmas.Result.{err_from_is_err_and}
use Rattle.std.specs.Prelude.{IsTrue, suc, Ok, Err}
use Rattle.qx_blocks.specs.BlockState.{BlockState}
use Rattle.qx_path.specs.Names.{names_in}
use Rattle.qx_ptree.proofs.KeptPlans.{told_before}
use Rattle.qx_model.specs.declared.refusal.Refusal.TheVariants.{LinkLoop}
use Rattle.qx_model.specs.declared.refusal.Refusal.TheVariants as refusals
use Rattle.qx_model.specs.Paths.{LastLink, walk, walk_by}
use Rattle.qx_working.specs.Standing.{StandsForTree}
use Rattle.qx_resolve.specs.Answers.{last_of}
use Rattle.qx_resolve.specs.Turns.{Turns, walk_within}
use Rattle.qx_resolve.specs.Walks.{Walks}
use Rattle.qx_resolve.specs.declared.following.Turn.{Turn}
use Rattle.qx_resolve.specs.declared.following.Turn.TheVariants as turns
use Rattle.qx_resolve.specs.declared.walking.Walked.{Walked}
use Rattle.qx_resolve.specs.declared.walking.Walked.TheVariants as walks
use Rattle.qx_resolve.proofs.LooksInOrder.{stays_after}
use Rattle.qx_resolve.proofs.WalkedTurns.{no_jump, refused_as, within_is, within_more, within_none}
use Rattle.qx_resolve.proofs.following.walk_through.Goals as goal

pub loop-followed-preserved : goal.loop-followed-preserved
loop-followed-preserved g c =
    let old : BlockState = g.B.Blocks.state c.args.blocks.now in
    let mid : BlockState = g.B.Blocks.state c.loop-followed.blocks in
    let new : BlockState = g.B.Blocks.state c.walk_on.new.blocks in
    let last : LastLink = last_of c.args.last in
    record {
      stays = stays_after g.B.Blocks.state g.B.Blocks.beside _ _ _ c.walk_on.result (λ d. let both : Ok c.in_ok-n.field-0 ≡ Err refusals.Device = sym c.in_ok-n.was ∙ d in absurd (cc)) c.loop-followed.invariant.stays c.walk_on.ensures.looks;
      walk = λ told t stands.
          let told_mid : IsTrue mid.tells = told_before mid new c.walk_on.ensures.looks.keeps told in
          let there : StandsForTree mid c.args.state.now t = subst (λ (m : BlockState). StandsForTree m c.args.state.now t) (sym (c.loop-followed.invariant.stays.keeps.told told_mid)) stands in
          let at = c.loop-followed.next.at in
          let names = names_in c.loop-followed.next.bytes.items in
          let links : ℕ = 16 - (c.loop-followed.followed + 1) in
          let says = walk (suc links) t last at (names_in c.deref.result.now) in
          let turn : Turns t last links (Ok (turns.Goes c.in-Goes.further)) says = subst (λ (x : Turn). Turns t last links (Ok x) says) c.in-Goes.is (c.in_ok-n.ensures.turns told t there links) in
          within_is t last c.in-Goes.further.at (names_in c.in-Goes.further.bytes.items) links
          ∙ sym turn
          ∙ ap (λ (l : List ℕ). walk (suc links) t last at (names_in l)) c.deref.ensures.value
          ∙ sym (within_more t last at names c.loop-followed.followed (omega (arith, c.loop-followed-test.true)))
          ∙ c.loop-followed.invariant.walk told_mid t stands;
    }

pub returns-in-Ends-clause-walked : goal.returns-in-Ends-clause-walked
returns-in-Ends-clause-walked g c = λ told t stands.
    let mid : BlockState = g.B.Blocks.state c.loop-followed.blocks in
    let new : BlockState = g.B.Blocks.state c.walk_on.new.blocks in
    let last : LastLink = last_of c.args.last in
    let told_mid : IsTrue mid.tells = told_before mid new c.walk_on.ensures.looks.keeps told in
    let there : StandsForTree mid c.args.state.now t = subst (λ (m : BlockState). StandsForTree m c.args.state.now t) (sym (c.loop-followed.invariant.stays.keeps.told told_mid)) stands in
    let at = c.loop-followed.next.at in
    let names = names_in c.loop-followed.next.bytes.items in
    let links : ℕ = 16 - (c.loop-followed.followed + 1) in
    let says = walk (suc links) t last at (names_in c.deref.result.now) in
    let turn : Turns t last links (Ok (turns.Ends c.in-Ends.n)) says = subst (λ (x : Turn). Turns t last links (Ok x) says) c.in-Ends.is (c.in_ok-n.ensures.turns told t there links) in
    sym (c.loop-followed.invariant.walk told_mid t stands)
    ∙ within_more t last at names c.loop-followed.followed (omega (arith, c.loop-followed-test.true))
    ∙ ap (λ (l : List ℕ). walk (suc links) t last at (names_in l)) (sym c.deref.ensures.value)
    ∙ turn

pub returns-in_err-n-clause-walked : goal.returns-in_err-n-clause-walked
returns-in_err-n-clause-walked g c = λ told t stands.
    let mid : BlockState = g.B.Blocks.state c.loop-followed.blocks in
    let new : BlockState = g.B.Blocks.state c.walk_on.new.blocks in
    let last : LastLink = last_of c.args.last in
    let told_mid : IsTrue mid.tells = told_before mid new c.walk_on.ensures.looks.keeps told in
    let there : StandsForTree mid c.args.state.now t = subst (λ (m : BlockState). StandsForTree m c.args.state.now t) (sym (c.loop-followed.invariant.stays.keeps.told told_mid)) stands in
    let at = c.loop-followed.next.at in
    let names = names_in c.loop-followed.next.bytes.items in
    let links : ℕ = 16 - (c.loop-followed.followed + 1) in
    let same : walk_within 15 t last c.args.first.at (names_in c.args.first.bytes.items) ≡ walk (suc links) t last at (names_in c.deref.result.now)
    = sym (c.loop-followed.invariant.walk told_mid t stands)
    ∙ within_more t last at names c.loop-followed.followed (omega (arith, c.loop-followed-test.true))
    ∙ ap (λ (l : List ℕ). walk (suc links) t last at (names_in l)) (sym c.deref.ensures.value) in
    let p = err_from_is_err_and c.from_residual.result c.from_residual.ensures.1 in
    rw (p.1, p.2) (refused_as c.in_err-n.field-0.0 _ _ same (c.in_err-n.ensures.turns told t there links))

pub returns-in-At-clause-walked : goal.returns-in-At-clause-walked
returns-in-At-clause-walked g c = λ told t stands.
    let mid : BlockState = g.B.Blocks.state c.loop-followed.blocks in
    let new : BlockState = g.B.Blocks.state c.walk_names.new.blocks in
    let last : LastLink = last_of c.args.last in
    let told_mid : IsTrue mid.tells = told_before mid new c.walk_names.ensures.looks.keeps told in
    let there : StandsForTree mid c.args.state.now t = subst (λ (m : BlockState). StandsForTree m c.args.state.now t) (sym (c.loop-followed.invariant.stays.keeps.told told_mid)) stands in
    let at = c.loop-followed.next.at in
    let names = names_in c.loop-followed.next.bytes.items in
    let says = walk_by t last no_jump at (names_in c.deref-2.result.now) in
    let end : Walks t no_jump (Ok (walks.At c.in-At.n)) says = subst (λ (x : Walked). Walks t no_jump (Ok x) says) c.in-At.is (c.in_ok-n-2.ensures.walked told t there no_jump) in
    sym (c.loop-followed.invariant.walk told_mid t stands)
    ∙ within_none t last at names c.loop-followed.followed (omega (arith, c.loop-followed-test.false))
    ∙ ap (λ (l : List ℕ). walk_by t last no_jump at (names_in l)) (sym c.deref-2.ensures.value)
    ∙ end

pub returns-clause-walked : goal.returns-clause-walked
returns-clause-walked g c = λ told t stands.
    let mid : BlockState = g.B.Blocks.state c.loop-followed.blocks in
    let new : BlockState = g.B.Blocks.state c.walk_names.new.blocks in
    let last : LastLink = last_of c.args.last in
    let told_mid : IsTrue mid.tells = told_before mid new c.walk_names.ensures.looks.keeps told in
    let there : StandsForTree mid c.args.state.now t = subst (λ (m : BlockState). StandsForTree m c.args.state.now t) (sym (c.loop-followed.invariant.stays.keeps.told told_mid)) stands in
    let at = c.loop-followed.next.at in
    let names = names_in c.loop-followed.next.bytes.items in
    let says = walk_by t last no_jump at (names_in c.deref-2.result.now) in
    let end : Walks t no_jump (Ok (walks.Link c.in-Link.directory c.in-Link.link c.in-Link.rest)) says = subst (λ (x : Walked). Walks t no_jump (Ok x) says) c.in-Link.is (c.in_ok-n-2.ensures.walked told t there no_jump) in
    inr (sym (c.loop-followed.invariant.walk told_mid t stands)
    ∙ within_none t last at names c.loop-followed.followed (omega (arith, c.loop-followed-test.false))
    ∙ ap (λ (l : List ℕ). walk_by t last no_jump at (names_in l)) (sym c.deref-2.ensures.value)
    ∙ end.2)

pub returns-in_err-n-2-clause-walked : goal.returns-in_err-n-2-clause-walked
returns-in_err-n-2-clause-walked g c = λ told t stands.
    let mid : BlockState = g.B.Blocks.state c.loop-followed.blocks in
    let new : BlockState = g.B.Blocks.state c.walk_names.new.blocks in
    let last : LastLink = last_of c.args.last in
    let told_mid : IsTrue mid.tells = told_before mid new c.walk_names.ensures.looks.keeps told in
    let there : StandsForTree mid c.args.state.now t = subst (λ (m : BlockState). StandsForTree m c.args.state.now t) (sym (c.loop-followed.invariant.stays.keeps.told told_mid)) stands in
    let at = c.loop-followed.next.at in
    let names = names_in c.loop-followed.next.bytes.items in
    let same : walk_within 15 t last c.args.first.at (names_in c.args.first.bytes.items) ≡ walk_by t last no_jump at (names_in c.deref-2.result.now)
    = sym (c.loop-followed.invariant.walk told_mid t stands)
    ∙ within_none t last at names c.loop-followed.followed (omega (arith, c.loop-followed-test.false))
    ∙ ap (λ (l : List ℕ). walk_by t last no_jump at (names_in l)) (sym c.deref-2.ensures.value) in
    let p = err_from_is_err_and c.from_residual-in_err-n-2.result c.from_residual-in_err-n-2.ensures.1 in
    rw (p.1, p.2) (refused_as c.in_err-n-2.field-0.0 _ _ same (c.in_err-n-2.ensures.walked told t there no_jump))
