use Rattle.std.proofs.Common.{◌≡◌, ◌∷◌, List, ℕ, sym, ap, subst, ◌∙◌}
use Rattle.std.specs.Prelude.{IsTrue, Ok}
use Rattle.qx_path.specs.NamesLeft.{names_left}
use Rattle.qx_blocks.specs.BlockState.{BlockState}
use Rattle.qx_ptree.proofs.KeptPlans.{told_before}
use Rattle.qx_model.specs.Paths as paths
use Rattle.qx_working.specs.Standing.{StandsForTree}
use Rattle.qx_resolve.specs.Answers.{Leads, last_of}
use Rattle.qx_resolve.specs.declared.leads.Lead.{Lead}
use Rattle.qx_resolve.specs.declared.leads.Lead.TheVariants as leads
use Rattle.qx_resolve.proofs.WalkedNames.{walk_through}
use Rattle.qx_resolve.proofs.walking.walk_names.Goals as goal

pub returns-in-Through-clause-walked : goal.returns-in-Through-clause-walked
returns-in-Through-clause-walked g c = λ told t stands jump.
    let old : BlockState = g.B.Blocks.state c.args.blocks.now in
    let mid : BlockState = g.B.Blocks.state c.loop-name.blocks in
    let new : BlockState = g.B.Blocks.state c.name_leads.new.blocks in
    let last = last_of c.args.last in
    let at = c.loop-name.at in
    let name = c.in-Some.name.now in
    let behind = names_left c.next.new.self in
    let told_mid : IsTrue mid.tells = told_before mid new c.name_leads.ensures.looks.keeps told in
    let there : StandsForTree mid c.args.state.now t = subst (λ (m : BlockState). StandsForTree m c.args.state.now t) (sym (c.loop-name.invariant.stays.keeps.told told_mid)) stands in
    let met : Leads t (Ok (leads.Through c.in-Through.link)) (paths.lead t (paths.is_followed last behind) at name)
    = subst (λ (f : _). Leads t (Ok (leads.Through c.in-Through.link)) (paths.lead t f at name)) c.is_followed-follows.ensures (subst (λ (l : Lead). Leads t (Ok l) (paths.lead t c.is_followed-follows.result at name)) c.in-Through.is (c.in_ok-n.ensures.leads told t there)) in
    let first : names_left c.loop-name.names ≡ name ∷ behind = c.in-Some.ensures.steps in (
      met.0,
      met.1,
      sym (c.loop-name.invariant.walk told_mid t stands jump)
          ∙ ap (λ (l : List (List ℕ)). paths.walk_by t last jump at l) first
          ∙ walk_through t last jump at name behind met.0 met.2
          ∙ ap (λ (l : List (List ℕ)). jump at met.0 l) (sym c.rest.ensures),
    )
