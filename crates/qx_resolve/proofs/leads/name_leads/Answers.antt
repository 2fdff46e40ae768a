use Rattle.std.proofs.Common.{inr, sym, ◌∙◌, ap, subst}
use Rattle.std.specs.Prelude.{IsTrue, Some, None}
use Rattle.qx_records.specs.declared.kind.Kind.TheVariants as kinds
use Rattle.std.specs.Prelude.{◌≡◌}
use Rattle.qx_blocks.specs.BlockState.{BlockState}
use Rattle.qx_ptree.proofs.KeptPlans.{told_before}
use Rattle.qx_resolve.specs.Answers.{Leads}
use Rattle.qx_resolve.proofs.MeantEntries.{directory_led, nowhere_led, unmeant_led}
use Rattle.qx_resolve.proofs.leads.name_leads.Goals as goal

pub returns-in_default-clause-leads : goal.returns-in_default-clause-leads
returns-in_default-clause-leads g c = λ told t stands. inr (unmeant_led (g.B.Blocks.state c.args.blocks.now) c.args.state.now t (stands.told told) c.args.at c.args.follows c.args.name.now (sym c.live_inode.ensures ∙ c.in_default.is))

pub returns-in_default-of-2-clause-leads : goal.returns-in_default-of-2-clause-leads
returns-in_default-of-2-clause-leads g c = λ told t stands.
    inr (nowhere_led (g.B.Blocks.state c.args.blocks.now) c.args.state.now t (stands.told told) c.args.at c.in-Some.inode c.args.follows c.args.name.now (sym c.live_inode.ensures ∙ c.in-Some.is)
    (λ d. let both : None ≡ Some kinds.Directory = sym c.in_default-of.is ∙ c.of.ensures ∙ d in absurd (cc)))

pub returns-in-Some-Directory-clause-leads : goal.returns-in-Some-Directory-clause-leads
returns-in-Some-Directory-clause-leads g c = λ told t stands.
    let old : BlockState = g.B.Blocks.state c.args.blocks.now in
    let new : BlockState = g.B.Blocks.state c.directory_leads.new.blocks in
    let told_old : IsTrue old.tells = told_before old new c.directory_leads.ensures.looks.keeps told in
    let l = directory_led old c.args.state.now t (stands.told told_old) c.args.at c.in-Some.inode c.args.follows c.args.name.now (sym c.live_inode.ensures ∙ c.in-Some.is)
    (sym c.of.ensures ∙ c.in-Some-Directory.is ∙ ap (λ k. Some k) c.in-Some-Directory.field-0-is) in
    subst (Leads t c.directory_leads.result) (sym l.2) (c.directory_leads.ensures.leads told t stands l.0 l.1)
