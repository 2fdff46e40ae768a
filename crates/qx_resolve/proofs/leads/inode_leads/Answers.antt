use Rattle.std.proofs.Common.{sym, ◌∙◌, ap, subst}
use Rattle.std.specs.Prelude.{Some, Ok}
use Rattle.qx_model.specs.Paths as paths
use Rattle.qx_resolve.specs.Answers.{Leads}
use Rattle.qx_resolve.specs.declared.leads.Lead.TheVariants as leads
use Rattle.qx_resolve.proofs.MeantEntries.{link_led, none_led}
use Rattle.qx_resolve.proofs.leads.inode_leads.Goals as goal

pub returns-in_default-clause-leads : goal.returns-in_default-clause-leads
returns-in_default-clause-leads c = λ m t told. none_led m c.args.state.now t told c.args.n c.args.follows (sym c.live_inode.ensures ∙ c.in_default.is)

pub returns-in-Some-Link-clause-leads : goal.returns-in-Some-Link-clause-leads
returns-in-Some-Link-clause-leads c = λ m t told.
    subst (λ f. Leads t (Ok (leads.Through c.args.n)) (paths.lead_to t f c.args.n)) (sym c.if-follows.true)
    (link_led m c.args.state.now t told c.args.n c.in-Some.inode (sym c.live_inode.ensures ∙ c.in-Some.is) (sym c.of.ensures ∙ c.in-Some-Link.is ∙ ap (λ k. Some k) c.in-Some-Link.field-0-is))
