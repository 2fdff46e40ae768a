use Rattle.std.proofs.Common.{rules, ◌≡◌, true, false, inr, sym, ◌∙◌, ap, subst}
use Rattle.std.specs.Prelude.{bytes_eq, IsTrue, Some, None, Ok}
use Rattle.qx_blocks.specs.BlockState.{BlockState}
use Rattle.qx_ptree.proofs.KeptPlans.{told_before}
use Rattle.qx_model.specs.Paths as paths
use Rattle.qx_model.specs.Tree.{dot_name, dots_name}
use Rattle.qx_resolve.specs.Answers.{Leads}
use Rattle.qx_resolve.proofs.KindsOfBodies.{dots_lead, name_leads_by}
use Rattle.qx_resolve.proofs.leads.directory_leads.Goals as goal

pub returns-then-eq-2-clause-leads : goal.returns-then-eq-2-clause-leads
returns-then-eq-2-clause-leads g c = λ told t stands parent is.
    let no : bytes_eq c.args.name.now dot_name ≡ false = search rules in
    let yes : bytes_eq c.args.name.now dots_name ≡ true = search rules in
    dots_lead t c.args.follows c.args.at parent c.args.name.now no yes ∙ ap (λ n. Ok (paths.To n)) (sym (c.parent.ensures ∙ (stands.told told).links.parents c.args.at parent is))

pub returns-in-Ok-Some-clause-leads : goal.returns-in-Ok-Some-clause-leads
returns-in-Ok-Some-clause-leads g c = λ told t stands parent is.
    let old : BlockState = g.B.Blocks.state c.args.blocks.now in
    let new : BlockState = g.B.Blocks.state c.lookup.new.blocks in
    let told_old : IsTrue old.tells = told_before old new c.lookup.ensures.reads.keeps told in
    let no : bytes_eq c.args.name.now dot_name ≡ false = search rules in
    let others : bytes_eq c.args.name.now dots_name ≡ false = search rules in
    subst (Leads t c.inode_leads.result) (sym (name_leads_by t c.args.follows c.args.at parent c.args.name.now no others (Some c.in-Ok-Some.n) (sym c.in-Ok-Some.field-0-is ∙ c.in-Ok-Some.ensures.named told t stands)))
    (c.inode_leads.ensures.leads old t (stands.told told_old))

pub returns-in-Ok-None-clause-leads : goal.returns-in-Ok-None-clause-leads
returns-in-Ok-None-clause-leads g c = λ told t stands parent is.
    let no : bytes_eq c.args.name.now dot_name ≡ false = search rules in
    let others : bytes_eq c.args.name.now dots_name ≡ false = search rules in
    inr (name_leads_by t c.args.follows c.args.at parent c.args.name.now no others None (search rules))
