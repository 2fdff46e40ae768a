use Rattle.std.proofs.Common.{List, ℕ, sym, subst, inr}
use Rattle.std.proofs.lemmas.Result.{err_from_is_err_and}
use Rattle.std.specs.Prelude.{IsTrue, Ok, Err}
use Rattle.qx_blocks.specs.BlockState.{BlockState}
use Rattle.qx_ptree.proofs.KeptPlans.{told_before}
use Rattle.qx_model.specs.Paths as paths
use Rattle.qx_resolve.specs.Answers.{Answers}
use Rattle.qx_resolve.specs.Turns.{walk_within}
use Rattle.qx_resolve.proofs.LedPaths.{found_directory, no_directory, parent_from, parent_unbegun}
use Rattle.qx_resolve.proofs.paths.parent_at.Goals as goal

pub returns-clause-led : goal.returns-clause-led
returns-clause-led g c = λ told t stands.
    let old : BlockState = g.B.Blocks.state c.args.blocks.now in
    let new : BlockState = g.B.Blocks.state c.walk.new.blocks in
    let told_old : IsTrue old.tells = told_before old new c.walk.ensures.looks.keeps told in
    let n : paths.Named = c.args.named.now in
    let from = c.in_ok-from.from in
    let says = walk_within paths.links_allowed t paths.Followed from n.parents.names in
    let met : Answers (Ok c.in_ok-d.d) says = subst (λ (l : List (List ℕ)). Answers (Ok c.in_ok-d.d) (walk_within paths.links_allowed t paths.Followed from l)) c.parents.ensures (c.in_ok-d.ensures.walked told t stands) in
    subst (λ x. Answers c.only_directory.result x) (sym (parent_from t c.args.base n from (sym (c.in_ok-from.ensures.begins n.parents (sym c.absolute.ensures)))))
    (found_directory t says c.in_ok-d.d c.only_directory.result met (c.only_directory.ensures.directory old t (stands.told told_old)))

pub returns-in_err-d-clause-led : goal.returns-in_err-d-clause-led
returns-in_err-d-clause-led g c = λ told t stands.
    let n : paths.Named = c.args.named.now in
    let from = c.in_ok-from.from in
    let e = c.in_err-d.field-0.0 in
    let says = walk_within paths.links_allowed t paths.Followed from n.parents.names in
    let met : Answers (Err e) says = subst (λ (l : List (List ℕ)). Answers (Err e) (walk_within paths.links_allowed t paths.Followed from l)) c.parents.ensures (c.in_err-d.ensures.walked told t stands) in
    let p = err_from_is_err_and c.from_residual-in_err-d.result c.from_residual-in_err-d.ensures.1 in
    rw (p.1, p.2) (subst (λ x. Answers (Err e) x) (sym (parent_from t c.args.base n from (sym (c.in_ok-from.ensures.begins n.parents (sym c.absolute.ensures))))) (no_directory t says e met))

pub returns-in_err-from-clause-led : goal.returns-in_err-from-clause-led
returns-in_err-from-clause-led g c = λ told t stands.
    let p = err_from_is_err_and c.from_residual.result c.from_residual.ensures.1 in
    rw (p.1, p.2) (inr (parent_unbegun t c.args.base c.args.named.now c.in_err-from.field-0.0 (sym (c.in_err-from.ensures.begins c.args.named.now.parents (sym c.absolute.ensures)))))
