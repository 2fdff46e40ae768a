use Rattle.std.proofs.Common.{◌≡◌, ◌++◌, List, ℕ, inr, sym, ◌∙◌, ap, inl}
use Rattle.std.proofs.lemmas.Result.{err_from_is_err_and}
use Rattle.std.specs.Prelude.{if◌then◌else◌}
use Rattle.qx_path.specs.Names.{names_in}
use Rattle.qx_path.specs.PathParts.{PathParts}
use Rattle.qx_model.specs.Paths.{parsed, start_in}
use Rattle.qx_resolve.proofs.links.follow_link.Goals.{then-absolute, else-absolute}
use Rattle.qx_resolve.proofs.links.follow_link.Goals as goal

pub returns-in-Ok-clause-follows : goal.returns-in-Ok-clause-follows
returns-in-Ok-clause-follows g c = λ told t stands target link.
    let p : PathParts = c.in_ok-path.path in
    let is : c.deref.result.now ≡ target = c.deref.ensures.value ∙ c.in_ok-target.ensures.target told t stands target link in
    let again : c.deref-2.result.now ≡ c.deref.result.now = c.deref-2.ensures.value ∙ sym c.deref.ensures.value in
    let from : c.if-absolute.at ≡ start_in p c.args.directory = elim c.if-absolute.branch [
      | then-absolute w ↦ w.at-is ∙ ap (λ b. if b then 1 else c.args.directory) (sym (sym c.absolute.ensures ∙ w.if-absolute.true))
      | else-absolute w ↦ w.at-is ∙ ap (λ b. if b then 1 else c.args.directory) (sym (sym c.absolute.ensures ∙ w.if-absolute.false))
    ] in (
      p,
      ap parsed (sym is) ∙ sym c.in_ok-path.ensures.parsed,
      from,
      c.in-Ok.ensures.names ∙ ap (λ (l : List ℕ). names_in l ++ names_in c.args.rest.now) again ∙ ap (λ (q : PathParts). q.names ++ names_in c.args.rest.now) (sym c.in_ok-path.ensures.parts),
    )

pub returns-in_err-path-clause-follows : goal.returns-in_err-path-clause-follows
returns-in_err-path-clause-follows g c = λ told t stands target link.
    let is : c.deref.result.now ≡ target = c.deref.ensures.value ∙ c.in_ok-target.ensures.target told t stands target link in
    let p = err_from_is_err_and c.from_residual-in_err-path.result c.from_residual-in_err-path.ensures.1 in
    rw (p.1, p.2) (inr (ap parsed (sym is) ∙ sym c.in_err-path.ensures.parsed))

pub returns-in_err-target-clause-follows : goal.returns-in_err-target-clause-follows
returns-in_err-target-clause-follows g c = λ told t stands target link.
    let p = err_from_is_err_and c.from_residual.result c.from_residual.ensures.1 in
    rw (p.1, p.2) (inl (c.in_err-target.ensures.stopped told t stands target link))
