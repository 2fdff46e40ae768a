use Rattle.std.proofs.Common.{List, ℕ, sym, ap, subst, ◌∙◌, inr}
use Rattle.std.proofs.lemmas.Result.{err_from_is_err_and}
use Rattle.qx_model.specs.Paths.{LastLink, links_allowed}
use Rattle.qx_resolve.specs.Answers.{Answers, last_of}
use Rattle.qx_resolve.specs.Turns.{walk_within}
use Rattle.qx_resolve.proofs.LedPaths.{led_from, led_unbegun, led_unparsed}
use Rattle.qx_resolve.proofs.paths.inode_at.Goals as goal

pub returns-clause-led : goal.returns-clause-led
returns-clause-led g c = λ told t stands.
    let last : LastLink = last_of c.args.last in
    let p = c.in_ok-path.path in
    let from = c.in_ok-from.from in
    subst (λ says. Answers c.walk.result says)
    (ap (λ (l : List (List ℕ)). walk_within links_allowed t last from l) (c.rest.ensures ∙ c.components.ensures.names)
    ∙ sym (led_from t c.args.base last c.args.bytes.now p from (sym c.in_ok-path.ensures.parsed) (sym (c.in_ok-from.ensures.begins p (sym c.absolute.ensures)))))
    (c.walk.ensures.walked told t stands)

pub returns-in_err-path-clause-led : goal.returns-in_err-path-clause-led
returns-in_err-path-clause-led g c = λ told t stands.
    let p = err_from_is_err_and c.from_residual.result c.from_residual.ensures.1 in
    rw (p.1, p.2) (inr (led_unparsed t c.args.base (last_of c.args.last) c.args.bytes.now c.in_err-path.field-0.0 (sym c.in_err-path.ensures.parsed)))

pub returns-in_err-from-clause-led : goal.returns-in_err-from-clause-led
returns-in_err-from-clause-led g c = λ told t stands.
    let p = err_from_is_err_and c.from_residual-in_err-from.result c.from_residual-in_err-from.ensures.1 in
    rw (p.1, p.2) (inr (led_unbegun t c.args.base (last_of c.args.last) c.args.bytes.now c.in_ok-path.path c.in_err-from.field-0.0 (sym c.in_ok-path.ensures.parsed) (sym (c.in_err-from.ensures.begins c.in_ok-path.path (sym c.absolute.ensures)))))
