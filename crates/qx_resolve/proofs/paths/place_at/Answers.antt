use Rattle.std.proofs.Common.{List, ℕ, sym, ap, ◌∙◌, inr}
use Rattle.std.proofs.lemmas.Result.{err_from_is_err_and}
use Rattle.std.specs.Prelude.{Ok}
use Rattle.qx_resolve.proofs.LedPaths.{place_is, place_nowhere, place_unnamed, place_unparsed}
use Rattle.qx_resolve.proofs.paths.place_at.Goals as goal

pub returns-clause-place : goal.returns-clause-place
returns-clause-place g c = λ told t stands.
    place_is t c.args.base c.args.bytes.now c.in_ok-path.path (sym c.in_ok-path.ensures.parsed) c.in_ok-named.named (sym c.in_ok-named.ensures) c.in_ok-directory.directory (c.in_ok-directory.ensures.led told t stands)
    ∙ ap (λ (l : List ℕ). Ok (record { directory = c.in_ok-directory.directory; name = l })) (sym c.name.ensures.is)

pub returns-in_err-path-clause-place : goal.returns-in_err-path-clause-place
returns-in_err-path-clause-place g c = λ told t stands.
    let p = err_from_is_err_and c.from_residual.result c.from_residual.ensures.1 in
    rw (p.1, p.2) (inr (place_unparsed t c.args.base c.args.bytes.now c.in_err-path.field-0.0 (sym c.in_err-path.ensures.parsed)))

pub returns-in_err-named-clause-place : goal.returns-in_err-named-clause-place
returns-in_err-named-clause-place g c = λ told t stands.
    let p = err_from_is_err_and c.from_residual-in_err-named.result c.from_residual-in_err-named.ensures.1 in
    rw (p.1, p.2) (inr (place_unnamed t c.args.base c.args.bytes.now c.in_ok-path.path (sym c.in_ok-path.ensures.parsed) c.in_err-named.field-0.0 (sym c.in_err-named.ensures)))

pub returns-in_err-directory-clause-place : goal.returns-in_err-directory-clause-place
returns-in_err-directory-clause-place g c = λ told t stands.
    let p = err_from_is_err_and c.from_residual-in_err-directory.result c.from_residual-in_err-directory.ensures.1 in
    rw (p.1, p.2) (place_nowhere t c.args.base c.args.bytes.now c.in_ok-path.path (sym c.in_ok-path.ensures.parsed) c.in_ok-named.named (sym c.in_ok-named.ensures) c.in_err-directory.field-0.0 (c.in_err-directory.ensures.led told t stands))
