use Rattle.std.proofs.Common.{◌≡◌, sym, ◌∙◌, ap, subst}
use Rattle.std.specs.Prelude.{IfSome}
use Rattle.qx_view.specs.Sound.{last_with, reason_with}
use Rattle.qx_walk.specs.Layouts.{HasNumbers}
use Rattle.qx_walk.proofs.layout.last_of.Goals as goal

pub returns-in-None-Some-clause-last : goal.returns-in-None-Some-clause-last
returns-in-None-Some-clause-last c = λ m len which size count written is reason none.
    let numbers : HasNumbers c.args.view.now c.in-None-Some.geometry = subst (λ o. IfSome o (HasNumbers c.args.view.now)) c.in-None-Some.is-1 c.requires.geometry in
    subst (λ o. c.last_finding.result ≡ last_with m c.args.view.now o) (sym c.in-None-Some.is-1)
    (c.last_finding.ensures m len which (size ∙ sym numbers.blocksize) (count ∙ sym numbers.count) (written ∙ c.in-None-Some.is-1) is (ap (reason_with m c.args.view.now which) (sym c.in-None-Some.is-1) ∙ reason))
