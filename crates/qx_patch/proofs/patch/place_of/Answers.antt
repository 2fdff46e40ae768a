use Rattle.std.proofs.Common.{◌≢◌, ℕ, ◌<◌, length, get_or, inl, inr, refl, ◌∙◌, ap, sym, arith}
use Rattle.std.proofs.lemmas.Bool.{cases_eq, cases_lt}
use Rattle.qx_patch.specs.PatchView.{numbers_of}
use Rattle.qx_patch.proofs.OrderedEntries.{length-numbers, number-at}
use Rattle.qx_patch.proofs.patch.place_of.Goals as goal

pub returns-in-Some-clause-there : goal.returns-in-Some-clause-there
returns-in-Some-clause-there c =
    let within : c.first_from-at.result < c.args.entries.now.len = c.in-Some.ensures.variant.0 refl in
    let low : c.first_from-at.result < length c.args.entries.now.items = omega (arith, within, c.args.entries.now.ok.0) in
    (low, number-at c.args.entries.now.items c.first_from-at.result c.in-Some.entry.now low ∙ ap (λ e. e.block) (sym c.in-Some.ensures.lookup) ∙ c.if-entry-b.true)

pub returns-in_default-clause-absent : goal.returns-in_default-clause-absent
returns-in_default-clause-absent c = λ k high same.
    let at : ℕ = c.first_from-at.result in
    let within : at < c.args.entries.now.len = c.in-Some.ensures.variant.0 refl in
    let low : at < length c.args.entries.now.items = omega (arith, within, c.args.entries.now.ok.0) in
    let other : get_or (numbers_of c.args.entries.now.items) at 0 ≢ c.args.b = λ e. c.if-entry-b.false (ap (λ x. x.block) c.in-Some.ensures.lookup ∙ sym (number-at c.args.entries.now.items at c.in-Some.entry.now low) ∙ e) in
    elim (cases_lt k at) [
      | inl less ↦ absurd (omega (arith, c.first_from-at.ensures.below k less, same))
      | inr more ↦ elim (cases_eq k at) [
        | inl here ↦ other (ap (λ j. get_or (numbers_of c.args.entries.now.items) j 0) (sym here) ∙ same)
        | inr behind ↦
            let rises = c.requires.rises at k (omega arith) (rw length-numbers high) in
            absurd (omega (arith, rises, c.first_from-at.ensures.above at (omega arith) low, same, other))
      ]
    ]
