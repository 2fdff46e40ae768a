-- Tests end to end, gone through one after another.
use Rattle.std.proofs.Common.{◌≡◌, ℕ, List, [], ◌∷◌, ◌++◌, refl, sym, ◌∙◌, ap, subst}
use Rattle.std.specs.Prelude.{Option, Result, Ok, Err, IfErr, OnOk}
use Rattle.qx_blockset.specs.Members.{Members}
use Rattle.qx_outside.specs.Outside.{Outside}
use Rattle.qx_view.specs.declared.findings.Finding.{Finding}
use Rattle.qx_view.proofs.TestOrder.{first_failing-append, or_else}
use Rattle.qx_view.specs.Walk.{Test, first_failing, gone_through, met_after}
use Rattle.qx_pointers.specs.declared.halt.Halt.{Halt}
use Rattle.qx_pointers.specs.declared.halt.Halt.TheVariants as halts
use Rattle.qx_pointers.specs.Halts.{Answers, Asks, HaltsAt}
use Rattle.qx_pointers.specs.Marks.{GoesThrough, Marks}

-- what is met in two lists of tests is met in one after the other
pub gone-append : (met : List ℕ) (as' bs : List Test) → gone_through met (as' ++ bs) ≡ gone_through (gone_through met as') bs
gone-append met [] bs = refl
gone-append met (a ∷ as') bs = gone-append (met_after met a) as' bs

-- a halt at a finding is one at it or else another
pub halts_more : (halt : Halt) (f o : Option Finding) → HaltsAt f halt → HaltsAt (or_else f o) halt
halts_more (halts.Finding found) f o e = ap (λ z. or_else z o) e
halts_more halts.Device f o e = tt
halts_more halts.NoMemory f o e = tt

-- a part that tests nothing halts at no finding
pub no_finding : {T : Type 0} (most : ℕ) (old new : Outside) (result : Result T Halt) (f : Option Finding) → Asks most old new result → IfErr result (HaltsAt f)
no_finding most old new (Ok x) f a = tt
no_finding most old new (Err halts.Device) f a = tt
no_finding most old new (Err halts.NoMemory) f a = tt
no_finding most old new (Err (halts.Finding finding)) f a = absurd (let e = a.device in cc)

-- no test is gone through by doing nothing
pub goes_nowhere : {T : Type 0} (x : T) (a : Members) → GoesThrough [] (Ok x) a a
goes_nowhere x a = record { answer = λ met marks. refl; marks = λ met marks. marks }

-- tests that pass, and then others
pub goes_then : {T U : Type 0} (as' bs : List Test) (x : T) (r : Result U Halt) (a b c : Members) → GoesThrough as' (Ok x) a b → GoesThrough bs r b c → GoesThrough (as' ++ bs) r a c
goes_then as' bs x r a b c p q = record {
  answer = λ met marks. subst (λ o. Answers o r) (sym (first_failing-append met as' bs ∙ ap (λ o. or_else o (first_failing (gone_through met as') bs)) (p.answer met marks))) (q.answer (gone_through met as') (p.marks met marks));
  marks = λ met marks. subst (λ z. OnOk r (Marks c z)) (sym (gone-append met as' bs)) (q.marks (gone_through met as') (p.marks met marks));
}

-- tests of which one fails, and then others
pub goes_fails : {T U : Type 0} (as' bs : List Test) (halt : Halt) (a b c : Members) → GoesThrough {T = T} as' (Err halt) a b → GoesThrough {T = U} (as' ++ bs) (Err halt) a c
goes_fails as' bs halt a b c p = record {
  answer = λ met marks. subst (λ o. HaltsAt o halt) (sym (first_failing-append met as' bs)) (halts_more halt (first_failing met as') (first_failing (gone_through met as') bs) (p.answer met marks));
  marks = λ met marks. tt;
}

-- the same tests with another value
pub goes_as : {T U : Type 0} (as' : List Test) (x : T) (y : U) (a b : Members) → GoesThrough as' (Ok x) a b → GoesThrough as' (Ok y) a b
goes_as as' x y a b p = record { answer = λ met marks. p.answer met marks; marks = λ met marks. p.marks met marks }
