-- The least number that passes a test, and the lists of numbers in which it is looked for.
use Rattle.std.proofs.Common.{◌≡◌, inl, inr, ℕ, zero, suc, ◌+◌, ◌<◌, refl, ap, ◌∙◌, subst, arith}
use Rattle.std.specs.Prelude.{Bool, true, false, Option, None, Some, if◌then◌else◌}
use Rattle.std.specs.List.{find, range_with_len}
use Rattle.std.proofs.lemmas.Bool.{cases_lt}
use Rattle.qx_geom.proofs.Truths.{true_or_false}
use Rattle.qx_geom.specs.Lists.{first_below}
use Rattle.qx_walk.specs.Bitmaps.{IsFirst}

-- the least number of a range that passes is the one that a search finds
find_first : (test : ℕ → Bool) (a n : ℕ) (o : Option ℕ) → IsFirst test a (a + n) o → o ≡ find test (range_with_len a n)
find_first test a zero None h = refl
find_first test a zero (Some at) h = absurd (omega (arith, h.0, h.1))
find_first test a (suc n) o h = go (test a) refl o h (λ o h. find_first test (a + 1) n o h)
  where
    go : (t : Bool) → test a ≡ t → (o : Option ℕ) → IsFirst test a (a + suc n) o → ((o : Option ℕ) → IsFirst test (a + 1) (a + 1 + n) o → o ≡ find test (range_with_len (a + 1) n))
        → o ≡ (if t then Some a else find test (range_with_len (a + 1) n))
    go true e None h more = absurd (true_or_false (test a) e (h a (omega arith) (omega arith)))
    go true e (Some at) h more = elim (cases_lt a at) [
      | inl above ↦ absurd (true_or_false (test a) e (h.3 a (omega arith) above))
      | inr same ↦ let is : at ≡ a = omega (arith, h.0, same) in ap (λ x. Some x) is
    ]
    go false e None h more = more None (λ b low high. h b (omega arith) (omega arith))
    go false e (Some at) h more =
        let above : a < at = elim (cases_lt a at) [ inl above ↦ above | inr same ↦ let is : at ≡ a = omega (arith, h.0, same) in absurd (true_or_false (test at) h.2 (ap test is ∙ e)) ] in
        more (Some at) (omega arith, omega (arith, h.1), h.2, λ b low high. h.3 b (omega arith) high)

-- and so below a bound
pub first_is : (test : ℕ → Bool) (n : ℕ) (o : Option ℕ) → IsFirst test 0 n o → o ≡ first_below test n
first_is test n o h = find_first test 0 n o (subst (λ k. IsFirst test 0 k o) (omega arith) h)
