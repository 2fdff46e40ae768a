-- What is read as a mode is one.
use Rattle.std.proofs.Common.{◌≡◌, ℕ, ◌+◌, ◌*◌, ◌-◌, ◌<◌, ◌≤◌, Bool, true, false, List, [], ◌∷◌, ◌++◌, length, Ok, refl, ap, subst, ◌∙◌, arith}
use Rattle.std.specs.Prelude.{nat_lt, ◌==◌, ◌&&◌, if◌then◌else◌, fold}
use Rattle.std.specs.List.{list_all}
use Rattle.std.proofs.lemmas.Bool.Decides.{nat_tests}
use Rattle.qx_words.specs.Numbers.{IsMode, is_octal_digit}
use Rattle.qx_words.specs.Reading.{Taken, bad, mode_from, octal_from, some_digits}

-- the digits that were taken
pub record IsOctal (left m at : ℕ) (bytes : List ℕ) (r : Taken ℕ) : Type 0 where
  pub front : List ℕ
  pub rest : List ℕ
  pub split : bytes ≡ front ++ rest
  pub digits : list_all is_octal_digit front ≡ true
  pub few : length front ≤ left
  pub value_is : r.value ≡ fold (λ v c. 8 * v + (c - 48)) m front
  pub place_is : r.place ≡ at + length front

pub octal : (left at stop m : ℕ) (bytes : List ℕ) → IsOctal left m at bytes (octal_from left at stop m bytes)
octal left at stop m [] = record { front = []; rest = []; split = refl; digits = refl; few = omega arith; value_is = refl; place_is = omega arith }
octal left at stop m (c ∷ cs) = by_test (is_octal_digit c) (nat_lt at stop) (nat_lt 0 left) refl refl (octal (left - 1) (at + 1) stop (8 * m + (c - 48)) cs)
  where
    by_test : (d low some : Bool) → is_octal_digit c ≡ d → nat_lt 0 left ≡ some → IsOctal (left - 1) (8 * m + (c - 48)) (at + 1) cs (octal_from (left - 1) (at + 1) stop (8 * m + (c - 48)) cs)
        → IsOctal left m at (c ∷ cs) (elim (d && (low && some)) [ true ↦ octal_from (left - 1) (at + 1) stop (8 * m + (c - 48)) cs | false ↦ record { value = m; place = at } ])
    by_test true true true is some k =
        let one : 0 < left = grind (arith, nat_tests) in
        record {
          front = c ∷ k.front;
          rest = k.rest;
          split = ap (λ (xs : List ℕ). c ∷ xs) k.split;
          digits = ap (λ (b : Bool). b && list_all is_octal_digit k.front) is ∙ k.digits;
          few = omega (arith, k.few, one);
          value_is = k.value_is;
          place_is = omega (arith, k.place_is);
        }
    by_test true true false is some k = record { front = []; rest = c ∷ cs; split = refl; digits = refl; few = omega arith; value_is = refl; place_is = omega arith }
    by_test true false some is has k = record { front = []; rest = c ∷ cs; split = refl; digits = refl; few = omega arith; value_is = refl; place_is = omega arith }
    by_test false low some is has k = record { front = []; rest = c ∷ cs; split = refl; digits = refl; few = omega arith; value_is = refl; place_is = omega arith }

mode_filled : (place at n : ℕ) → place ≡ at + n → (place ≡ at → ⊥) → 1 ≤ n
mode_filled place at n is apart = grind arith

-- the word that was taken is the mode
pub record IsTakenMode (at : ℕ) (bytes : List ℕ) (r : Taken ℕ) : Type 0 where
  pub word : List ℕ
  pub rest : List ℕ
  pub split : bytes ≡ word ++ rest
  pub is : IsMode word r.value
  pub place_is : r.place ≡ at + length word

pub mode_taken : (at stop : ℕ) (bytes : List ℕ) (r : Taken ℕ) → mode_from at stop bytes ≡ Ok r → IsTakenMode at bytes r
unfolding mode_from
mode_taken at stop bytes r e = by_digits (octal_from 4 at stop 0 bytes) (octal 4 at stop 0 bytes) e
  where
    by_digits : (t : Taken ℕ) → IsOctal 4 0 at bytes t → some_digits at t ≡ Ok r → IsTakenMode at bytes r
    by_digits t k got = by_place (t.place == at) refl got
      where
        by_place : (b : Bool) → (t.place == at) ≡ b → (if b then bad at else Ok t) ≡ Ok r → IsTakenMode at bytes r
        by_place true is none = absurd (cc)
        by_place false is some =
            let same : t ≡ r = cc in
            let apart : t.place ≡ at → ⊥ = grind (arith, nat_tests) in
            subst (λ (x : Taken ℕ). IsTakenMode at bytes x) same (record {
              word = k.front;
              rest = k.rest;
              split = k.split;
              is = (k.digits, mode_filled t.place at (length k.front) k.place_is apart, k.few, k.value_is);
              place_is = k.place_is;
            })
