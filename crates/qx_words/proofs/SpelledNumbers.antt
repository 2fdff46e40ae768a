-- What is read as a number is one: the digits that were taken are how it is printed.
use Rattle.std.proofs.Common.{◌≡◌, ℕ, ◌+◌, ◌*◌, ◌-◌, ◌/◌, ◌%◌, ◌^◌, ◌<◌, ◌≤◌, Bool, true, false, List, [], ◌∷◌, ◌++◌, length, Option, Some, None, Ok, refl, sym, ap, subst, ◌∙◌, arith, append_assoc, append-nil, decimal}
use Rattle.std.specs.Prelude.{nat_lt, nat_le, ◌&&◌, if◌then◌else◌}
use Rattle.std.proofs.lemmas.Bool.Decides.{nat_tests}
use Rattle.std.proofs.lemmas.Fmt.{decimal_step, decimal_digit}
use Rattle.qx_words.specs.Numbers.{IsNumber}
use Rattle.qx_words.specs.Reading.{Taken, digits_from, first_digit_of, is_further_digit, is_digit, number_by, number_from}

-- what a further digit is
pub record GoesOn (limit n c : ℕ) : Type 0 where
  pub low : 48 ≤ c
  pub high : c ≤ 57
  pub some : 0 < n
  pub most : 10 * n + (c - 48) ≤ limit

goes_facts : (limit at stop n c : ℕ) → is_further_digit limit at stop n c ≡ true → GoesOn limit n c
goes_facts limit at stop n c e = record { low = grind (arith, nat_tests); high = grind (arith, nat_tests); some = grind (arith, nat_tests); most = grind (arith, nat_tests) }

-- a number with one more digit
longer : (n c : ℕ) → 48 ≤ c → c ≤ 57 → 0 < n → 10 * n + (c - 48) < 2 ^ 64 → decimal n ++ c ∷ [] ≡ decimal (10 * n + (c - 48))
longer n c low high some fits =
    let m = 10 * n + (c - 48) in
    let front : m / 10 ≡ n = omega arith in
    let last : 48 + m % 10 ≡ c = omega arith in
    sym (decimal_step m (omega arith) fits ∙ ap (λ (k : ℕ). decimal k ++ (48 + m % 10) ∷ []) front ∙ ap (λ (d : ℕ). decimal n ++ d ∷ []) last)

-- the digits that were taken behind a number
pub record IsCounted (limit n at : ℕ) (bytes : List ℕ) (r : Taken ℕ) : Type 0 where
  pub front : List ℕ
  pub rest : List ℕ
  pub split : bytes ≡ front ++ rest
  pub text : decimal n ++ front ≡ decimal r.value
  pub place_is : r.place ≡ at + length front
  pub least : n ≤ r.value
  pub most : r.value ≤ limit

pub counted : (limit at stop n : ℕ) (bytes : List ℕ) → limit < 2 ^ 64 → n ≤ limit → IsCounted limit n at bytes (digits_from limit at stop n bytes)
counted limit at stop n [] fits within = record { front = []; rest = []; split = refl; text = append-nil (decimal n); place_is = omega arith; least = omega arith; most = within }
counted limit at stop n (c ∷ cs) fits within =
    by_test (is_further_digit limit at stop n c) refl (λ (k : 10 * n + (c - 48) ≤ limit). counted limit (at + 1) stop (10 * n + (c - 48)) cs fits k)
  where
    by_test : (b : Bool) → is_further_digit limit at stop n c ≡ b
        → (10 * n + (c - 48) ≤ limit → IsCounted limit (10 * n + (c - 48)) (at + 1) cs (digits_from limit (at + 1) stop (10 * n + (c - 48)) cs))
        → IsCounted limit n at (c ∷ cs) (elim b [ true ↦ digits_from limit (at + 1) stop (10 * n + (c - 48)) cs | false ↦ record { value = n; place = at } ])
    by_test false is next = record { front = []; rest = c ∷ cs; split = refl; text = append-nil (decimal n); place_is = omega arith; least = omega arith; most = within }
    by_test true is next =
        let f = goes_facts limit at stop n c is in
        let k = next f.most in
        record {
          front = c ∷ k.front;
          rest = k.rest;
          split = ap (λ (xs : List ℕ). c ∷ xs) k.split;
          text = sym (append_assoc (decimal n) (c ∷ []) k.front) ∙ ap (λ (xs : List ℕ). xs ++ k.front) (longer n c f.low f.high f.some (omega (arith, f.most))) ∙ k.text;
          place_is = omega (arith, k.place_is);
          least = omega (arith, k.least);
          most = k.most;
        }

-- the word that was taken is the number
pub record IsTakenNumber (low limit at : ℕ) (bytes : List ℕ) (r : Taken ℕ) : Type 0 where
  pub word : List ℕ
  pub rest : List ℕ
  pub split : bytes ≡ word ++ rest
  pub is : IsNumber low limit word r.value
  pub place_is : r.place ≡ at + length word

-- the first digit
pub record IsFirst (low c n : ℕ) : Type 0 where
  pub digit : c ≡ 48 + n
  pub below : n < 10
  pub least : low ≤ n

first_facts : (low at stop c n : ℕ) → (if is_digit c && (nat_lt at stop && nat_le low (c - 48)) then Some (c - 48) else None) ≡ Some n → IsFirst low c n
first_facts low at stop c n e = record { digit = grind (arith, nat_tests); below = grind (arith, nat_tests); least = grind (arith, nat_tests) }

pub number_taken : (low limit at stop : ℕ) (bytes : List ℕ) (r : Taken ℕ) → 9 ≤ limit → limit < 2 ^ 64 → number_from low limit at stop bytes ≡ Ok r → IsTakenNumber low limit at bytes r
unfolding number_from
number_taken low limit at stop [] r nine fits e = absurd (cc)
number_taken low limit at stop (c ∷ cs) r nine fits e =
    by_first (first_digit_of low at stop (c ∷ cs)) refl e
  where
    by_first : (o : Option ℕ) → first_digit_of low at stop (c ∷ cs) ≡ o → number_by o limit at stop (c ∷ cs) ≡ Ok r → IsTakenNumber low limit at (c ∷ cs) r
    by_first None is got = absurd (cc)
    by_first (Some n) is got =
        let f = first_facts low at stop c n is in
        let k = counted limit (at + 1) stop n cs fits (omega (arith, f.below)) in
        let same : digits_from limit (at + 1) stop n cs ≡ r = cc in
        subst (λ (t : Taken ℕ). IsTakenNumber low limit at (c ∷ cs) t) same (record {
          word = c ∷ k.front;
          rest = k.rest;
          split = ap (λ (xs : List ℕ). c ∷ xs) k.split;
          is = (ap (λ (d : ℕ). d ∷ k.front) f.digit ∙ sym (ap (λ (xs : List ℕ). xs ++ k.front) (decimal_digit n f.below)) ∙ k.text, omega (arith, k.least, f.least), k.most);
          place_is = omega (arith, k.place_is);
        })
