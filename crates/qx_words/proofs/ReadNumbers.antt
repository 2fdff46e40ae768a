-- A number of the grammar is read, with its value, where a space or the end is behind it; and so is a mode.
use Rattle.std.proofs.Common.{◌≡◌, ℕ, ◌+◌, ◌*◌, ◌-◌, ◌/◌, ◌%◌, ◌^◌, ◌<◌, ◌≤◌, Bool, true, false, List, [], ◌∷◌, ◌++◌, length, Option, Some, None, Ok, refl, sym, ap, subst, ◌∙◌, arith, append_assoc, decimal}
use Rattle.std.specs.Prelude.{nat_lt, nat_le, ◌&&◌, if◌then◌else◌}
use Rattle.std.proofs.lemmas.Bool.Decides.{nat_tests}
use Rattle.std.proofs.lemmas.Fmt.{decimal_by_steps}
use Rattle.std.proofs.lemmas.List.{length-append}
use Rattle.qx_words.specs.Numbers.{IsNumber}
use Rattle.qx_words.specs.Reading.{digits_from, is_digit, number_by, number_from, taken}
use Rattle.qx_words.proofs.ReadWords.{EndsWord, line_ends, space}

-- the digits so far are read, and the number goes on with what is behind them
abbrev IsRead : ℕ → ℕ → ℕ → ℕ → ℕ → List ℕ → Type 0
IsRead low limit at stop n ds = (tail : List ℕ) → n ≤ limit → low ≤ n → at + length ds ≤ stop → number_from low limit at stop (ds ++ tail) ≡ Ok (digits_from limit (at + length ds) stop n tail)

first_read : (low limit at stop n : ℕ) → n < 10 → IsRead low limit at stop n ((48 + n) ∷ [])
unfolding number_from
first_read low limit at stop n small tail most least room =
    let digit : is_digit (48 + n) ≡ true = grind (arith, nat_tests) in
    let low_ : nat_lt at stop ≡ true = grind (arith, nat_tests) in
    let same : 48 + n - 48 ≡ n = omega arith in
    let enough : nat_le low (48 + n - 48) ≡ true = ap (nat_le low) same ∙ grind (arith, nat_tests) in
    ap (λ (o : Option ℕ). number_by o limit at stop ((48 + n) ∷ tail)) (chosen (is_digit (48 + n)) (nat_lt at stop) (nat_le low (48 + n - 48)) digit low_ enough ∙ ap (λ (k : ℕ). Some k) same)
  where
    chosen : (a b c : Bool) → a ≡ true → b ≡ true → c ≡ true → (if a && (b && c) then Some (48 + n - 48) else None) ≡ Some (48 + n - 48)
    chosen true true true p q r = refl
    chosen true true false p q r = absurd (cc)
    chosen true false c p q r = absurd (cc)
    chosen false b c p q r = absurd (cc)

-- one digit more
digit_read : (limit at stop n : ℕ) (tail : List ℕ) → 10 ≤ n → n ≤ limit → at + 1 ≤ stop → digits_from limit at stop (n / 10) ((48 + n % 10) ∷ tail) ≡ digits_from limit (at + 1) stop n tail
digit_read limit at stop n tail ten most room =
    let whole : 10 * (n / 10) + (48 + n % 10 - 48) ≡ n = omega arith in
    let digit : is_digit (48 + n % 10) ≡ true = grind (arith, nat_tests) in
    let low : nat_lt at stop ≡ true = grind (arith, nat_tests) in
    let some : nat_lt 0 (n / 10) ≡ true = let k : 0 < n / 10 = omega arith in grind (arith, nat_tests) in
    let fits : nat_le (10 * (n / 10) + (48 + n % 10 - 48)) limit ≡ true = ap (λ (k : ℕ). nat_le k limit) whole ∙ grind (arith, nat_tests) in
    chosen (is_digit (48 + n % 10)) (nat_lt at stop) (nat_lt 0 (n / 10)) (nat_le (10 * (n / 10) + (48 + n % 10 - 48)) limit) digit low some fits
    ∙ ap (λ (k : ℕ). digits_from limit (at + 1) stop k tail) whole
  where
    chosen : (a b c d : Bool) → a ≡ true → b ≡ true → c ≡ true → d ≡ true
        → elim (a && (b && (c && d))) [ true ↦ digits_from limit (at + 1) stop (10 * (n / 10) + (48 + n % 10 - 48)) tail | false ↦ record { value = n / 10; place = at } ]
        ≡ digits_from limit (at + 1) stop (10 * (n / 10) + (48 + n % 10 - 48)) tail
    chosen true true true true p q r s = refl
    chosen true true true false p q r s = absurd (cc)
    chosen true true false d p q r s = absurd (cc)
    chosen true false c d p q r s = absurd (cc)
    chosen false b c d p q r s = absurd (cc)

more_read : (low limit at stop n : ℕ) (ds : List ℕ) → low ≤ 1 → 10 ≤ n → IsRead low limit at stop (n / 10) ds → IsRead low limit at stop n (ds ++ (48 + n % 10) ∷ [])
more_read low limit at stop n ds one ten before tail most least room =
    let long = length-append ds ((48 + n % 10) ∷ []) in
    ap (λ (xs : List ℕ). number_from low limit at stop xs) (append_assoc ds ((48 + n % 10) ∷ []) tail)
    ∙ before ((48 + n % 10) ∷ tail) (omega arith) (omega arith) (omega (arith, long, room))
    ∙ ap Ok (digit_read limit (at + length ds) stop n tail ten most (omega (arith, long, room)))
    ∙ ap (λ (p : ℕ). Ok (digits_from limit p stop n tail)) (omega (arith, long))

-- a number's end
number_ends : (limit at stop n : ℕ) (rest : List ℕ) → EndsWord rest → digits_from limit at stop n rest ≡ record { value = n; place = at }
number_ends limit at stop n _ line_ends = refl
number_ends limit at stop n _ (space rest) = refl

-- a number is read
pub read_number_word : (low limit : ℕ) (word rest : List ℕ) (n at stop : ℕ) → low ≤ 1 → limit < 2 ^ 64 → IsNumber low limit word n → EndsWord rest → at + length word ≤ stop
    → number_from low limit at stop (word ++ rest) ≡ taken n (at + length word)
read_number_word low limit word rest n at stop one fits is ends room =
    let written = decimal_by_steps (IsRead low limit at stop) (first_read low limit at stop) (λ m ds ten before. more_read low limit at stop m ds one ten before) n (omega (arith, is.2)) in
    subst (λ (w : List ℕ). at + length w ≤ stop → number_from low limit at stop (w ++ rest) ≡ taken n (at + length w)) (sym is.0)
    (λ h. written rest is.2 is.1 h ∙ ap Ok (number_ends limit (at + length (decimal n)) stop n rest ends)) room
