-- Words of digits, read as numbers and as so many units.
use Rattle.std.proofs.Common.{◌≡◌, ◌≢◌, ◌<◌, ℕ, ◌*◌, ◌-◌, ◌+◌, ◌^◌, Bool, true, false, nat_lt, ltb-true, List, [], ◌∷◌, ◌++◌, inl, inr, length, take, get_or, Bor, Option, Some, None, refl, sym, ap, ◌∙◌, arith}
use Rattle.std.specs.Prelude.{◌&&◌, if◌then◌else◌, MatchOption, Result, Ok, Err}
use Rattle.std.specs.Option.{SomeIff}
use Rattle.std.specs.Result.{result_ok}
use Rattle.std.specs.Str.{all_ascii_digits}
use Rattle.std.specs.Str.Parse.{ParsesUnsigned, digits_value}
use Rattle.std.specs.Str.Pattern.{FindsCharSuffix}
use Rattle.std.proofs.Math.Nat.{le-mul_of_pos_right}
use Rattle.std.proofs.lemmas.Bool.Decides.{Decides-eqb, nat_tests}
use Rattle.std.proofs.lemmas.Bool.{cases_Bool}
use Rattle.std.proofs.lemmas.Str.Parse.{IsNumeralModel, numerals_by_value, parse_plain, tells_all_ascii_digits}
use Rattle.std.proofs.lemmas.Str.Pattern.{strip_suffix_char}
use Rattle.std.proofs.lemmas.Slice.Eq.{ends_is}
use Rattle.std.proofs.lemmas.Grind.{common_steps}
use Rattle.qx_top.specs.Sizes.{but_last, ends_in, is_number, units_of}

-- ---- numbers

-- std's own reading of digits
own : IsNumeralModel (λ digits. all_ascii_digits digits ≡ true) (digits_value 10)
own = numerals_by_value _ tells_all_ascii_digits

-- digits, one at least, are a number
number_of_digits : (digits : List ℕ) → all_ascii_digits digits ≡ true → 0 < length digits → is_number digits ≡ true
number_of_digits [] all some = absurd (omega arith)
number_of_digits (digit ∷ digits) all some = all

-- and a number is such digits
digits_of_number : (digits : List ℕ) → is_number digits ≡ true → (all_ascii_digits digits ≡ true) × (0 < length digits)
digits_of_number [] is = absurd (cc)
digits_of_number (digit ∷ digits) is = (is, omega arith)

-- with a sign in front it is none
signed_is_none : (digits : List ℕ) → get_or digits 0 0 ≡ 43 → is_number digits ≡ false
signed_is_none [] sign = refl
signed_is_none (digit ∷ digits) sign = rw sign refl

-- ---- units

-- where not both tests pass there are none
no_units : (number below : Bool) (n : ℕ) → (number ≡ true → below ≡ true → ⊥) → None ≡ (if number && below then Some n else None)
no_units false below n h = refl
no_units true false n h = refl
no_units true true n h = absurd (h refl refl)

module _ (unit : ℕ) (digits : List ℕ) where
  pub units_of_signed : get_or digits 0 0 ≡ 43 → units_of unit digits ≡ None
  unfolding units_of
  units_of_signed sign = rw (signed_is_none digits sign) refl

  -- what is said where a number was read
  units_of_number : (n : ℕ) (out : Option ℕ) → (all_ascii_digits digits ≡ true) × (0 < length digits) × (digits_value 10 digits < 2 ^ 64) → digits_value 10 digits ≡ n
      → SomeIff out (n * unit < 2 ^ 64) (n * unit) → out ≡ units_of unit digits
  unfolding units_of
  units_of_number n None number value out = rw (number_of_digits digits number.0 number.1, value) (grind (arith, nat_tests, out))
  units_of_number n (Some m) number value out = rw (number_of_digits digits number.0 number.1, value) (grind (arith, nat_tests, out))

  -- and where none was
  units_of_none : 0 < unit → ((all_ascii_digits digits ≡ true) × (0 < length digits) × (digits_value 10 digits < 2 ^ 64) → ⊥) → None ≡ units_of unit digits
  unfolding units_of
  units_of_none some none = no_units (is_number digits) (nat_lt (digits_value 10 digits * unit) (2 ^ 64)) (digits_value 10 digits * unit)
      (λ is small. let d = digits_of_number digits is in none (d.0, d.1, omega (arith, le-mul_of_pos_right {m = unit} (digits_value 10 digits) some, ltb-true _ _ small)))

  module _ {E : Type 0} where
    pub units_where_read : (r : Result ℕ E) → ParsesUnsigned 64 10 digits r → get_or digits 0 0 ≢ 43 → (n : ℕ) (out : Option ℕ) → result_ok r ≡ Some n → SomeIff out (n * unit < 2 ^ 64) (n * unit) → out ≡ units_of unit digits
    units_where_read (Ok m) reads unsigned n out ok out_is =
        let whole : Result ℕ E = Ok m in
        let read = parse_plain own 64 digits whole reads unsigned in
        units_of_number n out read.0 (sym read.1 ∙ cc) out_is
    units_where_read (Err e) reads unsigned n out ok out_is = absurd (cc)

    pub units_where_not_read : (r : Result ℕ E) → ParsesUnsigned 64 10 digits r → get_or digits 0 0 ≢ 43 → 0 < unit → result_ok r ≡ None → None ≡ units_of unit digits
    units_where_not_read (Ok m) reads unsigned some err = absurd (cc)
    units_where_not_read (Err e) reads unsigned some err =
        let whole : Result ℕ E = Err e in
        units_of_none some (parse_plain own 64 digits whole reads unsigned)

-- ---- suffixes

-- what `strip_suffix` says of a byte, in the words of sizes
module _ (c : ℕ) (low : c < 128) (word : List ℕ) where
  pub suffixed : (r : Option (Bor (List ℕ))) → MatchOption r (FindsCharSuffix c word None) (λ x. (n : ℕ) × FindsCharSuffix c word (Some n) × (x.now ≡ take (length word - n) word) × (length x.now + n ≡ length word))
      → MatchOption r (ends_in word (c ∷ []) ≡ false) (λ x. (ends_in word (c ∷ []) ≡ true) × (but_last word ≡ x.now))
  suffixed None h =
      let none : Option (Bor (List ℕ)) = None in
      elim (cases_Bool (ends_in word (c ∷ []))) [
        | inl ends ↦ absurd (strip_suffix_char c word none h low _ ((ends_is Decides-eqb word (c ∷ []) _ refl).0 ends))
        | inr not_so ↦ not_so
      ]
  suffixed (Some x) h =
      let split : word ≡ x.now ++ c ∷ [] = strip_suffix_char c word (Some x) h low in
      let one : length x.now + 1 ≡ length word = grind (arith, common_steps) in
      ((ends_is Decides-eqb word (c ∷ []) _ refl).1 x.now split, ap (λ n. take (length word - n) word) (omega arith) ∙ sym h.2)

  -- no suffix of the kind
  pub not_suffixed : (r : Option (Bor (List ℕ))) → MatchOption r (FindsCharSuffix c word None) (λ x. (n : ℕ) × FindsCharSuffix c word (Some n) × (x.now ≡ take (length word - n) word) × (length x.now + n ≡ length word))
      → r ≡ None → ends_in word (c ∷ []) ≡ false
  not_suffixed None h none = suffixed None h
  not_suffixed (Some x) h none = absurd (cc none)
