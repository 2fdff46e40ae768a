-- Reading a word one byte further.
use Rattle.std.proofs.Common.{◌≡◌, ℕ, ◌+◌, ◌*◌, ◌-◌, ◌<◌, Bool, true, false, List, [], ◌∷◌, ◌++◌, length, drop, Option, Some, None, Ok, Err, refl, sym, ap, subst, ◌∙◌, arith, append_assoc, append-nil}
use Rattle.std.specs.Prelude.{nat_lt, ◌==◌, ◌&&◌, if◌then◌else◌}
use Rattle.std.proofs.lemmas.List.{drop-drop}
use Rattle.std.proofs.lemmas.Bool.Decides.{nat_tests}
use Rattle.qx_words.specs.declared.words.Part.{Part}
use Rattle.qx_words.specs.declared.words.Part.TheVariants as part
use Rattle.qx_words.specs.declared.words.WordStep.{WordStep}
use Rattle.qx_words.specs.declared.words.WordStep.TheVariants as step
use Rattle.qx_words.specs.Numbers.{is_octal_digit}
use Rattle.qx_words.specs.Reading.{Reads, Taken, ahead, bad, bytes_from, digits_from, is_further_digit, next_digit, next_octal, number_by, octal_from, some_bytes, some_digits, step_here, step_of, taken}

-- what follows a step of a byte word
abbrev pub by_step : WordStep → ℕ → ℕ → List ℕ → Reads (List ℕ)
by_step (step.Whole b) at stop rest = ahead (b ∷ []) (bytes_from part.Whole (at + 1) stop rest)
by_step (step.Inside p) at stop rest = bytes_from p (at + 1) stop rest
by_step step.Ends at stop rest = taken [] at
by_step step.Fails at stop rest = bad at

by_cases : (s : WordStep) (at stop : ℕ) (cs : List ℕ) → elim s [
  | step.Whole b ↦ ahead (b ∷ []) (bytes_from part.Whole (at + 1) stop cs)
  | step.Inside q ↦ bytes_from q (at + 1) stop cs
  | step.Ends ↦ taken [] at
  | step.Fails ↦ bad at
] ≡ by_step s at stop cs
by_cases (step.Whole b) at stop cs = refl
by_cases (step.Inside q) at stop cs = refl
by_cases step.Ends at stop cs = refl
by_cases step.Fails at stop cs = refl

-- a byte word is read by its first step
pub by_first : (p : Part) (at stop : ℕ) (bytes : List ℕ) → bytes_from p at stop bytes ≡ by_step (step_here p at stop bytes) at stop (drop 1 bytes)
by_first part.Whole at stop [] = refl
by_first part.Escaped at stop [] = refl
by_first (part.Half high) at stop [] = refl
by_first part.Whole at stop (c ∷ cs) = by_cases (step_of part.Whole at stop c) at stop cs
by_first part.Escaped at stop (c ∷ cs) = by_cases (step_of part.Escaped at stop c) at stop cs
by_first (part.Half high) at stop (c ∷ cs) = by_cases (step_of (part.Half high) at stop c) at stop cs

-- what is behind the first byte
rest_of : (line : List ℕ) (place : ℕ) → drop 1 (drop place line) ≡ drop (place + 1) line
rest_of line place = drop-drop 1 place line

-- from any place of the line
pub word_step : (p : Part) (place stop : ℕ) (line front : List ℕ) (want : Reads (List ℕ)) (s : WordStep)
    → ahead front (bytes_from p place stop (drop place line)) ≡ want → step_here p place stop (drop place line) ≡ s
    → ahead front (by_step s place stop (drop (place + 1) line)) ≡ want
word_step p place stop line front want s so_far is =
    subst (λ (t : WordStep). ahead front (by_step t place stop (drop (place + 1) line)) ≡ want) is
    (subst (λ (rest : List ℕ). ahead front (by_step (step_here p place stop (drop place line)) place stop rest) ≡ want) (rest_of line place)
    (subst (λ (r : Reads (List ℕ)). ahead front r ≡ want) (by_first p place stop (drop place line)) so_far))

-- bytes before bytes
pub ahead_twice : (xs ys : List ℕ) (r : Reads (List ℕ)) → ahead xs (ahead ys r) ≡ ahead (xs ++ ys) r
ahead_twice xs ys (Ok r) = ap (λ (v : List ℕ). taken v r.place) (sym (append_assoc xs ys r.value))
ahead_twice xs ys (Err e) = refl

-- nothing before bytes
pub ahead_none : (r : Reads (List ℕ)) → ahead [] r ≡ r
ahead_none (Ok r) = refl
ahead_none (Err e) = refl

-- ---- numbers

-- the number with the next digit, or as it is
unfoldable pub digits_by : (limit at stop n : ℕ) → Option ℕ → List ℕ → Taken ℕ
digits_by limit at stop n None rest = record { value = n; place = at }
digits_by limit at stop n (Some m) rest = digits_from limit (at + 1) stop m rest

-- a number is read by its next digit
pub digits_first : (limit at stop n : ℕ) (bytes : List ℕ) → digits_from limit at stop n bytes ≡ digits_by limit at stop n (next_digit limit at stop n bytes) (drop 1 bytes)
unfolding digits_by
digits_first limit at stop n [] = refl
digits_first limit at stop n (c ∷ cs) = by_test (is_further_digit limit at stop n c)
  where
    by_test : (b : Bool) → elim b [ true ↦ digits_from limit (at + 1) stop (10 * n + (c - 48)) cs | false ↦ record { value = n; place = at } ]
        ≡ digits_by limit at stop n (if b then Some (10 * n + (c - 48)) else None) cs
    by_test true = refl
    by_test false = refl

-- the number goes on
pub digits_more : (limit place stop n m : ℕ) (line : List ℕ) (want : Taken ℕ)
    → digits_from limit place stop n (drop place line) ≡ want → next_digit limit place stop n (drop place line) ≡ Some m
    → digits_from limit (place + 1) stop m (drop (place + 1) line) ≡ want
unfolding digits_by
digits_more limit place stop n m line want so_far is =
    ap (digits_from limit (place + 1) stop m) (sym (rest_of line place))
    ∙ sym (ap (λ (o : Option ℕ). digits_by limit place stop n o (drop 1 (drop place line))) is)
    ∙ sym (digits_first limit place stop n (drop place line)) ∙ so_far

-- the number ends
pub digits_end : (limit place stop n : ℕ) (line : List ℕ) (want : Taken ℕ)
    → digits_from limit place stop n (drop place line) ≡ want → next_digit limit place stop n (drop place line) ≡ None
    → want ≡ record { value = n; place = place }
unfolding digits_by
digits_end limit place stop n line want so_far is =
    sym so_far ∙ digits_first limit place stop n (drop place line) ∙ ap (λ (o : Option ℕ). digits_by limit place stop n o (drop 1 (drop place line))) is

-- ---- modes

-- the mode with the next digit, or as it is
unfoldable pub octal_by : (left at stop m : ℕ) → Option ℕ → List ℕ → Taken ℕ
octal_by left at stop m None rest = record { value = m; place = at }
octal_by left at stop m (Some n) rest = octal_from (left - 1) (at + 1) stop n rest

-- a mode is read by its next digit
pub octal_first : (left at stop m : ℕ) (bytes : List ℕ) → octal_from left at stop m bytes ≡ octal_by left at stop m (next_octal left at stop m bytes) (drop 1 bytes)
unfolding octal_by
octal_first left at stop m [] = refl
octal_first left at stop m (c ∷ cs) = by_test (is_octal_digit c && (nat_lt at stop && nat_lt 0 left))
  where
    by_test : (b : Bool) → elim b [ true ↦ octal_from (left - 1) (at + 1) stop (8 * m + (c - 48)) cs | false ↦ record { value = m; place = at } ]
        ≡ octal_by left at stop m (if b then Some (8 * m + (c - 48)) else None) cs
    by_test true = refl
    by_test false = refl

-- the mode goes on
pub octal_more : (left place stop m n : ℕ) (line : List ℕ) (want : Taken ℕ)
    → octal_from left place stop m (drop place line) ≡ want → next_octal left place stop m (drop place line) ≡ Some n
    → octal_from (left - 1) (place + 1) stop n (drop (place + 1) line) ≡ want
unfolding octal_by
octal_more left place stop m n line want so_far is =
    ap (octal_from (left - 1) (place + 1) stop n) (sym (rest_of line place))
    ∙ sym (ap (λ (o : Option ℕ). octal_by left place stop m o (drop 1 (drop place line))) is)
    ∙ sym (octal_first left place stop m (drop place line)) ∙ so_far

-- the mode ends
pub octal_end : (left place stop m : ℕ) (line : List ℕ) (want : Taken ℕ)
    → octal_from left place stop m (drop place line) ≡ want → next_octal left place stop m (drop place line) ≡ None
    → want ≡ record { value = m; place = place }
unfolding octal_by
octal_end left place stop m line want so_far is =
    sym so_far ∙ octal_first left place stop m (drop place line) ∙ ap (λ (o : Option ℕ). octal_by left place stop m o (drop 1 (drop place line))) is

-- a number is what its digits behind the first make of it
pub digits_start : (limit at stop first : ℕ) (line : List ℕ) (r : Taken ℕ) → digits_from limit (at + 1) stop first (drop (at + 1) line) ≡ r
    → number_by (Some first) limit at stop (drop at line) ≡ Ok r
digits_start limit at stop first line r e = ap Ok (ap (digits_from limit (at + 1) stop first) (rest_of line at) ∙ e)

-- a mode without a digit
pub some_digits_here : (at m place : ℕ) (r : Taken ℕ) → r ≡ record { value = m; place = place } → place ≡ at → some_digits at r ≡ bad at
some_digits_here at m place r is e = ap (some_digits at) is ∙ grind (arith, nat_tests)

-- a mode with one
pub some_digits_there : (at m place : ℕ) (r : Taken ℕ) → r ≡ record { value = m; place = place } → (place ≡ at → ⊥) → some_digits at r ≡ Ok (record { value = m; place = place })
some_digits_there at m place r is n = ap (some_digits at) is ∙ grind (arith, nat_tests)

-- a byte more in front
pub with_bytes_first : (front : List ℕ) (b : ℕ) (all : List ℕ) (r want : Reads (List ℕ)) → ahead front (ahead (b ∷ []) r) ≡ want → all ≡ front ++ b ∷ [] → ahead all r ≡ want
with_bytes_first front b all r want e is = ap (λ (xs : List ℕ). ahead xs r) is ∙ sym (ahead_twice front (b ∷ []) r) ∙ e

-- nothing behind bytes
pub ahead_ends : (front : List ℕ) (place : ℕ) → ahead front (taken [] place) ≡ taken front place
ahead_ends front place = ap (λ (v : List ℕ). taken v place) (append-nil front)

-- no byte at all
pub no_bytes : (at place : ℕ) (front : List ℕ) → length front ≡ 0 → some_bytes at (ahead front (taken [] place)) ≡ bad at
no_bytes at place [] e = refl
no_bytes at place (b ∷ bs) e = absurd (omega (arith, e))

-- some bytes
pub some_bytes_there : (at place : ℕ) (front : List ℕ) → 0 < length front → some_bytes at (ahead front (taken [] place)) ≡ taken front place
some_bytes_there at place [] h = absurd (omega (arith, h))
some_bytes_there at place (b ∷ bs) h = ap (λ (v : List ℕ). some_bytes at (taken v place)) (append-nil (b ∷ bs))

-- a list that a test calls empty
pub is_empty_list : (xs ys : List ℕ) (b : Bool) → xs ≡ ys → b ≡ (length xs == 0) → b ≡ true → length ys ≡ 0
is_empty_list xs ys b same test is = let e = ap (λ (zs : List ℕ). length zs) same in grind (arith, nat_tests)

-- and one that it doesn't
pub is_filled_list : (xs ys : List ℕ) (b : Bool) → xs ≡ ys → b ≡ (length xs == 0) → b ≡ false → 0 < length ys
is_filled_list xs ys b same test is = let e = ap (λ (zs : List ℕ). length zs) same in grind (arith, nat_tests)
