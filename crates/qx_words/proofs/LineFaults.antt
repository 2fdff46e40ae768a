-- Why a line isn't read: it has no reading, and goes wrong in one place.
use Rattle.std.proofs.Common.{◌≡◌, ◌⊎◌, inl, inr, ℕ, ◌<◌, ◌≤◌, Bool, true, false, List, length, Ok, refl, arith}
use Rattle.std.specs.Prelude.{nat_lt, if◌then◌else◌}
use Rattle.std.proofs.lemmas.Bool.Decides.{nat_tests}
use Rattle.qx_words.specs.declared.line.LineFault.{LineFault}
use Rattle.qx_words.specs.declared.line.LineFault.TheVariants as fault
use Rattle.qx_words.specs.Lines.{GoesWrongAt, IsFaultOf, line_by, line_limit}
use Rattle.qx_words.specs.Reading.{FailsAs, bad, command_from, line_from, session_from, then_read}
use Rattle.qx_words.proofs.ReadLines.{no_reading}
use Rattle.qx_words.proofs.LongestParts.{none_later}
use Rattle.qx_words.proofs.CompletedLines.{begins_before}

-- a line that is too long goes wrong at the limit
too_long : (line : List ℕ) (at : ℕ) → line_limit < length line → line_from line ≡ bad at → at ≡ line_limit
unfolding line_from
too_long line at long wrong = by_test (nat_lt line_limit (length line)) (grind (arith, nat_tests)) wrong
  where
    by_test : (b : Bool) → b ≡ true → (if b then bad line_limit else then_read (session_from line) (λ t. then_read (command_from t.place line) (λ a. Ok (line_by t.value a)))) ≡ bad at → at ≡ line_limit
    by_test true e got = cc
    by_test false e got = absurd (cc)

-- where reading fails, the line goes wrong
pub goes_wrong : (line : List ℕ) (at : ℕ) → line_from line ≡ bad at → IsFaultOf line (fault.BadLine at)
goes_wrong line at wrong = (no_reading line (fault.BadLine at) wrong, by_length (nat_lt line_limit (length line)) refl)
  where
    by_length : (b : Bool) → nat_lt line_limit (length line) ≡ b → ((line_limit < length line) × (at ≡ line_limit)) ⊎ ((length line ≤ line_limit) × GoesWrongAt line at)
    by_length true e = let long : line_limit < length line = grind (arith, nat_tests) in inl (long, too_long line at long wrong)
    by_length false e =
        let short : length line ≤ line_limit = grind (arith, nat_tests) in
        let k = begins_before line at short wrong in
        inr (short, record { within = k.0; begins = k.1; no_later = λ j past within begins. none_later line at j short wrong past within begins })

-- a failure says why the line isn't read
pub is_fault : (line : List ℕ) (e : LineFault) → FailsAs (line_from line) e → IsFaultOf line e
is_fault line (fault.BadLine at) h = goes_wrong line at h
is_fault line fault.NoMemory h = tt

-- a line goes wrong in one place
pub one_wrong : (line : List ℕ) (a b : ℕ) → GoesWrongAt line a → GoesWrongAt line b → a ≡ b
one_wrong line a b first second = by_order (nat_lt a b) (nat_lt b a) refl refl
  where
    by_order : (x y : Bool) → nat_lt a b ≡ x → nat_lt b a ≡ y → a ≡ b
    by_order true y e f = absurd (first.no_later b (grind (arith, nat_tests)) second.within second.begins)
    by_order false true e f = absurd (second.no_later a (grind (arith, nat_tests)) first.within first.begins)
    by_order false false e f = grind (arith, nat_tests)
