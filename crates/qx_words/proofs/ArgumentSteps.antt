-- Arguments read one after another.
use Rattle.std.proofs.Common.{◌≡◌, ℕ, ◌<◌, ◌-◌, ◌*◌, List, [], ◌∷◌, length, drop, ap, sym, ◌∙◌, arith}
use Rattle.std.proofs.lemmas.List.{length-drop}
use Rattle.std.specs.Prelude.{Result}
use Rattle.qx_words.specs.declared.line.LineFault.{LineFault}
use Rattle.qx_words.specs.declared.line.LineFault.TheVariants as fault
use Rattle.qx_words.specs.declared.grammar.Argument.{Argument}
use Rattle.qx_words.specs.declared.arguments.Arguments.{Arguments}
use Rattle.qx_words.specs.Lines.{line_limit}
use Rattle.qx_words.specs.Reading.{FailsAs, Reads, Taken, argument_from, arguments_from, bad, space_at, taken, then_read}

-- what fails first fails the whole
pub fails_then : {A B : Type 0} (r : Result A LineFault) (next : A → Result B LineFault) (e : LineFault) → FailsAs r e → FailsAs (then_read r next) e
fails_then r next (fault.BadLine at) h = ap (λ r. then_read r next) h
fails_then r next fault.NoMemory h = tt

-- what was taken goes on
pub then_taken : {A B : Type 0} (r : Reads A) (value : A) (place : ℕ) (next : Taken A → Result B LineFault) → r ≡ taken value place → then_read r next ≡ next (record { value = value; place = place })
then_taken r value place next h = ap (λ r. then_read r next) h

-- no space where an argument is wanted
pub arguments_fail : (wanted : List Argument) (i place : ℕ) (line : List ℕ) (a : Arguments) (want : Reads Arguments)
    → i < length wanted → arguments_from (drop i wanted) place line a ≡ want → space_at place (drop place line) ≡ bad place → want ≡ bad place
arguments_fail wanted i place line a want h so_far none =
    sym so_far ∙ by_first (drop i wanted) (rw (length-drop i wanted) (omega arith))
  where
    by_first : (xs : List Argument) → 0 < length xs → arguments_from xs place line a ≡ bad place
    by_first [] h = absurd (omega (arith, h))
    by_first (x ∷ xs) h = ap (λ (r : Result ℕ LineFault). then_read r (λ p.
        then_read (argument_from x p (line_limit - 2 * length xs) (drop p line) a) (λ t.
        arguments_from xs t.place line t.value))) none
