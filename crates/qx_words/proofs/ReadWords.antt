-- A byte word of the grammar is read, with its value, where a space or the end is behind it.
use Rattle.std.proofs.Common.{◌≡◌, ℕ, ◌+◌, ◌*◌, ◌<◌, ◌≤◌, Bool, true, false, List, [], ◌∷◌, ◌++◌, length, Option, Some, refl, sym, ap, ◌∙◌, arith}
use Rattle.std.specs.Prelude.{nat_lt, nat_le, ◌==◌, ◌&&◌, if◌then◌else◌}
use Rattle.std.proofs.lemmas.Bool.Decides.{nat_tests}
use Rattle.qx_words.specs.declared.words.Part.TheVariants as part
use Rattle.qx_words.specs.declared.words.WordStep.{WordStep}
use Rattle.qx_words.specs.declared.words.WordStep.TheVariants as step
use Rattle.qx_words.specs.ByteWords.{IsByteWord, Spells, hex_value, is_plain, itself, escaped, more, nothing}
use Rattle.qx_words.specs.Reading.{Reads, ahead, bytes_from, first_digit, second_digit, some_bytes, taken, word_from}
use Rattle.qx_words.proofs.WordSteps.{by_first, by_step}

-- a word ends here: at the end of the line, or before a space
pub data EndsWord : List ℕ → Type 0 where
  line_ends : EndsWord []
  space : (rest : List ℕ) → EndsWord (32 ∷ rest)

-- a plain byte before others
plain_read : (b at stop : ℕ) (rest : List ℕ) → is_plain b ≡ true → at < stop → bytes_from part.Whole at stop (b ∷ rest) ≡ ahead (b ∷ []) (bytes_from part.Whole (at + 1) stop rest)
plain_read b at stop rest plain low =
    let room : nat_lt at stop ≡ true = grind (arith, nat_tests) in
    by_first part.Whole at stop (b ∷ rest) ∙ ap (λ (s : WordStep). by_step s at stop rest) (chosen (is_plain b) (nat_lt at stop) plain room)
  where
    chosen : (p low : Bool) → p ≡ true → low ≡ true → (if p && low then step.Whole b else (if b == 92 && nat_le (at + 3) stop then step.Inside part.Escaped else step.Ends)) ≡ step.Whole b
    chosen true true p q = refl
    chosen true false p q = absurd (cc)
    chosen false low p q = absurd (cc)

-- an escaped byte before others
escaped_read : (high low h l at stop : ℕ) (rest : List ℕ) → hex_value high ≡ Some h → hex_value low ≡ Some l → at + 3 ≤ stop
    → bytes_from part.Whole at stop (92 ∷ high ∷ low ∷ rest) ≡ ahead ((16 * h + l) ∷ []) (bytes_from part.Whole (at + 3) stop rest)
escaped_read high low h l at stop rest first second room =
    let fits : nat_le (at + 3) stop ≡ true = grind (arith, nat_tests) in
    by_first part.Whole at stop (92 ∷ high ∷ low ∷ rest) ∙ ap (λ (s : WordStep). by_step s at stop (high ∷ low ∷ rest)) (chosen (nat_le (at + 3) stop) fits)
    ∙ by_first part.Escaped (at + 1) stop (high ∷ low ∷ rest) ∙ ap (λ (o : Option ℕ). by_step (first_digit o) (at + 1) stop (low ∷ rest)) first
    ∙ by_first (part.Half h) (at + 1 + 1) stop (low ∷ rest) ∙ ap (λ (o : Option ℕ). by_step (second_digit h o) (at + 1 + 1) stop rest) second
    ∙ ap (λ (p : ℕ). ahead ((16 * h + l) ∷ []) (bytes_from part.Whole p stop rest)) (three at)
  where
    chosen : (room : Bool) → room ≡ true → (if is_plain 92 && nat_lt at stop then step.Whole 92 else (if 92 == 92 && room then step.Inside part.Escaped else step.Ends)) ≡ step.Inside part.Escaped
    chosen true p = refl
    chosen false p = absurd (cc)

    three : (n : ℕ) → n + 1 + 1 + 1 ≡ n + 3
    three n = omega arith

-- a word's end
end_read : (at stop : ℕ) (rest : List ℕ) → EndsWord rest → bytes_from part.Whole at stop rest ≡ taken [] at
end_read at stop _ line_ends = refl
end_read at stop _ (space rest) = by_first part.Whole at stop (32 ∷ rest) ∙ refl

-- what is spelled is read, up to the word's end
pub read_spelled : (front bytes rest : List ℕ) (at stop : ℕ) → Spells front bytes → EndsWord rest → at + length front ≤ stop
    → bytes_from part.Whole at stop (front ++ rest) ≡ taken bytes (at + length front)
read_spelled _ _ rest at stop nothing ends room = end_read at stop rest ends ∙ ap (λ (p : ℕ). taken [] p) (sym (plus at))
  where
    plus : (n : ℕ) → n + length {A = ℕ} [] ≡ n
    plus n = omega arith
read_spelled _ _ rest at stop (more {rest = others} {bytes = bytes} (itself b plain) s) ends room =
    plain_read b at stop (others ++ rest) plain (omega (arith, room))
    ∙ ap (λ (r : Reads (List ℕ)). ahead (b ∷ []) r) (read_spelled others bytes rest (at + 1) stop s ends (omega (arith, room)))
    ∙ ap (λ (p : ℕ). taken (b ∷ bytes) p) (omega arith)
read_spelled _ _ rest at stop (more {rest = others} {bytes = bytes} (escaped high low h l first second) s) ends room =
    escaped_read high low h l at stop (others ++ rest) first second (omega (arith, room))
    ∙ ap (λ (r : Reads (List ℕ)). ahead ((16 * h + l) ∷ []) r) (read_spelled others bytes rest (at + 3) stop s ends (omega (arith, room)))
    ∙ ap (λ (p : ℕ). taken ((16 * h + l) ∷ bytes) p) (omega arith)

-- a byte word is read, with its value
pub read_byte_word : (word bytes rest : List ℕ) (at stop : ℕ) → IsByteWord word bytes → EndsWord rest → at + length word ≤ stop → word_from at stop (word ++ rest) ≡ taken bytes (at + length word)
unfolding word_from
read_byte_word word bytes rest at stop is ends room = ap (λ (r : Reads (List ℕ)). some_bytes at r) (read_spelled word bytes rest at stop is.1 ends room) ∙ some bytes (is_filled word bytes is.1 is.0)
  where
    is_filled : (front value : List ℕ) → Spells front value → 0 < length front → 0 < length value
    is_filled _ _ nothing h = absurd (omega (arith, h))
    is_filled _ _ (more s t) h = omega arith

    some : (value : List ℕ) → 0 < length value → some_bytes at (taken value (at + length word)) ≡ taken value (at + length word)
    some [] h = absurd (omega (arith, h))
    some (b ∷ bs) h = refl
