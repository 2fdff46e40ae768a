-- What is read as arguments are those of the grammar.
use Rattle.std.proofs.Common.{◌≡◌, ℕ, ◌+◌, ◌*◌, ◌-◌, ◌^◌, ◌<◌, ◌≤◌, Bool, true, false, List, [], ◌∷◌, ◌++◌, length, drop, Ok, Err, refl, sym, ap, subst, ◌∙◌, arith, append_assoc}
use Rattle.std.specs.Prelude.{◌==◌, if◌then◌else◌}
use Rattle.std.proofs.lemmas.List.{drop-drop, length-append}
use Rattle.std.proofs.Math.Seq.{drop-append_seam}
use Rattle.std.proofs.lemmas.Bool.Decides.{Decides-eqb}
use Rattle.qx_words.specs.declared.grammar.Argument.{Argument}
use Rattle.qx_words.specs.declared.grammar.Argument.TheVariants as argument
use Rattle.qx_words.specs.declared.arguments.Arguments.{Arguments}
use Rattle.qx_words.specs.ByteWords.{IsByteWord, Spells, StandsFor, escaped, itself, more, nothing}
use Rattle.qx_words.specs.Numbers.{IsMode, IsNumber}
use Rattle.qx_words.specs.Lines.{AreArguments, IsArgument, line_limit}
use Rattle.qx_words.specs.Reading.{Reads, Taken, argument_from, arguments_from, bad, bytes_from, mode_from, number_from, some_bytes, space_at, taken, then_read, word_from}
use Rattle.qx_words.specs.declared.words.Part.TheVariants as part
use Rattle.qx_words.proofs.SpelledWords.{spelled, whole}
use Rattle.qx_words.proofs.SpelledNumbers.{number_taken}
use Rattle.qx_words.proofs.SpelledModes.{mode_taken}

-- bytes at the front are so, and end at the place
pub record IsFront (is_so : List ℕ → Type 0) (at : ℕ) (bytes : List ℕ) (place : ℕ) : Type 0 where
  pub front : List ℕ
  pub rest : List ℕ
  pub split : bytes ≡ front ++ rest
  pub is : is_so front
  pub place_is : place ≡ at + length front

abbrev record_of : Arguments → ℕ → Taken Arguments
record_of value place = record { value = value; place = place }

-- what is taken is one value at one place
same_arguments : (v w : Arguments) (a b : ℕ) → taken v a ≡ taken w b → (v ≡ w) × (a ≡ b)
same_arguments v w a b e =
    let both : record_of v a ≡ record_of w b = cc in
    (ap (λ (t : Taken Arguments). t.value) both, ap (λ (t : Taken Arguments). t.place) both)

-- a spelled byte takes a byte at least
stands_filled : (front : List ℕ) (b : ℕ) → StandsFor front b → 0 < length front
stands_filled _ _ (itself b h) = omega arith
stands_filled _ _ (escaped high low h l p q) = omega arith

pub spells_filled : (front bytes : List ℕ) → Spells front bytes → 0 < length bytes → 0 < length front
spells_filled _ _ nothing h = absurd (omega (arith, h))
spells_filled _ _ (more {front} {rest} {bytes} {b} s t) h = let k = stands_filled front b s in rw (length-append front rest) (omega (arith, k))

abbrev word_record : List ℕ → ℕ → Taken (List ℕ)
word_record value place = record { value = value; place = place }

-- a byte word
word_taken : (at stop : ℕ) (bytes : List ℕ) (r : Taken (List ℕ)) → word_from at stop bytes ≡ Ok r → IsFront (λ w. IsByteWord w r.value) at bytes r.place
unfolding word_from
word_taken at stop bytes r e = by_result (bytes_from part.Whole at stop bytes) refl e
  where
    by_value : (vs : List ℕ) (p : ℕ) → bytes_from part.Whole at stop bytes ≡ taken vs p → some_bytes at (taken vs p) ≡ Ok r → IsFront (λ w. IsByteWord w r.value) at bytes r.place
    by_value [] p is got = absurd (cc)
    by_value (b ∷ bs) p is got =
        let k = spelled part.Whole [] at stop bytes (b ∷ bs) p whole is in
        let both : word_record (b ∷ bs) p ≡ r = cc in
        subst (λ (x : Taken (List ℕ)). IsFront (λ w. IsByteWord w x.value) at bytes x.place) both
        (record { front = k.front; rest = k.rest; split = k.split; is = (spells_filled k.front (b ∷ bs) k.spells (omega arith), k.spells); place_is = k.place_is })

    by_result : (x : Reads (List ℕ)) → bytes_from part.Whole at stop bytes ≡ x → some_bytes at x ≡ Ok r → IsFront (λ w. IsByteWord w r.value) at bytes r.place
    by_result (Err e) is got = absurd (cc)
    by_result (Ok t) is got = by_value t.value t.place is got

-- a value that was taken, put among the arguments
then_front : {A : Type 0} (P : List ℕ → A → Type 0) (x : Reads A) (f : A → Arguments) (at : ℕ) (bytes : List ℕ) (r : Taken Arguments)
    → ((t : Taken A) → x ≡ Ok t → IsFront (λ w. P w t.value) at bytes t.place)
    → then_read x (λ t. taken (f t.value) t.place) ≡ Ok r → IsFront (λ w. (v : A) × P w v × (r.value ≡ f v)) at bytes r.place
then_front P (Err e) f at bytes r next got = absurd (cc)
then_front P (Ok t) f at bytes r next got =
    let k = next t refl in
    let both = same_arguments (f t.value) r.value t.place r.place got in
    record { front = k.front; rest = k.rest; split = k.split; is = (t.value, k.is, sym both.0); place_is = sym both.1 ∙ k.place_is }

number_front : (low limit at stop : ℕ) (bytes : List ℕ) → 9 ≤ limit → limit < 2 ^ 64 → (t : Taken ℕ) → number_from low limit at stop bytes ≡ Ok t → IsFront (λ w. IsNumber low limit w t.value) at bytes t.place
number_front low limit at stop bytes nine fits t e =
    let k = number_taken low limit at stop bytes t nine fits e in
    record { front = k.word; rest = k.rest; split = k.split; is = k.is; place_is = k.place_is }

mode_front : (at stop : ℕ) (bytes : List ℕ) (t : Taken ℕ) → mode_from at stop bytes ≡ Ok t → IsFront (λ w. IsMode w t.value) at bytes t.place
mode_front at stop bytes t e =
    let k = mode_taken at stop bytes t e in
    record { front = k.word; rest = k.rest; split = k.split; is = k.is; place_is = k.place_is }

-- one argument
pub argument_taken : (x : Argument) (at stop : ℕ) (bytes : List ℕ) (a : Arguments) (r : Taken Arguments) → argument_from x at stop bytes a ≡ Ok r → IsFront (λ w. IsArgument x w a r.value) at bytes r.place
unfolding argument_from
argument_taken argument.Path at stop bytes a r e = then_front IsByteWord _ (λ w. record a { path = w }) at bytes r (word_taken at stop bytes) e
argument_taken argument.Other at stop bytes a r e = then_front IsByteWord _ (λ w. record a { other = w }) at bytes r (word_taken at stop bytes) e
argument_taken argument.At at stop bytes a r e = then_front (IsNumber 0 (2 ^ 64 - 1)) _ (λ n. record a { at = n }) at bytes r (number_front 0 (2 ^ 64 - 1) at stop bytes (omega arith) (omega arith)) e
argument_taken argument.Count at stop bytes a r e = then_front (IsNumber 0 65536) _ (λ n. record a { count = n }) at bytes r (number_front 0 65536 at stop bytes (omega arith) (omega arith)) e
argument_taken argument.FillCount at stop bytes a r e = then_front (IsNumber 1 (2 ^ 48)) _ (λ n. record a { fill = n }) at bytes r (number_front 1 (2 ^ 48) at stop bytes (omega arith) (omega arith)) e
argument_taken argument.Byte at stop bytes a r e = then_front (IsNumber 0 255) _ (λ n. record a { byte = n }) at bytes r (number_front 0 255 at stop bytes (omega arith) (omega arith)) e
argument_taken argument.Mode at stop bytes a r e = then_front IsMode _ (λ n. record a { mode = n }) at bytes r (mode_front at stop bytes) e
argument_taken argument.Uid at stop bytes a r e = then_front (IsNumber 0 (2 ^ 32 - 1)) _ (λ n. record a { uid = n }) at bytes r (number_front 0 (2 ^ 32 - 1) at stop bytes (omega arith) (omega arith)) e
argument_taken argument.Gid at stop bytes a r e = then_front (IsNumber 0 (2 ^ 32 - 1)) _ (λ n. record a { gid = n }) at bytes r (number_front 0 (2 ^ 32 - 1) at stop bytes (omega arith) (omega arith)) e
argument_taken argument.Atime at stop bytes a r e = then_front (IsNumber 0 (2 ^ 32 - 1)) _ (λ n. record a { atime = n }) at bytes r (number_front 0 (2 ^ 32 - 1) at stop bytes (omega arith) (omega arith)) e
argument_taken argument.Mtime at stop bytes a r e = then_front (IsNumber 0 (2 ^ 32 - 1)) _ (λ n. record a { mtime = n }) at bytes r (number_front 0 (2 ^ 32 - 1) at stop bytes (omega arith) (omega arith)) e

-- an argument behind a space, and those behind it
joined : (x : Argument) (xs : List Argument) (at : ℕ) (line cs : List ℕ) (a : Arguments) (t r : Taken Arguments) → drop at line ≡ 32 ∷ cs
    → IsFront (λ w. IsArgument x w a t.value) (at + 1) (drop (at + 1) line) t.place
    → IsFront (λ front. AreArguments xs front t.value r.value) t.place (drop t.place line) r.place
    → IsFront (λ front. AreArguments (x ∷ xs) front a r.value) at (drop at line) r.place
joined x xs at line cs a t r here k m =
    let behind : drop (at + 1) line ≡ cs = sym (drop-drop 1 at line) ∙ ap (λ (ys : List ℕ). drop 1 ys) here in
    let last : drop t.place line ≡ k.rest
    = ap (λ (p : ℕ). drop p line) k.place_is ∙ sym (drop-drop (length k.front) (at + 1) line) ∙ ap (λ (ys : List ℕ). drop (length k.front) ys) k.split ∙ drop-append_seam k.front k.rest in
    record {
      front = 32 ∷ k.front ++ m.front;
      rest = m.rest;
      split = here ∙ ap (λ (ys : List ℕ). 32 ∷ ys) (sym behind ∙ k.split ∙ ap (λ (ys : List ℕ). k.front ++ ys) (sym last ∙ m.split) ∙ sym (append_assoc k.front m.front m.rest));
      is = (k.front, m.front, t.value, refl, k.is, m.is);
      place_is = rw (length-append (32 ∷ k.front) m.front) (omega (arith, m.place_is, k.place_is));
    }

-- all arguments
pub arguments_taken : (xs : List Argument) (at : ℕ) (line : List ℕ) (a : Arguments) (r : Taken Arguments) → arguments_from xs at line a ≡ Ok r
    → IsFront (λ front. AreArguments xs front a r.value) at (drop at line) r.place
arguments_taken [] at line a r e =
    let both = same_arguments a r.value at r.place e in
    record { front = []; rest = drop at line; split = refl; is = (refl, sym both.0); place_is = omega (arith, both.1) }
arguments_taken (x ∷ xs) at line a r e = by_space (drop at line) refl e (λ t k. arguments_taken xs t.place line t.value r k)
  where
    by_argument : (cs : List ℕ) → drop at line ≡ 32 ∷ cs → (y : Reads Arguments) → argument_from x (at + 1) (line_limit - 2 * length xs) (drop (at + 1) line) a ≡ y
        → then_read y (λ t. arguments_from xs t.place line t.value) ≡ Ok r
        → ((t : Taken Arguments) → arguments_from xs t.place line t.value ≡ Ok r → IsFront (λ front. AreArguments xs front t.value r.value) t.place (drop t.place line) r.place)
        → IsFront (λ front. AreArguments (x ∷ xs) front a r.value) at (drop at line) r.place
    by_argument cs here (Err e) is got next = absurd (cc)
    by_argument cs here (Ok t) is got next = joined x xs at line cs a t r here (argument_taken x (at + 1) (line_limit - 2 * length xs) (drop (at + 1) line) a t is) (next t got)

    by_byte : (c : ℕ) (cs : List ℕ) → drop at line ≡ c ∷ cs → (b : Bool) → (c == 32) ≡ b
        → then_read (if b then Ok (at + 1) else bad at) (λ p. then_read (argument_from x p (line_limit - 2 * length xs) (drop p line) a) (λ t. arguments_from xs t.place line t.value)) ≡ Ok r
        → ((t : Taken Arguments) → arguments_from xs t.place line t.value ≡ Ok r → IsFront (λ front. AreArguments xs front t.value r.value) t.place (drop t.place line) r.place)
        → IsFront (λ front. AreArguments (x ∷ xs) front a r.value) at (drop at line) r.place
    by_byte c cs here false is got next = absurd (cc)
    by_byte c cs here true is got next =
        by_argument cs (here ∙ ap (λ (d : ℕ). d ∷ cs) ((Decides-eqb c 32).0 is)) (argument_from x (at + 1) (line_limit - 2 * length xs) (drop (at + 1) line) a) refl got next

    by_space : (ys : List ℕ) → drop at line ≡ ys
        → then_read (space_at at ys) (λ p. then_read (argument_from x p (line_limit - 2 * length xs) (drop p line) a) (λ t. arguments_from xs t.place line t.value)) ≡ Ok r
        → ((t : Taken Arguments) → arguments_from xs t.place line t.value ≡ Ok r → IsFront (λ front. AreArguments xs front t.value r.value) t.place (drop t.place line) r.place)
        → IsFront (λ front. AreArguments (x ∷ xs) front a r.value) at (drop at line) r.place
    by_space [] here got next = absurd (cc)
    by_space (c ∷ cs) here got next = by_byte c cs here (c == 32) refl got next
