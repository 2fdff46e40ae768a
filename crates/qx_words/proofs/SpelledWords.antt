-- What is read as a byte word is one: the bytes that were taken spell the value.
use Rattle.std.proofs.Common.{◌≡◌, ℕ, ◌+◌, Bool, true, false, List, [], ◌∷◌, ◌++◌, length, Option, Some, None, Ok, Err, refl, sym, ap, subst, ◌∙◌, arith, append_assoc, append-nil}
use Rattle.std.specs.Prelude.{nat_lt, nat_le, ◌==◌, ◌&&◌, if◌then◌else◌}
use Rattle.std.proofs.lemmas.Bool.Decides.{Decides-eqb}
use Rattle.qx_words.specs.declared.words.Part.{Part}
use Rattle.qx_words.specs.declared.words.Part.TheVariants as part
use Rattle.qx_words.specs.declared.words.WordStep.{WordStep}
use Rattle.qx_words.specs.declared.words.WordStep.TheVariants as step
use Rattle.qx_words.specs.ByteWords.{Spells, StandsFor, hex_value, is_plain, itself, escaped, more, nothing}
use Rattle.qx_words.specs.Reading.{Reads, Taken, ahead, bytes_from, first_digit, second_digit, step_of, taken}
use Rattle.qx_words.proofs.WordSteps.{by_first, by_step}

-- what was read of a byte so far
pub data Stands : Part → List ℕ → Type 0 where
  whole : Stands part.Whole []
  slash : Stands part.Escaped (92 ∷ [])
  half : (high h : ℕ) → hex_value high ≡ Some h → Stands (part.Half h) (92 ∷ high ∷ [])

-- what a step says, behind what was read
abbrev pub Says : List ℕ → ℕ → WordStep → Type 0
Says before c (step.Whole b) = StandsFor (before ++ c ∷ []) b
Says before c (step.Inside q) = Stands q (before ++ c ∷ [])
Says before c step.Ends = before ≡ []
Says before c step.Fails = Unit {0}

-- the slash
says_slash : (c : ℕ) → c ≡ 92 → Stands part.Escaped (c ∷ [])
says_slash c e = subst (λ (b : ℕ). Stands part.Escaped (b ∷ [])) (sym e) slash

-- a first byte
says_first : (c : ℕ) (p low slashed room : Bool) → is_plain c ≡ p → (c == 92) ≡ slashed
    → Says [] c (if p && low then step.Whole c else (if slashed && room then step.Inside part.Escaped else step.Ends))
says_first c true true slashed room is eq = itself c is
says_first c true false true true is eq = says_slash c ((Decides-eqb c 92).0 eq)
says_first c true false true false is eq = refl
says_first c true false false room is eq = refl
says_first c false low true true is eq = says_slash c ((Decides-eqb c 92).0 eq)
says_first c false low true false is eq = refl
says_first c false low false room is eq = refl

-- a digit
says_low : (high h c : ℕ) (o : Option ℕ) → hex_value high ≡ Some h → hex_value c ≡ o → Says (92 ∷ high ∷ []) c (second_digit h o)
says_low high h c None is e = tt
says_low high h c (Some l) is e = escaped high c h l is e

says_high : (c : ℕ) (o : Option ℕ) → hex_value c ≡ o → Says (92 ∷ []) c (first_digit o)
says_high c None e = tt
says_high c (Some h) e = half c h e

-- any step
pub says : (p : Part) (before : List ℕ) (at stop c : ℕ) → Stands p before → Says before c (step_of p at stop c)
says part.Whole before at stop c whole = says_first c (is_plain c) (nat_lt at stop) (c == 92) (nat_le (at + 3) stop) refl refl
says part.Escaped before at stop c slash = says_high c (hex_value c) refl
says (part.Half _) before at stop c (half high h is) = says_low high h c (hex_value c) is refl

-- the bytes that were taken
pub record IsSpelled (before bytes value : List ℕ) (at place : ℕ) : Type 0 where
  pub front : List ℕ
  pub rest : List ℕ
  pub split : bytes ≡ front ++ rest
  pub spells : Spells (before ++ front) value
  pub place_is : place ≡ at + length front

abbrev record_of : List ℕ → ℕ → Taken (List ℕ)
record_of value place = record { value = value; place = place }

-- what is taken is one value at one place
pub same_taken : (v w : List ℕ) (a b : ℕ) → taken v a ≡ taken w b → (v ≡ w) × (a ≡ b)
same_taken v w a b e =
    let both : record_of v a ≡ record_of w b = cc in
    (ap (λ (t : Taken (List ℕ)). t.value) both, ap (λ (t : Taken (List ℕ)). t.place) both)

-- nothing more is taken
ends_here : (before bytes value : List ℕ) (at place : ℕ) → before ≡ [] → taken [] at ≡ taken value place → IsSpelled before bytes value at place
ends_here before bytes value at place none is =
    let v : [] ≡ value = (same_taken _ _ _ _ is).0 in
    let p : at ≡ place = (same_taken _ _ _ _ is).1 in
    record {
      front = [];
      rest = bytes;
      split = refl;
      spells = subst (λ (xs : List ℕ). Spells xs value) (sym (append-nil before)) (subst (λ (xs : List ℕ). Spells xs value) (sym none) (subst (λ (w : List ℕ). Spells [] w) v nothing));
      place_is = omega (arith, p);
    }

-- a byte of the line belongs to what is read
one_more : (before bytes value : List ℕ) (c at place : ℕ) → IsSpelled (before ++ c ∷ []) bytes value (at + 1) place → IsSpelled before (c ∷ bytes) value at place
one_more before bytes value c at place h = record {
  front = c ∷ h.front;
  rest = h.rest;
  split = ap (λ (xs : List ℕ). c ∷ xs) h.split;
  spells = subst (λ (xs : List ℕ). Spells xs value) (append_assoc before (c ∷ []) h.front) h.spells;
  place_is = omega (arith, h.place_is);
}

-- a whole byte, and the rest
whole_more : (before bytes value : List ℕ) (c b at place : ℕ) → StandsFor (before ++ c ∷ []) b → (r : Reads (List ℕ)) → ahead (b ∷ []) r ≡ taken value place
    → ((v : List ℕ) → r ≡ taken v place → IsSpelled [] bytes v (at + 1) place) → IsSpelled before (c ∷ bytes) value at place
whole_more before bytes value c b at place stands (Err e) is next = absurd (cc)
whole_more before bytes value c b at place stands (Ok t) is next =
    let v : b ∷ t.value ≡ value = (same_taken _ _ _ _ is).0 in
    let p : t.place ≡ place = (same_taken _ _ _ _ is).1 in
    let rest = next t.value (ap (λ (k : ℕ). taken t.value k) p) in
    one_more before bytes value c at place (record {
      front = rest.front;
      rest = rest.rest;
      split = rest.split;
      spells = subst (λ (w : List ℕ). Spells (before ++ c ∷ [] ++ rest.front) w) v (more stands rest.spells);
      place_is = rest.place_is;
    })

-- what is read as bytes is spelled by what was taken
pub spelled : (p : Part) (before : List ℕ) (at stop : ℕ) (bytes value : List ℕ) (place : ℕ) → Stands p before → bytes_from p at stop bytes ≡ taken value place → IsSpelled before bytes value at place
spelled part.Whole before at stop [] value place whole is = ends_here [] [] value at place refl is
spelled part.Escaped before at stop [] value place slash is = absurd (cc)
spelled (part.Half _) before at stop [] value place (half high h e) is = absurd (cc)
spelled p before at stop (c ∷ cs) value place stands is =
    by_said (step_of p at stop c) (says p before at stop c stands) (sym (by_first p at stop (c ∷ cs)) ∙ is)
    (λ v k. spelled part.Whole [] (at + 1) stop cs v place whole k)
    (λ q s k. spelled q (before ++ c ∷ []) (at + 1) stop cs value place s k)
  where
    by_said : (s : WordStep) → Says before c s → by_step s at stop cs ≡ taken value place
        → ((v : List ℕ) → bytes_from part.Whole (at + 1) stop cs ≡ taken v place → IsSpelled [] cs v (at + 1) place)
        → ((q : Part) → Stands q (before ++ c ∷ []) → bytes_from q (at + 1) stop cs ≡ taken value place → IsSpelled (before ++ c ∷ []) cs value (at + 1) place)
        → IsSpelled before (c ∷ cs) value at place
    by_said (step.Whole b) said k first go = whole_more before cs value c b at place said (bytes_from part.Whole (at + 1) stop cs) k first
    by_said (step.Inside q) said k first go = one_more before cs value c at place (go q said k)
    by_said step.Ends said k first go = ends_here before (c ∷ cs) value at place said k
    by_said step.Fails said k first go = absurd (cc)
