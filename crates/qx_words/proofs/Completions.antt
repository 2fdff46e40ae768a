-- Where reading fails, what was read can be completed: a word, arguments, a command, a line.
use Rattle.std.proofs.Common.{◌≡◌, ℕ, ◌+◌, ◌*◌, ◌-◌, ◌^◌, ◌<◌, ◌≤◌, Bool, true, false, List, [], ◌∷◌, ◌++◌, length, drop, Option, Some, None, Ok, Err, refl, sym, ap, subst, ◌∙◌, arith, append_assoc}
use Rattle.std.specs.Prelude.{nat_lt, nat_le, ◌==◌, ◌&&◌, if◌then◌else◌}
use Rattle.std.proofs.lemmas.Bool.Decides.{nat_tests, Decides-eqb}
use Rattle.std.proofs.lemmas.List.{drop-drop, length-append}
use Rattle.std.proofs.Math.Seq.{drop-append_seam}
use Rattle.std.proofs.lemmas.Fmt.{decimal_digit}
use Rattle.qx_words.specs.declared.grammar.Argument.{Argument}
use Rattle.qx_words.specs.declared.grammar.Argument.TheVariants as argument
use Rattle.qx_words.specs.declared.arguments.Arguments.{Arguments}
use Rattle.qx_words.specs.declared.words.Part.{Part}
use Rattle.qx_words.specs.declared.words.Part.TheVariants as part
use Rattle.qx_words.specs.declared.words.WordStep.{WordStep}
use Rattle.qx_words.specs.declared.words.WordStep.TheVariants as step
use Rattle.qx_words.specs.ByteWords.{IsByteWord, Spells, hex_value, is_plain, escaped, itself, more, nothing}
use Rattle.qx_words.specs.Numbers.{IsMode, IsNumber}
use Rattle.qx_words.specs.Lines.{AreArguments, IsArgument, line_limit}
use Rattle.qx_words.specs.Reading.{Reads, Taken, ahead, argument_from, arguments_from, bad, bytes_from, digits_from, first_digit, first_digit_of, mode_from, next_digit, next_octal, number_by, number_from, octal_from, second_digit, some_bytes, space_at, step_of, taken, then_read, word_from}
use Rattle.qx_words.proofs.SpelledWords.{Says, Stands, half, says, slash, whole}
use Rattle.qx_words.proofs.SpelledArguments.{IsFront, argument_taken, spells_filled}
use Rattle.qx_words.proofs.SameFronts.{place_of, place_put}
use Rattle.qx_words.proofs.WordSteps.{by_first, by_step, digits_by, digits_first, octal_by, octal_first}

-- bytes go on from `at` to `place` as the front of something that is so, and some more within the limit completes it
pub record Completes (is_so : List ℕ → Type 0) (at : ℕ) (bytes : List ℕ) (place limit : ℕ) : Type 0 where
  pub front : List ℕ
  pub tail : List ℕ
  pub rest : List ℕ
  pub split : bytes ≡ front ++ tail
  pub place_is : place ≡ at + length front
  pub is : is_so (front ++ rest)
  pub room : place + length rest ≤ limit

-- two places where reading goes wrong are one
pub one_place : {A : Type 0} (p q : ℕ) → bad {A = A} p ≡ bad q → p ≡ q
one_place p q e = cc

-- ---- byte words

-- so many bytes are wanting to a byte that is begun
abbrev left_of : Part → ℕ
left_of part.Whole = 0
left_of part.Escaped = 2
left_of (part.Half high) = 1

-- what is left after a step has room
abbrev HasRoom : Part → ℕ → ℕ → WordStep → Type 0
HasRoom p at stop (step.Whole b) = at + 1 ≤ stop
HasRoom p at stop (step.Inside q) = at + 1 + left_of q ≤ stop
HasRoom p at stop step.Ends = Unit {0}
HasRoom p at stop step.Fails = 0 < left_of p

room_first : (at stop c : ℕ) (p low slashed room : Bool) → nat_lt at stop ≡ low → nat_le (at + 3) stop ≡ room
    → HasRoom part.Whole at stop (if p && low then step.Whole c else (if slashed && room then step.Inside part.Escaped else step.Ends))
room_first at stop c true true slashed room l r = grind (arith, nat_tests)
room_first at stop c true false true true l r = grind (arith, nat_tests)
room_first at stop c true false true false l r = tt
room_first at stop c true false false room l r = tt
room_first at stop c false low true true l r = grind (arith, nat_tests)
room_first at stop c false low true false l r = tt
room_first at stop c false low false room l r = tt

room_high : (at stop : ℕ) (o : Option ℕ) → at + 2 ≤ stop → HasRoom part.Escaped at stop (first_digit o)
room_high at stop None h = omega arith
room_high at stop (Some d) h = omega (arith, h)

room_low : (high at stop : ℕ) (o : Option ℕ) → at + 1 ≤ stop → HasRoom (part.Half high) at stop (second_digit high o)
room_low high at stop None h = omega arith
room_low high at stop (Some d) h = h

has_room : (p : Part) (at stop c : ℕ) → at + left_of p ≤ stop → HasRoom p at stop (step_of p at stop c)
has_room part.Whole at stop c h = room_first at stop c (is_plain c) (nat_lt at stop) (c == 92) (nat_le (at + 3) stop) refl refl
has_room part.Escaped at stop c h = room_high at stop (hex_value c) h
has_room (part.Half high) at stop c h = room_low high at stop (hex_value c) h

-- a spelled word that isn't empty
abbrev IsSpelt : List ℕ → List ℕ → Type 0
IsSpelt before w = (v : List ℕ) × Spells (before ++ w) v × (0 < length v)

-- a byte that is begun is completed by digits `0`
completed_byte : (p : Part) (before bytes : List ℕ) (at stop q : ℕ) → Stands p before → 0 < left_of p → at + left_of p ≤ stop → at ≡ q → Completes (IsSpelt before) at bytes q stop
completed_byte part.Whole before bytes at stop q whole h room e = absurd (omega (arith, h))
completed_byte part.Escaped before bytes at stop q slash h room e =
    record { front = []; tail = bytes; rest = 48 ∷ 48 ∷ []; split = refl; place_is = omega (arith, e); is = (0 ∷ [], more (escaped 48 48 0 0 refl refl) nothing, omega arith); room = omega (arith, room, e) }
completed_byte (part.Half _) before bytes at stop q (half high d is) h room e =
    record { front = []; tail = bytes; rest = 48 ∷ []; split = refl; place_is = omega (arith, e); is = ((16 * d + 0) ∷ [], more (escaped high 48 d 0 is refl) nothing, omega arith); room = omega (arith, room, e) }

-- a byte of the line belongs to what was read
one_more : (before bytes : List ℕ) (c at q stop : ℕ) → Completes (IsSpelt (before ++ c ∷ [])) (at + 1) bytes q stop → Completes (IsSpelt before) at (c ∷ bytes) q stop
one_more before bytes c at q stop k = record {
  front = c ∷ k.front;
  tail = k.tail;
  rest = k.rest;
  split = ap (λ (xs : List ℕ). c ∷ xs) k.split;
  place_is = omega (arith, k.place_is);
  is = (k.is.0, subst (λ (xs : List ℕ). Spells xs k.is.0) (append_assoc before (c ∷ []) (k.front ++ k.rest)) k.is.1, k.is.2);
  room = k.room;
}

-- a whole byte, and what goes on behind it
whole_more : (before bytes : List ℕ) (c b at q stop : ℕ) → Says before c (step.Whole b) → Completes (IsSpelt []) (at + 1) bytes q stop → Completes (IsSpelt before) at (c ∷ bytes) q stop
whole_more before bytes c b at q stop stands k = one_more before bytes c at q stop (record {
  front = k.front;
  tail = k.tail;
  rest = k.rest;
  split = k.split;
  place_is = k.place_is;
  is = (b ∷ k.is.0, more stands k.is.1, omega arith);
  room = k.room;
})

-- a byte word that goes wrong inside a byte
is_further_digit : (p : Part) (before : List ℕ) (at stop : ℕ) (bytes : List ℕ) (q : ℕ) → Stands p before → at + left_of p ≤ stop → bytes_from p at stop bytes ≡ bad q → Completes (IsSpelt before) at bytes q stop
is_further_digit part.Whole before at stop [] q stands room wrong = absurd (cc)
is_further_digit part.Escaped before at stop [] q stands room wrong = completed_byte part.Escaped before [] at stop q stands (omega arith) room (one_place at q wrong)
is_further_digit (part.Half high) before at stop [] q stands room wrong = completed_byte (part.Half high) before [] at stop q stands (omega arith) room (one_place at q wrong)
is_further_digit p before at stop (c ∷ cs) q stands room wrong =
    by_said (step_of p at stop c) (says p before at stop c stands) (has_room p at stop c room) (sym (by_first p at stop (c ∷ cs)) ∙ wrong)
    (λ h k. is_further_digit part.Whole [] (at + 1) stop cs q whole (omega (arith, h)) k)
    (λ r s h k. is_further_digit r (before ++ c ∷ []) (at + 1) stop cs q s h k)
  where
    behind : (b : ℕ) (r : Reads (List ℕ)) → ahead (b ∷ []) r ≡ bad q → r ≡ bad q
    behind b (Ok t) e = absurd (cc)
    behind b (Err f) e = cc

    by_said : (s : WordStep) → Says before c s → HasRoom p at stop s → by_step s at stop cs ≡ bad q
        → (at + 1 ≤ stop → bytes_from part.Whole (at + 1) stop cs ≡ bad q → Completes (IsSpelt []) (at + 1) cs q stop)
        → ((r : Part) → Stands r (before ++ c ∷ []) → at + 1 + left_of r ≤ stop → bytes_from r (at + 1) stop cs ≡ bad q → Completes (IsSpelt (before ++ c ∷ [])) (at + 1) cs q stop)
        → Completes (IsSpelt before) at (c ∷ cs) q stop
    by_said (step.Whole b) said h k first inside = whole_more before cs c b at q stop said (first h (behind b (bytes_from part.Whole (at + 1) stop cs) k))
    by_said (step.Inside r) said h k first inside = one_more before cs c at q stop (inside r said h k)
    by_said step.Ends said h k first inside = absurd (cc)
    by_said step.Fails said h k first inside = completed_byte p before (c ∷ cs) at stop q stands h room (one_place at q k)

-- a byte word that goes wrong
word_completes : (at stop : ℕ) (bytes : List ℕ) (q : ℕ) → at < stop → word_from at stop bytes ≡ bad q → Completes (λ w. (v : List ℕ) × IsByteWord w v) at bytes q stop
unfolding word_from
word_completes at stop bytes q low wrong = by_result (bytes_from part.Whole at stop bytes) refl wrong
  where
    by_result : (r : Reads (List ℕ)) → bytes_from part.Whole at stop bytes ≡ r → some_bytes at r ≡ bad q → Completes (λ w. (v : List ℕ) × IsByteWord w v) at bytes q stop
    by_result (Err e) is got =
        let k = is_further_digit part.Whole [] at stop bytes q whole (omega (arith, low)) (is ∙ got) in
        record { front = k.front; tail = k.tail; rest = k.rest; split = k.split; place_is = k.place_is; is = (k.is.0, (spells_filled (k.front ++ k.rest) k.is.0 k.is.1 k.is.2, k.is.1)); room = k.room }
    by_result (Ok t) is got = by_value t.value got
      where
        by_value : (vs : List ℕ) → some_bytes at (taken vs t.place) ≡ bad q → Completes (λ w. (v : List ℕ) × IsByteWord w v) at bytes q stop
        by_value [] e =
            let same = one_place at q e in
            record { front = []; tail = bytes; rest = 49 ∷ []; split = refl; place_is = omega (arith, same); is = (49 ∷ [], (omega arith, more (itself 49 refl) nothing)); room = omega (arith, same, low) }
        by_value (b ∷ bs) e = absurd (cc)

-- ---- numbers and modes

-- the number 1
pub one_is : (low limit : ℕ) → low ≤ 1 → 1 ≤ limit → IsNumber low limit (49 ∷ []) 1
one_is low limit h l = (sym (decimal_digit 1 (omega arith)), h, l)

pub number_completes : (low limit at stop : ℕ) (bytes : List ℕ) (q : ℕ) → low ≤ 1 → 1 ≤ limit → at < stop → number_from low limit at stop bytes ≡ bad q → Completes (λ w. (v : ℕ) × IsNumber low limit w v) at bytes q stop
unfolding number_from
number_completes low limit at stop bytes q h l room wrong = by_first (first_digit_of low at stop bytes) wrong
  where
    by_first : (o : Option ℕ) → number_by o limit at stop bytes ≡ bad q → Completes (λ w. (v : ℕ) × IsNumber low limit w v) at bytes q stop
    by_first (Some m) e = absurd (cc)
    by_first None e =
        let same = one_place at q e in
        record { front = []; tail = bytes; rest = 49 ∷ []; split = refl; place_is = omega (arith, same); is = (1, one_is low limit h l); room = omega (arith, same, room) }

mode_completes : (at stop : ℕ) (bytes : List ℕ) (q : ℕ) → at < stop → mode_from at stop bytes ≡ bad q → Completes (λ w. (v : ℕ) × IsMode w v) at bytes q stop
unfolding mode_from
mode_completes at stop bytes q room wrong = by_test (octal_from 4 at stop 0 bytes) ((octal_from 4 at stop 0 bytes).place == at) wrong
  where
    by_test : (t : Taken ℕ) (b : Bool) → (if b then bad at else Ok t) ≡ bad q → Completes (λ w. (v : ℕ) × IsMode w v) at bytes q stop
    by_test t false e = absurd (cc)
    by_test t true e =
        let same = one_place at q e in
        record { front = []; tail = bytes; rest = 49 ∷ []; split = refl; place_is = omega (arith, same); is = (1, (refl, omega arith, omega arith, refl)); room = omega (arith, same, room) }

-- ---- arguments

-- a word says a value, which is put among the arguments
abbrev Puts : {A : Type 0} → (List ℕ → A → Type 0) → (A → Arguments) → List ℕ → Arguments → Type 0
Puts {A} P f w b = (v : A) × P w v × (b ≡ f v)

-- a value that goes wrong, among the arguments
put_completes : {A : Type 0} (P : List ℕ → A → Type 0) (r : Reads A) (f : A → Arguments) (at : ℕ) (bytes : List ℕ) (q stop : ℕ)
    → (r ≡ bad q → Completes (λ w. (v : A) × P w v) at bytes q stop) → then_read r (λ t. taken (f t.value) t.place) ≡ bad q
    → Completes (λ w. (b : Arguments) × Puts P f w b) at bytes q stop
put_completes P (Ok t) f at bytes q stop next wrong = absurd (cc)
put_completes P (Err e) f at bytes q stop next wrong =
    let k = next cc in
    record { front = k.front; tail = k.tail; rest = k.rest; split = k.split; place_is = k.place_is; is = (f k.is.0, (k.is.0, k.is.1, refl)); room = k.room }

argument_completes : (x : Argument) (at stop : ℕ) (bytes : List ℕ) (a : Arguments) (q : ℕ) → at < stop → argument_from x at stop bytes a ≡ bad q → Completes (λ w. (b : Arguments) × IsArgument x w a b) at bytes q stop
unfolding argument_from
argument_completes argument.Path at stop bytes a q h e = put_completes IsByteWord (word_from at stop bytes) (λ w. record a { path = w }) at bytes q stop (word_completes at stop bytes q h) e
argument_completes argument.Other at stop bytes a q h e = put_completes IsByteWord (word_from at stop bytes) (λ w. record a { other = w }) at bytes q stop (word_completes at stop bytes q h) e
argument_completes argument.At at stop bytes a q h e = put_completes (IsNumber 0 (2 ^ 64 - 1)) (number_from 0 (2 ^ 64 - 1) at stop bytes) (λ n. record a { at = n }) at bytes q stop (number_completes 0 (2 ^ 64 - 1) at stop bytes q (omega arith) (omega arith) h) e
argument_completes argument.Count at stop bytes a q h e = put_completes (IsNumber 0 65536) (number_from 0 65536 at stop bytes) (λ n. record a { count = n }) at bytes q stop (number_completes 0 65536 at stop bytes q (omega arith) (omega arith) h) e
argument_completes argument.FillCount at stop bytes a q h e = put_completes (IsNumber 1 (2 ^ 48)) (number_from 1 (2 ^ 48) at stop bytes) (λ n. record a { fill = n }) at bytes q stop (number_completes 1 (2 ^ 48) at stop bytes q (omega arith) (omega arith) h) e
argument_completes argument.Byte at stop bytes a q h e = put_completes (IsNumber 0 255) (number_from 0 255 at stop bytes) (λ n. record a { byte = n }) at bytes q stop (number_completes 0 255 at stop bytes q (omega arith) (omega arith) h) e
argument_completes argument.Mode at stop bytes a q h e = put_completes IsMode (mode_from at stop bytes) (λ n. record a { mode = n }) at bytes q stop (mode_completes at stop bytes q h) e
argument_completes argument.Uid at stop bytes a q h e = put_completes (IsNumber 0 (2 ^ 32 - 1)) (number_from 0 (2 ^ 32 - 1) at stop bytes) (λ n. record a { uid = n }) at bytes q stop (number_completes 0 (2 ^ 32 - 1) at stop bytes q (omega arith) (omega arith) h) e
argument_completes argument.Gid at stop bytes a q h e = put_completes (IsNumber 0 (2 ^ 32 - 1)) (number_from 0 (2 ^ 32 - 1) at stop bytes) (λ n. record a { gid = n }) at bytes q stop (number_completes 0 (2 ^ 32 - 1) at stop bytes q (omega arith) (omega arith) h) e
argument_completes argument.Atime at stop bytes a q h e = put_completes (IsNumber 0 (2 ^ 32 - 1)) (number_from 0 (2 ^ 32 - 1) at stop bytes) (λ n. record a { atime = n }) at bytes q stop (number_completes 0 (2 ^ 32 - 1) at stop bytes q (omega arith) (omega arith) h) e
argument_completes argument.Mtime at stop bytes a q h e = put_completes (IsNumber 0 (2 ^ 32 - 1)) (number_from 0 (2 ^ 32 - 1) at stop bytes) (λ n. record a { mtime = n }) at bytes q stop (number_completes 0 (2 ^ 32 - 1) at stop bytes q (omega arith) (omega arith) h) e

-- the word `1` is any argument
least_word : (x : Argument) (a : Arguments) → (b : Arguments) × IsArgument x (49 ∷ []) a b
least_word argument.Path a = (record a { path = 49 ∷ [] }, (49 ∷ [], (omega arith, more (itself 49 refl) nothing), refl))
least_word argument.Other a = (record a { other = 49 ∷ [] }, (49 ∷ [], (omega arith, more (itself 49 refl) nothing), refl))
least_word argument.At a = (record a { at = 1 }, (1, one_is 0 (2 ^ 64 - 1) (omega arith) (omega arith), refl))
least_word argument.Count a = (record a { count = 1 }, (1, one_is 0 65536 (omega arith) (omega arith), refl))
least_word argument.FillCount a = (record a { fill = 1 }, (1, one_is 1 (2 ^ 48) (omega arith) (omega arith), refl))
least_word argument.Byte a = (record a { byte = 1 }, (1, one_is 0 255 (omega arith) (omega arith), refl))
least_word argument.Mode a = (record a { mode = 1 }, (1, (refl, omega arith, omega arith, refl), refl))
least_word argument.Uid a = (record a { uid = 1 }, (1, one_is 0 (2 ^ 32 - 1) (omega arith) (omega arith), refl))
least_word argument.Gid a = (record a { gid = 1 }, (1, one_is 0 (2 ^ 32 - 1) (omega arith) (omega arith), refl))
least_word argument.Atime a = (record a { atime = 1 }, (1, one_is 0 (2 ^ 32 - 1) (omega arith) (omega arith), refl))
least_word argument.Mtime a = (record a { mtime = 1 }, (1, one_is 0 (2 ^ 32 - 1) (omega arith) (omega arith), refl))

-- arguments of two bytes each
pub record Least (xs : List Argument) (a : Arguments) : Type 0 where
  pub bytes : List ℕ
  pub said : Arguments
  pub are : AreArguments xs bytes a said
  pub long : length bytes ≡ 2 * length xs

pub least : (xs : List Argument) (a : Arguments) → Least xs a
least [] a = record { bytes = []; said = a; are = (refl, refl); long = omega arith }
least (x ∷ xs) a =
    let first = least_word x a in
    let k = least xs first.0 in
    record { bytes = 32 ∷ 49 ∷ k.bytes; said = k.said; are = (49 ∷ [], k.bytes, first.0, refl, first.1, k.are); long = omega (arith, k.long) }

-- ---- where words end

-- a byte word ends within what it may take
word_within : (p : Part) (before : List ℕ) (at stop : ℕ) (bytes : List ℕ) → at + left_of p ≤ stop → place_of (bytes_from p at stop bytes) ≤ stop
word_within part.Whole before at stop [] room = omega (arith, room)
word_within part.Escaped before at stop [] room = omega (arith, room)
word_within (part.Half high) before at stop [] room = omega (arith, room)
word_within p before at stop (c ∷ cs) room =
    subst (λ (r : Reads (List ℕ)). place_of r ≤ stop) (sym (by_first p at stop (c ∷ cs)))
    (by_said (step_of p at stop c) (has_room p at stop c room) (λ q h. word_within q [] (at + 1) stop cs h))
  where
    ahead_within : (b : ℕ) (r : Reads (List ℕ)) → place_of r ≤ stop → place_of (ahead (b ∷ []) r) ≤ stop
    ahead_within b (Ok t) h = h
    ahead_within b (Err e) h = h

    by_said : (s : WordStep) → HasRoom p at stop s → ((q : Part) → at + 1 + left_of q ≤ stop → place_of (bytes_from q (at + 1) stop cs) ≤ stop) → place_of (by_step s at stop cs) ≤ stop
    by_said (step.Whole b) h next = ahead_within b (bytes_from part.Whole (at + 1) stop cs) (next part.Whole (omega (arith, h)))
    by_said (step.Inside q) h next = next q h
    by_said step.Ends h next = omega (arith, room)
    by_said step.Fails h next = omega (arith, room)

filled_within : (at stop : ℕ) (bytes : List ℕ) → at ≤ stop → place_of (word_from at stop bytes) ≤ stop
unfolding word_from
filled_within at stop bytes room = by_result (bytes_from part.Whole at stop bytes) (word_within part.Whole [] at stop bytes (omega (arith, room)))
  where
    by_value : (vs : List ℕ) (p : ℕ) → p ≤ stop → place_of (some_bytes at (taken vs p)) ≤ stop
    by_value [] p h = room
    by_value (b ∷ bs) p h = h

    by_result : (r : Reads (List ℕ)) → place_of r ≤ stop → place_of (some_bytes at r) ≤ stop
    by_result (Ok t) h = by_value t.value t.place h
    by_result (Err e) h = h

-- a digit that is taken stands before the stop
next_low : (limit at stop n : ℕ) (bytes : List ℕ) (m : ℕ) → next_digit limit at stop n bytes ≡ Some m → at < stop
next_low limit at stop n [] m e = absurd (cc)
next_low limit at stop n (c ∷ cs) m e = grind (arith, nat_tests)

octal_low : (left at stop n : ℕ) (bytes : List ℕ) (m : ℕ) → next_octal left at stop n bytes ≡ Some m → at < stop
octal_low left at stop n [] m e = absurd (cc)
octal_low left at stop n (c ∷ cs) m e = grind (arith, nat_tests)

first_low : (low at stop : ℕ) (bytes : List ℕ) (m : ℕ) → first_digit_of low at stop bytes ≡ Some m → at < stop
first_low low at stop [] m e = absurd (cc)
first_low low at stop (c ∷ cs) m e = grind (arith, nat_tests)

digits_within : (limit at stop n : ℕ) (bytes : List ℕ) → at ≤ stop → (digits_from limit at stop n bytes).place ≤ stop
unfolding digits_by
digits_within limit at stop n [] room = room
digits_within limit at stop n (c ∷ cs) room =
    subst (λ (r : Taken ℕ). r.place ≤ stop) (sym (digits_first limit at stop n (c ∷ cs)))
    (by_next (next_digit limit at stop n (c ∷ cs)) refl (λ m h. digits_within limit (at + 1) stop m cs h))
  where
    by_next : (o : Option ℕ) → next_digit limit at stop n (c ∷ cs) ≡ o → ((m : ℕ) → at + 1 ≤ stop → (digits_from limit (at + 1) stop m cs).place ≤ stop) → (digits_by limit at stop n o cs).place ≤ stop
    by_next None e next = room
    by_next (Some m) e next = let h = next_low limit at stop n (c ∷ cs) m e in next m (omega (arith, h))

octal_within : (left at stop n : ℕ) (bytes : List ℕ) → at ≤ stop → (octal_from left at stop n bytes).place ≤ stop
unfolding octal_by
octal_within left at stop n [] room = room
octal_within left at stop n (c ∷ cs) room =
    subst (λ (r : Taken ℕ). r.place ≤ stop) (sym (octal_first left at stop n (c ∷ cs)))
    (by_next (next_octal left at stop n (c ∷ cs)) refl (λ m h. octal_within (left - 1) (at + 1) stop m cs h))
  where
    by_next : (o : Option ℕ) → next_octal left at stop n (c ∷ cs) ≡ o → ((m : ℕ) → at + 1 ≤ stop → (octal_from (left - 1) (at + 1) stop m cs).place ≤ stop) → (octal_by left at stop n o cs).place ≤ stop
    by_next None e next = room
    by_next (Some m) e next = let h = octal_low left at stop n (c ∷ cs) m e in next m (omega (arith, h))

number_within : (low limit at stop : ℕ) (bytes : List ℕ) → at ≤ stop → place_of (number_from low limit at stop bytes) ≤ stop
unfolding number_from
number_within low limit at stop bytes room = by_first (first_digit_of low at stop bytes) refl
  where
    by_first : (o : Option ℕ) → first_digit_of low at stop bytes ≡ o → place_of (number_by o limit at stop bytes) ≤ stop
    by_first None e = room
    by_first (Some m) e = let h = first_low low at stop bytes m e in digits_within limit (at + 1) stop m (drop 1 bytes) (omega (arith, h))

mode_within : (at stop : ℕ) (bytes : List ℕ) → at ≤ stop → place_of (mode_from at stop bytes) ≤ stop
unfolding mode_from
mode_within at stop bytes room = by_test (octal_from 4 at stop 0 bytes) (octal_within 4 at stop 0 bytes room) ((octal_from 4 at stop 0 bytes).place == at)
  where
    by_test : (t : Taken ℕ) → t.place ≤ stop → (b : Bool) → place_of (if b then bad at else Ok t) ≤ stop
    by_test t h true = room
    by_test t h false = h

put_within : {A : Type 0} (r : Reads A) (f : A → Arguments) (stop : ℕ) → place_of r ≤ stop → place_of (then_read r (λ t. taken (f t.value) t.place)) ≤ stop
put_within r f stop h = let e = place_put r f in omega (arith, e, h)

pub argument_within : (x : Argument) (at stop : ℕ) (bytes : List ℕ) (a : Arguments) → at ≤ stop → place_of (argument_from x at stop bytes a) ≤ stop
unfolding argument_from
argument_within argument.Path at stop bytes a h = put_within (word_from at stop bytes) (λ w. record a { path = w }) stop (filled_within at stop bytes h)
argument_within argument.Other at stop bytes a h = put_within (word_from at stop bytes) (λ w. record a { other = w }) stop (filled_within at stop bytes h)
argument_within argument.At at stop bytes a h = put_within (number_from 0 (2 ^ 64 - 1) at stop bytes) (λ v. record a { at = v }) stop (number_within 0 (2 ^ 64 - 1) at stop bytes h)
argument_within argument.Count at stop bytes a h = put_within (number_from 0 65536 at stop bytes) (λ v. record a { count = v }) stop (number_within 0 65536 at stop bytes h)
argument_within argument.FillCount at stop bytes a h = put_within (number_from 1 (2 ^ 48) at stop bytes) (λ v. record a { fill = v }) stop (number_within 1 (2 ^ 48) at stop bytes h)
argument_within argument.Byte at stop bytes a h = put_within (number_from 0 255 at stop bytes) (λ v. record a { byte = v }) stop (number_within 0 255 at stop bytes h)
argument_within argument.Mode at stop bytes a h = put_within (mode_from at stop bytes) (λ v. record a { mode = v }) stop (mode_within at stop bytes h)
argument_within argument.Uid at stop bytes a h = put_within (number_from 0 (2 ^ 32 - 1) at stop bytes) (λ v. record a { uid = v }) stop (number_within 0 (2 ^ 32 - 1) at stop bytes h)
argument_within argument.Gid at stop bytes a h = put_within (number_from 0 (2 ^ 32 - 1) at stop bytes) (λ v. record a { gid = v }) stop (number_within 0 (2 ^ 32 - 1) at stop bytes h)
argument_within argument.Atime at stop bytes a h = put_within (number_from 0 (2 ^ 32 - 1) at stop bytes) (λ v. record a { atime = v }) stop (number_within 0 (2 ^ 32 - 1) at stop bytes h)
argument_within argument.Mtime at stop bytes a h = put_within (number_from 0 (2 ^ 32 - 1) at stop bytes) (λ v. record a { mtime = v }) stop (number_within 0 (2 ^ 32 - 1) at stop bytes h)

-- ---- arguments one after another

-- what is wanted of arguments that go wrong
abbrev pub GoOn : List Argument → Arguments → ℕ → List ℕ → ℕ → Type 0
GoOn xs a at bytes q = Completes (λ w. (b : Arguments) × AreArguments xs w a b) at bytes q line_limit

-- an argument that goes wrong, with the shortest ones behind it
wrong_here : (x : Argument) (xs : List Argument) (at q : ℕ) (line cs : List ℕ) (a : Arguments) → at + 2 * length (x ∷ xs) ≤ line_limit → drop at line ≡ 32 ∷ cs → drop (at + 1) line ≡ cs
    → Completes (λ w. (b : Arguments) × IsArgument x w a b) (at + 1) (drop (at + 1) line) q (line_limit - 2 * length xs) → GoOn (x ∷ xs) a at (drop at line) q
wrong_here x xs at q line cs a room split behind k =
    let next = least xs k.is.0 in
    record {
      front = 32 ∷ k.front;
      tail = k.tail;
      rest = k.rest ++ next.bytes;
      split = split ∙ ap (λ (ys : List ℕ). 32 ∷ ys) (sym behind ∙ k.split);
      place_is = omega (arith, k.place_is);
      is = (next.said, (k.front ++ k.rest, next.bytes, k.is.0, ap (λ (ys : List ℕ). 32 ∷ ys) (sym (append_assoc k.front k.rest next.bytes)), k.is.1, next.are));
      room = let n = length-append k.rest next.bytes in omega (arith, n, next.long, k.room, room);
    }

-- one that goes wrong behind an argument
wrong_behind : (x : Argument) (xs : List Argument) (at q : ℕ) (line cs : List ℕ) (a : Arguments) (t : Taken Arguments) → drop at line ≡ 32 ∷ cs → drop (at + 1) line ≡ cs
    → IsFront (λ w. IsArgument x w a t.value) (at + 1) (drop (at + 1) line) t.place → GoOn xs t.value t.place (drop t.place line) q → GoOn (x ∷ xs) a at (drop at line) q
wrong_behind x xs at q line cs a t split behind k m =
    let last : drop t.place line ≡ k.rest
    = ap (λ (p : ℕ). drop p line) k.place_is ∙ sym (drop-drop (length k.front) (at + 1) line) ∙ ap (λ (ys : List ℕ). drop (length k.front) ys) k.split ∙ drop-append_seam k.front k.rest in
    record {
      front = 32 ∷ k.front ++ m.front;
      tail = m.tail;
      rest = m.rest;
      split = split ∙ ap (λ (ys : List ℕ). 32 ∷ ys) (sym behind ∙ k.split ∙ ap (λ (ys : List ℕ). k.front ++ ys) (sym last ∙ m.split) ∙ sym (append_assoc k.front m.front m.tail));
      place_is = let n = length-append (32 ∷ k.front) m.front in omega (arith, n, m.place_is, k.place_is);
      is = (m.is.0, (k.front, m.front ++ m.rest, t.value, ap (λ (ys : List ℕ). 32 ∷ ys) (append_assoc k.front m.front m.rest), k.is, m.is.1));
      room = m.room;
    }

-- arguments that go wrong can be completed
pub arguments_complete : (xs : List Argument) (at : ℕ) (line : List ℕ) (a : Arguments) (q : ℕ) → at + 2 * length xs ≤ line_limit → arguments_from xs at line a ≡ bad q → GoOn xs a at (drop at line) q
arguments_complete [] at line a q room wrong = absurd (cc)
arguments_complete (x ∷ xs) at line a q room wrong = by_space (drop at line) refl wrong (λ t h k. arguments_complete xs t.place line t.value q h k)
  where
    none : at ≡ q → GoOn (x ∷ xs) a at (drop at line) q
    none e =
        let k = least (x ∷ xs) a in
        record { front = []; tail = drop at line; rest = k.bytes; split = refl; place_is = omega (arith, e); is = (k.said, k.are); room = omega (arith, k.long, room, e) }

    by_argument : (cs : List ℕ) → drop at line ≡ 32 ∷ cs → drop (at + 1) line ≡ cs → (r : Reads Arguments) → argument_from x (at + 1) (line_limit - 2 * length xs) (drop (at + 1) line) a ≡ r
        → place_of r ≤ line_limit - 2 * length xs → then_read r (λ t. arguments_from xs t.place line t.value) ≡ bad q
        → ((t : Taken Arguments) → t.place + 2 * length xs ≤ line_limit → arguments_from xs t.place line t.value ≡ bad q → GoOn xs t.value t.place (drop t.place line) q)
        → GoOn (x ∷ xs) a at (drop at line) q
    by_argument cs split behind (Err e) is low got next =
        wrong_here x xs at q line cs a room split behind (argument_completes x (at + 1) (line_limit - 2 * length xs) (drop (at + 1) line) a q (omega (arith, room)) (is ∙ got))
    by_argument cs split behind (Ok t) is low got next =
        wrong_behind x xs at q line cs a t split behind (argument_taken x (at + 1) (line_limit - 2 * length xs) (drop (at + 1) line) a t is) (next t (omega (arith, low, room)) got)

    by_byte : (c : ℕ) (cs : List ℕ) → drop at line ≡ c ∷ cs → (b : Bool) → (c == 32) ≡ b
        → then_read (if b then Ok (at + 1) else bad at) (λ p. then_read (argument_from x p (line_limit - 2 * length xs) (drop p line) a) (λ t. arguments_from xs t.place line t.value)) ≡ bad q
        → ((t : Taken Arguments) → t.place + 2 * length xs ≤ line_limit → arguments_from xs t.place line t.value ≡ bad q → GoOn xs t.value t.place (drop t.place line) q)
        → GoOn (x ∷ xs) a at (drop at line) q
    by_byte c cs split false is got next = none (one_place at q got)
    by_byte c cs split true is got next =
        let here : drop at line ≡ 32 ∷ cs = split ∙ ap (λ (d : ℕ). d ∷ cs) ((Decides-eqb c 32).0 is) in
        by_argument cs here (sym (drop-drop 1 at line) ∙ ap (λ (ys : List ℕ). drop 1 ys) here) (argument_from x (at + 1) (line_limit - 2 * length xs) (drop (at + 1) line) a) refl
        (argument_within x (at + 1) (line_limit - 2 * length xs) (drop (at + 1) line) a (omega (arith, room))) got next

    by_space : (ys : List ℕ) → drop at line ≡ ys
        → then_read (space_at at ys) (λ p. then_read (argument_from x p (line_limit - 2 * length xs) (drop p line) a) (λ t. arguments_from xs t.place line t.value)) ≡ bad q
        → ((t : Taken Arguments) → t.place + 2 * length xs ≤ line_limit → arguments_from xs t.place line t.value ≡ bad q → GoOn xs t.value t.place (drop t.place line) q)
        → GoOn (x ∷ xs) a at (drop at line) q
    by_space [] split got next = none (one_place at q got)
    by_space (c ∷ cs) split got next = by_byte c cs split (c == 32) refl got next
