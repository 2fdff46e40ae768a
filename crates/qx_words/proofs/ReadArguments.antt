-- Arguments of the grammar are read.
use Rattle.std.proofs.Common.{◌≡◌, ℕ, ◌+◌, ◌*◌, ◌-◌, ◌^◌, ◌<◌, ◌≤◌, Bool, true, false, List, [], ◌∷◌, ◌++◌, length, drop, refl, sym, ap, subst, ◌∙◌, arith, decimal}
use Rattle.std.specs.Prelude.{◌&&◌, nat_lt, fold}
use Rattle.std.specs.List.{list_all}
use Rattle.std.proofs.lemmas.List.{drop-drop, length-append}
use Rattle.std.proofs.Math.Seq.{drop-append_seam}
use Rattle.std.proofs.lemmas.Bool.Decides.{nat_tests}
use Rattle.std.proofs.lemmas.Fmt.{decimal_nonempty}
use Rattle.qx_words.specs.declared.grammar.Argument.{Argument}
use Rattle.qx_words.specs.declared.grammar.Argument.TheVariants as argument
use Rattle.qx_words.specs.declared.arguments.Arguments.{Arguments}
use Rattle.qx_words.specs.Numbers.{IsMode, is_octal_digit, octal_value}
use Rattle.qx_words.specs.Lines.{AreArguments, IsArgument, line_limit}
use Rattle.qx_words.specs.Reading.{Reads, Taken, argument_from, arguments_from, mode_from, octal_from, space_at, taken, then_read}
use Rattle.qx_words.proofs.ReadWords.{EndsWord, line_ends, read_byte_word, space}
use Rattle.qx_words.proofs.ReadNumbers.{read_number_word}
use Rattle.qx_words.proofs.WordSteps.{some_digits_there}

abbrev octal_end : ℕ → ℕ → Taken ℕ
octal_end value place = record { value = value; place = place }

-- a printed number has a digit
printed : (word : List ℕ) (n : ℕ) → word ≡ decimal n → n < 2 ^ 64 → 1 ≤ length word
printed word n e fits = let k = decimal_nonempty n fits in let m = ap (λ (ys : List ℕ). length ys) e in omega (arith, k, m)

-- octal digits are read
octal_read : (word rest : List ℕ) (left at stop m : ℕ) → list_all is_octal_digit word ≡ true → EndsWord rest → length word ≤ left → at + length word ≤ stop
    → octal_from left at stop m (word ++ rest) ≡ record { value = fold (λ v c. 8 * v + (c - 48)) m word; place = at + length word }
octal_read [] _ left at stop m all line_ends few room = ap (λ (p : ℕ). octal_end m p) (omega arith)
octal_read [] _ left at stop m all (space rest) few room = ap (λ (p : ℕ). octal_end m p) (omega arith)
octal_read (c ∷ cs) rest left at stop m all ends few room =
    let low : nat_lt at stop ≡ true = grind (arith, nat_tests) in
    let some : nat_lt 0 left ≡ true = grind (arith, nat_tests) in
    let both = split (is_octal_digit c) (list_all is_octal_digit cs) all in
    chosen (is_octal_digit c) (nat_lt at stop) (nat_lt 0 left) both.0 low some
    ∙ octal_read cs rest (left - 1) (at + 1) stop (8 * m + (c - 48)) both.1 ends (omega (arith, few)) (omega (arith, room))
    ∙ ap (λ (p : ℕ). octal_end (fold (λ v c. 8 * v + (c - 48)) (8 * m + (c - 48)) cs) p) (omega arith)
  where
    split : (a b : Bool) → (a && b) ≡ true → (a ≡ true) × (b ≡ true)
    split true true e = (refl, refl)
    split true false e = absurd (cc)
    split false b e = absurd (cc)

    chosen : (a b d : Bool) → a ≡ true → b ≡ true → d ≡ true
        → elim (a && (b && d)) [ true ↦ octal_from (left - 1) (at + 1) stop (8 * m + (c - 48)) (cs ++ rest) | false ↦ record { value = m; place = at } ] ≡ octal_from (left - 1) (at + 1) stop (8 * m + (c - 48)) (cs ++ rest)
    chosen true true true p q r = refl
    chosen true true false p q r = absurd (cc)
    chosen true false d p q r = absurd (cc)
    chosen false b d p q r = absurd (cc)

-- a mode is read
read_mode_word : (word rest : List ℕ) (m at stop : ℕ) → IsMode word m → EndsWord rest → at + length word ≤ stop → mode_from at stop (word ++ rest) ≡ taken m (at + length word)
unfolding mode_from
read_mode_word word rest m at stop is ends room =
    some_digits_there at (octal_value word) (at + length word) (octal_from 4 at stop 0 (word ++ rest)) (octal_read word rest 4 at stop 0 is.0 ends is.2 room) (λ e. omega (arith, is.1, e))
    ∙ ap (λ (v : ℕ). taken v (at + length word)) (sym is.3)

-- a value that was read, put among the arguments
then_put : {A : Type 0} (x : Reads A) (v : A) (place : ℕ) (f : A → Arguments) (b : Arguments) → x ≡ taken v place → b ≡ f v → then_read x (λ t. taken (f t.value) t.place) ≡ taken b place
then_put x v place f b is same = ap (λ r. then_read r (λ t. taken (f t.value) t.place)) is ∙ ap (λ (k : Arguments). taken k place) (sym same)

-- one argument is read
read_argument_word : (x : Argument) (word rest : List ℕ) (a b : Arguments) (at stop : ℕ) → IsArgument x word a b → EndsWord rest → at + length word ≤ stop → argument_from x at stop (word ++ rest) a ≡ taken b (at + length word)
unfolding argument_from
read_argument_word argument.Path word rest a b at stop is ends room = then_put _ is.0 _ (λ w. record a { path = w }) b (read_byte_word word is.0 rest at stop is.1 ends room) is.2
read_argument_word argument.Other word rest a b at stop is ends room = then_put _ is.0 _ (λ w. record a { other = w }) b (read_byte_word word is.0 rest at stop is.1 ends room) is.2
read_argument_word argument.At word rest a b at stop is ends room = then_put _ is.0 _ (λ n. record a { at = n }) b (read_number_word 0 (2 ^ 64 - 1) word rest is.0 at stop (omega arith) (omega arith) is.1 ends room) is.2
read_argument_word argument.Count word rest a b at stop is ends room = then_put _ is.0 _ (λ n. record a { count = n }) b (read_number_word 0 65536 word rest is.0 at stop (omega arith) (omega arith) is.1 ends room) is.2
read_argument_word argument.FillCount word rest a b at stop is ends room = then_put _ is.0 _ (λ n. record a { fill = n }) b (read_number_word 1 (2 ^ 48) word rest is.0 at stop (omega arith) (omega arith) is.1 ends room) is.2
read_argument_word argument.Byte word rest a b at stop is ends room = then_put _ is.0 _ (λ n. record a { byte = n }) b (read_number_word 0 255 word rest is.0 at stop (omega arith) (omega arith) is.1 ends room) is.2
read_argument_word argument.Mode word rest a b at stop is ends room = then_put _ is.0 _ (λ n. record a { mode = n }) b (read_mode_word word rest is.0 at stop is.1 ends room) is.2
read_argument_word argument.Uid word rest a b at stop is ends room = then_put _ is.0 _ (λ n. record a { uid = n }) b (read_number_word 0 (2 ^ 32 - 1) word rest is.0 at stop (omega arith) (omega arith) is.1 ends room) is.2
read_argument_word argument.Gid word rest a b at stop is ends room = then_put _ is.0 _ (λ n. record a { gid = n }) b (read_number_word 0 (2 ^ 32 - 1) word rest is.0 at stop (omega arith) (omega arith) is.1 ends room) is.2
read_argument_word argument.Atime word rest a b at stop is ends room = then_put _ is.0 _ (λ n. record a { atime = n }) b (read_number_word 0 (2 ^ 32 - 1) word rest is.0 at stop (omega arith) (omega arith) is.1 ends room) is.2
read_argument_word argument.Mtime word rest a b at stop is ends room = then_put _ is.0 _ (λ n. record a { mtime = n }) b (read_number_word 0 (2 ^ 32 - 1) word rest is.0 at stop (omega arith) (omega arith) is.1 ends room) is.2

-- a word isn't empty, so arguments take two bytes each at least
word_filled : (x : Argument) (word : List ℕ) (a b : Arguments) → IsArgument x word a b → 1 ≤ length word
word_filled argument.Path word a b is = is.1.0
word_filled argument.Other word a b is = is.1.0
word_filled argument.Mode word a b is = is.1.1
word_filled argument.At word a b is = printed _ _ is.1.0 (omega (arith, is.1.2))
word_filled argument.Count word a b is = printed _ _ is.1.0 (omega (arith, is.1.2))
word_filled argument.FillCount word a b is = printed _ _ is.1.0 (omega (arith, is.1.2))
word_filled argument.Byte word a b is = printed _ _ is.1.0 (omega (arith, is.1.2))
word_filled argument.Uid word a b is = printed _ _ is.1.0 (omega (arith, is.1.2))
word_filled argument.Gid word a b is = printed _ _ is.1.0 (omega (arith, is.1.2))
word_filled argument.Atime word a b is = printed _ _ is.1.0 (omega (arith, is.1.2))
word_filled argument.Mtime word a b is = printed _ _ is.1.0 (omega (arith, is.1.2))

least_length : (xs : List Argument) (bytes : List ℕ) (a b : Arguments) → AreArguments xs bytes a b → 2 * length xs ≤ length bytes
least_length [] bytes a b is = omega arith
least_length (x ∷ xs) bytes a b is =
    let k = least_length xs is.1 is.2 b is.5 in
    let n = ap (λ (ys : List ℕ). length ys) is.3 in
    let m = length-append (32 ∷ is.0) is.1 in
    let w = word_filled x is.0 a is.2 is.4 in
    omega (arith, k, n, m, w)

-- behind a word stand further arguments or the end
pub ends_word : (xs : List Argument) (bytes : List ℕ) (a b : Arguments) → AreArguments xs bytes a b → EndsWord bytes
ends_word [] bytes a b is = subst EndsWord (sym is.0) line_ends
ends_word (x ∷ xs) bytes a b is = subst EndsWord (sym is.3) (space (is.0 ++ is.1))

-- all arguments are read
pub read_all : (xs : List Argument) (bytes : List ℕ) (a b : Arguments) (at : ℕ) (line : List ℕ) → AreArguments xs bytes a b → drop at line ≡ bytes → at + length bytes ≤ line_limit
    → arguments_from xs at line a ≡ taken b (at + length bytes)
read_all [] bytes a b at line is behind room = ap (λ (p : ℕ). taken a p) (none at bytes is.0) ∙ ap (λ (k : Arguments). taken k (at + length bytes)) (sym is.1)
  where
    none : (at : ℕ) (ys : List ℕ) → ys ≡ [] → at ≡ at + length ys
    none at ys e = let n = ap (λ (zs : List ℕ). length zs) e in omega (arith, n)
read_all (x ∷ xs) bytes a b at line is behind room =
    let word = is.0 in
    let rest = is.1 in
    let here : drop at line ≡ 32 ∷ (word ++ rest) = behind ∙ is.3 in
    let next : drop (at + 1) line ≡ word ++ rest = sym (drop-drop 1 at line) ∙ ap (λ (ys : List ℕ). drop 1 ys) here in
    let last : drop (at + 1 + length word) line ≡ rest = sym (drop-drop (length word) (at + 1) line) ∙ ap (λ (ys : List ℕ). drop (length word) ys) next ∙ drop-append_seam word rest in
    let n = ap (λ (ys : List ℕ). length ys) is.3 in
    let m = length-append (32 ∷ word) rest in
    let k = least_length xs rest is.2 b is.5 in
    let one = ap (λ (bs : List ℕ). argument_from x (at + 1) (line_limit - 2 * length xs) bs a) next
    ∙ read_argument_word x word rest a is.2 (at + 1) (line_limit - 2 * length xs) is.4 (ends_word xs rest is.2 b is.5) (omega (arith, n, m, k, room)) in
    ap (λ (ys : List ℕ). then_read (space_at at ys) (λ p. then_read (argument_from x p (line_limit - 2 * length xs) (drop p line) a) (λ t. arguments_from xs t.place line t.value))) here
    ∙ ap (λ (r : Reads Arguments). then_read r (λ t. arguments_from xs t.place line t.value)) one
    ∙ read_all xs rest is.2 b (at + 1 + length word) line is.5 last (omega (arith, n, m, room))
    ∙ ap (λ (p : ℕ). taken b p) (omega (arith, n, m))
