-- What is read depends on the bytes up to where it ends alone: lines that share these are read alike.
use Rattle.std.proofs.Common.{◌≡◌, ℕ, zero, suc, ◌+◌, ◌*◌, ◌-◌, ◌^◌, ◌<◌, ◌≤◌, Bool, true, false, List, [], ◌∷◌, length, drop, Option, Some, None, Ok, Err, refl, sym, ap, subst, ◌∙◌, arith}
use Rattle.std.specs.Prelude.{◌==◌, if◌then◌else◌, Result}
use Rattle.std.proofs.lemmas.Bool.Decides.{nat_tests}
use Rattle.qx_words.specs.declared.grammar.Argument.{Argument}
use Rattle.qx_words.specs.declared.grammar.Argument.TheVariants as argument
use Rattle.qx_words.specs.declared.arguments.Arguments.{Arguments}
use Rattle.qx_words.specs.declared.words.Part.{Part}
use Rattle.qx_words.specs.declared.words.Part.TheVariants as part
use Rattle.qx_words.specs.declared.words.WordStep.{WordStep}
use Rattle.qx_words.specs.declared.words.WordStep.TheVariants as step
use Rattle.qx_words.specs.declared.line.LineFault.{LineFault}
use Rattle.qx_words.specs.declared.line.LineFault.TheVariants as fault
use Rattle.qx_words.specs.ByteWords.{Spells, more, nothing}
use Rattle.qx_words.specs.Lines.{line_limit}
use Rattle.qx_words.specs.Reading.{Reads, Taken, ahead, argument_from, arguments_from, bad, bytes_from, digits_from, first_digit_of, mode_from, next_digit, next_octal, number_by, number_from, octal_from, some_bytes, some_digits, space_at, step_of, taken, then_read, word_from}
use Rattle.qx_words.proofs.SpelledWords.{spelled, whole}
use Rattle.qx_words.proofs.WordSteps.{by_first, by_step, digits_by, digits_first, octal_by, octal_first}

-- lists share their first n elements, and the one behind these
pub data Share : ℕ → List ℕ → List ℕ → Type 0 where
  here : (c : ℕ) (xs ys : List ℕ) → Share 0 (c ∷ xs) (c ∷ ys)
  later : (c n : ℕ) (xs ys : List ℕ) → Share n xs ys → Share (suc n) (c ∷ xs) (c ∷ ys)

-- both have so many
pub share_long : (n : ℕ) (xs ys : List ℕ) → Share n xs ys → (n < length xs) × (n < length ys)
share_long _ _ _ (here c xs ys) = (omega arith, omega arith)
share_long _ _ _ (later c n xs ys s) = let k = share_long n xs ys s in (omega (arith, k.0), omega (arith, k.1))

-- either way around
pub share_back : (n : ℕ) (xs ys : List ℕ) → Share n xs ys → Share n ys xs
share_back _ _ _ (here c xs ys) = here c ys xs
share_back _ _ _ (later c n xs ys s) = later c n ys xs (share_back n xs ys s)

-- behind the first k
share_behind : (k n m : ℕ) (xs ys : List ℕ) → m ≡ k + n → Share m xs ys → Share n (drop k xs) (drop k ys)
share_behind zero n m xs ys e s = subst (λ (j : ℕ). Share j xs ys) (omega (arith, e)) s
share_behind (suc k) n _ _ _ e (here c xs ys) = absurd (omega (arith, e))
share_behind (suc k) n _ _ _ e (later c m xs ys s) = share_behind k n m xs ys (omega (arith, e)) s

pub share_drop : (at n : ℕ) (xs ys : List ℕ) → at ≤ n → Share n xs ys → Share (n - at) (drop at xs) (drop at ys)
share_drop at n xs ys within s = share_behind at (n - at) n xs ys (omega (arith, within)) s

-- where reading ended, or failed
abbrev pub place_of : {A : Type 0} → Reads A → ℕ
place_of (Ok t) = t.place
place_of (Err (fault.BadLine at)) = at
place_of (Err fault.NoMemory) = 0

-- ---- byte words

place_ahead : (front : List ℕ) (r : Reads (List ℕ)) → place_of (ahead front r) ≡ place_of r
place_ahead front (Ok r) = refl
place_ahead front (Err e) = refl

-- no word ends before it begins
word_starts : (p : Part) (at stop : ℕ) (xs : List ℕ) → at ≤ place_of (bytes_from p at stop xs)
word_starts part.Whole at stop [] = omega arith
word_starts part.Escaped at stop [] = omega arith
word_starts (part.Half high) at stop [] = omega arith
word_starts p at stop (c ∷ cs) = subst (λ (r : Reads (List ℕ)). at ≤ place_of r) (sym (by_first p at stop (c ∷ cs))) (by_said (step_of p at stop c) (λ q. word_starts q (at + 1) stop cs))
  where
    by_said : (s : WordStep) → ((q : Part) → at + 1 ≤ place_of (bytes_from q (at + 1) stop cs)) → at ≤ place_of (by_step s at stop cs)
    by_said (step.Whole b) next = let k = next part.Whole in let e = place_ahead (b ∷ []) (bytes_from part.Whole (at + 1) stop cs) in omega (arith, k, e)
    by_said (step.Inside q) next = let k = next q in omega (arith, k)
    by_said step.Ends next = omega arith
    by_said step.Fails next = omega arith

same_bytes : (p : Part) (at stop n : ℕ) (xs ys : List ℕ) → Share n xs ys → place_of (bytes_from p at stop xs) ≤ at + n → bytes_from p at stop ys ≡ bytes_from p at stop xs
same_bytes p at stop _ _ _ (here c xs ys) ends =
    by_first p at stop (c ∷ ys) ∙ by_said (step_of p at stop c) (subst (λ (r : Reads (List ℕ)). place_of r ≤ at + 0) (by_first p at stop (c ∷ xs)) ends) ∙ sym (by_first p at stop (c ∷ xs))
  where
    by_said : (s : WordStep) → place_of (by_step s at stop xs) ≤ at + 0 → by_step s at stop ys ≡ by_step s at stop xs
    by_said (step.Whole b) low = let k = word_starts part.Whole (at + 1) stop xs in let e = place_ahead (b ∷ []) (bytes_from part.Whole (at + 1) stop xs) in absurd (omega (arith, k, e, low))
    by_said (step.Inside q) low = let k = word_starts q (at + 1) stop xs in absurd (omega (arith, k, low))
    by_said step.Ends low = refl
    by_said step.Fails low = refl
same_bytes p at stop _ _ _ (later c n xs ys s) ends =
    by_first p at stop (c ∷ ys) ∙ by_said (step_of p at stop c) (λ q k. same_bytes q (at + 1) stop n xs ys s k) (subst (λ (r : Reads (List ℕ)). place_of r ≤ at + suc n) (by_first p at stop (c ∷ xs)) ends)
    ∙ sym (by_first p at stop (c ∷ xs))
  where
    by_said : (s : WordStep) → ((q : Part) → place_of (bytes_from q (at + 1) stop xs) ≤ at + 1 + n → bytes_from q (at + 1) stop ys ≡ bytes_from q (at + 1) stop xs)
        → place_of (by_step s at stop xs) ≤ at + suc n → by_step s at stop ys ≡ by_step s at stop xs
    by_said (step.Whole b) next low =
        let e = place_ahead (b ∷ []) (bytes_from part.Whole (at + 1) stop xs) in ap (λ (r : Reads (List ℕ)). ahead (b ∷ []) r) (next part.Whole (omega (arith, e, low)))
    by_said (step.Inside q) next low = next q (omega (arith, low))
    by_said step.Ends next low = refl
    by_said step.Fails next low = refl

-- what spells no byte is empty
spells_none : (front bytes : List ℕ) → Spells front bytes → bytes ≡ [] → length front ≡ 0
spells_none _ _ nothing e = refl
spells_none _ _ (more s t) e = absurd (cc)

-- an empty word ends where it begins
none_ends : (at stop : ℕ) (xs : List ℕ) (r : Reads (List ℕ)) → bytes_from part.Whole at stop xs ≡ r → place_of r ≤ place_of (some_bytes at r)
none_ends at stop xs (Err e) is = omega arith
none_ends at stop xs (Ok t) is = by_value t.value t.place is
  where
    by_value : (vs : List ℕ) (p : ℕ) → bytes_from part.Whole at stop xs ≡ taken vs p → p ≤ place_of (some_bytes at (taken vs p))
    by_value [] p got = let k = spelled part.Whole [] at stop xs [] p whole got in let e = spells_none k.front [] k.spells refl in omega (arith, k.place_is, e)
    by_value (b ∷ bs) p got = omega arith

same_word : (at stop n : ℕ) (xs ys : List ℕ) → Share n xs ys → place_of (word_from at stop xs) ≤ at + n → word_from at stop ys ≡ word_from at stop xs
unfolding word_from
same_word at stop n xs ys s ends =
    let k = none_ends at stop xs (bytes_from part.Whole at stop xs) refl in
    ap (λ (r : Reads (List ℕ)). some_bytes at r) (same_bytes part.Whole at stop n xs ys s (omega (arith, k, ends)))

-- ---- numbers

number_starts : (limit at stop n : ℕ) (xs : List ℕ) → at ≤ (digits_from limit at stop n xs).place
unfolding digits_by
number_starts limit at stop n [] = omega arith
number_starts limit at stop n (c ∷ cs) = subst (λ (r : Taken ℕ). at ≤ r.place) (sym (digits_first limit at stop n (c ∷ cs))) (by_next (λ m. number_starts limit (at + 1) stop m cs) (next_digit limit at stop n (c ∷ cs)))
  where
    by_next : ((m : ℕ) → at + 1 ≤ (digits_from limit (at + 1) stop m cs).place) → (o : Option ℕ) → at ≤ (digits_by limit at stop n o cs).place
    by_next next None = omega arith
    by_next next (Some m) = let k = next m in omega (arith, k)

same_digits : (limit at stop m n : ℕ) (xs ys : List ℕ) → Share n xs ys → (digits_from limit at stop m xs).place ≤ at + n → digits_from limit at stop m ys ≡ digits_from limit at stop m xs
unfolding digits_by
same_digits limit at stop m _ _ _ (here c xs ys) ends =
    digits_first limit at stop m (c ∷ ys) ∙ by_next (next_digit limit at stop m (c ∷ xs)) (subst (λ (r : Taken ℕ). r.place ≤ at + 0) (digits_first limit at stop m (c ∷ xs)) ends) ∙ sym (digits_first limit at stop m (c ∷ xs))
  where
    by_next : (o : Option ℕ) → (digits_by limit at stop m o xs).place ≤ at + 0 → digits_by limit at stop m o ys ≡ digits_by limit at stop m o xs
    by_next None low = refl
    by_next (Some d) low = let k = number_starts limit (at + 1) stop d xs in absurd (omega (arith, k, low))
same_digits limit at stop m _ _ _ (later c n xs ys s) ends =
    digits_first limit at stop m (c ∷ ys) ∙ by_next (λ d k. same_digits limit (at + 1) stop d n xs ys s k) (next_digit limit at stop m (c ∷ xs)) (subst (λ (r : Taken ℕ). r.place ≤ at + suc n) (digits_first limit at stop m (c ∷ xs)) ends) ∙ sym (digits_first limit at stop m (c ∷ xs))
  where
    by_next : ((d : ℕ) → (digits_from limit (at + 1) stop d xs).place ≤ at + 1 + n → digits_from limit (at + 1) stop d ys ≡ digits_from limit (at + 1) stop d xs) → (o : Option ℕ) → (digits_by limit at stop m o xs).place ≤ at + suc n → digits_by limit at stop m o ys ≡ digits_by limit at stop m o xs
    by_next next None low = refl
    by_next next (Some d) low = next d (omega (arith, low))

pub same_number : (low limit at stop n : ℕ) (xs ys : List ℕ) → Share n xs ys → place_of (number_from low limit at stop xs) ≤ at + n → number_from low limit at stop ys ≡ number_from low limit at stop xs
unfolding number_from
same_number low limit at stop _ _ _ (here c xs ys) ends = by_first (first_digit_of low at stop (c ∷ xs)) ends
  where
    by_first : (o : Option ℕ) → place_of (number_by o limit at stop (c ∷ xs)) ≤ at + 0 → number_by o limit at stop (c ∷ ys) ≡ number_by o limit at stop (c ∷ xs)
    by_first None low = refl
    by_first (Some m) low = let k = number_starts limit (at + 1) stop m xs in absurd (omega (arith, k, low))
same_number low limit at stop _ _ _ (later c n xs ys s) ends = by_first (first_digit_of low at stop (c ∷ xs)) ends
  where
    by_first : (o : Option ℕ) → place_of (number_by o limit at stop (c ∷ xs)) ≤ at + suc n → number_by o limit at stop (c ∷ ys) ≡ number_by o limit at stop (c ∷ xs)
    by_first None low = refl
    by_first (Some m) low = ap Ok (same_digits limit (at + 1) stop m n xs ys s (omega (arith, low)))

-- ---- modes

mode_starts : (left at stop m : ℕ) (xs : List ℕ) → at ≤ (octal_from left at stop m xs).place
unfolding octal_by
mode_starts left at stop m [] = omega arith
mode_starts left at stop m (c ∷ cs) = subst (λ (r : Taken ℕ). at ≤ r.place) (sym (octal_first left at stop m (c ∷ cs))) (by_next (λ d. mode_starts (left - 1) (at + 1) stop d cs) (next_octal left at stop m (c ∷ cs)))
  where
    by_next : ((d : ℕ) → at + 1 ≤ (octal_from (left - 1) (at + 1) stop d cs).place) → (o : Option ℕ) → at ≤ (octal_by left at stop m o cs).place
    by_next next None = omega arith
    by_next next (Some d) = let k = next d in omega (arith, k)

same_octal : (left at stop m n : ℕ) (xs ys : List ℕ) → Share n xs ys → (octal_from left at stop m xs).place ≤ at + n → octal_from left at stop m ys ≡ octal_from left at stop m xs
unfolding octal_by
same_octal left at stop m _ _ _ (here c xs ys) ends =
    octal_first left at stop m (c ∷ ys) ∙ by_next (next_octal left at stop m (c ∷ xs)) (subst (λ (r : Taken ℕ). r.place ≤ at + 0) (octal_first left at stop m (c ∷ xs)) ends) ∙ sym (octal_first left at stop m (c ∷ xs))
  where
    by_next : (o : Option ℕ) → (octal_by left at stop m o xs).place ≤ at + 0 → octal_by left at stop m o ys ≡ octal_by left at stop m o xs
    by_next None low = refl
    by_next (Some d) low = let k = mode_starts (left - 1) (at + 1) stop d xs in absurd (omega (arith, k, low))
same_octal left at stop m _ _ _ (later c n xs ys s) ends =
    octal_first left at stop m (c ∷ ys) ∙ by_next (λ d k. same_octal (left - 1) (at + 1) stop d n xs ys s k) (next_octal left at stop m (c ∷ xs)) (subst (λ (r : Taken ℕ). r.place ≤ at + suc n) (octal_first left at stop m (c ∷ xs)) ends) ∙ sym (octal_first left at stop m (c ∷ xs))
  where
    by_next : ((d : ℕ) → (octal_from (left - 1) (at + 1) stop d xs).place ≤ at + 1 + n → octal_from (left - 1) (at + 1) stop d ys ≡ octal_from (left - 1) (at + 1) stop d xs) → (o : Option ℕ) → (octal_by left at stop m o xs).place ≤ at + suc n → octal_by left at stop m o ys ≡ octal_by left at stop m o xs
    by_next next None low = refl
    by_next next (Some d) low = next d (omega (arith, low))

-- a mode's digits end where the mode does
octal_ends : (at : ℕ) (r : Taken ℕ) → r.place ≤ place_of (some_digits at r)
octal_ends at r = by_test (r.place == at) refl
  where
    by_test : (b : Bool) → (r.place == at) ≡ b → r.place ≤ place_of (if b then bad at else Ok r)
    by_test true is = grind (arith, nat_tests)
    by_test false is = omega arith

same_mode : (at stop n : ℕ) (xs ys : List ℕ) → Share n xs ys → place_of (mode_from at stop xs) ≤ at + n → mode_from at stop ys ≡ mode_from at stop xs
unfolding mode_from
same_mode at stop n xs ys s ends = let k = octal_ends at (octal_from 4 at stop 0 xs) in ap (some_digits at) (same_octal 4 at stop 0 n xs ys s (omega (arith, k, ends)))

-- ---- arguments

-- what is made of a value ends where the value does
pub place_put : {A : Type 0} (r : Reads A) (f : A → Arguments) → place_of (then_read r (λ t. taken (f t.value) t.place)) ≡ place_of r
place_put (Ok t) f = refl
place_put (Err e) f = refl

-- so it is the same where the value is
same_put : {A : Type 0} (r q : Reads A) (f : A → Arguments) (last : ℕ) → (place_of r ≤ last → q ≡ r) → place_of (then_read r (λ t. taken (f t.value) t.place)) ≤ last
    → then_read q (λ t. taken (f t.value) t.place) ≡ then_read r (λ t. taken (f t.value) t.place)
same_put r q f last same ends = let e = place_put r f in ap (λ x. then_read x (λ t. taken (f t.value) t.place)) (same (omega (arith, e, ends)))

same_argument : (x : Argument) (at stop n : ℕ) (xs ys : List ℕ) (a : Arguments) → Share n xs ys → place_of (argument_from x at stop xs a) ≤ at + n → argument_from x at stop ys a ≡ argument_from x at stop xs a
unfolding argument_from
same_argument argument.Path at stop n xs ys a s ends = same_put _ _ (λ w. record a { path = w }) (at + n) (same_word at stop n xs ys s) ends
same_argument argument.Other at stop n xs ys a s ends = same_put _ _ (λ w. record a { other = w }) (at + n) (same_word at stop n xs ys s) ends
same_argument argument.At at stop n xs ys a s ends = same_put _ _ (λ v. record a { at = v }) (at + n) (same_number 0 (2 ^ 64 - 1) at stop n xs ys s) ends
same_argument argument.Count at stop n xs ys a s ends = same_put _ _ (λ v. record a { count = v }) (at + n) (same_number 0 65536 at stop n xs ys s) ends
same_argument argument.FillCount at stop n xs ys a s ends = same_put _ _ (λ v. record a { fill = v }) (at + n) (same_number 1 (2 ^ 48) at stop n xs ys s) ends
same_argument argument.Byte at stop n xs ys a s ends = same_put _ _ (λ v. record a { byte = v }) (at + n) (same_number 0 255 at stop n xs ys s) ends
same_argument argument.Mode at stop n xs ys a s ends = same_put _ _ (λ v. record a { mode = v }) (at + n) (same_mode at stop n xs ys s) ends
same_argument argument.Uid at stop n xs ys a s ends = same_put _ _ (λ v. record a { uid = v }) (at + n) (same_number 0 (2 ^ 32 - 1) at stop n xs ys s) ends
same_argument argument.Gid at stop n xs ys a s ends = same_put _ _ (λ v. record a { gid = v }) (at + n) (same_number 0 (2 ^ 32 - 1) at stop n xs ys s) ends
same_argument argument.Atime at stop n xs ys a s ends = same_put _ _ (λ v. record a { atime = v }) (at + n) (same_number 0 (2 ^ 32 - 1) at stop n xs ys s) ends
same_argument argument.Mtime at stop n xs ys a s ends = same_put _ _ (λ v. record a { mtime = v }) (at + n) (same_number 0 (2 ^ 32 - 1) at stop n xs ys s) ends

-- ---- where they start

filled_starts : (at stop : ℕ) (xs : List ℕ) → at ≤ place_of (word_from at stop xs)
unfolding word_from
filled_starts at stop xs = let k = none_ends at stop xs (bytes_from part.Whole at stop xs) refl in let h = word_starts part.Whole at stop xs in omega (arith, k, h)

pub digit_starts : (low limit at stop : ℕ) (xs : List ℕ) → at ≤ place_of (number_from low limit at stop xs)
unfolding number_from
digit_starts low limit at stop xs = by_first (first_digit_of low at stop xs)
  where
    by_first : (o : Option ℕ) → at ≤ place_of (number_by o limit at stop xs)
    by_first None = omega arith
    by_first (Some m) = let k = number_starts limit (at + 1) stop m (drop 1 xs) in omega (arith, k)

octal_starts : (at stop : ℕ) (xs : List ℕ) → at ≤ place_of (mode_from at stop xs)
unfolding mode_from
octal_starts at stop xs = let k = octal_ends at (octal_from 4 at stop 0 xs) in let h = mode_starts 4 at stop 0 xs in omega (arith, k, h)

put_starts : {A : Type 0} (r : Reads A) (f : A → Arguments) (at : ℕ) → at ≤ place_of r → at ≤ place_of (then_read r (λ t. taken (f t.value) t.place))
put_starts r f at h = let e = place_put r f in omega (arith, e, h)

argument_starts : (x : Argument) (at stop : ℕ) (xs : List ℕ) (a : Arguments) → at ≤ place_of (argument_from x at stop xs a)
unfolding argument_from
argument_starts argument.Path at stop xs a = put_starts (word_from at stop xs) (λ w. record a { path = w }) at (filled_starts at stop xs)
argument_starts argument.Other at stop xs a = put_starts (word_from at stop xs) (λ w. record a { other = w }) at (filled_starts at stop xs)
argument_starts argument.At at stop xs a = put_starts (number_from 0 (2 ^ 64 - 1) at stop xs) (λ v. record a { at = v }) at (digit_starts 0 (2 ^ 64 - 1) at stop xs)
argument_starts argument.Count at stop xs a = put_starts (number_from 0 65536 at stop xs) (λ v. record a { count = v }) at (digit_starts 0 65536 at stop xs)
argument_starts argument.FillCount at stop xs a = put_starts (number_from 1 (2 ^ 48) at stop xs) (λ v. record a { fill = v }) at (digit_starts 1 (2 ^ 48) at stop xs)
argument_starts argument.Byte at stop xs a = put_starts (number_from 0 255 at stop xs) (λ v. record a { byte = v }) at (digit_starts 0 255 at stop xs)
argument_starts argument.Mode at stop xs a = put_starts (mode_from at stop xs) (λ v. record a { mode = v }) at (octal_starts at stop xs)
argument_starts argument.Uid at stop xs a = put_starts (number_from 0 (2 ^ 32 - 1) at stop xs) (λ v. record a { uid = v }) at (digit_starts 0 (2 ^ 32 - 1) at stop xs)
argument_starts argument.Gid at stop xs a = put_starts (number_from 0 (2 ^ 32 - 1) at stop xs) (λ v. record a { gid = v }) at (digit_starts 0 (2 ^ 32 - 1) at stop xs)
argument_starts argument.Atime at stop xs a = put_starts (number_from 0 (2 ^ 32 - 1) at stop xs) (λ v. record a { atime = v }) at (digit_starts 0 (2 ^ 32 - 1) at stop xs)
argument_starts argument.Mtime at stop xs a = put_starts (number_from 0 (2 ^ 32 - 1) at stop xs) (λ v. record a { mtime = v }) at (digit_starts 0 (2 ^ 32 - 1) at stop xs)

-- arguments end no sooner than they begin
pub arguments_start : (xs : List Argument) (at : ℕ) (line : List ℕ) (a : Arguments) → at ≤ place_of (arguments_from xs at line a)
arguments_start [] at line a = omega arith
arguments_start (x ∷ xs) at line a = by_space (λ (t : Taken Arguments). arguments_start xs t.place line t.value) (drop at line)
  where
    by_argument : ((t : Taken Arguments) → t.place ≤ place_of (arguments_from xs t.place line t.value)) → (r : Reads Arguments) → at + 1 ≤ place_of r → at ≤ place_of (then_read r (λ t. arguments_from xs t.place line t.value))
    by_argument next (Ok t) h = let k = next t in omega (arith, k, h)
    by_argument next (Err (fault.BadLine q)) h = omega (arith, h)
    by_argument next (Err fault.NoMemory) h = absurd (omega (arith, h))

    by_place : ((t : Taken Arguments) → t.place ≤ place_of (arguments_from xs t.place line t.value)) → (b : Bool) → at ≤ place_of (then_read (if b then Ok (at + 1) else bad at) (λ p. then_read (argument_from x p (line_limit - 2 * length xs) (drop p line) a) (λ t. arguments_from xs t.place line t.value)))
    by_place next true = by_argument next (argument_from x (at + 1) (line_limit - 2 * length xs) (drop (at + 1) line) a) (argument_starts x (at + 1) (line_limit - 2 * length xs) (drop (at + 1) line) a)
    by_place next false = omega arith

    by_space : ((t : Taken Arguments) → t.place ≤ place_of (arguments_from xs t.place line t.value)) → (ys : List ℕ) → at ≤ place_of (then_read (space_at at ys) (λ p. then_read (argument_from x p (line_limit - 2 * length xs) (drop p line) a) (λ t. arguments_from xs t.place line t.value)))
    by_space next [] = omega arith
    by_space next (c ∷ cs) = by_place next (c == 32)

-- one space is the same
pub same_space : (at n : ℕ) (xs ys : List ℕ) → Share n xs ys → space_at at ys ≡ space_at at xs
same_space at _ _ _ (here c xs ys) = refl
same_space at _ _ _ (later c n xs ys s) = refl

-- so are arguments
pub same_arguments : (xs : List Argument) (at k : ℕ) (line other : List ℕ) (a : Arguments) → Share k line other → place_of (arguments_from xs at line a) ≤ k → arguments_from xs at other a ≡ arguments_from xs at line a
same_arguments [] at k line other a s ends = refl
same_arguments (x ∷ xs) at k line other a s ends =
    let first = arguments_start (x ∷ xs) at line a in
    ap (λ (r : Result ℕ LineFault). then_read r (λ p. then_read (argument_from x p (line_limit - 2 * length xs) (drop p other) a) (λ t. arguments_from xs t.place other t.value)))
    (same_space at (k - at) (drop at line) (drop at other) (share_drop at k line other (omega (arith, first, ends)) s))
    ∙ by_space (λ (t : Taken Arguments) (h : place_of (arguments_from xs t.place line t.value) ≤ k). same_arguments xs t.place k line other t.value s h) (drop at line) ends
  where
    by_argument : ((t : Taken Arguments) → place_of (arguments_from xs t.place line t.value) ≤ k → arguments_from xs t.place other t.value ≡ arguments_from xs t.place line t.value) → (r q : Reads Arguments) → (place_of r ≤ k → q ≡ r) → ((t : Taken Arguments) → r ≡ Ok t → t.place ≤ place_of (arguments_from xs t.place line t.value))
        → place_of (then_read r (λ t. arguments_from xs t.place line t.value)) ≤ k
        → then_read q (λ t. arguments_from xs t.place other t.value) ≡ then_read r (λ t. arguments_from xs t.place line t.value)
    by_argument next (Ok t) q same from low =
        let h = from t refl in
        ap (λ (r : Reads Arguments). then_read r (λ t. arguments_from xs t.place other t.value)) (same (omega (arith, h, low))) ∙ next t low
    by_argument next (Err (fault.BadLine p)) q same from low = ap (λ (r : Reads Arguments). then_read r (λ t. arguments_from xs t.place other t.value)) (same low)
    by_argument next (Err fault.NoMemory) q same from low = ap (λ (r : Reads Arguments). then_read r (λ t. arguments_from xs t.place other t.value)) (same low)

    by_place : ((t : Taken Arguments) → place_of (arguments_from xs t.place line t.value) ≤ k → arguments_from xs t.place other t.value ≡ arguments_from xs t.place line t.value) → (b : Bool)
        → place_of (then_read (if b then Ok (at + 1) else bad at) (λ p. then_read (argument_from x p (line_limit - 2 * length xs) (drop p line) a) (λ t. arguments_from xs t.place line t.value))) ≤ k
        → then_read (if b then Ok (at + 1) else bad at) (λ p. then_read (argument_from x p (line_limit - 2 * length xs) (drop p other) a) (λ t. arguments_from xs t.place other t.value))
        ≡ then_read (if b then Ok (at + 1) else bad at) (λ p. then_read (argument_from x p (line_limit - 2 * length xs) (drop p line) a) (λ t. arguments_from xs t.place line t.value))
    by_place next true low =
        let h = argument_starts x (at + 1) (line_limit - 2 * length xs) (drop (at + 1) line) a in
        by_argument next (argument_from x (at + 1) (line_limit - 2 * length xs) (drop (at + 1) line) a) (argument_from x (at + 1) (line_limit - 2 * length xs) (drop (at + 1) other) a)
        (λ e. same_argument x (at + 1) (line_limit - 2 * length xs) (k - (at + 1)) (drop (at + 1) line) (drop (at + 1) other) a (share_drop (at + 1) k line other (omega (arith, h, e)) s) (omega (arith, h, e)))
        (λ t e. arguments_start xs t.place line t.value) low
    by_place next false low = refl

    by_space : ((t : Taken Arguments) → place_of (arguments_from xs t.place line t.value) ≤ k → arguments_from xs t.place other t.value ≡ arguments_from xs t.place line t.value) → (ys : List ℕ)
        → place_of (then_read (space_at at ys) (λ p. then_read (argument_from x p (line_limit - 2 * length xs) (drop p line) a) (λ t. arguments_from xs t.place line t.value))) ≤ k
        → then_read (space_at at ys) (λ p. then_read (argument_from x p (line_limit - 2 * length xs) (drop p other) a) (λ t. arguments_from xs t.place other t.value))
        ≡ then_read (space_at at ys) (λ p. then_read (argument_from x p (line_limit - 2 * length xs) (drop p line) a) (λ t. arguments_from xs t.place line t.value))
    by_space next [] low = refl
    by_space next (c ∷ cs) low = by_place next (c == 32) low
