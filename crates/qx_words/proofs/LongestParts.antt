-- Where reading fails, no longer part of the line begins one with a reading.
use Rattle.std.proofs.Common.{◌≡◌, ℕ, zero, suc, ◌+◌, ◌-◌, ◌^◌, ◌<◌, ◌≤◌, Bool, true, false, List, [], ◌∷◌, ◌++◌, length, drop, take, Option, Some, None, Ok, Err, refl, sym, ap, subst, ◌∙◌, arith}
use Rattle.std.specs.Prelude.{nat_lt, ◌==◌, ◌&&◌, if◌then◌else◌, Result, max, fold, find, bytes_eq, codes}
use Rattle.std.proofs.lemmas.Bool.Decides.{nat_tests, Decides-eqb}
use Rattle.qx_model.specs.declared.turn.Act.{Act}
use Rattle.qx_model.specs.declared.turn.Act.TheVariants as act
use Rattle.qx_model.specs.declared.operation.Op.TheVariants as op
use Rattle.qx_words.specs.declared.grammar.Verb.{Verb}
use Rattle.qx_words.specs.declared.arguments.Arguments.{Arguments}
use Rattle.qx_words.specs.declared.line.Line.{Line}
use Rattle.qx_words.specs.declared.line.LineFault.{LineFault}
use Rattle.qx_words.specs.declared.line.LineFault.TheVariants as fault
use Rattle.qx_words.specs.Commands.{act_of, arguments_of, name_of, no_arguments, verbs}
use Rattle.qx_words.specs.Lines.{BeginsLine, line_by, line_limit}
use Rattle.qx_words.specs.Reading.{Reads, Taken, act_from, arguments_from, bad, command_by, command_from, ended, first_word, furthest, is_list, line_from, number_from, session_from, shared, space_at, taken, then_read, verb_named}
use Rattle.qx_words.proofs.NamedVerbs.{name_of_named}
use Rattle.qx_words.proofs.ReadLines.{read_whole_line}
use Rattle.qx_words.proofs.SameFronts.{Share, arguments_start, digit_starts, here, later, place_of, same_arguments, same_number, same_space, share_back, share_drop, share_long}

-- ---- acts

-- a place before the end isn't the end
not_end : (at n : ℕ) → at < n → (at == n) ≡ false
not_end at n h = grind (arith, nat_tests)

-- nothing that is bad is good
never : {A : Type 0} (q : ℕ) (a : A) (r : Result A LineFault) → r ≡ bad q → r ≡ Ok a → ⊥
never q a r wrong right = cc

same_place : (p q : ℕ) → bad {A = Act} p ≡ bad q → p ≡ q
same_place p q e = cc

-- a verb's arguments that go wrong do so in each line that shares these bytes
same_act : (v : Verb) (at k q : ℕ) (line other : List ℕ) → Share k line other → at ≤ k → q ≤ k → act_from v at line ≡ bad q → act_from v at other ≡ bad q
same_act v at k q line other s start low wrong =
    let long = share_long k line other s in
    not_here other (omega (arith, start, long.1)) ∙ by_arguments (arguments_from (arguments_of v) at line no_arguments) (arguments_from (arguments_of v) at other no_arguments)
    (λ h. same_arguments (arguments_of v) at k line other no_arguments s h) long.0 long.1 (sym (not_here line (omega (arith, start, long.0))) ∙ wrong)
  where
    not_here : (any : List ℕ) → at < length any
        → act_from v at any ≡ then_read (arguments_from (arguments_of v) at any no_arguments) (λ t. ended (act_of v t.value) t.place any)
    not_here any h = by_here (is_list v) (at == length any) (not_end at (length any) h)
      where
        by_here : (l e : Bool) → e ≡ false
            → (if l && e then Ok (act.Op (op.List (codes "."))) else then_read (arguments_from (arguments_of v) at any no_arguments) (λ t. ended (act_of v t.value) t.place any))
            ≡ then_read (arguments_from (arguments_of v) at any no_arguments) (λ t. ended (act_of v t.value) t.place any)
        by_here true true is = absurd (cc)
        by_here true false is = refl
        by_here false e is = refl

    end_in : (any : List ℕ) (t : Taken Arguments) → t.place ≤ k → k < length any → ended (act_of v t.value) t.place any ≡ bad t.place
    end_in any t h l = by_test (t.place == length any) (not_end t.place (length any) (omega (arith, h, l)))
      where
        by_test : (b : Bool) → b ≡ false → (if b then Ok (act_of v t.value) else bad t.place) ≡ bad t.place
        by_test true is = absurd (cc)
        by_test false is = refl

    place_in : (t : Taken Arguments) → ended (act_of v t.value) t.place line ≡ bad q → t.place ≡ q
    place_in t e = by_test (t.place == length line) e
      where
        by_test : (b : Bool) → (if b then Ok (act_of v t.value) else bad t.place) ≡ bad q → t.place ≡ q
        by_test true is = absurd (cc)
        by_test false got = same_place t.place q got

    by_arguments : (r x : Reads Arguments) → (place_of r ≤ k → x ≡ r) → k < length line → k < length other
        → then_read r (λ t. ended (act_of v t.value) t.place line) ≡ bad q → then_read x (λ t. ended (act_of v t.value) t.place other) ≡ bad q
    by_arguments (Ok t) x same l m got =
        let p = place_in t got in
        ap (λ (r : Reads Arguments). then_read r (λ t. ended (act_of v t.value) t.place other)) (same (omega (arith, p, low))) ∙ end_in other t (omega (arith, p, low)) m ∙ ap (λ (p : ℕ). bad {A = Act} p) p
    by_arguments (Err (fault.BadLine p)) x same l m got =
        let e = same_place p q got in
        ap (λ (r : Reads Arguments). then_read r (λ t. ended (act_of v t.value) t.place other)) (same (omega (arith, e, low))) ∙ got
    by_arguments (Err fault.NoMemory) x same l m got = absurd (cc)

-- an act goes wrong no sooner than it begins
act_starts : (v : Verb) (at q : ℕ) (line : List ℕ) → act_from v at line ≡ bad q → at ≤ q
act_starts v at q line wrong = by_here (is_list v && at == length line) wrong
  where
    by_end : (p : ℕ) (a : Act) (b : Bool) → at ≤ p → (if b then Ok a else bad p) ≡ bad q → at ≤ q
    by_end p a true h got = absurd (cc)
    by_end p a false h got = let e = same_place p q got in omega (arith, e, h)

    by_arguments : (r : Reads Arguments) → at ≤ place_of r → then_read r (λ t. ended (act_of v t.value) t.place line) ≡ bad q → at ≤ q
    by_arguments (Ok t) h got = by_end t.place (act_of v t.value) (t.place == length line) h got
    by_arguments (Err (fault.BadLine p)) h got = let e = same_place p q got in omega (arith, e, h)
    by_arguments (Err fault.NoMemory) h got = absurd (cc)

    by_here : (b : Bool)
        → (if b then Ok (act.Op (op.List (codes "."))) else then_read (arguments_from (arguments_of v) at line no_arguments) (λ t. ended (act_of v t.value) t.place line)) ≡ bad q → at ≤ q
    by_here true got = absurd (cc)
    by_here false got = by_arguments (arguments_from (arguments_of v) at line no_arguments) (arguments_start (arguments_of v) at line no_arguments) got

-- ---- names of commands

-- lines that share a word and the byte behind it have the same first word
same_first : (n : ℕ) (xs ys : List ℕ) → Share n xs ys → length (first_word xs) ≤ n → first_word ys ≡ first_word xs
same_first _ _ _ (here c xs ys) h = by_test (c == 32) h
  where
    by_test : (b : Bool) → length (if b then [] else c ∷ first_word xs) ≤ 0 → (if b then [] else c ∷ first_word ys) ≡ (if b then [] else c ∷ first_word xs)
    by_test true h = refl
    by_test false h = absurd (omega (arith, h))
same_first _ _ _ (later c n xs ys s) h = by_test (same_first n xs ys s) (c == 32) h
  where
    by_test : (length (first_word xs) ≤ n → first_word ys ≡ first_word xs) → (b : Bool) → length (if b then [] else c ∷ first_word xs) ≤ suc n → (if b then [] else c ∷ first_word ys) ≡ (if b then [] else c ∷ first_word xs)
    by_test next true h = refl
    by_test next false h = ap (λ (zs : List ℕ). c ∷ zs) (next (omega (arith, h)))

-- the first word is shared whole
word_shared : (xs : List ℕ) → shared (first_word xs) xs ≡ length (first_word xs)
word_shared [] = refl
word_shared (c ∷ cs) = by_test (word_shared cs) (c == 32)
  where
    same : (b : Bool) → b ≡ true → (if b then shared (first_word cs) cs + 1 else 0) ≡ shared (first_word cs) cs + 1
    same true e = refl
    same false e = absurd (cc)

    by_test : shared (first_word cs) cs ≡ length (first_word cs) → (b : Bool) → shared (if b then [] else c ∷ first_word cs) (c ∷ cs) ≡ length (if b then [] else c ∷ first_word cs)
    by_test k true = refl
    by_test k false = same (c == c) ((Decides-eqb c c).1 refl) ∙ omega (arith, k)

-- what is shared with one of them is shared with the other, up to a byte more than they share
shared_far : (n : ℕ) (name xs ys : List ℕ) → Share n xs ys → n < length name → shared name ys ≡ length name → n < shared name xs
shared_far _ [] _ _ s h e = absurd (omega (arith, h))
shared_far _ (d ∷ ds) _ _ (here c xs ys) h e = by_test (d == c) e
  where
    by_test : (b : Bool) → (if b then shared ds ys + 1 else 0) ≡ length (d ∷ ds) → 0 < (if b then shared ds xs + 1 else 0)
    by_test true e = omega arith
    by_test false e = absurd (omega (arith, e))
shared_far _ (d ∷ ds) _ _ (later c n xs ys s) h e = by_test (shared_far n ds xs ys s) (d == c) e
  where
    by_test : (n < length ds → shared ds ys ≡ length ds → n < shared ds xs) → (b : Bool) → (if b then shared ds ys + 1 else 0) ≡ length (d ∷ ds) → suc n < (if b then shared ds xs + 1 else 0)
    by_test next true e = let k = next (omega (arith, h)) (omega (arith, e)) in omega (arith, k)
    by_test next false e = absurd (omega (arith, e))

-- no verb shares more than the furthest
fold_most : (bytes : List ℕ) (vs : List Verb) (most : ℕ) → most ≤ fold (λ most v. max most (shared (name_of v) bytes)) most vs
fold_most bytes [] most = omega arith
fold_most bytes (v ∷ vs) most = let k = fold_most bytes vs (max most (shared (name_of v) bytes)) in omega (arith, k)

found_most : (bytes : List ℕ) (test : Verb → Bool) (vs : List Verb) (v : Verb) (most : ℕ) → find test vs ≡ Some v → shared (name_of v) bytes ≤ fold (λ most v. max most (shared (name_of v) bytes)) most vs
found_most bytes test [] v most e = absurd (cc)
found_most bytes test (x ∷ xs) v most e = by_test (found_most bytes test xs v (max most (shared (name_of x) bytes))) (test x) e
  where
    by_test : (find test xs ≡ Some v → shared (name_of v) bytes ≤ fold (λ most v. max most (shared (name_of v) bytes)) (max most (shared (name_of x) bytes)) xs) → (b : Bool) → (if b then Some x else find test xs) ≡ Some v → shared (name_of v) bytes ≤ fold (λ most v. max most (shared (name_of v) bytes)) (max most (shared (name_of x) bytes)) xs
    by_test next true e =
        let same : x ≡ v = cc in
        let k = fold_most bytes xs (max most (shared (name_of x) bytes)) in
        let h = ap (λ (w : Verb). shared (name_of w) bytes) same in
        omega (arith, k, h)
    by_test next false e = next e

named_furthest : (bytes name : List ℕ) (v : Verb) → verb_named name ≡ Some v → shared (name_of v) bytes ≤ furthest bytes
unfolding furthest
named_furthest bytes name v e = found_most bytes (λ w. bytes_eq (name_of w) name) verbs v 0 e

-- ---- commands

-- a command that goes wrong is none in any line that shares these bytes
no_command : (at k q : ℕ) (line other : List ℕ) (a : Act) → Share k line other → at ≤ k → q ≤ k → command_from at line ≡ bad q → command_from at other ≡ Ok a → ⊥
unfolding command_from
no_command at k q line other a s start low wrong right = by_line (verb_named (first_word (drop at line))) refl wrong
  where
    behind : Share (k - at) (drop at line) (drop at other)
    behind = share_drop at k line other start s

    by_line : (o : Option Verb) → verb_named (first_word (drop at line)) ≡ o → command_by o at line ≡ bad q → ⊥
    by_line (Some v) is got =
        let name = name_of_named (first_word (drop at line)) v is in
        let h = act_starts v (at + length (name_of v)) q line got in
        let size = ap (λ (xs : List ℕ). length xs) name in
        let word = same_first (k - at) (drop at line) (drop at other) behind (omega (arith, size, h, low)) in
        let wrong_there = same_act v (at + length (name_of v)) k q line other s (omega (arith, h, low)) low got in
        never q a (command_by (verb_named (first_word (drop at other))) at other)
        (ap (λ (xs : List ℕ). command_by (verb_named xs) at other) word ∙ ap (λ (o : Option Verb). command_by o at other) is ∙ wrong_there) right
    by_line None is got = by_other (verb_named (first_word (drop at other))) refl right
      where
        by_other : (o : Option Verb) → verb_named (first_word (drop at other)) ≡ o → command_by o at other ≡ Ok a → ⊥
        by_other None there good = never (at + furthest (drop at other)) a (command_by None at other) refl good
        by_other (Some v) there good =
            let place = same_place (at + furthest (drop at line)) q got in
            let name = name_of_named (first_word (drop at other)) v there in
            let whole : shared (name_of v) (drop at other) ≡ length (name_of v) = subst (λ (xs : List ℕ). shared xs (drop at other) ≡ length xs) (sym name) (word_shared (drop at other)) in
            let most = named_furthest (drop at line) (first_word (drop at other)) v there in
            let size = ap (λ (xs : List ℕ). length xs) name in
            by_size whole most size place (nat_lt (k - at) (length (name_of v))) refl
          where
            by_size : shared (name_of v) (drop at other) ≡ length (name_of v) → shared (name_of v) (drop at line) ≤ furthest (drop at line) → length (name_of v) ≡ length (first_word (drop at other))
                → at + furthest (drop at line) ≡ q → (b : Bool) → nat_lt (k - at) (length (name_of v)) ≡ b → ⊥
            by_size whole most size place true long =
                let more = shared_far (k - at) (name_of v) (drop at line) (drop at other) behind (grind (arith, nat_tests)) whole in
                omega (arith, more, most, place, low, start)
            by_size whole most size place false fits =
                let few : length (first_word (drop at other)) ≤ k - at = let f : length (name_of v) ≤ k - at = grind (arith, nat_tests) in omega (arith, f, size) in
                let word = same_first (k - at) (drop at other) (drop at line) (share_back (k - at) (drop at line) (drop at other) behind) few in
                let both : verb_named (first_word (drop at line)) ≡ Some v = ap verb_named word ∙ there in
                let none = is in
                absurd (cc)

-- ---- lines

-- a session ends no sooner than the line begins, and is the same where the bytes are
same_session : (k : ℕ) (line other : List ℕ) → Share k line other → place_of (session_from line) ≤ k → session_from other ≡ session_from line
same_session _ _ _ (here c xs ys) ends = by_sign (c == 64) ends
  where
    by_number : (r : Reads ℕ) → 1 ≤ place_of r → place_of (then_read r (λ t. then_read (space_at t.place (drop t.place (c ∷ xs))) (λ p. taken t.value p))) ≤ 0
        → ⊥
    by_number (Ok t) h low = by_space (drop t.place (c ∷ xs)) low
      where
        by_space : (zs : List ℕ) → place_of (then_read (space_at t.place zs) (λ p. taken t.value p)) ≤ 0 → ⊥
        by_space [] low = omega (arith, h, low)
        by_space (d ∷ ds) low = by_test (d == 32) low
          where
            by_test : (b : Bool) → place_of (then_read (if b then Ok (t.place + 1) else bad t.place) (λ p. taken t.value p)) ≤ 0 → ⊥
            by_test true low = omega (arith, h, low)
            by_test false low = omega (arith, h, low)
    by_number (Err (fault.BadLine p)) h low = omega (arith, h, low)
    by_number (Err fault.NoMemory) h low = omega (arith, h)

    by_sign : (b : Bool)
        → place_of (if b then then_read (number_from 0 (2 ^ 64 - 1) 1 (line_limit - 3) xs) (λ t. then_read (space_at t.place (drop t.place (c ∷ xs))) (λ p. taken t.value p)) else taken 0 0) ≤ 0
        → (if b then then_read (number_from 0 (2 ^ 64 - 1) 1 (line_limit - 3) ys) (λ t. then_read (space_at t.place (drop t.place (c ∷ ys))) (λ p. taken t.value p)) else taken 0 0)
        ≡ (if b then then_read (number_from 0 (2 ^ 64 - 1) 1 (line_limit - 3) xs) (λ t. then_read (space_at t.place (drop t.place (c ∷ xs))) (λ p. taken t.value p)) else taken 0 0)
    by_sign true low = absurd (by_number (number_from 0 (2 ^ 64 - 1) 1 (line_limit - 3) xs) (digit_starts 0 (2 ^ 64 - 1) 1 (line_limit - 3) xs) low)
    by_sign false low = refl
same_session _ _ _ (later c n xs ys s) ends = by_sign (c == 64) ends
  where
    by_space : (t : Taken ℕ) → place_of (then_read (space_at t.place (drop t.place (c ∷ xs))) (λ p. taken t.value p)) ≤ suc n
        → then_read (space_at t.place (drop t.place (c ∷ ys))) (λ p. taken t.value p) ≡ then_read (space_at t.place (drop t.place (c ∷ xs))) (λ p. taken t.value p)
    by_space t low =
        let h = by_rest (drop t.place (c ∷ xs)) low in
        ap (λ (r : Result ℕ LineFault). then_read r (λ p. taken t.value p)) (same_space t.place (suc n - t.place) (drop t.place (c ∷ xs)) (drop t.place (c ∷ ys)) (share_drop t.place (suc n) (c ∷ xs) (c ∷ ys) h (later c n xs ys s)))
      where
        by_rest : (zs : List ℕ) → place_of (then_read (space_at t.place zs) (λ p. taken t.value p)) ≤ suc n → t.place ≤ suc n
        by_rest [] low = low
        by_rest (d ∷ ds) low = by_test (d == 32) low
          where
            by_test : (b : Bool) → place_of (then_read (if b then Ok (t.place + 1) else bad t.place) (λ p. taken t.value p)) ≤ suc n → t.place ≤ suc n
            by_test true low = omega (arith, low)
            by_test false low = low

    place_then : (r : Reads ℕ) → place_of (then_read r (λ t. then_read (space_at t.place (drop t.place (c ∷ xs))) (λ p. taken t.value p))) ≤ suc n → place_of r ≤ suc n
    place_then (Ok t) low = by_rest (drop t.place (c ∷ xs)) low
      where
        by_rest : (zs : List ℕ) → place_of (then_read (space_at t.place zs) (λ p. taken t.value p)) ≤ suc n → t.place ≤ suc n
        by_rest [] low = low
        by_rest (d ∷ ds) low = by_test (d == 32) low
          where
            by_test : (b : Bool) → place_of (then_read (if b then Ok (t.place + 1) else bad t.place) (λ p. taken t.value p)) ≤ suc n → t.place ≤ suc n
            by_test true low = omega (arith, low)
            by_test false low = low
    place_then (Err e) low = low

    by_number : (r q : Reads ℕ) → (place_of r ≤ 1 + n → q ≡ r)
        → place_of (then_read r (λ t. then_read (space_at t.place (drop t.place (c ∷ xs))) (λ p. taken t.value p))) ≤ suc n
        → then_read q (λ t. then_read (space_at t.place (drop t.place (c ∷ ys))) (λ p. taken t.value p)) ≡ then_read r (λ t. then_read (space_at t.place (drop t.place (c ∷ xs))) (λ p. taken t.value p))
    by_number r q same low =
        let h = place_then r low in
        ap (λ (r : Reads ℕ). then_read r (λ t. then_read (space_at t.place (drop t.place (c ∷ ys))) (λ p. taken t.value p))) (same (omega (arith, h))) ∙ by_result r low
      where
        by_result : (r : Reads ℕ) → place_of (then_read r (λ t. then_read (space_at t.place (drop t.place (c ∷ xs))) (λ p. taken t.value p))) ≤ suc n
            → then_read r (λ t. then_read (space_at t.place (drop t.place (c ∷ ys))) (λ p. taken t.value p)) ≡ then_read r (λ t. then_read (space_at t.place (drop t.place (c ∷ xs))) (λ p. taken t.value p))
        by_result (Ok t) low = by_space t low
        by_result (Err e) low = refl

    by_sign : (b : Bool)
        → place_of (if b then then_read (number_from 0 (2 ^ 64 - 1) 1 (line_limit - 3) xs) (λ t. then_read (space_at t.place (drop t.place (c ∷ xs))) (λ p. taken t.value p)) else taken 0 0) ≤ suc n
        → (if b then then_read (number_from 0 (2 ^ 64 - 1) 1 (line_limit - 3) ys) (λ t. then_read (space_at t.place (drop t.place (c ∷ ys))) (λ p. taken t.value p)) else taken 0 0)
        ≡ (if b then then_read (number_from 0 (2 ^ 64 - 1) 1 (line_limit - 3) xs) (λ t. then_read (space_at t.place (drop t.place (c ∷ xs))) (λ p. taken t.value p)) else taken 0 0)
    by_sign true low = by_number (number_from 0 (2 ^ 64 - 1) 1 (line_limit - 3) xs) (number_from 0 (2 ^ 64 - 1) 1 (line_limit - 3) ys) (same_number 0 (2 ^ 64 - 1) 1 (line_limit - 3) n xs ys s) low
    by_sign false low = refl

-- a command goes wrong no sooner than it begins
command_starts : (at q : ℕ) (line : List ℕ) → command_from at line ≡ bad q → at ≤ q
unfolding command_from
command_starts at q line wrong = by_verb (verb_named (first_word (drop at line))) wrong
  where
    by_verb : (o : Option Verb) → command_by o at line ≡ bad q → at ≤ q
    by_verb None got = let e = same_place (at + furthest (drop at line)) q got in omega (arith, e)
    by_verb (Some v) got = let h = act_starts v (at + length (name_of v)) q line got in omega (arith, h)

-- what is read of a line that isn't too long
abbrev parts_of : Reads ℕ → List ℕ → Result Line LineFault
parts_of r line = then_read r (λ t. then_read (command_from t.place line) (λ a. Ok (line_by t.value a)))

line_place : (p q : ℕ) → bad {A = Line} p ≡ bad q → p ≡ q
line_place p q e = cc

-- a line that goes wrong is none with whatever bytes behind these
no_line : (k q : ℕ) (line other : List ℕ) (l : Line) → Share k line other → q ≤ k → parts_of (session_from line) line ≡ bad q → parts_of (session_from other) other ≡ Ok l → ⊥
no_line k q line other l s low wrong right = by_session (session_from line) (λ h. same_session k line other s h) wrong
  where
    by_command : (t : Taken ℕ) → (r x : Result Act LineFault) → command_from t.place line ≡ r → command_from t.place other ≡ x
        → then_read r (λ a. Ok (line_by t.value a)) ≡ bad q → then_read x (λ a. Ok (line_by t.value a)) ≡ Ok l → ⊥
    by_command t (Ok a) x is there got good = absurd (cc)
    by_command t (Err fault.NoMemory) x is there got good = absurd (cc)
    by_command t (Err e) (Err f) is there got good = absurd (cc)
    by_command t (Err (fault.BadLine p)) (Ok a) is there got good =
        let e = line_place p q got in
        let start = command_starts t.place p line is in
        no_command t.place k p line other a s (omega (arith, start, e, low)) (omega (arith, e, low)) is there

    by_session : (r : Reads ℕ) → (place_of r ≤ k → session_from other ≡ r) → parts_of r line ≡ bad q → ⊥
    by_session (Ok t) same got =
        let start = starts t got in
        by_command t (command_from t.place line) (command_from t.place other) refl refl got (sym (ap (λ (r : Reads ℕ). parts_of r other) (same (omega (arith, start, low)))) ∙ right)
      where
        starts : (t : Taken ℕ) → parts_of (Ok t) line ≡ bad q → t.place ≤ q
        starts t got = by_result (command_from t.place line) refl got
          where
            by_result : (r : Result Act LineFault) → command_from t.place line ≡ r → then_read r (λ a. Ok (line_by t.value a)) ≡ bad q → t.place ≤ q
            by_result (Ok a) is got = absurd (cc)
            by_result (Err fault.NoMemory) is got = absurd (cc)
            by_result (Err (fault.BadLine p)) is got = let e = line_place p q got in let h = command_starts t.place p line is in omega (arith, e, h)
    by_session (Err fault.NoMemory) same got = absurd (cc)
    by_session (Err (fault.BadLine p)) same got =
        let e = line_place p q got in
        let there : parts_of (session_from other) other ≡ bad p = ap (λ (r : Reads ℕ). parts_of r other) (same (omega (arith, e, low))) in
        absurd (cc)

-- the first bytes with others behind them share more bytes than fit in front
share_taken : (n k : ℕ) (line rest : List ℕ) → n < k → k ≤ length line → Share n line (take k line ++ rest)
share_taken n zero line rest h l = absurd (omega (arith, h))
share_taken n (suc k) [] rest h l = absurd (omega (arith, l))
share_taken zero (suc k) (c ∷ cs) rest h l = here c cs (take k cs ++ rest)
share_taken (suc n) (suc k) (c ∷ cs) rest h l = later c n cs (take k cs ++ rest) (share_taken n k cs rest (omega (arith, h)) (omega (arith, l)))

-- no part of a line that is longer than `at` begins a line with a reading
pub none_later : (line : List ℕ) (at k : ℕ) → length line ≤ line_limit → line_from line ≡ bad at → at < k → k ≤ length line → BeginsLine (take k line) → ⊥
unfolding line_from
none_later line at k short wrong past within begins =
    let rest = begins.0 in
    let l = begins.1 in
    let is = begins.2 in
    no_line at at line (take k line ++ rest) l (share_taken at k line rest past within) (omega arith)
    (sym (whole line short) ∙ wrong) (sym (whole (take k line ++ rest) is.short) ∙ read_whole_line (take k line ++ rest) l is)
  where
    whole : (any : List ℕ) → length any ≤ line_limit → line_from any ≡ parts_of (session_from any) any
    whole any h = by_test (nat_lt line_limit (length any)) (grind (arith, nat_tests))
      where
        by_test : (b : Bool) → b ≡ false → (if b then bad line_limit else parts_of (session_from any) any) ≡ parts_of (session_from any) any
        by_test true is = absurd (cc)
        by_test false is = refl
