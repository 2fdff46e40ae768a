-- What is read as a line is one of the grammar.
use Rattle.std.proofs.Common.{◌≡◌, ℕ, ◌+◌, ◌-◌, ◌^◌, ◌≤◌, Bool, true, false, List, [], ◌∷◌, ◌++◌, length, drop, Option, Some, None, Ok, Err, refl, sym, ap, subst, ◌∙◌, arith, append-nil}
use Rattle.std.specs.Prelude.{◌==◌, ◌&&◌, if◌then◌else◌, nat_lt, Result, codes}
use Rattle.std.proofs.lemmas.List.{drop-drop, length-append, length-drop}
use Rattle.std.proofs.Math.Seq.{drop-append_seam}
use Rattle.std.proofs.Math.ListN.{drop_of_length-le}
use Rattle.std.proofs.lemmas.Bool.Decides.{Decides-eqb, nat_tests}
use Rattle.qx_model.specs.declared.turn.Act.{Act}
use Rattle.qx_model.specs.declared.turn.Act.TheVariants as act
use Rattle.qx_model.specs.declared.operation.Op.TheVariants as op
use Rattle.qx_words.specs.declared.grammar.Verb.{Verb}
use Rattle.qx_words.specs.declared.grammar.Verb.TheVariants as verb
use Rattle.qx_words.specs.declared.arguments.Arguments.{Arguments}
use Rattle.qx_words.specs.declared.line.Line.{Line}
use Rattle.qx_words.specs.declared.line.LineFault.{LineFault}
use Rattle.qx_words.specs.Commands.{act_of, arguments_of, name_of, no_arguments}
use Rattle.qx_words.specs.Numbers.{IsNumber}
use Rattle.qx_words.specs.Lines.{AreArguments, IsCommand, IsLine, IsText, bare, here, line_by, line_limit, of_session, with_arguments}
use Rattle.qx_words.specs.Reading.{Reads, Taken, act_from, arguments_from, bad, command_by, command_from, ended, first_word, is_list, line_from, number_from, session_from, space_at, taken, then_read, verb_named}
use Rattle.qx_words.proofs.NamedVerbs.{name_of_named}
use Rattle.qx_words.proofs.SpelledArguments.{IsFront, arguments_taken}
use Rattle.qx_words.proofs.SpelledNumbers.{number_taken}

-- a name and what is behind it
pub behind_word : (ys : List ℕ) → (tail : List ℕ) × (ys ≡ first_word ys ++ tail)
behind_word [] = ([], refl)
behind_word (c ∷ cs) = by_test (c == 32) (behind_word cs)
  where
    by_test : (b : Bool) → (tail : List ℕ) × (cs ≡ first_word cs ++ tail) → (tail : List ℕ) × (c ∷ cs ≡ (if b then [] else c ∷ first_word cs) ++ tail)
    by_test true k = (c ∷ cs, refl)
    by_test false k = (k.0, ap (λ (xs : List ℕ). c ∷ xs) k.1)

-- nothing is behind the end
nothing_behind : (line rest front : List ℕ) (at place : ℕ) → at ≤ length line → drop at line ≡ front ++ rest → place ≡ at + length front → place ≡ length line → drop at line ≡ front
nothing_behind line rest front at place within split place_is ends =
    split ∙ ap (λ (xs : List ℕ). front ++ xs) (empty rest (let n = ap (λ (xs : List ℕ). length xs) split in let m = length-drop at line in let k = length-append front rest in omega arith)) ∙ append-nil front
  where
    empty : (xs : List ℕ) → length xs ≡ 0 → xs ≡ []
    empty [] e = refl
    empty (x ∷ xs) e = absurd (omega (arith, e))

-- a verb's name with its arguments is a command
pub act_taken : (v : Verb) (at : ℕ) (line : List ℕ) (a : Act) → at ≤ length line → act_from v at line ≡ Ok a → IsCommand (name_of v ++ drop at line) a
act_taken v at line a within e = by_here (is_list v && at == length line) refl e
  where
    by_end : (t : Taken Arguments) → IsFront (λ front. AreArguments (arguments_of v) front no_arguments t.value) at (drop at line) t.place → (b : Bool) → (t.place == length line) ≡ b
        → (if b then Ok (act_of v t.value) else bad t.place) ≡ Ok a → IsCommand (name_of v ++ drop at line) a
    by_end t k false is got = absurd (cc)
    by_end t k true is got =
        let all = nothing_behind line k.rest k.front at t.place within k.split k.place_is ((Decides-eqb t.place (length line)).0 is) in
        let same : act_of v t.value ≡ a = cc in
        subst (λ (x : Act). IsCommand (name_of v ++ drop at line) x) same
        (subst (λ (xs : List ℕ). IsCommand (name_of v ++ xs) (act_of v t.value)) (sym all) (with_arguments v t.value k.front k.is))

    by_arguments : (x : Reads Arguments) → arguments_from (arguments_of v) at line no_arguments ≡ x
        → then_read x (λ t. ended (act_of v t.value) t.place line) ≡ Ok a → IsCommand (name_of v ++ drop at line) a
    by_arguments (Err e) is got = absurd (cc)
    by_arguments (Ok t) is got = by_end t (arguments_taken (arguments_of v) at line no_arguments t is) (t.place == length line) refl got

    listed : (w : Verb) → (is_list w && at == length line) ≡ true → act.Op (op.List (codes ".")) ≡ a → IsCommand (name_of w ++ drop at line) a
    listed verb.List is got =
        let end = (Decides-eqb at (length line)).0 is in
        let none : drop at line ≡ [] = drop_of_length-le line (omega (arith, end)) in
        subst (λ (x : Act). IsCommand (codes "ls" ++ drop at line) x) got (subst (λ (xs : List ℕ). IsCommand (codes "ls" ++ xs) (act.Op (op.List (codes ".")))) (sym none) here)
    listed _ is got = absurd (cc)

    by_here : (b : Bool) → (is_list v && at == length line) ≡ b
        → (if b then Ok (act.Op (op.List (codes "."))) else then_read (arguments_from (arguments_of v) at line no_arguments) (λ t. ended (act_of v t.value) t.place line)) ≡ Ok a
        → IsCommand (name_of v ++ drop at line) a
    by_here true is got = let same : act.Op (op.List (codes ".")) ≡ a = cc in listed v is same
    by_here false is got = by_arguments (arguments_from (arguments_of v) at line no_arguments) refl got

-- the command from a place on
pub command_taken : (at : ℕ) (line : List ℕ) (a : Act) → at ≤ length line → command_from at line ≡ Ok a → IsCommand (drop at line) a
unfolding command_from
command_taken at line a within e = by_verb (verb_named (first_word (drop at line))) refl e
  where
    by_verb : (o : Option Verb) → verb_named (first_word (drop at line)) ≡ o → command_by o at line ≡ Ok a → IsCommand (drop at line) a
    by_verb None is got = absurd (cc)
    by_verb (Some v) is got =
        let named = name_of_named (first_word (drop at line)) v is in
        let tail = behind_word (drop at line) in
        let split : drop at line ≡ name_of v ++ tail.0 = tail.1 ∙ ap (λ (xs : List ℕ). xs ++ tail.0) (sym named) in
        let last : drop (at + length (name_of v)) line ≡ tail.0 = sym (drop-drop (length (name_of v)) at line) ∙ ap (λ (xs : List ℕ). drop (length (name_of v)) xs) split ∙ drop-append_seam (name_of v) tail.0 in
        let n = ap (λ (xs : List ℕ). length xs) split in
        let m = length-drop at line in
        let k = length-append (name_of v) tail.0 in
        subst (λ (xs : List ℕ). IsCommand xs a) (sym split)
        (subst (λ (xs : List ℕ). IsCommand (name_of v ++ xs) a) last (act_taken v (at + length (name_of v)) line a (omega arith) got))

-- what stands behind a sign and a word, and behind a space more
behind_sign : (word rest : List ℕ) → drop (1 + length word) (64 ∷ word ++ rest) ≡ rest
behind_sign word rest = let same : 1 + length word ≡ length (64 ∷ word) = omega arith in ap (λ (k : ℕ). drop k (64 ∷ word ++ rest)) same ∙ drop-append_seam (64 ∷ word) rest

two : (n : ℕ) → 1 + n + 1 ≡ 2 + n
two n = omega arith

behind : (word tail : List ℕ) → drop (2 + length word) (64 ∷ word ++ 32 ∷ tail) ≡ tail
behind word tail = sym (drop-drop 1 (1 + length word) (64 ∷ word ++ 32 ∷ tail) ∙ ap (λ (k : ℕ). drop k (64 ∷ word ++ 32 ∷ tail)) (two (length word))) ∙ ap (λ (xs : List ℕ). drop 1 xs) (behind_sign word (32 ∷ tail))

-- a command of session 0
of_first : (line : List ℕ) (l : Line) → then_read (command_from 0 line) (λ a. Ok (line_by 0 a)) ≡ Ok l → IsText line l
of_first line l e = by_command (command_from 0 line) refl e
  where
    by_command : (x : Result Act LineFault) → command_from 0 line ≡ x → then_read x (λ a. Ok (line_by 0 a)) ≡ Ok l → IsText line l
    by_command (Err e) is got = absurd (cc)
    by_command (Ok a) is got = let same : line_by 0 a ≡ l = cc in subst (λ (k : Line). IsText line k) same (bare line a (command_taken 0 line a (omega arith) is))

-- a command behind `@N` and a space
of_other : (line tail word : List ℕ) (n p : ℕ) (l : Line) → line ≡ 64 ∷ word ++ 32 ∷ tail → p ≡ 2 + length word → IsNumber 0 (2 ^ 64 - 1) word n
    → then_read (command_from p line) (λ a. Ok (line_by n a)) ≡ Ok l → IsText line l
of_other line tail word n p l split place_is number e = by_command (command_from p line) refl e
  where
    rest_is : drop p line ≡ tail
    rest_is = ap (λ (k : ℕ). drop k line) place_is ∙ ap (λ (xs : List ℕ). drop (2 + length word) xs) split ∙ behind word tail

    within : p ≤ length line
    within = let m = ap (λ (xs : List ℕ). length xs) split in let k = length-append word (32 ∷ tail) in omega (arith, place_is)

    by_command : (x : Result Act LineFault) → command_from p line ≡ x → then_read x (λ a. Ok (line_by n a)) ≡ Ok l → IsText line l
    by_command (Err e) is got = absurd (cc)
    by_command (Ok a) is got =
        let same : line_by n a ≡ l = cc in
        subst (λ (k : Line). IsText line k) same
        (subst (λ (xs : List ℕ). IsText xs (line_by n a)) (sym split) (of_session n word tail a number (subst (λ (xs : List ℕ). IsCommand xs a) rest_is (command_taken p line a within is))))

-- a space behind the number
by_space : (line cs word rest : List ℕ) (n place : ℕ) (l : Line) (ys : List ℕ) → line ≡ 64 ∷ word ++ rest → place ≡ 1 + length word → IsNumber 0 (2 ^ 64 - 1) word n → rest ≡ ys
    → then_read (then_read (space_at place ys) (λ p. taken n p)) (λ t. then_read (command_from t.place line) (λ a. Ok (line_by t.value a))) ≡ Ok l → IsText line l
by_space line cs word rest n place l [] split place_is number is got = absurd (cc)
by_space line cs word rest n place l (c ∷ tail) split place_is number is got = by_test (c == 32) refl got
  where
    by_test : (b : Bool) → (c == 32) ≡ b
        → then_read (then_read (if b then Ok (place + 1) else bad place) (λ p. taken n p)) (λ t. then_read (command_from t.place line) (λ a. Ok (line_by t.value a))) ≡ Ok l → IsText line l
    by_test false test got = absurd (cc)
    by_test true test got = of_other line tail word n (place + 1) l
        (split ∙ ap (λ (xs : List ℕ). 64 ∷ word ++ xs) (is ∙ ap (λ (d : ℕ). d ∷ tail) ((Decides-eqb c 32).0 test))) (omega (arith, place_is)) number got

-- the session, and the command behind it
session_taken : (line : List ℕ) (l : Line) → then_read (session_from line) (λ t. then_read (command_from t.place line) (λ a. Ok (line_by t.value a))) ≡ Ok l → IsText line l
session_taken [] l e = of_first [] l e
session_taken (c ∷ cs) l e = by_sign (c == 64) refl e
  where
    by_number : c ≡ 64 → (x : Reads ℕ) → number_from 0 (2 ^ 64 - 1) 1 (line_limit - 3) cs ≡ x
        → then_read (then_read x (λ t. then_read (space_at t.place (drop t.place (c ∷ cs))) (λ p. taken t.value p))) (λ t. then_read (command_from t.place (c ∷ cs)) (λ a. Ok (line_by t.value a))) ≡ Ok l → IsText (c ∷ cs) l
    by_number sign (Err e) is got = absurd (cc)
    by_number sign (Ok t) is got =
        let k = number_taken 0 (2 ^ 64 - 1) 1 (line_limit - 3) cs t (omega arith) (omega arith) is in
        let split : c ∷ cs ≡ 64 ∷ k.word ++ k.rest = ap (λ (d : ℕ). d ∷ cs) sign ∙ ap (λ (xs : List ℕ). 64 ∷ xs) k.split in
        let last : drop t.place (c ∷ cs) ≡ k.rest = ap (λ (p : ℕ). drop p (c ∷ cs)) k.place_is ∙ ap (λ (xs : List ℕ). drop (1 + length k.word) xs) split ∙ behind_sign k.word k.rest in
        by_space (c ∷ cs) cs k.word k.rest t.value t.place l (drop t.place (c ∷ cs)) split k.place_is k.is (sym last) got

    by_sign : (b : Bool) → (c == 64) ≡ b
        → then_read (if b then then_read (number_from 0 (2 ^ 64 - 1) 1 (line_limit - 3) cs) (λ t. then_read (space_at t.place (drop t.place (c ∷ cs))) (λ p. taken t.value p)) else taken 0 0)
        (λ t. then_read (command_from t.place (c ∷ cs)) (λ a. Ok (line_by t.value a))) ≡ Ok l → IsText (c ∷ cs) l
    by_sign false is got = of_first (c ∷ cs) l got
    by_sign true is got = by_number ((Decides-eqb c 64).0 is) (number_from 0 (2 ^ 64 - 1) 1 (line_limit - 3) cs) refl got

-- the line
pub line_taken : (line : List ℕ) (l : Line) → line_from line ≡ Ok l → IsLine line l
unfolding line_from
line_taken line l e = by_length (nat_lt line_limit (length line)) refl e
  where
    by_length : (b : Bool) → nat_lt line_limit (length line) ≡ b
        → (if b then bad line_limit else then_read (session_from line) (λ t. then_read (command_from t.place line) (λ a. Ok (line_by t.value a)))) ≡ Ok l → IsLine line l
    by_length true is got = absurd (cc)
    by_length false is got = record { short = grind (arith, nat_tests); text = session_taken line l got }
