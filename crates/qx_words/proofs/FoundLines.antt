-- Reading a line part by part wants no memory, so it finds the place where a line goes wrong.
use Rattle.std.proofs.Common.{◌≡◌, ◌⊎◌, inl, inr, ℕ, ◌+◌, ◌-◌, ◌^◌, ◌<◌, ◌≤◌, List, [], ◌∷◌, drop, length, Ok, Err, Option, Some, None, refl, sym, ◌∙◌, ap, arith}
use Rattle.std.specs.Prelude.{Bool, true, false, Result, codes, nat_lt, ◌&&◌, ◌==◌, if◌then◌else◌}
use Rattle.qx_model.specs.declared.operation.Op.TheVariants as op
use Rattle.qx_model.specs.declared.turn.Act.{Act}
use Rattle.qx_model.specs.declared.turn.Act.TheVariants as act
use Rattle.qx_words.specs.declared.arguments.Arguments.{Arguments}
use Rattle.qx_words.specs.declared.grammar.Verb.{Verb}
use Rattle.qx_words.specs.declared.grammar.Verb.TheVariants as verb
use Rattle.qx_words.specs.declared.line.Line.{Line}
use Rattle.qx_words.specs.declared.line.LineFault.{LineFault}
use Rattle.qx_words.specs.declared.line.LineFault.TheVariants as fault
use Rattle.qx_words.specs.Commands.{act_of, arguments_of, name_of, no_arguments}
use Rattle.qx_words.specs.Lines.{GoesWrongAt, IsFaultOf, line_by, line_limit}
use Rattle.qx_words.specs.Reading.{Reads, Taken, act_from, arguments_from, bad, command_by, command_from, ended, first_digit_of, first_word, is_list, line_from, number_by, number_from, session_from, space_at, taken, then_read, verb_named}
use Rattle.qx_words.proofs.LineFaults.{goes_wrong, one_wrong}
use Rattle.qx_words.proofs.SameFronts.{arguments_start, place_of}
use Rattle.qx_words.proofs.SpelledLines.{line_taken}

-- ---- no part of reading wants memory

-- it doesn't fail for memory
Answers : {A : Type 0} → Result A LineFault → Type 0
Answers (Ok a) = Unit {0}
Answers (Err (fault.BadLine at)) = Unit {0}
Answers (Err fault.NoMemory) = ⊥

then_answers : {A B : Type 0} (r : Result A LineFault) (next : A → Result B LineFault) → Answers r → ((a : A) → Answers (next a)) → Answers (then_read r next)
unfolding Answers
then_answers (Ok a) next h rest = rest a
then_answers (Err (fault.BadLine at)) next h rest = tt
then_answers (Err fault.NoMemory) next h rest = absurd h

number_answers : (low limit at stop : ℕ) (bytes : List ℕ) → Answers (number_from low limit at stop bytes)
unfolding Answers number_from
number_answers low limit at stop bytes = go (first_digit_of low at stop bytes)
  where
    go : (o : Option ℕ) → Answers (number_by o limit at stop bytes)
    go None = tt
    go (Some first) = tt

space_answers : (at : ℕ) (bytes : List ℕ) → Answers (space_at at bytes)
unfolding Answers
space_answers at [] = tt
space_answers at (c ∷ cs) = go (c == 32)
  where
    go : (b : Bool) → Answers (let r : Result ℕ LineFault = if b then Ok (at + 1) else bad at in r)
    go true = tt
    go false = tt

session_answers : (line : List ℕ) → Answers (session_from line)
unfolding Answers
session_answers [] = tt
session_answers (c ∷ cs) = go (c == 64)
  where
    place_taken : (t : Taken ℕ) → Answers (then_read (space_at t.place (drop t.place (c ∷ cs))) (λ p. taken t.value p))
    place_taken t = then_answers (space_at t.place (drop t.place (c ∷ cs))) (λ p. taken t.value p) (space_answers t.place (drop t.place (c ∷ cs))) (λ p. tt)

    go : (b : Bool) → Answers (if b then then_read (number_from 0 (2 ^ 64 - 1) 1 (line_limit - 3) cs) (λ t. then_read (space_at t.place (drop t.place (c ∷ cs))) (λ p. taken t.value p)) else taken 0 0)
    go true =
        then_answers (number_from 0 (2 ^ 64 - 1) 1 (line_limit - 3) cs) (λ t. then_read (space_at t.place (drop t.place (c ∷ cs))) (λ p. taken t.value p))
        (number_answers 0 (2 ^ 64 - 1) 1 (line_limit - 3) cs) place_taken
    go false = tt

-- what fails behind a first byte fails there or later, and so not for memory
placed_answers : {A : Type 0} (r : Reads A) (at : ℕ) → 0 < at → at ≤ place_of r → Answers r
unfolding Answers
placed_answers (Ok t) at some low = tt
placed_answers (Err (fault.BadLine q)) at some low = tt
placed_answers (Err fault.NoMemory) at some low = omega arith

act_answers : (v : Verb) (at : ℕ) (line : List ℕ) → 0 < at → Answers (act_from v at line)
unfolding Answers
act_answers v at line some = go (is_list v && at == length line)
  where
    end_answers : (t : Taken Arguments) (b : Bool) → Answers (let r : Result Act LineFault = if b then Ok (act_of v t.value) else bad t.place in r)
    end_answers t true = tt
    end_answers t false = tt

    go : (b : Bool) → Answers (if b then Ok (act.Op (op.List (codes "."))) else then_read (arguments_from (arguments_of v) at line no_arguments) (λ t. ended (act_of v t.value) t.place line))
    go true = tt
    go false =
        then_answers (arguments_from (arguments_of v) at line no_arguments) (λ t. ended (act_of v t.value) t.place line)
        (placed_answers (arguments_from (arguments_of v) at line no_arguments) at some (arguments_start (arguments_of v) at line no_arguments)) (λ t. end_answers t (t.place == length line))

named_some : (v : Verb) → 0 < length (name_of v)
named_some verb.List = omega arith
named_some verb.Stat = omega arith
named_some verb.ReadLink = omega arith
named_some verb.Read = omega arith
named_some verb.Create = omega arith
named_some verb.Mkdir = omega arith
named_some verb.Write = omega arith
named_some verb.Fill = omega arith
named_some verb.Truncate = omega arith
named_some verb.Remove = omega arith
named_some verb.RemoveDir = omega arith
named_some verb.Rename = omega arith
named_some verb.Link = omega arith
named_some verb.Symlink = omega arith
named_some verb.Chmod = omega arith
named_some verb.Chown = omega arith
named_some verb.Utime = omega arith
named_some verb.Cd = omega arith
named_some verb.Df = omega arith
named_some verb.Hold = omega arith
named_some verb.Unhold = omega arith
named_some verb.Sync = omega arith
named_some verb.Fsync = omega arith
named_some verb.Tick = omega arith
named_some verb.Quit = omega arith

command_answers : (at : ℕ) (line : List ℕ) → Answers (command_from at line)
unfolding Answers command_from
command_answers at line = go (verb_named (first_word (drop at line)))
  where
    go : (o : Option Verb) → Answers (command_by o at line)
    go None = tt
    go (Some v) = act_answers v (at + length (name_of v)) line (let some = named_some v in omega arith)

line_answers : (line : List ℕ) → Answers (line_from line)
unfolding Answers line_from
line_answers line = go (nat_lt line_limit (length line))
  where
    go : (b : Bool) → Answers (if b then bad line_limit else then_read (session_from line) (λ t. then_read (command_from t.place line) (λ a. Ok (line_by t.value a))))
    go true = tt
    go false =
        then_answers (session_from line) (λ t. then_read (command_from t.place line) (λ a. Ok (line_by t.value a))) (session_answers line)
        (λ t. then_answers (command_from t.place line) (λ a. Ok (line_by t.value a)) (command_answers t.place line) (λ a. tt))

-- ---- the place

-- the place where a line goes wrong is found
pub found_wrong : (line : List ℕ) (at : ℕ) → IsFaultOf line (fault.BadLine at) → line_from line ≡ bad at
unfolding Answers
found_wrong line at (none, place) = go (line_from line) refl (line_answers line)
  where
    same_place : (p q : ℕ) → ((line_limit < length line) × (p ≡ line_limit)) ⊎ ((length line ≤ line_limit) × GoesWrongAt line p) → ((line_limit < length line) × (q ≡ line_limit)) ⊎ ((length line ≤ line_limit) × GoesWrongAt line q) → p ≡ q
    same_place p q (inl (long, a)) (inl (also, b)) = a ∙ sym b
    same_place p q (inl (long, a)) (inr (short, b)) = absurd (omega arith)
    same_place p q (inr (short, a)) (inl (long, b)) = absurd (omega arith)
    same_place p q (inr (short, a)) (inr (also, b)) = one_wrong line p q a b

    go : (r : Result Line LineFault) → line_from line ≡ r → Answers r → r ≡ bad at
    go (Ok l) is h = absurd (none l (line_taken line l is))
    go (Err (fault.BadLine q)) is h = ap (λ p. bad p) (same_place q at (goes_wrong line q is).1 place)
    go (Err fault.NoMemory) is h = absurd h
