-- Lines of the grammar are read.
use Rattle.std.proofs.Common.{◌≡◌, ℕ, ◌+◌, ◌-◌, ◌^◌, ◌≤◌, Bool, true, false, List, [], ◌∷◌, ◌++◌, length, drop, Option, Some, Ok, Err, refl, sym, ap, ◌∙◌, arith}
use Rattle.std.specs.Prelude.{◌==◌, ◌&&◌, not, if◌then◌else◌, nat_lt, Result, codes}
use Rattle.std.specs.List.{list_all}
use Rattle.std.proofs.lemmas.List.{drop-drop, length-append}
use Rattle.std.proofs.Math.Seq.{drop-append_seam}
use Rattle.std.proofs.lemmas.Bool.Decides.{nat_tests}
use Rattle.qx_model.specs.declared.turn.Act.{Act}
use Rattle.qx_model.specs.declared.turn.Act.TheVariants as act
use Rattle.qx_model.specs.declared.operation.Op.TheVariants as op
use Rattle.qx_words.specs.declared.grammar.Verb.{Verb}
use Rattle.qx_words.specs.declared.grammar.Verb.TheVariants as verb
use Rattle.qx_words.specs.declared.arguments.Arguments.{Arguments}
use Rattle.qx_words.specs.declared.line.Line.{Line}
use Rattle.qx_words.specs.declared.line.LineFault.{LineFault}
use Rattle.qx_words.specs.Commands.{act_of, arguments_of, name_of, no_arguments}
use Rattle.qx_words.specs.Numbers.{IsNumber}
use Rattle.qx_words.specs.Lines.{AreArguments, HasNoReading, IsCommand, IsLine, IsText, bare, here, line_by, line_limit, of_session, with_arguments}
use Rattle.qx_words.specs.Reading.{Reads, act_from, arguments_from, bad, command_by, command_from, ended, first_word, is_list, line_from, session_from, space_at, taken, then_read, verb_named}
use Rattle.qx_words.proofs.ReadWords.{EndsWord, line_ends, space}
use Rattle.qx_words.proofs.ReadNumbers.{read_number_word}
use Rattle.qx_words.proofs.ReadArguments.{ends_word, read_all}

-- a word without a space is the first one
first_of_two : (xs rest : List ℕ) → list_all (λ c. not (c == 32)) xs ≡ true → EndsWord rest → first_word (xs ++ rest) ≡ xs
first_of_two [] _ all line_ends = refl
first_of_two [] _ all (space rest) = refl
first_of_two (c ∷ cs) rest all ends = by_test (c == 32) all (λ k. first_of_two cs rest k ends)
  where
    by_test : (b : Bool) → (not b && list_all (λ c. not (c == 32)) cs) ≡ true → (list_all (λ c. not (c == 32)) cs ≡ true → first_word (cs ++ rest) ≡ cs)
        → (if b then [] else c ∷ first_word (cs ++ rest)) ≡ c ∷ cs
    by_test true none next = absurd (cc)
    by_test false all next = ap (λ (xs : List ℕ). c ∷ xs) (next all)

-- no verb has a space, and each is found by its name
one_word : (v : Verb) → list_all (λ c. not (c == 32)) (name_of v) ≡ true
one_word verb.List = refl
one_word verb.Stat = refl
one_word verb.ReadLink = refl
one_word verb.Read = refl
one_word verb.Create = refl
one_word verb.Mkdir = refl
one_word verb.Write = refl
one_word verb.Fill = refl
one_word verb.Truncate = refl
one_word verb.Remove = refl
one_word verb.RemoveDir = refl
one_word verb.Rename = refl
one_word verb.Link = refl
one_word verb.Symlink = refl
one_word verb.Chmod = refl
one_word verb.Chown = refl
one_word verb.Utime = refl
one_word verb.Cd = refl
one_word verb.Df = refl
one_word verb.Hold = refl
one_word verb.Unhold = refl
one_word verb.Sync = refl
one_word verb.Fsync = refl
one_word verb.Tick = refl
one_word verb.Quit = refl

found : (v : Verb) → verb_named (name_of v) ≡ Some v
found verb.List = refl
found verb.Stat = refl
found verb.ReadLink = refl
found verb.Read = refl
found verb.Create = refl
found verb.Mkdir = refl
found verb.Write = refl
found verb.Fill = refl
found verb.Truncate = refl
found verb.Remove = refl
found verb.RemoveDir = refl
found verb.Rename = refl
found verb.Link = refl
found verb.Symlink = refl
found verb.Chmod = refl
found verb.Chown = refl
found verb.Utime = refl
found verb.Cd = refl
found verb.Df = refl
found verb.Hold = refl
found verb.Unhold = refl
found verb.Sync = refl
found verb.Fsync = refl
found verb.Tick = refl
found verb.Quit = refl

-- a verb with arguments isn't at the end, and `ls` has one
not_here : (v : Verb) (bytes line : List ℕ) (at : ℕ) (a : Arguments) → AreArguments (arguments_of v) bytes no_arguments a → at + length bytes ≡ length line → (is_list v && at == length line) ≡ false
not_here verb.List bytes line at a is e = let n = ap (λ (ys : List ℕ). length ys) is.3 in let m = length-append (32 ∷ is.0) is.1 in grind (arith, nat_tests)
not_here verb.Stat bytes line at a is e = refl
not_here verb.ReadLink bytes line at a is e = refl
not_here verb.Read bytes line at a is e = refl
not_here verb.Create bytes line at a is e = refl
not_here verb.Mkdir bytes line at a is e = refl
not_here verb.Write bytes line at a is e = refl
not_here verb.Fill bytes line at a is e = refl
not_here verb.Truncate bytes line at a is e = refl
not_here verb.Remove bytes line at a is e = refl
not_here verb.RemoveDir bytes line at a is e = refl
not_here verb.Rename bytes line at a is e = refl
not_here verb.Link bytes line at a is e = refl
not_here verb.Symlink bytes line at a is e = refl
not_here verb.Chmod bytes line at a is e = refl
not_here verb.Chown bytes line at a is e = refl
not_here verb.Utime bytes line at a is e = refl
not_here verb.Cd bytes line at a is e = refl
not_here verb.Df bytes line at a is e = refl
not_here verb.Hold bytes line at a is e = refl
not_here verb.Unhold bytes line at a is e = refl
not_here verb.Sync bytes line at a is e = refl
not_here verb.Fsync bytes line at a is e = refl
not_here verb.Tick bytes line at a is e = refl
not_here verb.Quit bytes line at a is e = refl

-- a command's act is read
read_act : (v : Verb) (bytes line : List ℕ) (at : ℕ) (a : Arguments) → AreArguments (arguments_of v) bytes no_arguments a → drop at line ≡ bytes → at + length bytes ≡ length line → length line ≤ line_limit
    → act_from v at line ≡ Ok (act_of v a)
read_act v bytes line at a is behind whole short =
    chosen (is_list v && at == length line) (not_here v bytes line at a is whole)
    ∙ ap (λ (r : Reads Arguments). then_read r (λ t. ended (act_of v t.value) t.place line)) (read_all (arguments_of v) bytes no_arguments a at line is behind (omega (arith, whole, short)))
    ∙ at_end (at + length bytes) whole
  where
    chosen : (b : Bool) → b ≡ false → (if b then Ok (act.Op (op.List (codes "."))) else then_read (arguments_from (arguments_of v) at line no_arguments) (λ t. ended (act_of v t.value) t.place line))
        ≡ then_read (arguments_from (arguments_of v) at line no_arguments) (λ t. ended (act_of v t.value) t.place line)
    chosen true e = absurd (cc)
    chosen false e = refl

    at_end : (p : ℕ) → p ≡ length line → ended (act_of v a) p line ≡ Ok (act_of v a)
    at_end p e = grind (arith, nat_tests)

-- the verb at a place
read_verb : (v : Verb) (rest line : List ℕ) (at : ℕ) → EndsWord rest → drop at line ≡ name_of v ++ rest → command_from at line ≡ act_from v (at + length (name_of v)) line
unfolding command_from
read_verb v rest line at ends split =
    ap (λ (o : Option Verb). command_by o at line) (ap (λ (ys : List ℕ). verb_named (first_word ys)) split ∙ ap verb_named (first_of_two (name_of v) rest (one_word v) ends) ∙ found v)

behind_name : (v : Verb) (rest line : List ℕ) (at : ℕ) → drop at line ≡ name_of v ++ rest → drop (at + length (name_of v)) line ≡ rest
behind_name v rest line at split = sym (drop-drop (length (name_of v)) at line) ∙ ap (λ (xs : List ℕ). drop (length (name_of v)) xs) split ∙ drop-append_seam (name_of v) rest

-- a command is read
read_command : (bytes line : List ℕ) (at : ℕ) (a : Act) → IsCommand bytes a → drop at line ≡ bytes → at + length bytes ≡ length line → length line ≤ line_limit → command_from at line ≡ Ok a
read_command _ line at _ (with_arguments v a rest is) split whole short =
    let n = length-append (name_of v) rest in
    read_verb v rest line at (ends_word (arguments_of v) rest no_arguments a is) split
    ∙ read_act v rest line (at + length (name_of v)) a is (behind_name v rest line at split) (omega (arith, n, whole)) short
read_command _ line at _ here split whole short =
    read_verb verb.List [] line at line_ends split ∙ chosen (at + 2 == length line) (let e : at + 2 ≡ length line = omega (arith, whole) in grind (arith, nat_tests))
  where
    chosen : (b : Bool) → b ≡ true → (if b then Ok (act.Op (op.List (codes "."))) else then_read (arguments_from (arguments_of verb.List) (at + 2) line no_arguments) (λ t. ended (act_of verb.List t.value) t.place line)) ≡ Ok (act.Op (op.List (codes ".")))
    chosen true e = refl
    chosen false e = absurd (cc)

-- no verb begins with `@`
no_sign : (v : Verb) (rest : List ℕ) → session_from (name_of v ++ rest) ≡ taken 0 0
no_sign verb.List rest = refl
no_sign verb.Stat rest = refl
no_sign verb.ReadLink rest = refl
no_sign verb.Read rest = refl
no_sign verb.Create rest = refl
no_sign verb.Mkdir rest = refl
no_sign verb.Write rest = refl
no_sign verb.Fill rest = refl
no_sign verb.Truncate rest = refl
no_sign verb.Remove rest = refl
no_sign verb.RemoveDir rest = refl
no_sign verb.Rename rest = refl
no_sign verb.Link rest = refl
no_sign verb.Symlink rest = refl
no_sign verb.Chmod rest = refl
no_sign verb.Chown rest = refl
no_sign verb.Utime rest = refl
no_sign verb.Cd rest = refl
no_sign verb.Df rest = refl
no_sign verb.Hold rest = refl
no_sign verb.Unhold rest = refl
no_sign verb.Sync rest = refl
no_sign verb.Fsync rest = refl
no_sign verb.Tick rest = refl
no_sign verb.Quit rest = refl

-- a verb has two bytes at least
long_name : (v : Verb) → 2 ≤ length (name_of v)
long_name verb.List = omega arith
long_name verb.Stat = omega arith
long_name verb.ReadLink = omega arith
long_name verb.Read = omega arith
long_name verb.Create = omega arith
long_name verb.Mkdir = omega arith
long_name verb.Write = omega arith
long_name verb.Fill = omega arith
long_name verb.Truncate = omega arith
long_name verb.Remove = omega arith
long_name verb.RemoveDir = omega arith
long_name verb.Rename = omega arith
long_name verb.Link = omega arith
long_name verb.Symlink = omega arith
long_name verb.Chmod = omega arith
long_name verb.Chown = omega arith
long_name verb.Utime = omega arith
long_name verb.Cd = omega arith
long_name verb.Df = omega arith
long_name verb.Hold = omega arith
long_name verb.Unhold = omega arith
long_name verb.Sync = omega arith
long_name verb.Fsync = omega arith
long_name verb.Tick = omega arith
long_name verb.Quit = omega arith

command_sign : (bytes : List ℕ) (a : Act) → IsCommand bytes a → session_from bytes ≡ taken 0 0
command_sign _ _ (with_arguments v a rest is) = no_sign v rest
command_sign _ _ here = refl

command_filled : (bytes : List ℕ) (a : Act) → IsCommand bytes a → 2 ≤ length bytes
command_filled _ _ (with_arguments v a rest is) = let n = length-append (name_of v) rest in let k = long_name v in omega (arith, n, k)
command_filled _ _ here = omega arith

-- what is behind the session
behind_session : (number bytes : List ℕ) → drop (1 + length number + 1) (64 ∷ number ++ 32 ∷ bytes) ≡ bytes
behind_session number bytes =
    sym (drop-drop 1 (1 + length number) (64 ∷ number ++ 32 ∷ bytes)) ∙ ap (λ (xs : List ℕ). drop 1 xs) (behind_number number (32 ∷ bytes))
  where
    behind_number : (number rest : List ℕ) → drop (1 + length number) (64 ∷ number ++ rest) ≡ rest
    behind_number number rest = let same : 1 + length number ≡ length (64 ∷ number) = omega arith in ap (λ (k : ℕ). drop k (64 ∷ number ++ rest)) same ∙ drop-append_seam (64 ∷ number) rest

-- the session is read
read_session : (n : ℕ) (number bytes : List ℕ) → IsNumber 0 (2 ^ 64 - 1) number n → length number ≤ 8188 → session_from (64 ∷ number ++ 32 ∷ bytes) ≡ taken n (1 + length number + 1)
read_session n number bytes is few =
    ap (λ (r : Reads ℕ). then_read r (λ t. then_read (space_at t.place (drop t.place (64 ∷ number ++ 32 ∷ bytes))) (λ p. taken t.value p)))
    (read_number_word 0 (2 ^ 64 - 1) number (32 ∷ bytes) n 1 (line_limit - 3) (omega arith) (omega arith) is (space bytes) (omega (arith, few)))
    ∙ ap (λ (ys : List ℕ). then_read (space_at (1 + length number) ys) (λ p. taken n p)) (behind_number number (32 ∷ bytes))
  where
    behind_number : (number rest : List ℕ) → drop (1 + length number) (64 ∷ number ++ rest) ≡ rest
    behind_number number rest = let same : 1 + length number ≡ length (64 ∷ number) = omega arith in ap (λ (k : ℕ). drop k (64 ∷ number ++ rest)) same ∙ drop-append_seam (64 ∷ number) rest

-- the text of a line is read
read_text : (line : List ℕ) (l : Line) → IsText line l → length line ≤ line_limit → then_read (session_from line) (λ t. then_read (command_from t.place line) (λ a. Ok (line_by t.value a))) ≡ Ok l
read_text _ _ (bare bytes a is) short =
    ap (λ (r : Reads ℕ). then_read r (λ t. then_read (command_from t.place bytes) (λ a. Ok (line_by t.value a)))) (command_sign bytes a is)
    ∙ ap (λ (r : Result Act LineFault). then_read r (λ a. Ok (line_by 0 a))) (read_command bytes bytes 0 a is refl (omega arith) short)
read_text _ _ (of_session n number bytes a is command) short =
    let m = length-append number (32 ∷ bytes) in
    let two = command_filled bytes a command in
    ap (λ (r : Reads ℕ). then_read r (λ t. then_read (command_from t.place (64 ∷ number ++ 32 ∷ bytes)) (λ a. Ok (line_by t.value a)))) (read_session n number bytes is (omega (arith, m, two, short)))
    ∙ ap (λ (r : Result Act LineFault). then_read r (λ a. Ok (line_by n a))) (read_command bytes (64 ∷ number ++ 32 ∷ bytes) (1 + length number + 1) a command (behind_session number bytes) (omega (arith, m)) short)

-- a line of the grammar is read
pub read_whole_line : (line : List ℕ) (l : Line) → IsLine line l → line_from line ≡ Ok l
unfolding line_from
read_whole_line line l is = chosen (nat_lt line_limit (length line)) (let h = is.short in grind (arith, nat_tests)) ∙ read_text line l is.text is.short
  where
    chosen : (b : Bool) → b ≡ false → (if b then bad line_limit else then_read (session_from line) (λ t. then_read (command_from t.place line) (λ a. Ok (line_by t.value a))))
        ≡ then_read (session_from line) (λ t. then_read (command_from t.place line) (λ a. Ok (line_by t.value a)))
    chosen true e = absurd (cc)
    chosen false e = refl

-- a line that fails has no reading
pub no_reading : (line : List ℕ) (e : LineFault) → line_from line ≡ Err e → HasNoReading line
no_reading line e is l reads = let got = read_whole_line line l reads in cc
