-- Where a line goes wrong, what stands before begins a line with a reading.
use Rattle.std.proofs.Common.{◌≡◌, ℕ, zero, suc, ◌+◌, ◌*◌, ◌-◌, ◌^◌, ◌<◌, ◌≤◌, Bool, true, false, List, [], ◌∷◌, ◌++◌, length, drop, take, Option, Some, None, Ok, Err, refl, sym, ap, subst, ◌∙◌, arith, append_assoc, append-nil}
use Rattle.std.specs.Prelude.{nat_lt, nat_le, ◌==◌, ◌&&◌, if◌then◌else◌, Result, codes, fold, max}
use Rattle.std.proofs.lemmas.Bool.Decides.{nat_tests, Decides-eqb}
use Rattle.std.proofs.lemmas.List.{drop-drop, length-append, length-drop}
use Rattle.std.proofs.Math.Seq.{drop-append_seam, take-append_seam}
use Rattle.std.proofs.lemmas.Fmt.{length-decimal-le}
use Rattle.qx_model.specs.declared.turn.Act.{Act}
use Rattle.qx_model.specs.declared.turn.Act.TheVariants as act
use Rattle.qx_model.specs.declared.operation.Op.TheVariants as op
use Rattle.qx_words.specs.declared.grammar.Verb.{Verb}
use Rattle.qx_words.specs.declared.grammar.Verb.TheVariants as verb
use Rattle.qx_words.specs.declared.arguments.Arguments.{Arguments}
use Rattle.qx_words.specs.declared.line.Line.{Line}
use Rattle.qx_words.specs.declared.line.LineFault.{LineFault}
use Rattle.qx_words.specs.declared.line.LineFault.TheVariants as fault
use Rattle.qx_words.specs.Commands.{act_of, arguments_of, name_of, no_arguments, verbs}
use Rattle.qx_words.specs.Numbers.{IsNumber}
use Rattle.qx_words.specs.Lines.{AreArguments, BeginsLine, IsCommand, IsLine, IsText, bare, line_by, line_limit, of_session, with_arguments}
use Rattle.qx_words.specs.Reading.{Reads, Taken, act_from, arguments_from, bad, command_by, command_from, ended, first_word, furthest, is_list, line_from, number_from, session_from, shared, space_at, taken, then_read, verb_named}
use Rattle.qx_words.proofs.NamedVerbs.{name_of_named}
use Rattle.qx_words.proofs.SpelledArguments.{arguments_taken}
use Rattle.qx_words.proofs.SpelledLines.{behind_word}
use Rattle.qx_words.proofs.SpelledNumbers.{number_taken}
use Rattle.qx_words.proofs.Completions.{Completes, arguments_complete, least, number_completes, one_place}

-- ---- commands

-- a name and two bytes for each argument are sixteen bytes at most
small_row : (v : Verb) → length (name_of v) + 2 * length (arguments_of v) ≤ 16
small_row verb.List = omega arith
small_row verb.Stat = omega arith
small_row verb.ReadLink = omega arith
small_row verb.Read = omega arith
small_row verb.Create = omega arith
small_row verb.Mkdir = omega arith
small_row verb.Write = omega arith
small_row verb.Fill = omega arith
small_row verb.Truncate = omega arith
small_row verb.Remove = omega arith
small_row verb.RemoveDir = omega arith
small_row verb.Rename = omega arith
small_row verb.Link = omega arith
small_row verb.Symlink = omega arith
small_row verb.Chmod = omega arith
small_row verb.Chown = omega arith
small_row verb.Utime = omega arith
small_row verb.Cd = omega arith
small_row verb.Df = omega arith
small_row verb.Hold = omega arith
small_row verb.Unhold = omega arith
small_row verb.Sync = omega arith
small_row verb.Fsync = omega arith
small_row verb.Tick = omega arith
small_row verb.Quit = omega arith

-- bytes that begin a command
abbrev BeginCommand : ℕ → List ℕ → ℕ → Type 0
BeginCommand at bytes q = Completes (λ w. (a : Act) × IsCommand w a) at bytes q line_limit

-- a verb whose arguments go wrong
act_completes : (v : Verb) (at : ℕ) (line : List ℕ) (q : ℕ) → at ≤ length line → length line ≤ line_limit → at + 2 * length (arguments_of v) ≤ line_limit → act_from v at line ≡ bad q
    → Completes (λ w. (a : Act) × IsCommand (name_of v ++ w) a) at (drop at line) q line_limit
act_completes v at line q within short room wrong = by_here (is_list v && at == length line) wrong
  where
    by_end : (t : Taken Arguments) → arguments_from (arguments_of v) at line no_arguments ≡ Ok t → (b : Bool) → (if b then Ok (act_of v t.value) else bad t.place) ≡ bad q
        → Completes (λ w. (a : Act) × IsCommand (name_of v ++ w) a) at (drop at line) q line_limit
    by_end t is true got = absurd (cc)
    by_end t is false got =
        let k = arguments_taken (arguments_of v) at line no_arguments t is in
        let e = one_place t.place q got in
        let n = ap (λ (xs : List ℕ). length xs) k.split in
        let m = length-append k.front k.rest in
        let d = length-drop at line in
        record {
          front = k.front;
          tail = k.rest;
          rest = [];
          split = k.split;
          place_is = omega (arith, e, k.place_is);
          is = (act_of v t.value, with_arguments v t.value (k.front ++ []) (subst (λ (xs : List ℕ). AreArguments (arguments_of v) xs no_arguments t.value) (sym (append-nil k.front)) k.is));
          room = omega (arith, e, k.place_is, n, m, d, within, short);
        }

    by_arguments : (r : Reads Arguments) → arguments_from (arguments_of v) at line no_arguments ≡ r → then_read r (λ t. ended (act_of v t.value) t.place line) ≡ bad q
        → Completes (λ w. (a : Act) × IsCommand (name_of v ++ w) a) at (drop at line) q line_limit
    by_arguments (Ok t) is got = by_end t is (t.place == length line) got
    by_arguments (Err (fault.BadLine p)) is got =
        let e = one_place p q got in
        let k = arguments_complete (arguments_of v) at line no_arguments q room (is ∙ ap (λ (x : ℕ). bad x) e) in
        record { front = k.front; tail = k.tail; rest = k.rest; split = k.split; place_is = k.place_is; is = (act_of v k.is.0, with_arguments v k.is.0 (k.front ++ k.rest) k.is.1); room = k.room }
    by_arguments (Err fault.NoMemory) is got = absurd (cc)

    by_here : (b : Bool)
        → (if b then Ok (act.Op (op.List (codes "."))) else then_read (arguments_from (arguments_of v) at line no_arguments) (λ t. ended (act_of v t.value) t.place line)) ≡ bad q
        → Completes (λ w. (a : Act) × IsCommand (name_of v ++ w) a) at (drop at line) q line_limit
    by_here true got = absurd (cc)
    by_here false got = by_arguments (arguments_from (arguments_of v) at line no_arguments) refl got

-- some verb shares the most
fold_reached : (bytes : List ℕ) (vs : List Verb) (most : ℕ) (w : Verb) → most ≤ shared (name_of w) bytes
    → (v : Verb) × (fold (λ most v. max most (shared (name_of v) bytes)) most vs ≤ shared (name_of v) bytes)
fold_reached bytes [] most w h = (w, h)
fold_reached bytes (x ∷ xs) most w h = by_test (nat_le most (shared (name_of x) bytes)) refl (fold_reached bytes xs (max most (shared (name_of x) bytes)))
  where
    by_test : (b : Bool) → nat_le most (shared (name_of x) bytes) ≡ b
        → ((u : Verb) → max most (shared (name_of x) bytes) ≤ shared (name_of u) bytes → (v : Verb) × (fold (λ most v. max most (shared (name_of v) bytes)) (max most (shared (name_of x) bytes)) xs ≤ shared (name_of v) bytes))
        → (v : Verb) × (fold (λ most v. max most (shared (name_of v) bytes)) (max most (shared (name_of x) bytes)) xs ≤ shared (name_of v) bytes)
    by_test true e next = next x (let l : most ≤ shared (name_of x) bytes = grind (arith, nat_tests) in omega (arith, l))
    by_test false e next = next w (let l : shared (name_of x) bytes < most = grind (arith, nat_tests) in omega (arith, l, h))

furthest_reached : (bytes : List ℕ) → (v : Verb) × (furthest bytes ≤ shared (name_of v) bytes)
unfolding furthest
furthest_reached bytes = fold_reached bytes verbs 0 verb.Df (omega arith)

-- what is shared stands at the front of both
record Fronts (n : ℕ) (name bytes : List ℕ) : Type 0 where
  pub front : List ℕ
  pub rest : List ℕ
  pub tail : List ℕ
  pub of_name : name ≡ front ++ rest
  pub of_bytes : bytes ≡ front ++ tail
  pub long : length front ≡ n

fronts : (n : ℕ) (name bytes : List ℕ) → n ≤ shared name bytes → Fronts n name bytes
fronts zero name bytes h = record { front = []; rest = name; tail = bytes; of_name = refl; of_bytes = refl; long = refl }
fronts (suc n) [] bytes h = absurd (omega (arith, h))
fronts (suc n) (c ∷ cs) [] h = absurd (omega (arith, h))
fronts (suc n) (c ∷ cs) (b ∷ bs) h = by_test (c == b) refl h (fronts n cs bs)
  where
    by_test : (t : Bool) → (c == b) ≡ t → suc n ≤ (if t then shared cs bs + 1 else 0) → (n ≤ shared cs bs → Fronts n cs bs) → Fronts (suc n) (c ∷ cs) (b ∷ bs)
    by_test false e h next = absurd (omega (arith, h))
    by_test true e h next =
        let k = next (omega (arith, h)) in
        record {
          front = c ∷ k.front;
          rest = k.rest;
          tail = k.tail;
          of_name = ap (λ (xs : List ℕ). c ∷ xs) k.of_name;
          of_bytes = ap (λ (xs : List ℕ). b ∷ xs) k.of_bytes ∙ ap (λ (d : ℕ). d ∷ k.front ++ k.tail) (sym ((Decides-eqb c b).0 e));
          long = omega (arith, k.long);
        }

-- a name that is no command's
name_completes : (at : ℕ) (bytes : List ℕ) (q : ℕ) → at + 16 ≤ line_limit → at + furthest bytes ≡ q → BeginCommand at bytes q
name_completes at bytes q room e =
    let v = furthest_reached bytes in
    let k = fronts (furthest bytes) (name_of v.0) bytes v.1 in
    let next = least (arguments_of v.0) no_arguments in
    let row = small_row v.0 in
    let n = ap (λ (xs : List ℕ). length xs) k.of_name in
    let m = length-append k.front k.rest in
    let j = length-append k.rest next.bytes in
    record {
      front = k.front;
      tail = k.tail;
      rest = k.rest ++ next.bytes;
      split = k.of_bytes;
      place_is = omega (arith, e, k.long);
      is = (act_of v.0 next.said, subst (λ (xs : List ℕ). IsCommand xs (act_of v.0 next.said)) (ap (λ (xs : List ℕ). xs ++ next.bytes) k.of_name ∙ append_assoc k.front k.rest next.bytes) (with_arguments v.0 next.said next.bytes next.are));
      room = omega (arith, e, k.long, n, m, j, next.long, row, room);
    }

-- a command that goes wrong
command_completes : (at : ℕ) (line : List ℕ) (q : ℕ) → at ≤ length line → length line ≤ line_limit → at + 16 ≤ line_limit → command_from at line ≡ bad q → BeginCommand at (drop at line) q
unfolding command_from
command_completes at line q within short room wrong = by_verb (verb_named (first_word (drop at line))) refl wrong
  where
    by_verb : (o : Option Verb) → verb_named (first_word (drop at line)) ≡ o → command_by o at line ≡ bad q → BeginCommand at (drop at line) q
    by_verb None is got = name_completes at (drop at line) q room (one_place (at + furthest (drop at line)) q got)
    by_verb (Some v) is got =
        let named = name_of_named (first_word (drop at line)) v is in
        let tail = behind_word (drop at line) in
        let split : drop at line ≡ name_of v ++ tail.0 = tail.1 ∙ ap (λ (xs : List ℕ). xs ++ tail.0) (sym named) in
        let last : drop (at + length (name_of v)) line ≡ tail.0 = sym (drop-drop (length (name_of v)) at line) ∙ ap (λ (xs : List ℕ). drop (length (name_of v)) xs) split ∙ drop-append_seam (name_of v) tail.0 in
        let n = ap (λ (xs : List ℕ). length xs) split in
        let m = length-append (name_of v) tail.0 in
        let d = length-drop at line in
        let row = small_row v in
        let k = act_completes v (at + length (name_of v)) line q (omega (arith, n, m, d, within)) short (omega (arith, row, room)) got in
        let j = length-append (name_of v) k.front in
        record {
          front = name_of v ++ k.front;
          tail = k.tail;
          rest = k.rest;
          split = split ∙ ap (λ (xs : List ℕ). name_of v ++ xs) (sym last ∙ k.split) ∙ sym (append_assoc (name_of v) k.front k.tail);
          place_is = omega (arith, k.place_is, j);
          is = (k.is.0, subst (λ (xs : List ℕ). IsCommand xs k.is.0) (sym (append_assoc (name_of v) k.front k.rest)) k.is.1);
          room = k.room;
        }

-- ---- lines

-- bytes that begin a line's text
abbrev BeginText : List ℕ → ℕ → Type 0
BeginText line q = Completes (λ w. (l : Line) × IsText w l) 0 line q line_limit

-- `df`
df_is : IsCommand (codes "df") act.Df
df_is = with_arguments verb.Df no_arguments [] (refl, refl)

-- behind a session
record Session (line : List ℕ) (t : Taken ℕ) : Type 0 where
  pub word : List ℕ
  pub tail : List ℕ
  pub split : line ≡ 64 ∷ word ++ tail
  pub is : IsNumber 0 (2 ^ 64 - 1) word t.value
  pub place_is : t.place ≡ 1 + length word

session_of : (c : ℕ) (cs : List ℕ) (t : Taken ℕ) → c ≡ 64 → number_from 0 (2 ^ 64 - 1) 1 (line_limit - 3) cs ≡ Ok t → Session (c ∷ cs) t
session_of c cs t e is =
    let k = number_taken 0 (2 ^ 64 - 1) 1 (line_limit - 3) cs t (omega arith) (omega arith) is in
    record { word = k.word; tail = k.rest; split = ap (λ (d : ℕ). d ∷ cs) e ∙ ap (λ (xs : List ℕ). 64 ∷ xs) k.split; is = k.is; place_is = k.place_is }

-- a session's number has twenty digits at most
few_digits : (word : List ℕ) (n : ℕ) → IsNumber 0 (2 ^ 64 - 1) word n → length word ≤ 20
few_digits word n is = let k = length-decimal-le 20 n (omega arith) (omega (arith, is.2)) (omega (arith, is.2)) in let e = ap (λ (xs : List ℕ). length xs) is.0 in omega (arith, k, e)

-- a command of session 0 that goes wrong
bare_completes : (line : List ℕ) (q : ℕ) → length line ≤ line_limit → then_read (command_from 0 line) (λ a. Ok (line_by 0 a)) ≡ bad q → BeginText line q
bare_completes line q short wrong = by_command (command_from 0 line) refl wrong
  where
    by_command : (r : Result Act LineFault) → command_from 0 line ≡ r → then_read r (λ a. Ok (line_by 0 a)) ≡ bad q → BeginText line q
    by_command (Ok a) is got = absurd (cc)
    by_command (Err fault.NoMemory) is got = absurd (cc)
    by_command (Err (fault.BadLine p)) is got =
        let e = one_place p q got in
        let k = command_completes 0 line q (omega arith) short (omega arith) (is ∙ ap (λ (x : ℕ). bad x) e) in
        record { front = k.front; tail = k.tail; rest = k.rest; split = k.split; place_is = k.place_is; is = (line_by 0 k.is.0, bare (k.front ++ k.rest) k.is.0 k.is.1); room = k.room }

-- what stands behind a sign, a word and a space
behind_sign : (word rest : List ℕ) → drop (1 + length word) (64 ∷ word ++ rest) ≡ rest
behind_sign word rest = let same : 1 + length word ≡ length (64 ∷ word) = omega arith in ap (λ (k : ℕ). drop k (64 ∷ word ++ rest)) same ∙ drop-append_seam (64 ∷ word) rest

-- a command of a session that goes wrong
of_session_completes : (line : List ℕ) (t : Taken ℕ) (tail : List ℕ) (q : ℕ) → length line ≤ line_limit → (s : Session line t) → s.tail ≡ 32 ∷ tail
    → then_read (command_from (t.place + 1) line) (λ a. Ok (line_by t.value a)) ≡ bad q → BeginText line q
of_session_completes line t tail q short s space wrong = by_command (command_from (t.place + 1) line) refl wrong
  where
    by_command : (r : Result Act LineFault) → command_from (t.place + 1) line ≡ r → then_read r (λ a. Ok (line_by t.value a)) ≡ bad q → BeginText line q
    by_command (Ok a) is got = absurd (cc)
    by_command (Err fault.NoMemory) is got = absurd (cc)
    by_command (Err (fault.BadLine p)) is got =
        let e = one_place p q got in
        let few = few_digits s.word t.value s.is in
        let whole : line ≡ 64 ∷ s.word ++ 32 ∷ tail = s.split ∙ ap (λ (xs : List ℕ). 64 ∷ s.word ++ xs) space in
        let n = ap (λ (xs : List ℕ). length xs) whole in
        let m = length-append s.word (32 ∷ tail) in
        let k = command_completes (t.place + 1) line q (omega (arith, n, m, s.place_is)) short (omega (arith, few, s.place_is)) (is ∙ ap (λ (x : ℕ). bad x) e) in
        let last : drop (t.place + 1) line ≡ tail
        = sym (drop-drop 1 t.place line) ∙ ap (λ (xs : List ℕ). drop 1 xs) (ap (λ (p : ℕ). drop p line) s.place_is ∙ ap (λ (xs : List ℕ). drop (1 + length s.word) xs) whole ∙ behind_sign s.word (32 ∷ tail)) in
        let j = length-append s.word (32 ∷ k.front) in
        record {
          front = 64 ∷ s.word ++ 32 ∷ k.front;
          tail = k.tail;
          rest = k.rest;
          split = whole ∙ ap (λ (xs : List ℕ). 64 ∷ s.word ++ 32 ∷ xs) (sym last ∙ k.split) ∙ ap (λ (xs : List ℕ). 64 ∷ xs) (sym (append_assoc s.word (32 ∷ k.front) k.tail));
          place_is = omega (arith, k.place_is, s.place_is, j);
          is = (line_by t.value k.is.0, subst (λ (xs : List ℕ). IsText xs (line_by t.value k.is.0)) (ap (λ (xs : List ℕ). 64 ∷ xs) (sym (append_assoc s.word (32 ∷ k.front) k.rest))) (of_session t.value s.word (k.front ++ k.rest) k.is.0 s.is k.is.1));
          room = k.room;
        }

-- a session without a space behind it
space_completes : (line : List ℕ) (t : Taken ℕ) (q : ℕ) → Session line t → t.place ≡ q → BeginText line q
space_completes line t q s e =
    let few = few_digits s.word t.value s.is in
    record {
      front = 64 ∷ s.word;
      tail = s.tail;
      rest = 32 ∷ codes "df";
      split = s.split;
      place_is = omega (arith, e, s.place_is);
      is = (line_by t.value act.Df, of_session t.value s.word (codes "df") act.Df s.is df_is);
      room = omega (arith, e, s.place_is, few);
    }

-- a line that goes wrong
text_completes : (line : List ℕ) (q : ℕ) → length line ≤ line_limit → then_read (session_from line) (λ t. then_read (command_from t.place line) (λ a. Ok (line_by t.value a))) ≡ bad q → BeginText line q
text_completes [] q short wrong = bare_completes [] q short wrong
text_completes (c ∷ cs) q short wrong = by_sign (c == 64) refl wrong
  where
    by_space : (t : Taken ℕ) → Session (c ∷ cs) t → (ys : List ℕ) → drop t.place (c ∷ cs) ≡ ys
        → then_read (then_read (space_at t.place ys) (λ p. taken t.value p)) (λ t. then_read (command_from t.place (c ∷ cs)) (λ a. Ok (line_by t.value a))) ≡ bad q → BeginText (c ∷ cs) q
    by_space t s [] is got = space_completes (c ∷ cs) t q s (one_place t.place q got)
    by_space t s (d ∷ ds) is got = by_test (d == 32) refl got
      where
        by_test : (b : Bool) → (d == 32) ≡ b
            → then_read (then_read (if b then Ok (t.place + 1) else bad t.place) (λ p. taken t.value p)) (λ t. then_read (command_from t.place (c ∷ cs)) (λ a. Ok (line_by t.value a))) ≡ bad q → BeginText (c ∷ cs) q
        by_test false e got = space_completes (c ∷ cs) t q s (one_place t.place q got)
        by_test true e got =
            let last : s.tail ≡ d ∷ ds = sym (ap (λ (p : ℕ). drop p (c ∷ cs)) s.place_is ∙ ap (λ (xs : List ℕ). drop (1 + length s.word) xs) s.split ∙ behind_sign s.word s.tail) ∙ is in
            of_session_completes (c ∷ cs) t ds q short s (last ∙ ap (λ (x : ℕ). x ∷ ds) ((Decides-eqb d 32).0 e)) got

    by_number : c ≡ 64 → (r : Reads ℕ) → number_from 0 (2 ^ 64 - 1) 1 (line_limit - 3) cs ≡ r
        → then_read (then_read r (λ t. then_read (space_at t.place (drop t.place (c ∷ cs))) (λ p. taken t.value p))) (λ t. then_read (command_from t.place (c ∷ cs)) (λ a. Ok (line_by t.value a))) ≡ bad q → BeginText (c ∷ cs) q
    by_number e (Ok t) is got = by_space t (session_of c cs t e is) (drop t.place (c ∷ cs)) refl got
    by_number e (Err fault.NoMemory) is got = absurd (cc)
    by_number e (Err (fault.BadLine p)) is got =
        let at = one_place p q got in
        let k = number_completes 0 (2 ^ 64 - 1) 1 (line_limit - 3) cs q (omega arith) (omega arith) (omega arith) (is ∙ ap (λ (x : ℕ). bad x) at) in
        record {
          front = 64 ∷ k.front;
          tail = k.tail;
          rest = k.rest ++ 32 ∷ codes "df";
          split = ap (λ (d : ℕ). d ∷ cs) e ∙ ap (λ (xs : List ℕ). 64 ∷ xs) k.split;
          place_is = omega (arith, k.place_is);
          is = (line_by k.is.0 act.Df, subst (λ (xs : List ℕ). IsText (64 ∷ xs) (line_by k.is.0 act.Df)) (append_assoc k.front k.rest (32 ∷ codes "df")) (of_session k.is.0 (k.front ++ k.rest) (codes "df") act.Df k.is.1 df_is));
          room = let n = length-append k.rest (32 ∷ codes "df") in omega (arith, k.room, n);
        }

    by_sign : (b : Bool) → (c == 64) ≡ b
        → then_read (if b then then_read (number_from 0 (2 ^ 64 - 1) 1 (line_limit - 3) cs) (λ t. then_read (space_at t.place (drop t.place (c ∷ cs))) (λ p. taken t.value p)) else taken 0 0)
        (λ t. then_read (command_from t.place (c ∷ cs)) (λ a. Ok (line_by t.value a))) ≡ bad q → BeginText (c ∷ cs) q
    by_sign false e got = bare_completes (c ∷ cs) q short got
    by_sign true e got = by_number ((Decides-eqb c 64).0 e) (number_from 0 (2 ^ 64 - 1) 1 (line_limit - 3) cs) refl got

-- what stands before the place where a line goes wrong begins a line with a reading
pub begins_before : (line : List ℕ) (at : ℕ) → length line ≤ line_limit → line_from line ≡ bad at → (at ≤ length line) × BeginsLine (take at line)
unfolding line_from
begins_before line at short wrong =
    let k = text_completes line at short (sym whole ∙ wrong) in
    let n = ap (λ (xs : List ℕ). length xs) k.split in
    let m = length-append k.front k.tail in
    let j = length-append k.front k.rest in
    let e : at ≡ length k.front = omega (arith, k.place_is) in
    let front : take at line ≡ k.front = ap (λ (p : ℕ). take p line) e ∙ ap (λ (xs : List ℕ). take (length k.front) xs) k.split ∙ take-append_seam k.front k.tail in
    (omega (arith, e, n, m), (k.rest, k.is.0, subst (λ (xs : List ℕ). IsLine (xs ++ k.rest) k.is.0) (sym front) (record { short = omega (arith, j, e, k.room); text = k.is.1 })))
  where
    by_test : (b : Bool) → b ≡ false
        → (if b then bad line_limit else then_read (session_from line) (λ t. then_read (command_from t.place line) (λ a. Ok (line_by t.value a))))
        ≡ then_read (session_from line) (λ t. then_read (command_from t.place line) (λ a. Ok (line_by t.value a)))
    by_test true e = absurd (cc)
    by_test false e = refl

    whole : line_from line ≡ then_read (session_from line) (λ t. then_read (command_from t.place line) (λ a. Ok (line_by t.value a)))
    whole = by_test (nat_lt line_limit (length line)) (grind (arith, nat_tests))
