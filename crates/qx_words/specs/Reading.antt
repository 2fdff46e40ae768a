-- The plain computable form beside `Lines`: how a line is read, from its first byte to its last, what each part takes, and where it stops. Laws join the two.
use Rattle.std.specs.Prelude.{◌≡◌, ℕ, ◌+◌, ◌-◌, ◌*◌, ◌^◌, ◌<◌, Bool, true, false, ◌&&◌, List, [], ◌∷◌, ◌++◌, length, drop, max, fold, find, Option, Some, None, Result, Ok, Err, nat_lt, nat_le, ◌==◌, if◌then◌else◌, bytes_eq, codes}
use Rattle.qx_model.specs.declared.turn.Act.{Act}
use Rattle.qx_model.specs.declared.turn.Act.TheVariants as act
use Rattle.qx_model.specs.declared.operation.Op.TheVariants as op
use Rattle.qx_words.specs.declared.grammar.Verb.{Verb}
use Rattle.qx_words.specs.declared.grammar.Verb.TheVariants as verb
use Rattle.qx_words.specs.declared.grammar.Argument.{Argument}
use Rattle.qx_words.specs.declared.grammar.Argument.TheVariants as argument
use Rattle.qx_words.specs.declared.arguments.Arguments.{Arguments}
use Rattle.qx_words.specs.declared.words.Part.{Part}
use Rattle.qx_words.specs.declared.words.Part.TheVariants as part
use Rattle.qx_words.specs.declared.words.WordStep.{WordStep}
use Rattle.qx_words.specs.declared.words.WordStep.TheVariants as step
use Rattle.qx_words.specs.declared.line.Line.{Line}
use Rattle.qx_words.specs.declared.line.LineFault.{LineFault}
use Rattle.qx_words.specs.declared.line.LineFault.TheVariants as fault
use Rattle.qx_words.specs.ByteWords.{hex_value, is_plain}
use Rattle.qx_words.specs.Numbers.{is_octal_digit}
use Rattle.qx_words.specs.Commands.{act_of, arguments_of, name_of, no_arguments, verbs}
use Rattle.qx_words.specs.Lines.{line_by, line_limit}

-- a value that was read, and the place behind it
pub record Taken (A : Type 0) : Type 0 where
  pub value : A
  pub place : ℕ

-- what may be read of a line
abbrev pub Reads : Type 0 → Type 0
Reads A = Result (Taken A) LineFault

-- read, up to this place
abbrev pub taken : {A : Type 0} → A → ℕ → Reads A
taken value place = Ok (record { value = value; place = place })

-- an `Err` says why, where memory isn't wanting
abbrev pub FailsAs : {A : Type 0} → Result A LineFault → LineFault → Type 0
FailsAs want (fault.BadLine at) = want ≡ Err (fault.BadLine at)
FailsAs want fault.NoMemory = Unit {0}

-- nothing can be read here
abbrev pub bad : {A : Type 0} → ℕ → Result A LineFault
bad at = Err (fault.BadLine at)

-- what follows, where this could be read
abbrev pub then_read : {A B : Type 0} → Result A LineFault → (A → Result B LineFault) → Result B LineFault
then_read (Ok a) next = next a
then_read (Err e) next = Err e

-- ---- byte words

-- what the first digit of an escaped byte does, if it is one
abbrev pub first_digit : Option ℕ → WordStep
first_digit None = step.Fails
first_digit (Some high) = step.Inside (part.Half high)

-- what the second one does
abbrev pub second_digit : ℕ → Option ℕ → WordStep
second_digit high None = step.Fails
second_digit high (Some low) = step.Whole (16 * high + low)

-- the part of a word that was read so far is one: half of an escaped byte is below 16
abbrev pub IsPart : Part → Type 0
IsPart part.Whole = Unit {0}
IsPart part.Escaped = Unit {0}
IsPart (part.Half high) = high < 16

-- a step that goes on is one at a byte of the line
abbrev pub IsStep : ℕ → ℕ → WordStep → Type 0
IsStep at len (step.Whole b) = at < len
IsStep at len (step.Inside p) = (at < len) × IsPart p
IsStep at len step.Ends = Unit {0}
IsStep at len step.Fails = Unit {0}

-- what the next byte does to a byte word that may reach to `stop`
abbrev pub step_of : Part → ℕ → ℕ → ℕ → WordStep
step_of part.Whole at stop c =
    if is_plain c && nat_lt at stop then step.Whole c
    else (if c == 92 && nat_le (at + 3) stop then step.Inside part.Escaped else step.Ends)
step_of part.Escaped at stop c = first_digit (hex_value c)
step_of (part.Half high) at stop c = second_digit high (hex_value c)

-- the same at the front of bytes; where none is left, a word ends, but not inside an escape
abbrev pub step_here : Part → ℕ → ℕ → List ℕ → WordStep
step_here part.Whole at stop [] = step.Ends
step_here part.Escaped at stop [] = step.Fails
step_here (part.Half high) at stop [] = step.Fails
step_here p at stop (c ∷ cs) = step_of p at stop c

-- bytes before those that are read
abbrev pub ahead : List ℕ → Reads (List ℕ) → Reads (List ℕ)
ahead front (Ok r) = taken (front ++ r.value) r.place
ahead front (Err e) = Err e

-- the bytes of a byte word, as far as it goes
abbrev pub bytes_from : Part → ℕ → ℕ → List ℕ → Reads (List ℕ)
bytes_from part.Whole at stop [] = taken [] at
bytes_from part.Escaped at stop [] = bad at
bytes_from (part.Half high) at stop [] = bad at
bytes_from p at stop (c ∷ cs) = elim (step_of p at stop c) [
  | step.Whole b ↦ ahead (b ∷ []) (bytes_from part.Whole (at + 1) stop cs)
  | step.Inside q ↦ bytes_from q (at + 1) stop cs
  | step.Ends ↦ taken [] at
  | step.Fails ↦ bad at
]

-- a word has a byte at least
abbrev pub some_bytes : ℕ → Reads (List ℕ) → Reads (List ℕ)
some_bytes at (Err e) = Err e
some_bytes at (Ok r) = elim r.value [ [] ↦ bad at | (b ∷ bs) ↦ Ok r ]

-- a byte word
unfoldable pub word_from : ℕ → ℕ → List ℕ → Reads (List ℕ)
word_from at stop bytes = some_bytes at (bytes_from part.Whole at stop bytes)

-- ---- numbers

-- `0` to `9`
abbrev pub is_digit : ℕ → Bool
is_digit c = nat_le 48 c && nat_le c 57

-- a byte is a further digit of a number, where there is no leading zero and the number stays within the limit
abbrev pub is_further_digit : ℕ → ℕ → ℕ → ℕ → ℕ → Bool
is_further_digit limit at stop n c = is_digit c && (nat_lt at stop && (nat_lt 0 n && nat_le (10 * n + (c - 48)) limit))

-- the number as far as it goes
abbrev pub digits_from : ℕ → ℕ → ℕ → ℕ → List ℕ → Taken ℕ
digits_from limit at stop n [] = record { value = n; place = at }
digits_from limit at stop n (c ∷ cs) = elim (is_further_digit limit at stop n c) [
  | true ↦ digits_from limit (at + 1) stop (10 * n + (c - 48)) cs
  | false ↦ record { value = n; place = at }
]

-- the number with the next digit
abbrev pub next_digit : ℕ → ℕ → ℕ → ℕ → List ℕ → Option ℕ
next_digit limit at stop n [] = None
next_digit limit at stop n (c ∷ cs) = if is_further_digit limit at stop n c then Some (10 * n + (c - 48)) else None

-- the first digit of a number from `low` on
abbrev pub first_digit_of : ℕ → ℕ → ℕ → List ℕ → Option ℕ
first_digit_of low at stop [] = None
first_digit_of low at stop (c ∷ cs) = if is_digit c && (nat_lt at stop && nat_le low (c - 48)) then Some (c - 48) else None

-- a number, by its first digit
abbrev pub number_by : Option ℕ → ℕ → ℕ → ℕ → List ℕ → Reads ℕ
number_by None limit at stop bytes = bad at
number_by (Some first) limit at stop bytes = Ok (digits_from limit (at + 1) stop first (drop 1 bytes))

-- a number from `low` on
unfoldable pub number_from : ℕ → ℕ → ℕ → ℕ → List ℕ → Reads ℕ
number_from low limit at stop bytes = number_by (first_digit_of low at stop bytes) limit at stop bytes

-- the octal digits, at most so many
abbrev pub octal_from : ℕ → ℕ → ℕ → ℕ → List ℕ → Taken ℕ
octal_from left at stop m [] = record { value = m; place = at }
octal_from left at stop m (c ∷ cs) = elim (is_octal_digit c && (nat_lt at stop && nat_lt 0 left)) [
  | true ↦ octal_from (left - 1) (at + 1) stop (8 * m + (c - 48)) cs
  | false ↦ record { value = m; place = at }
]

-- the mode with the next digit
abbrev pub next_octal : ℕ → ℕ → ℕ → ℕ → List ℕ → Option ℕ
next_octal left at stop m [] = None
next_octal left at stop m (c ∷ cs) = if is_octal_digit c && (nat_lt at stop && nat_lt 0 left) then Some (8 * m + (c - 48)) else None

-- a mode has a digit at least
abbrev pub some_digits : ℕ → Taken ℕ → Reads ℕ
some_digits at r = if r.place == at then bad at else Ok r

-- a mode
unfoldable pub mode_from : ℕ → ℕ → List ℕ → Reads ℕ
mode_from at stop bytes = some_digits at (octal_from 4 at stop 0 bytes)

-- ---- arguments

-- the arguments with a byte word that was read
abbrev pub with_bytes : (List ℕ → Arguments) → Reads (List ℕ) → Reads Arguments
with_bytes f r = then_read r (λ t. taken (f t.value) t.place)

-- the arguments with a number that was read
abbrev pub with_number : (ℕ → Arguments) → Reads ℕ → Reads Arguments
with_number f r = then_read r (λ t. taken (f t.value) t.place)

-- one argument, added to the others
unfoldable pub argument_from : Argument → ℕ → ℕ → List ℕ → Arguments → Reads Arguments
argument_from argument.Path at stop bytes a = with_bytes (λ w. record a { path = w }) (word_from at stop bytes)
argument_from argument.Other at stop bytes a = with_bytes (λ w. record a { other = w }) (word_from at stop bytes)
argument_from argument.At at stop bytes a = with_number (λ n. record a { at = n }) (number_from 0 (2 ^ 64 - 1) at stop bytes)
argument_from argument.Count at stop bytes a = with_number (λ n. record a { count = n }) (number_from 0 65536 at stop bytes)
argument_from argument.FillCount at stop bytes a = with_number (λ n. record a { fill = n }) (number_from 1 (2 ^ 48) at stop bytes)
argument_from argument.Byte at stop bytes a = with_number (λ n. record a { byte = n }) (number_from 0 255 at stop bytes)
argument_from argument.Mode at stop bytes a = with_number (λ n. record a { mode = n }) (mode_from at stop bytes)
argument_from argument.Uid at stop bytes a = with_number (λ n. record a { uid = n }) (number_from 0 (2 ^ 32 - 1) at stop bytes)
argument_from argument.Gid at stop bytes a = with_number (λ n. record a { gid = n }) (number_from 0 (2 ^ 32 - 1) at stop bytes)
argument_from argument.Atime at stop bytes a = with_number (λ n. record a { atime = n }) (number_from 0 (2 ^ 32 - 1) at stop bytes)
argument_from argument.Mtime at stop bytes a = with_number (λ n. record a { mtime = n }) (number_from 0 (2 ^ 32 - 1) at stop bytes)

-- one space
abbrev pub space_at : ℕ → List ℕ → Result ℕ LineFault
space_at at [] = bad at
space_at at (c ∷ cs) = if c == 32 then Ok (at + 1) else bad at

-- the arguments from a place of the line on; each that follows takes a space and a byte at least
abbrev pub arguments_from : List Argument → ℕ → List ℕ → Arguments → Reads Arguments
arguments_from [] at line a = taken a at
arguments_from (x ∷ xs) at line a =
    then_read (space_at at (drop at line)) (λ p.
    then_read (argument_from x p (line_limit - 2 * length xs) (drop p line) a) (λ t.
    arguments_from xs t.place line t.value))

-- ---- commands and lines

-- the bytes up to the next space
abbrev pub first_word : List ℕ → List ℕ
first_word [] = []
first_word (c ∷ cs) = if c == 32 then [] else c ∷ first_word cs

-- how many first bytes two lists share
abbrev pub shared : List ℕ → List ℕ → ℕ
shared [] bytes = 0
shared (c ∷ cs) [] = 0
shared (c ∷ cs) (b ∷ bs) = if c == b then shared cs bs + 1 else 0

-- how far the bytes go as some verb
unfoldable pub furthest : List ℕ → ℕ
furthest bytes = fold (λ most v. max most (shared (name_of v) bytes)) 0 verbs

-- the verb of this name
abbrev pub verb_named : List ℕ → Option Verb
verb_named name = find (λ v. bytes_eq (name_of v) name) verbs

-- a line ends here
abbrev pub ended : {A : Type 0} → A → ℕ → List ℕ → Result A LineFault
ended value at line = if at == length line then Ok value else bad at

-- `ls` may stand alone
abbrev pub is_list : Verb → Bool
is_list verb.List = true
is_list _ = false

-- the act of a verb, with the arguments from a place on
abbrev pub act_from : Verb → ℕ → List ℕ → Result Act LineFault
act_from v at line =
    if is_list v && at == length line then Ok (act.Op (op.List (codes ".")))
    else then_read (arguments_from (arguments_of v) at line no_arguments) (λ t. ended (act_of v t.value) t.place line)

-- the command of a verb, if there is one, from a place on
abbrev pub command_by : Option Verb → ℕ → List ℕ → Result Act LineFault
command_by None at line = bad (at + furthest (drop at line))
command_by (Some v) at line = act_from v (at + length (name_of v)) line

-- the command from a place on, by its name
unfoldable pub command_from : ℕ → List ℕ → Result Act LineFault
command_from at line = command_by (verb_named (first_word (drop at line))) at line

-- the session, where one is named
abbrev pub session_from : List ℕ → Reads ℕ
session_from [] = taken 0 0
session_from (c ∷ cs) =
    if c == 64 then then_read (number_from 0 (2 ^ 64 - 1) 1 (line_limit - 3) cs) (λ t.
    then_read (space_at t.place (drop t.place (c ∷ cs))) (λ p. taken t.value p))
    else taken 0 0

-- the line
unfoldable pub line_from : List ℕ → Result Line LineFault
line_from line =
    if nat_lt line_limit (length line) then bad line_limit
    else then_read (session_from line) (λ t. then_read (command_from t.place line) (λ a. Ok (line_by t.value a)))
