-- The lines of a script: which bytes read as which line, and where a line goes wrong.
use Rattle.std.specs.Prelude.{◌≡◌, ℕ, ◌-◌, ◌^◌, ◌<◌, ◌≤◌, ◌⊎◌, not, ◌==◌, List, [], ◌∷◌, ◌++◌, length, take, filter, codes}
use Rattle.std.specs.List.{slice_split}
use Rattle.qx_model.specs.declared.turn.Act.{Act}
use Rattle.qx_model.specs.declared.turn.Act.TheVariants as act
use Rattle.qx_model.specs.declared.operation.Op.TheVariants as op
use Rattle.qx_model.specs.Plans.{is_end}
use Rattle.qx_words.specs.declared.grammar.Verb.{Verb}
use Rattle.qx_words.specs.declared.grammar.Argument.{Argument}
use Rattle.qx_words.specs.declared.grammar.Argument.TheVariants as argument
use Rattle.qx_words.specs.declared.arguments.Arguments.{Arguments}
use Rattle.qx_words.specs.declared.line.Line.{Line}
use Rattle.qx_words.specs.declared.line.LineFault.{LineFault}
use Rattle.qx_words.specs.declared.line.LineFault.TheVariants as fault
use Rattle.qx_words.specs.ByteWords.{IsByteWord}
use Rattle.qx_words.specs.Numbers.{IsMode, IsNumber}
use Rattle.qx_words.specs.Commands.{act_of, arguments_of, name_of, no_arguments}

-- ---- commands

-- a word as an argument: what was said before it, and what is said with it
abbrev pub IsArgument : Argument → List ℕ → Arguments → Arguments → Type 0
IsArgument argument.Path word a b = (v : List ℕ) × IsByteWord word v × (b ≡ record a { path = v })
IsArgument argument.Other word a b = (v : List ℕ) × IsByteWord word v × (b ≡ record a { other = v })
IsArgument argument.At word a b = (n : ℕ) × IsNumber 0 (2 ^ 64 - 1) word n × (b ≡ record a { at = n })
IsArgument argument.Count word a b = (n : ℕ) × IsNumber 0 65536 word n × (b ≡ record a { count = n })
IsArgument argument.FillCount word a b = (n : ℕ) × IsNumber 1 (2 ^ 48) word n × (b ≡ record a { fill = n })
IsArgument argument.Byte word a b = (n : ℕ) × IsNumber 0 255 word n × (b ≡ record a { byte = n })
IsArgument argument.Mode word a b = (n : ℕ) × IsMode word n × (b ≡ record a { mode = n })
IsArgument argument.Uid word a b = (n : ℕ) × IsNumber 0 (2 ^ 32 - 1) word n × (b ≡ record a { uid = n })
IsArgument argument.Gid word a b = (n : ℕ) × IsNumber 0 (2 ^ 32 - 1) word n × (b ≡ record a { gid = n })
IsArgument argument.Atime word a b = (n : ℕ) × IsNumber 0 (2 ^ 32 - 1) word n × (b ≡ record a { atime = n })
IsArgument argument.Mtime word a b = (n : ℕ) × IsNumber 0 (2 ^ 32 - 1) word n × (b ≡ record a { mtime = n })

-- arguments, each after one space
abbrev pub AreArguments : List Argument → List ℕ → Arguments → Arguments → Type 0
AreArguments [] bytes a b = (bytes ≡ []) × (b ≡ a)
AreArguments (x ∷ xs) bytes a b = (word : List ℕ) × (rest : List ℕ) × (next : Arguments) × (bytes ≡ 32 ∷ word ++ rest) × IsArgument x word a next × AreArguments xs rest next b

-- a command: its name and its arguments, or `ls` alone, which lists the current directory
pub data IsCommand : List ℕ → Act → Type 0 where
  with_arguments : (v : Verb) (a : Arguments) (bytes : List ℕ) → AreArguments (arguments_of v) bytes no_arguments a → IsCommand (name_of v ++ bytes) (act_of v a)
  here : IsCommand (codes "ls") (act.Op (op.List (codes ".")))

-- ---- lines

-- the line of a session that asks for an act; the script is over with the end, which is written `quit`
abbrev pub line_by : ℕ → Act → Line
line_by session a = record { session = session; act = a; quit = is_end a }

-- a command of session 0, or `@N`, one space and a command of session N
pub data IsText : List ℕ → Line → Type 0 where
  bare : (bytes : List ℕ) (a : Act) → IsCommand bytes a → IsText bytes (line_by 0 a)
  of_session : (n : ℕ) (number bytes : List ℕ) (a : Act) → IsNumber 0 (2 ^ 64 - 1) number n → IsCommand bytes a → IsText (64 ∷ number ++ 32 ∷ bytes) (line_by n a)

-- the bytes of the longest line, without its newline (this project's own)
abbrev pub line_limit : ℕ
line_limit = 8192

-- the bytes read as the line
pub record IsLine (bytes : List ℕ) (l : Line) : Type 0 where
  pub short : length bytes ≤ line_limit
  pub text : IsText bytes l

-- ---- lines without a reading

-- the bytes read as no line
abbrev pub HasNoReading : List ℕ → Type 0
HasNoReading bytes = (l : Line) → IsLine bytes l → ⊥

-- some bytes that have a reading begin so
abbrev pub BeginsLine : List ℕ → Type 0
BeginsLine start = (rest : List ℕ) × (l : Line) × IsLine (start ++ rest) l

-- where bytes go wrong: behind the longest part of them that begins a line with a reading
pub record GoesWrongAt (bytes : List ℕ) (at : ℕ) : Type 0 where
  pub within : at ≤ length bytes
  pub begins : BeginsLine (take at bytes)
  pub no_later : (k : ℕ) → at < k → k ≤ length bytes → BeginsLine (take k bytes) → ⊥

-- why bytes aren't read: they have no reading, and go wrong at that place, or are too long, and the place is the limit; or memory is wanting, which says nothing of them
abbrev pub IsFaultOf : List ℕ → LineFault → Type 0
IsFaultOf bytes (fault.BadLine at) = HasNoReading bytes × (((line_limit < length bytes) × (at ≡ line_limit)) ⊎ ((length bytes ≤ line_limit) × GoesWrongAt bytes at))
IsFaultOf bytes fault.NoMemory = Unit {0}

-- ---- scripts

-- the lines of a script but empty ones: each ends with a newline, which the last may lack
abbrev pub lines_of : List ℕ → List (List ℕ)
lines_of script = filter (λ line. not (length line == 0)) (slice_split (λ c. c == 10) script)
