-- Operations that only read: List, Stat, Read and ReadLink, each in the order of its refusals.
use Rattle.std.specs.Prelude.{ℕ, ◌+◌, not, List, filter_map, Option, Some, None, ok_or, Result, Ok, Err, slice_range, if◌then◌else◌}
use Rattle.qx_model.specs.declared.rows.Row.{Row as RowView}
use Rattle.qx_model.specs.declared.reply.StatView.{StatView}
use Rattle.qx_model.specs.declared.reply.Reply.TheVariants as reply
use Rattle.qx_model.specs.declared.refusal.Refusal.{Refusal}
use Rattle.qx_model.specs.declared.refusal.Refusal.TheVariants.{IsDir, NoEntry, NotDir, WrongKind}
use Rattle.qx_model.specs.Outcomes.{◌>>=◌, ◌>>◌, refuse_if}
use Rattle.qx_model.specs.Tree.{Body, Directory, Entry, File, Link, Row, Slot, Special, Tree, Unused, entry_of, is_dots, links_of, slots_of}
use Rattle.qx_model.specs.Directories.{is_directory}
use Rattle.qx_model.specs.Paths.{Followed, Itself, inode_at}
use Rattle.qx_model.specs.Edits.{Setting}
use Rattle.qx_model.specs.Effects.{Answers, Effect}

-- ---- directories

-- a row as it is listed; none for `.` and `..`
abbrev pub row_view : Slot → Option RowView
row_view Unused = None
row_view (Row n name long) = if is_dots name then None else Some (record { inode = n; name = name })

-- List: the rows of a directory, in the order of their records
abbrev pub list : Setting → Tree → List ℕ → Result Effect Refusal
list s t path = do
  n ← inode_at t s.base Followed path
  refuse_if (not (is_directory t n)) NotDir
  Ok (Answers (reply.Rows (filter_map row_view (slots_of t n))))

-- ---- any inode

-- the number of a kind
abbrev pub kind_number : Body → ℕ
kind_number (Directory slots parent) = 1
kind_number (File content) = 2
kind_number (Link target) = 3
kind_number Special = 4

-- what is said of inode n
abbrev pub stat_view : Tree → ℕ → Entry → StatView
stat_view t n e = record { kind = kind_number e.body; inode = n; size = e.size; links = links_of t n; attr = e.attr }

-- Stat: of a link itself
abbrev pub stat : Setting → Tree → List ℕ → Result Effect Refusal
stat s t path = do
  n ← inode_at t s.base Itself path
  e ← ok_or (entry_of t n) NoEntry
  Ok (Answers (reply.Stat (stat_view t n e)))

-- ---- files

-- the bytes of a file
abbrev pub content_of_body : Body → Result (List ℕ) Refusal
content_of_body (Directory slots parent) = Err IsDir
content_of_body (File content) = Ok content
content_of_body (Link target) = Err WrongKind
content_of_body Special = Err WrongKind

-- a file: its number, its entry and its bytes
pub record FileAt : Type 0 where
  pub inode : ℕ
  pub entry : Entry
  pub content : List ℕ

-- inode n, where it is a file
abbrev pub file_in : Tree → ℕ → Result FileAt Refusal
file_in t n = do
  e ← ok_or (entry_of t n) NoEntry
  content ← content_of_body e.body
  Ok (record { inode = n; entry = e; content = content })

-- the file to which a path leads, links followed
abbrev pub file_at : Setting → Tree → List ℕ → Result FileAt Refusal
file_at s t path = inode_at t s.base Followed path >>= file_in t

-- Read: at most `count` bytes from a place on, as far as the size goes
abbrev pub read : Setting → Tree → List ℕ → ℕ → ℕ → Result Effect Refusal
read s t path at count = do
  f ← file_at s t path
  Ok (Answers (reply.Bytes (slice_range f.content at (at + count))))

-- ---- links

-- the target of a link
abbrev pub target_of_body : Body → Result (List ℕ) Refusal
target_of_body (Link target) = Ok target
target_of_body (Directory slots parent) = Err WrongKind
target_of_body (File content) = Err WrongKind
target_of_body Special = Err WrongKind

-- ReadLink: of a link itself
abbrev pub read_link : Setting → Tree → List ℕ → Result Effect Refusal
read_link s t path = do
  n ← inode_at t s.base Itself path
  e ← ok_or (entry_of t n) NoEntry
  target ← target_of_body e.body
  Ok (Answers (reply.Target target))
