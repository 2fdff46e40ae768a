-- Operations that take a name away or move it: Remove, RemoveDir and Rename, each in the order of its refusals.
use Rattle.std.specs.Prelude.{ℕ, not, ◌&&◌, List, Option, Some, None, ok_or, option_and_then, option_map, Result, Ok, ◌==◌, if◌then◌else◌}
use Rattle.qx_model.specs.declared.reply.Reply.TheVariants as reply
use Rattle.qx_model.specs.declared.refusal.Refusal.{Refusal}
use Rattle.qx_model.specs.declared.refusal.Refusal.TheVariants.{IntoItself, IsDir, NoEntry, NotDir, NotEmpty}
use Rattle.qx_model.specs.Outcomes.{◌>>=◌, ◌>>◌, refuse_if}
use Rattle.qx_model.specs.Tree.{Tree}
use Rattle.qx_model.specs.Directories.{inode_of_slot, is_bare, is_directory, is_within, record_of, slot_at}
use Rattle.qx_model.specs.Paths.{Place, named, parent_at, parsed, place_at}
use Rattle.qx_model.specs.Edits.{Edit, Setting, add_row, attr_changed, clear_row, lose_row, move_parent, point_row, unchanged, with_attr}
use Rattle.qx_model.specs.Effects.{Answers, Effect, done, removed}

-- a row: its directory, its record and the inode that it names
pub record RowAt : Type 0 where
  pub directory : ℕ
  pub record_number : ℕ
  pub inode : ℕ

-- the row in record k of a directory
abbrev pub row_in : Tree → ℕ → ℕ → Option RowAt
row_in t d k = option_map (λ n. record { directory = d; record_number = k; inode = n }) (inode_of_slot (slot_at t d k))

-- the row with a name
abbrev pub row_at : Tree → Place → Option RowAt
row_at t p = option_and_then (row_in t p.directory) (record_of t p.directory p.name)

-- ---- names that go

-- the tree without a row, and without its inode where no other row names it
abbrev pub without_row : Setting → Tree → RowAt → Edit
without_row s t row = lose_row s row.inode (clear_row s row.directory row.record_number (unchanged t))

-- Remove: a row of an inode that is no directory
abbrev pub remove : Setting → Tree → List ℕ → Result Effect Refusal
remove s t path = do
  p ← place_at t s.base path
  row ← ok_or (row_at t p) NoEntry
  refuse_if (is_directory t row.inode) IsDir
  Ok (removed (without_row s t row))

-- RemoveDir: the row of a directory without rows
abbrev pub remove_dir : Setting → Tree → List ℕ → Result Effect Refusal
remove_dir s t path = do
  p ← place_at t s.base path
  row ← ok_or (row_at t p) NoEntry
  refuse_if (not (is_directory t row.inode)) NotDir
  refuse_if (not (is_bare t row.inode)) NotEmpty
  Ok (removed (without_row s t row))

-- ---- a name that moves

-- the inode that moved: its time, and the parent of a directory
abbrev pub moved : Setting → RowAt → ℕ → Edit → Edit
moved s from d e = with_attr from.inode (attr_changed s.moment) (move_parent s from.inode from.directory d e)

-- onto a name that isn't taken: the old row goes first, then the new one is made
abbrev pub moved_to : Setting → Tree → RowAt → Place → Edit
moved_to s t from to =
    moved s from to.directory (add_row s to.directory from.inode to.name (clear_row s from.directory from.record_number (unchanged t)))

-- onto a row that is there: it keeps its name, and its inode loses a row
abbrev pub moved_onto : Setting → Tree → RowAt → RowAt → Edit
moved_onto s t from to =
    moved s from to.directory
    (lose_row s to.inode (clear_row s from.directory from.record_number (point_row s to.directory to.record_number from.inode (unchanged t))))

-- a directory doesn't come below itself
abbrev pub refuse_into : Tree → RowAt → ℕ → Result (Unit {0}) Refusal
refuse_into t from d = refuse_if (is_directory t from.inode && is_within t from.inode d) IntoItself

-- inode m may take the place of inode n: a directory that of an empty one, any other inode that of no directory
abbrev pub refuse_onto : Tree → ℕ → ℕ → Result (Unit {0}) Refusal
refuse_onto t m n = do
  refuse_if (is_directory t n && not (is_directory t m)) IsDir
  refuse_if (is_directory t m && not (is_directory t n)) NotDir
  refuse_if (is_directory t n && not (is_bare t n)) NotEmpty

-- a row moves onto another one
abbrev pub replace : Setting → Tree → RowAt → RowAt → Result Effect Refusal
replace s t from old = do
  refuse_into t from old.directory
  refuse_onto t from.inode old.inode
  Ok (done (moved_onto s t from old))

-- a row moves to a place where there may be one; where both name one inode, nothing changes
abbrev pub rename_to : Setting → Tree → RowAt → Place → Option RowAt → Result Effect Refusal
rename_to s t from to None = do
  refuse_into t from to.directory
  Ok (done (moved_to s t from to))
rename_to s t from to (Some old) = if old.inode == from.inode then Ok (Answers reply.Done) else replace s t from old

-- Rename: both paths are parsed and their last names looked at, then the first is walked, then the second
abbrev pub rename : Setting → Tree → List ℕ → List ℕ → Result Effect Refusal
rename s t from to = do
  p ← parsed from
  q ← parsed to
  old ← named p
  new ← named q
  d ← parent_at t s.base old
  row ← ok_or (row_at t (record { directory = d; name = old.name })) NoEntry
  c ← parent_at t s.base new
  let place : Place = record { directory = c; name = new.name }
  rename_to s t row place (row_at t place)
