-- What inodes and contents do for one edit of a row, as a step of several.
use Rattle.std.specs.Prelude.{◌≡◌, ◌≢◌, ℕ, Bool, true, false, not, ◌&&◌, ◌==◌, List, Option}
use Rattle.std.specs.List.{position_or_len}
use Rattle.qx_dir.specs.Rows.{row_of}
use Rattle.qx_fields.specs.declared.order.Order.{Order}
use Rattle.qx_nodes.specs.NodeContents.{IsSameContent}
use Rattle.qx_records.specs.NameRecord as raws
use Rattle.qx_records.specs.declared.inode.Inode.{Inode}
use Rattle.qx_model.specs.Directories.{is_directory, is_unused, long_of_slot, slot_at}
use Rattle.qx_model.specs.Edits.{Setting, absent_number, content_changed, number_for}
use Rattle.qx_model.specs.Tree.{Tree, slots_of}
use Rattle.qx_copies.specs.Copies.{Contents}
use Rattle.qx_edits.specs.NameEdits.{GetsName, LosesName}
use Rattle.qx_edits.specs.RecordEdits.{SetsRecord, raw_naming, record_of}
use Rattle.qx_edits.specs.SetInodes.{SetsAttr}

-- record k of directory d is cleared, and its long name goes
pub record ClearsRow (order : Order) (s : Setting) (t : Tree) (d k : ℕ) (before after : List (Option Inode)) (old new : Contents) : Type 0 where
  pub times : SetsAttr before after d (content_changed s.moment)
  pub others : (o : ℕ) → o ≢ 0 → o ≢ d → IsSameContent s.blocksize (old o) (new o)
  pub name : LosesName order s.blocksize (long_of_slot (slot_at t d k)) (old 0) (new 0)
  pub put : SetsRecord order s.blocksize k raws.Unused (old d) (new d)

-- directory d gets a row that names n
pub record AddsRow (order : Order) (s : Setting) (t : Tree) (d n : ℕ) (name : List ℕ) (before after : List (Option Inode)) (old new : Contents) : Type 0 where
  pub times : SetsAttr before after d (content_changed s.moment)
  pub others : (o : ℕ) → o ≢ 0 → o ≢ d → IsSameContent s.blocksize (old o) (new o)
  pub long : GetsName order s.blocksize (number_for t name) name (old 0) (new 0)
  pub put : SetsRecord order s.blocksize (position_or_len is_unused (slots_of t d)) (row_of n name (absent_number t)) (old d) (new d)

-- the row `..` of directory n names another one
pub record MovesParent (order : Order) (s : Setting) (n to : ℕ) (before after : List (Option Inode)) (old new : Contents) : Type 0 where
  pub inode : SetsAttr before after n (λ a. a)
  pub others : (o : ℕ) → o ≢ n → IsSameContent s.blocksize (old o) (new o)
  pub put : SetsRecord order s.blocksize 1 (raw_naming to (record_of order s.blocksize (old n) 1)) (old n) (new n)

-- nothing changes
pub record ChangesNothing (s : Setting) (before after : List (Option Inode)) (old new : Contents) : Type 0 where
  pub inodes : after ≡ before
  pub contents : (o : ℕ) → IsSameContent s.blocksize (old o) (new o)

-- where it does so, the parent of directory n moves; else nothing changes
abbrev pub MovesParentIf : Bool → Order → Setting → ℕ → ℕ → List (Option Inode) → List (Option Inode) → Contents → Contents → Type 0
MovesParentIf true order s n to before after old new = MovesParent order s n to before after old new
MovesParentIf false order s n to before after old new = ChangesNothing s before after old new

-- a directory that goes from one to another gets another parent
abbrev pub MayMoveParent : Order → Setting → Tree → ℕ → ℕ → ℕ → List (Option Inode) → List (Option Inode) → Contents → Contents → Type 0
MayMoveParent order s t n from to before after old new = MovesParentIf (is_directory t n && not (from == to)) order s n to before after old new
