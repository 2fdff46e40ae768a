-- What bounds the format sets for a tree by itself: the kind in a mode, and how long names, targets and files may be.
use Rattle.std.specs.Prelude.{◌≡◌, ℕ, ◌/◌, ◌<◌, ◌≤◌, List, length, Option, Some, None, slice_get}
use Rattle.qx_geom.specs.Room.{greatest_end}
use Rattle.qx_model.specs.Tree.{Body, Directory, Entry, File, Link, Row, Special, Tree, entry_of, longest_short_name, slots_of}
use Rattle.qx_model.specs.Edits.{kind_unit}

-- the kind of the body stands in the mode, as POSIX numbers kinds and the format has them; a file ends at the greatest end at most, and a link's target has as many bytes as a path may have; this project makes no special
abbrev pub HasKind : ℕ → Body → Type 0
HasKind mode (Directory slots parent) = mode / kind_unit ≡ 4
HasKind mode (File content) = (mode / kind_unit ≡ 8) × (length content ≤ greatest_end)
HasKind mode (Link target) = (mode / kind_unit ≡ 10) × (0 < length target) × (length target < 1024)
HasKind mode Special = ⊥

-- a row's name fits its record: a short one has 1 to 27 bytes, one with a number 1 to 510
abbrev pub FitsRecord : List ℕ → Option ℕ → Type 0
FitsRecord name None = (0 < length name) × (length name ≤ longest_short_name)
FitsRecord name (Some number) = (0 < length name) × (length name ≤ 510)

-- each inode of a tree has its kind and is within these bounds, and each row's name fits its record
pub record IsBounded (t : Tree) : Type 0 where
  pub bodies : (n : ℕ) (e : Entry) → entry_of t n ≡ Some e → HasKind e.attr.mode e.body
  pub names : (d k inode : ℕ) (name : List ℕ) (long : Option ℕ) → slice_get (slots_of t d) k ≡ Some (Row inode name long) → FitsRecord name long
