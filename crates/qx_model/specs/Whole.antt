-- When the parts of a tree agree: sizes and contents, present leaves, long names and their numbers.
use Rattle.std.specs.Prelude.{◌≡◌, ℕ, ◌*◌, ◌/◌, ◌%◌, ◌<◌, ◌≤◌, true, List, length, Option, Some, None, is_some, slice_get}
use Rattle.std.specs.Option.{option_flatten}
use Rattle.qx_geom.specs.Lists.{IsAscending, is_in}
use Rattle.qx_geom.specs.Pointer.{ceil_div}
use Rattle.qx_model.specs.Directories.{slot_at}
use Rattle.qx_model.specs.Tree.{Body, Directory, Entry, File, Link, Row, Slot, Special, Tree, dot_name, dots_name, entry_of, record_size}

-- blocks hold whole records, two at least
pub record HoldsRecords (blocksize : ℕ) : Type 0 where
  pub two : 64 ≤ blocksize
  pub whole : blocksize % record_size ≡ 0

-- how many bytes a body has
abbrev pub body_size : Body → ℕ
body_size (Directory slots parent) = record_size * length slots
body_size (File content) = length content
body_size (Link target) = length target
body_size Special = 0

-- directory n has whole leaves, all of them present, and first `.` and `..`, with short names
pub record IsWholeDirectory (blocksize n : ℕ) (e : Entry) (slots : List Slot) (parent : ℕ) : Type 0 where
  pub some : 0 < e.size
  pub whole : e.size % blocksize ≡ 0
  pub filled : (i : ℕ) → i < e.size / blocksize → is_in e.present i ≡ true
  pub dot : slice_get slots 0 ≡ Some (Row n dot_name None)
  pub dots : slice_get slots 1 ≡ Some (Row parent dots_name None)

-- what else is asked of a body
abbrev pub IsWholeBody : ℕ → ℕ → Entry → Body → Type 0
IsWholeBody blocksize n e (Directory slots parent) = IsWholeDirectory blocksize n e slots parent
IsWholeBody blocksize n e (File content) = Unit {0}
IsWholeBody blocksize n e (Link target) = Unit {0}
IsWholeBody blocksize n e Special = Unit {0}

-- inode n has as many bytes as its size says, its present leaves ascend and lie below its end, and a directory is whole
pub record IsWholeEntry (blocksize n : ℕ) (e : Entry) : Type 0 where
  pub size : e.size ≡ body_size e.body
  pub ascends : IsAscending e.present
  pub below : (i : ℕ) → is_in e.present i ≡ true → i < ceil_div e.size blocksize
  pub body : IsWholeBody blocksize n e e.body

-- each inode of a tree is whole
abbrev pub AreWhole : ℕ → Tree → Type 0
AreWhole blocksize t = (n : ℕ) (e : Entry) → entry_of t n ≡ Some e → IsWholeEntry blocksize n e

-- the long name of a number
abbrev pub long_name_of : Tree → ℕ → Option (List ℕ)
long_name_of t k = option_flatten (slice_get t.long_names k)

-- the Longfile has whole leaves, a name in each that is present and in no other, and these ascend
pub record HasWholeNames (blocksize : ℕ) (t : Tree) : Type 0 where
  pub whole : t.long_size ≡ length t.long_names * blocksize
  pub ascends : IsAscending t.long_present
  pub there : (k : ℕ) → is_in t.long_present k ≡ is_some (long_name_of t k)

-- record k of directory d is a row with this long-name number
pub record HasNumber (t : Tree) (d k number : ℕ) (name : List ℕ) : Type 0 where
  pub inode : ℕ
  pub is : slot_at t d k ≡ Row inode name (Some number)

-- each number of a row is that of its name, and no number is two rows'
pub record AreNumbered (t : Tree) : Type 0 where
  pub names : (d k number : ℕ) (name : List ℕ) → HasNumber t d k number name → long_name_of t number ≡ Some name
  pub once : (d k c j number : ℕ) (name other : List ℕ) → HasNumber t d k number name → HasNumber t c j number other → (d ≡ c) × (k ≡ j)

-- all parts of a tree agree
pub record IsWhole (blocksize : ℕ) (t : Tree) : Type 0 where
  pub entries : AreWhole blocksize t
  pub longs : HasWholeNames blocksize t
  pub numbers : AreNumbered t

-- some row has this long-name number
pub record HasRowFor (t : Tree) (number : ℕ) : Type 0 where
  pub directory : ℕ
  pub record_number : ℕ
  pub name : List ℕ
  pub is : HasNumber t directory record_number number name

-- each long name is some row's
abbrev pub AreUsed : Tree → Type 0
AreUsed t = (number : ℕ) → is_some (long_name_of t number) ≡ true → HasRowFor t number
