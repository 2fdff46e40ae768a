-- What a tree is by itself.
use Rattle.std.specs.Prelude.{◌≡◌, ◌≢◌, ℕ, Bool, not, ◌||◌, List, Option, Some, IsTrue, ◌==◌, slice_get}
use Rattle.std.specs.List.{list_all}
use Rattle.qx_model.specs.Tree.{Entry, IsDirectory, Names, NamesAt, Reached, Row, Slot, Tree, dot_name, dots_name, entry_of, slots_of}

-- no byte 0 or `/`
abbrev pub is_plain : List ℕ → Bool
is_plain name = list_all (λ c. not ((c == 0) || (c == 47))) name

-- what the rows of directory d, whose parent is p, are: plain names that differ, and `.` and `..`, where they stand, name d and p
pub record AreRows (d p : ℕ) (slots : List Slot) : Type 0 where
  pub plain : (k n : ℕ) (name : List ℕ) (long : Option ℕ) → slice_get slots k ≡ Some (Row n name long) → IsTrue (is_plain name)
  pub differ : (k j n i : ℕ) (name : List ℕ) (a b : Option ℕ) → slice_get slots k ≡ Some (Row n name a) → slice_get slots j ≡ Some (Row i name b) → k ≡ j
  pub dot : (k n : ℕ) (long : Option ℕ) → slice_get slots k ≡ Some (Row n dot_name long) → n ≡ d
  pub dots : (k n : ℕ) (long : Option ℕ) → slice_get slots k ≡ Some (Row n dots_name long) → n ≡ p

-- what a tree is by itself: its inodes are the reached ones; inode 1 is a directory, its own parent, that no row names; each other directory is named by one row, which is its parent's; and its rows are as rows must be
pub record IsRooted (t : Tree) : Type 0 where
  pub reached : (n : ℕ) (e : Entry) → entry_of t n ≡ Some e → Reached t n
  pub closed : (n : ℕ) → Reached t n → (e : Entry) × (entry_of t n ≡ Some e)
  pub top : IsDirectory t 1 1
  pub parent : (d p : ℕ) → IsDirectory t d p → d ≢ 1 → Names t p d
  pub no_top : (d : ℕ) → Names t d 1 → ⊥
  pub once : (d k c j n p : ℕ) → NamesAt t d k n → NamesAt t c j n → IsDirectory t n p → (d ≡ c) × (k ≡ j)
  pub rows : (d p : ℕ) → IsDirectory t d p → AreRows d p (slots_of t d)
