-- The links of inodes by their numbers: how many rows name each, and where each directory is.
use Rattle.std.specs.Prelude.{◌≡◌, ◌≢◌, ℕ, zero, suc, List, length, Some, slice_index_or, slice_set}
use Rattle.qx_model.specs.Tree.{Entry, IsDirectory, Tree, entry_of, links_of}
use Rattle.qx_working.specs.declared.links.Link.{Link}

-- an inode that no row names
abbrev pub no_link : Link
no_link = record { rows = 0; parent = 1 }

-- that of a number; numbers begin at 1
abbrev pub link_of : List Link → ℕ → Link
link_of links zero = no_link
link_of links (suc k) = slice_index_or links k no_link

-- number n has this link
abbrev pub with_link : List Link → ℕ → Link → List Link
with_link links zero link = links
with_link links (suc k) link = slice_set links k link

-- the links are a tree's: each inode's rows, and of a directory the one that it is in
pub record HasLinks (links : List Link) (t : Tree) : Type 0 where
  pub places : length links ≡ length t.inodes
  pub rows : (n : ℕ) (e : Entry) → entry_of t n ≡ Some e → (link_of links n).rows ≡ links_of t n
  pub parents : (d p : ℕ) → IsDirectory t d p → (link_of links d).parent ≡ p

-- the inodes but n that a tree has were there before, named as often, and each directory among them had its parent
pub record NamesAlike (t after : Tree) (n : ℕ) : Type 0 where
  pub live : (m : ℕ) (e : Entry) → m ≢ n → entry_of after m ≡ Some e → (f : Entry) × (entry_of t m ≡ Some f)
  pub links : (m : ℕ) → m ≢ n → links_of after m ≡ links_of t m
  pub directories : (d p : ℕ) → d ≢ n → IsDirectory after d p → IsDirectory t d p
