-- What inodes and the contents of their nodes show of a tree: inode by inode, and the Longfile. Whether the tree is rooted is another matter, so each edit can keep this.
use Rattle.std.specs.Prelude.{◌≡◌, ◌≢◌, ℕ, ◌<◌, List, length, Option, Some, None}
use Rattle.qx_fields.specs.declared.order.Order.{Order}
use Rattle.qx_geom.specs.Lists.{each_below}
use Rattle.qx_geom.specs.Pointer.{ceil_div}
use Rattle.qx_nodes.specs.LongNames.{name_in}
use Rattle.qx_nodes.specs.NodeContents.{NodeContent}
use Rattle.qx_records.specs.declared.inode.Inode.{Inode}
use Rattle.qx_model.specs.Tree.{Entry, Tree, entry_of}
use Rattle.qx_view.specs.Entries.{IsEntryOf, Reader}
use Rattle.qx_copies.specs.Copies.{Contents, inode_at}

-- how nodes are read whose Longfile has this content
abbrev pub reader_by : Order → ℕ → NodeContent → Reader
reader_by order blocksize long = record { order = order; blocksize = blocksize; names = name_in order blocksize long }

-- an inode whose node has this content, and an entry, or neither
abbrev pub IsSameInode : Reader → NodeContent → Option Inode → Option Entry → Type 0
IsSameInode r c None None = Unit {0}
IsSameInode r c (Some i) (Some e) = IsEntryOf r i c e
IsSameInode r c None (Some e) = ⊥
IsSameInode r c (Some i) None = ⊥

-- these inodes and contents show a tree
pub record Shows (order : Order) (blocksize : ℕ) (inodes : List (Option Inode)) (contents : Contents) (t : Tree) : Type 0 where
  pub places : length t.inodes ≡ length inodes
  pub each : (n : ℕ) → 0 < n → IsSameInode (reader_by order blocksize (contents 0)) (contents n) (inode_at inodes n) (entry_of t n)
  pub long_size : t.long_size ≡ (contents 0).size
  pub long_present : t.long_present ≡ (contents 0).present
  pub long_names : t.long_names ≡ each_below (ceil_div (contents 0).size blocksize) (name_in order blocksize (contents 0))

-- inodes become others in which number n has this one, or none
pub record SetsInode (before after : List (Option Inode)) (n : ℕ) (x : Option Inode) : Type 0 where
  pub places : length after ≡ length before
  pub is : inode_at after n ≡ x
  pub others : (m : ℕ) → m ≢ n → inode_at after m ≡ inode_at before m
