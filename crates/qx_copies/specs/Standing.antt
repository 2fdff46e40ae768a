-- When a copy on blocks stands for a tree, and for ids.
use Rattle.std.specs.Prelude.{◌≡◌, ℕ, zero, suc, ◌<◌, false, length, Option, Some, None, IsTrue, Contains}
use Rattle.qx_geom.specs.declared.root.Root.{Root}
use Rattle.qx_nodes.specs.BlockMap.{BlockMap}
use Rattle.qx_nodes.specs.Content.{levels_fit, root_fits}
use Rattle.qx_nodes.specs.ForeignNodes.{is_foreign_node}
use Rattle.qx_nodes.specs.Visits.{Visit, visits_of}
use Rattle.qx_records.specs.declared.inode.Inode.{Inode}
use Rattle.qx_records.specs.declared.kind.Kind.{Kind}
use Rattle.qx_records.specs.declared.kind.Kind.TheVariants as kinds
use Rattle.qx_records.specs.InodeRecord.{kind_of}
use Rattle.qx_model.specs.Machine.{Copy}
use Rattle.qx_model.specs.Owners.{Owner, OfFurther, OfInode, OfInodes, OfLongfile}
use Rattle.qx_model.specs.Rooted.{IsRooted}
use Rattle.qx_model.specs.Tree.{Tree}
use Rattle.qx_model.specs.TreePositions.{HasPosition, Position}
use Rattle.qx_model.specs.Whole.{AreUsed, IsWhole}
use Rattle.qx_view.specs.Sound.{has_tail}
use Rattle.qx_copies.specs.Copies.{BlockCopy, contents_of, inode_at, node_in}
use Rattle.qx_copies.specs.Shown.{Shows}

-- ---- the tree

-- the nodes are within the format's bounds
pub record AreBounded (m : BlockMap) (nodes : ℕ → Option Root) : Type 0 where
  pub sixteen : (o : ℕ) (node : Root) → nodes o ≡ Some node → length node.pointers ≡ 16
  pub levels : (o : ℕ) (node : Root) → nodes o ≡ Some node → IsTrue (levels_fit m node)

-- each pointer that is met is a block's number, and no block stands at two positions of one node or of two
pub record AreUndamaged (m : BlockMap) (nodes : ℕ → Option Root) : Type 0 where
  pub blocks : (o : ℕ) (node : Root) (v : Visit) → nodes o ≡ Some node → Contains (visits_of m node) v → v.block < m.count
  pub once : (o q : ℕ) (a b : Root) (u v : Visit) → nodes o ≡ Some a → nodes q ≡ Some b → Contains (visits_of m a) u → Contains (visits_of m b) v → u.block ≡ v.block → (o ≡ q) × (u ≡ v)

-- a node of the copy meets this block
pub record MeetsBlock (m : BlockMap) (c : BlockCopy) (b : ℕ) : Type 0 where
  pub number : ℕ
  pub node : Root
  pub is : node_in c number ≡ Some node
  pub visit : Visit
  pub met : Contains (visits_of m node) visit
  pub block : visit.block ≡ b

-- the copy stands for a tree; its Longfile's size is within that of all blocks, as a root node's must be
pub record Represents (m : BlockMap) (c : BlockCopy) (t : Tree) : Type 0 where
  pub bounded : AreBounded m (node_in c)
  pub longfile_fits : IsTrue (root_fits m c.longfile)
  pub undamaged : AreUndamaged m (node_in c)
  pub rooted : IsRooted t
  pub shows : Shows m.order m.size c.inodes (contents_of m c) t

-- ---- as this project writes copies

-- the status of an inode of a kind
abbrev pub written_status : Kind → ℕ
written_status kinds.Directory = 1
written_status kinds.File = 3
written_status kinds.Link = 3
written_status kinds.Special = 3

-- an inode is as this project writes it: no special, with its kind's status
pub record IsOwnInode (i : Inode) : Type 0 where
  pub kind : Kind
  pub kind_is : kind_of i.mode ≡ Some kind
  pub no_special : ¬ (kind ≡ kinds.Special)
  pub status : i.status ≡ written_status kind
  pub ext_mode : i.ext_mode ≡ 0

-- the copy is laid out as this project does: no reason from 4 on applies, and no node has a byte behind its end
pub record IsOwnCopy (m : BlockMap) (c : BlockCopy) (t : Tree) : Type 0 where
  pub whole : IsWhole m.size t
  pub used : AreUsed t
  pub inodes : (n : ℕ) (i : Inode) → inode_at c.inodes n ≡ Some i → IsOwnInode i
  pub nodes : (o : ℕ) (node : Root) → node_in c o ≡ Some node → is_foreign_node m node ≡ false
  pub tails : (n : ℕ) (node : Root) → node_in c (suc n) ≡ Some node → has_tail m node ≡ false

-- ---- ids

-- the node of an owner; a copy has none of the halves, and no further ones
abbrev pub node_of_owner : BlockCopy → Owner → Option Root
node_of_owner c OfInodes = None
node_of_owner c OfLongfile = node_in c 0
node_of_owner c (OfFurther k) = None
node_of_owner c (OfInode zero) = None
node_of_owner c (OfInode (suc k)) = node_in c (suc k)

-- a block stands at a position of the copy
pub record StandsAt (m : BlockMap) (c : BlockCopy) (p : Position) (b : ℕ) : Type 0 where
  pub node : Root
  pub is : node_of_owner c p.owner ≡ Some node
  pub met : Contains (visits_of m node) (record { level = p.level; index = p.index; block = b })

-- the copy stands for a tree and ids, read as blocks: it is laid out as this project does, and at each position of the tree, and at no other, stands the block of its id
pub record RepresentsIds (m : BlockMap) (c : BlockCopy) (k : Copy) (block : ℕ → ℕ) : Type 0 where
  pub tree : Represents m c k.tree
  pub own : IsOwnCopy m c k.tree
  pub placed : (p : Position) → HasPosition m.size k.tree p → StandsAt m c p (block (k.ids p))
  pub no_other : (p : Position) (b : ℕ) → StandsAt m c p b → HasPosition m.size k.tree p
