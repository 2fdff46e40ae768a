-- A copy of a tree as it lies on blocks: its inodes in memory, its Longfile's node, and what the nodes hold.
use Rattle.std.specs.Prelude.{ℕ, zero, suc, List, [], Option, Some, None, option_and_then, slice_index_or}
use Rattle.qx_geom.specs.declared.root.Root.{Root}
use Rattle.qx_nodes.specs.BlockMap.{BlockMap}
use Rattle.qx_nodes.specs.NodeContents.{NodeContent, node_content}
use Rattle.qx_records.specs.declared.inode.Inode.{Inode}
use Rattle.qx_records.specs.declared.kind.Kind.{Kind}
use Rattle.qx_records.specs.declared.kind.Kind.TheVariants as kinds
use Rattle.qx_records.specs.InodeRecord.{kind_of}

-- what a copy has beside its blocks: the inodes of the numbers 1, 2, 3 and so on, each where it is live, and the Longfile's node
pub record BlockCopy : Type 0 where
  pub inodes : List (Option Inode)
  pub longfile : Root

-- inode n, where it is live
abbrev pub inode_at : List (Option Inode) → ℕ → Option Inode
inode_at inodes zero = None
inode_at inodes (suc k) = slice_index_or inodes k None

-- ---- nodes

-- the node of an inode of a kind; a special has none
abbrev pub node_of_kind : Root → Option Kind → Option Root
node_of_kind root None = None
node_of_kind root (Some kinds.Special) = None
node_of_kind root (Some kinds.Directory) = Some root
node_of_kind root (Some kinds.File) = Some root
node_of_kind root (Some kinds.Link) = Some root

-- that of an inode
abbrev pub node_of_inode : Inode → Option Root
node_of_inode i = node_of_kind i.root (kind_of i.mode)

-- the node of each number that has one: 0 is the Longfile's, n that of inode n
abbrev pub node_in : BlockCopy → ℕ → Option Root
node_in c zero = Some c.longfile
node_in c (suc k) = option_and_then node_of_inode (inode_at c.inodes (suc k))

-- ---- what they hold

-- the content of each number's node
abbrev pub Contents : Type 0
Contents = ℕ → NodeContent

-- the content of nothing
abbrev pub no_content : NodeContent
no_content = record { size = 0; present = []; leaves = λ i. [] }

-- a node's content, that of nothing where there is no node
abbrev pub content_or_none : BlockMap → Option Root → NodeContent
content_or_none m None = no_content
content_or_none m (Some node) = node_content m node

-- the contents of a copy's nodes
abbrev pub contents_of : BlockMap → BlockCopy → Contents
contents_of m c n = content_or_none m (node_in c n)
