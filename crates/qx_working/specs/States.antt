-- The copy that a working state has beside its blocks, and its nodes by number.
use Rattle.std.specs.Prelude.{ℕ, zero, suc, Option, Some, None, is_some, if◌then◌else◌, slice_set}
use Rattle.qx_geom.specs.declared.root.Root.{Root}
use Rattle.qx_records.specs.declared.inode.Inode.{Inode}
use Rattle.qx_copies.specs.Copies.{BlockCopy, inode_at, node_of_inode}
use Rattle.qx_working.specs.declared.working.Working.{Working}

-- its inodes, and its Longfile's node
abbrev pub copy_of : Working → BlockCopy
copy_of w = record { inodes = w.table.inodes; longfile = w.long }

-- an inode with another node, where it has one
abbrev pub with_root : Root → Option Inode → Option Inode
with_root node None = None
with_root node (Some i) = if is_some (node_of_inode i) then Some (record i { root = node }) else Some i

-- the state in which a number that has a node has this one: 0 is the Longfile's, n that of inode n
abbrev pub with_node_at : Working → ℕ → Root → Working
with_node_at w zero node = record w { long = node }
with_node_at w (suc k) node = record w { table = record w.table { inodes = slice_set w.table.inodes k (with_root node (inode_at w.table.inodes (suc k))) } }
