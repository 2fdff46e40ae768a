-- What a name leads to in a directory of a tree, and the node that a directory of a state is.
use Rattle.std.specs.Prelude.{◌≡◌, ℕ, List, Option, Some, None, option_and_then}
use Rattle.qx_geom.specs.declared.root.Root.{Root}
use Rattle.qx_records.specs.declared.inode.Inode.{Inode}
use Rattle.qx_records.specs.declared.kind.Kind.{Kind}
use Rattle.qx_records.specs.declared.kind.Kind.TheVariants as kinds
use Rattle.qx_records.specs.InodeRecord.{kind_of}
use Rattle.qx_model.specs.Tree.{Row, Tree}
use Rattle.qx_model.specs.Directories.{record_of, slot_at}
use Rattle.qx_copies.specs.Copies.{inode_at}
use Rattle.qx_lookup.specs.declared.rows.FoundRow.{FoundRow}

-- the row that has a name in directory d of a tree is this one: its record is the first that has the name; or none has it
abbrev pub IsRowNamed : Tree → ℕ → List ℕ → Option FoundRow → Type 0
IsRowNamed t d name None = record_of t d name ≡ None
IsRowNamed t d name (Some row) = (record_of t d name ≡ Some row.record) × (slot_at t d row.record ≡ Row row.inode name row.long)

-- the node of an inode of a kind, where that is a directory
abbrev pub directory_of_kind : Root → Option Kind → Option Root
directory_of_kind root None = None
directory_of_kind root (Some kinds.Directory) = Some root
directory_of_kind root (Some kinds.File) = None
directory_of_kind root (Some kinds.Link) = None
directory_of_kind root (Some kinds.Special) = None

-- the node of a number, where that is a live directory
abbrev pub directory_in : List (Option Inode) → ℕ → Option Root
directory_in inodes d = option_and_then (λ (i : Inode). directory_of_kind i.root (kind_of i.mode)) (inode_at inodes d)
