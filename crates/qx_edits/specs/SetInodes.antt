-- Inodes of which one gets other attributes.
use Rattle.std.specs.Prelude.{◌≡◌, ℕ, List, Option, Some}
use Rattle.qx_records.specs.declared.inode.Inode.{Inode}
use Rattle.qx_model.specs.declared.attr.Attr.{Attr}
use Rattle.qx_view.specs.Entries.{attr_of}
use Rattle.qx_copies.specs.Copies.{inode_at}
use Rattle.qx_copies.specs.Shown.{SetsInode}

-- number n's inode gets the attributes that a change makes of its own, whatever becomes of its node
pub record SetsAttr (before after : List (Option Inode)) (n : ℕ) (change : Attr → Attr) : Type 0 where
  pub old : Inode
  pub new : Inode
  pub was : inode_at before n ≡ Some old
  pub sets : SetsInode before after n (Some new)
  pub attr : attr_of new ≡ change (attr_of old)
