-- What an inode is written as, place by place.
use Rattle.std.specs.Prelude.{◌≡◌, ℕ, ◌<◌, ◌^◌, List, [], ◌∷◌, length, replicate, All}
use Rattle.std.specs.List.{concat}
use Rattle.qx_fields.specs.declared.order.Order.{Order}
use Rattle.qx_fields.specs.Number.{digits, all_digits}
use Rattle.qx_records.specs.declared.inode.Inode.{Inode}

-- the 128 bytes, in the order of the format's table; what has no field in an `Inode` is 0
unfoldable pub inode_bytes : Order → Inode → List ℕ
inode_bytes order inode = concat (digits order 8 inode.root.size
    ∷ digits order 4 inode.uid
    ∷ digits order 4 inode.gid
    ∷ digits order 4 inode.ftime
    ∷ digits order 4 inode.mtime
    ∷ digits order 4 inode.atime
    ∷ digits order 4 inode.ctime
    ∷ digits order 2 inode.mode
    ∷ digits order 2 inode.ext_mode
    ∷ all_digits order 4 inode.root.pointers
    ∷ (inode.root.levels ∷ [])
    ∷ (inode.status ∷ [])
    ∷ replicate 26 0  -- bytes 102 to 127
    ∷ [])

-- an inode's numbers fit their bytes, as those of the code do
pub record FitsInode (inode : Inode) : Type 0 where
  pub size : inode.root.size < 2 ^ 64
  pub uid : inode.uid < 2 ^ 32
  pub gid : inode.gid < 2 ^ 32
  pub ftime : inode.ftime < 2 ^ 32
  pub mtime : inode.mtime < 2 ^ 32
  pub atime : inode.atime < 2 ^ 32
  pub ctime : inode.ctime < 2 ^ 32
  pub mode : inode.mode < 2 ^ 16
  pub ext_mode : inode.ext_mode < 2 ^ 16
  pub sixteen : length inode.root.pointers ≡ 16
  pub pointers : All (λ pointer. pointer < 2 ^ 32) inode.root.pointers
