-- What 512 bytes say, and when they are a valid superblock.
use Rattle.std.specs.Prelude.{ℕ, ◌+◌, ◌*◌, Bool, false, List, drop, slice_range, nat_le, ◌==◌, ◌&&◌, not, Option, Some, None, Result, Ok, Err, if◌then◌else◌}
use Rattle.qx_fields.specs.declared.order.Order.{Order}
use Rattle.qx_fields.specs.declared.order.Order.TheVariants.{Little, Big}
use Rattle.qx_fields.specs.Number.{field}
use Rattle.qx_geom.specs.declared.root.Root.{Root}
use Rattle.qx_geom.specs.Layout.{blocks_begin, is_block_size}
use Rattle.qx_super.specs.Checksum.{checksum_of}
use Rattle.qx_super.specs.RootNode.{root_of}
use Rattle.qx_super.specs.declared.superblock.RootName.{RootName}
use Rattle.qx_super.specs.declared.superblock.RootName.TheVariants.{Inode, Bitmap, Longfile, Fourth}
use Rattle.qx_super.specs.declared.superblock.SuperFault.{SuperFault}
use Rattle.qx_super.specs.declared.superblock.SuperFault.TheVariants.{Magic, Checksum, Geometry}

-- what a superblock says
pub record Superblock : Type 0 where
  pub order : Order
  pub serial : ℕ
  pub ctime : ℕ
  pub atime : ℕ
  pub version1 : ℕ
  pub volume_id : List ℕ
  pub blocksize : ℕ
  pub num_inodes : ℕ
  pub free_inodes : ℕ
  pub num_blocks : ℕ
  pub free_blocks : ℕ
  pub inode : Root
  pub bitmap : Root
  pub longfile : Root
  pub fourth : Root

-- the fields of 512 bytes, read in this order
abbrev pub fields_in : Order → List ℕ → Superblock
fields_in order bytes = record {
  order = order;
  serial = field order 8 bytes 8;
  ctime = field order 4 bytes 16;
  atime = field order 4 bytes 20;
  version1 = field order 2 bytes 28;
  volume_id = slice_range bytes 32 48;
  blocksize = field order 4 bytes 48;
  num_inodes = field order 4 bytes 52;
  free_inodes = field order 4 bytes 56;
  num_blocks = field order 4 bytes 60;
  free_blocks = field order 4 bytes 64;
  inode = root_of order (slice_range bytes 72 152);
  bitmap = root_of order (slice_range bytes 152 232);
  longfile = root_of order (slice_range bytes 232 312);
  fourth = root_of order (slice_range bytes 312 392);
}

-- the root node of this name
abbrev pub root_named : Superblock → RootName → Root
root_named s Inode = s.inode
root_named s Bitmap = s.bitmap
root_named s Longfile = s.longfile
root_named s Fourth = s.fourth

-- the order in which the magic stands
unfoldable pub order_of : List ℕ → Option Order
order_of bytes = if field Little 4 bytes 0 == 0x68191122 then Some Little else (if field Big 4 bytes 0 == 0x68191122 then Some Big else None)

-- in this order the number at 4 is the checksum of what follows
abbrev pub has_checksum_in : Option Order → List ℕ → Bool
has_checksum_in None bytes = false
has_checksum_in (Some order) bytes = field order 4 bytes 4 == checksum_of (drop 8 bytes)

-- the bytes have the magic and a right checksum, whatever else they say
abbrev pub has_right_checksum : List ℕ → Bool
has_right_checksum bytes = has_checksum_in (order_of bytes) bytes

-- the byte at which the second area stands, behind the last block
abbrev pub second_place_of : Superblock → ℕ
second_place_of s = blocks_begin + s.num_blocks * s.blocksize

-- a device of this length has the blocks and the second superblock behind them
abbrev pub fits_device : Superblock → ℕ → Bool
fits_device s len = is_block_size s.blocksize && (not (s.num_blocks == 0) && nat_le (second_place_of s + 512) len)

-- the valid superblock that bytes are in this order, or the first fault
abbrev pub valid_in : Option Order → List ℕ → ℕ → Result Superblock SuperFault
valid_in None bytes len = Err Magic
valid_in (Some order) bytes len =
    if field order 4 bytes 4 == checksum_of (drop 8 bytes) then (if fits_device (fields_in order bytes) len then Ok (fields_in order bytes) else Err Geometry) else Err Checksum

-- the valid superblock that 512 bytes are on a device of this length, or the first fault
abbrev pub superblock_of : List ℕ → ℕ → Result Superblock SuperFault
superblock_of bytes len = valid_in (order_of bytes) bytes len
