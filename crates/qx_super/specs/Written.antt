-- What a superblock is written as, place by place, and what is read back of it.
use Rattle.std.specs.Prelude.{ℕ, ◌<◌, ◌^◌, List, [], ◌∷◌, ◌++◌, replicate, Result, Ok, Err, if◌then◌else◌}
use Rattle.std.specs.List.{concat}
use Rattle.qx_fields.specs.Number.{digits}
use Rattle.qx_super.specs.Checksum.{checksum_of}
use Rattle.qx_super.specs.RootNode.{root_bytes, FitsRoot}
use Rattle.qx_super.specs.Superblock.{Superblock, fits_device}
use Rattle.qx_super.specs.declared.superblock.SuperFault.{SuperFault}
use Rattle.qx_super.specs.declared.superblock.SuperFault.TheVariants.{Geometry}
use Rattle.qx_super.specs.declared.writing.Super.{Super}

-- bytes 8 to 511, in the order of the format's table; what has no field in a `Super` is 0
unfoldable pub super_body : Super → List ℕ
super_body s = concat (digits s.order 8 s.serial
    ∷ digits s.order 4 s.ctime
    ∷ digits s.order 4 s.atime
    ∷ replicate 4 0  -- flags
    ∷ digits s.order 2 s.version1
    ∷ replicate 2 0  -- version2
    ∷ replicate 16 0  -- volume id
    ∷ digits s.order 4 s.blocksize
    ∷ digits s.order 4 s.num_inodes
    ∷ digits s.order 4 s.free_inodes
    ∷ digits s.order 4 s.num_blocks
    ∷ digits s.order 4 s.free_blocks
    ∷ replicate 4 0  -- allocgroup
    ∷ root_bytes s.order s.inode
    ∷ root_bytes s.order s.bitmap
    ∷ root_bytes s.order s.longfile
    ∷ root_bytes s.order s.fourth
    ∷ replicate 120 0  -- bytes 392 to 511
    ∷ [])

-- the 512 bytes: the magic, the checksum of what follows, and the rest
unfoldable pub super_bytes : Super → List ℕ
super_bytes s = digits s.order 4 0x68191122 ++ (digits s.order 4 (checksum_of (super_body s)) ++ super_body s)

-- what these bytes say
abbrev pub superblock_written : Super → Superblock
superblock_written s = record {
  order = s.order;
  serial = s.serial;
  ctime = s.ctime;
  atime = s.atime;
  version1 = s.version1;
  volume_id = replicate 16 0;
  blocksize = s.blocksize;
  num_inodes = s.num_inodes;
  free_inodes = s.free_inodes;
  num_blocks = s.num_blocks;
  free_blocks = s.free_blocks;
  inode = s.inode;
  bitmap = s.bitmap;
  longfile = s.longfile;
  fourth = s.fourth;
}

-- the numbers fit their bytes, as those of the code do
pub record FitsSuper (s : Super) : Type 0 where
  pub serial : s.serial < 2 ^ 64
  pub ctime : s.ctime < 2 ^ 32
  pub atime : s.atime < 2 ^ 32
  pub version1 : s.version1 < 2 ^ 16
  pub blocksize : s.blocksize < 2 ^ 32
  pub num_inodes : s.num_inodes < 2 ^ 32
  pub free_inodes : s.free_inodes < 2 ^ 32
  pub num_blocks : s.num_blocks < 2 ^ 32
  pub free_blocks : s.free_blocks < 2 ^ 32
  pub inode : FitsRoot s.inode
  pub bitmap : FitsRoot s.bitmap
  pub longfile : FitsRoot s.longfile
  pub fourth : FitsRoot s.fourth

-- what they are on a device of this length: valid where it has the blocks
abbrev pub written_or_refused : Super → ℕ → Result Superblock SuperFault
written_or_refused s len = if fits_device (superblock_written s) len then Ok (superblock_written s) else Err Geometry
