-- The two superblocks of a new volume.
use Rattle.std.specs.Prelude.{ℕ, ◌-◌, List}
use Rattle.qx_fields.specs.declared.order.Order.{Order}
use Rattle.qx_geom.specs.declared.system.SystemTree.TheVariants as trees
use Rattle.qx_geom.specs.declared.area.Which.{Which}
use Rattle.qx_geom.specs.declared.geometry.Geometry.{Geometry}
use Rattle.qx_geom.specs.Area.{area_number}
use Rattle.qx_geom.specs.Layout.{system_root_of, user_blocks}
use Rattle.qx_super.specs.declared.writing.Super.{Super}
use Rattle.qx_super.specs.Written.{super_bytes}
use Rattle.qx_make.specs.NewVolume.{empty_root}

-- the superblock of an area: the first has serial 1, the second serial 2, and each the root nodes of its half
unfoldable pub made_super : Geometry → Order → ℕ → Which → Super
made_super g order moment which = record {
  order = order;
  serial = area_number which;
  ctime = moment;
  atime = moment;
  version1 = 1;
  blocksize = g.blocksize;
  num_inodes = g.num_inodes;
  free_inodes = g.num_inodes - 1;
  num_blocks = g.num_blocks;
  free_blocks = user_blocks g - 1;
  inode = system_root_of g which trees.Inodes;
  bitmap = system_root_of g which trees.Bitmap;
  longfile = empty_root;
  fourth = empty_root;
}

-- its 512 bytes
abbrev pub made_super_bytes : Geometry → Order → ℕ → Which → List ℕ
made_super_bytes g order moment which = super_bytes (made_super g order moment which)
