-- The superblocks of a new volume, and where its tree begins.
use Rattle.std.specs.Prelude.{◌≡◌, ℕ, ◌-◌, ◌^◌, ◌<◌, List, [], ◌∷◌, length, replicate, Some, Ok}
use Rattle.qx_fields.specs.declared.order.Order.{Order}
use Rattle.qx_geom.specs.declared.system.SystemTree.TheVariants as trees
use Rattle.qx_geom.specs.declared.area.Which.{Which}
use Rattle.qx_geom.specs.declared.geometry.Geometry.{Geometry}
use Rattle.qx_geom.specs.declared.root.Root.{Root}
use Rattle.qx_geom.specs.Layout.{geometry_of, system_root_of, user_blocks}
use Rattle.qx_geom.specs.Pointer.{absent}
use Rattle.qx_super.specs.declared.choice.Pick.TheVariants as picks
use Rattle.qx_super.specs.Active.{active_area, active_super}
use Rattle.qx_super.specs.Superblock.{Superblock}
use Rattle.qx_view.specs.Images.{Roots, image_blocks}
use Rattle.qx_make.specs.Blocks.{AreMade}

-- a root node of nothing
abbrev pub empty_root : Root
empty_root = record { size = 0; pointers = replicate 16 absent; levels = 0 }

-- what the maker's superblock of an area says, with this serial
abbrev pub made_superblock : Geometry → Order → ℕ → ℕ → Which → Superblock
made_superblock g order moment serial which = record {
  order = order;
  serial = serial;
  ctime = moment;
  atime = moment;
  version1 = 1;
  volume_id = replicate 16 0;
  blocksize = g.blocksize;
  num_inodes = g.num_inodes;
  free_inodes = g.num_inodes - 1;
  num_blocks = g.num_blocks;
  free_blocks = user_blocks g - 1;
  inode = system_root_of g which trees.Inodes;
  bitmap = system_root_of g which trees.Bitmap;
  longfile = empty_root;
  fourth = empty_root;
}

-- where the tree of an area's half begins
abbrev pub new_roots : Geometry → Which → Roots
new_roots g which = record { inodes = system_root_of g which trees.Inodes; longfile = empty_root; further = system_root_of g which trees.Bitmap ∷ [] }

-- an image has a new volume: its blocks are those that the maker writes at a moment, and this area is active with the maker's superblock
pub record HasNewVolume (img : List ℕ) (g : Geometry) (order : Order) (moment serial : ℕ) (which : Which) : Type 0 where
  pub numbers : geometry_of (length img) g.blocksize g.num_inodes ≡ Ok g
  pub now : moment < 2 ^ 32
  pub active : active_area img ≡ picks.Active which
  pub superblock : active_super img ≡ Some (made_superblock g order moment serial which)
  pub made : AreMade g order moment (image_blocks img (made_superblock g order moment serial which))
