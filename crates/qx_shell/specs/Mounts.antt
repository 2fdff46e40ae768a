-- How a shell mounts an image, and the machine with which it does.
use Rattle.std.specs.Prelude.{◌≡◌, ℕ, ◌+◌, Bool, true, false, List, length, Some, None}
use Rattle.qx_geom.specs.declared.geometry.Geometry.{Geometry}
use Rattle.qx_geom.specs.Layout.{user_blocks}
use Rattle.qx_super.specs.Superblock.{Superblock}
use Rattle.qx_super.specs.Active.{active_super}
use Rattle.qx_model.specs.Tree.{Tree}
use Rattle.qx_model.specs.Machine.{Machine, Volume, start_of}
use Rattle.qx_view.specs.declared.reasons.Foreign.{Foreign as Why}
use Rattle.qx_view.specs.Images.{image_blocks, main_roots}
use Rattle.qx_view.specs.Sound.{IsForeign, IsSound, written_geometry}
use Rattle.qx_view.specs.Usage.{Usage, foreign_usage}

-- for writing, or for reading alone
pub data How : Type 0 where
  Writing : How
  Reading : How

-- whether it is for reading alone
abbrev pub is_for_reading : How → Bool
is_for_reading Writing = false
is_for_reading Reading = true

-- the numbers of a sound volume
abbrev pub volume_of : How → Geometry → Volume
volume_of how g = record {
  blocksize = g.blocksize;
  blocks = g.num_blocks;
  user = user_blocks g;
  system_leaves = g.bitmap_leaves + g.inode_leaves;
  inodes = g.num_inodes;
  is_read_only = is_for_reading how;
  free_without_ids = None;
}

-- those of a foreign one, whose blocks have no ids, and of which nothing is ever written
abbrev pub foreign_volume : Superblock → Usage → Volume
foreign_volume s u = record {
  blocksize = s.blocksize;
  blocks = s.num_blocks;
  user = u.user;
  system_leaves = 0;
  inodes = u.inodes;
  is_read_only = true;
  free_without_ids = Some u.free;
}

-- the machine with which a sound image is mounted
pub record IsSoundStart (how : How) (img : List ℕ) (moment : ℕ) (s : Machine) : Type 0 where
  pub tree : Tree
  pub superblock : Superblock
  pub geometry : Geometry
  pub active : active_super img ≡ Some superblock
  pub written : written_geometry superblock (length img) ≡ Some geometry
  pub sound : IsSound img tree
  pub starts : s ≡ start_of (volume_of how geometry) tree superblock.serial moment

-- and a foreign one, for reading
pub record IsForeignStart (img : List ℕ) (moment : ℕ) (s : Machine) : Type 0 where
  pub why : Why
  pub has : IsForeign img why
  pub starts : (let z = has.superblock in s ≡ start_of (foreign_volume z (foreign_usage (image_blocks img z) (main_roots z) z)) has.tree z.serial moment)

-- the machine with which an image is mounted at a moment
pub data IsStart (img : List ℕ) (moment : ℕ) (s : Machine) : How → Type 0 where
  of_sound : (how : How) → IsSoundStart how img moment s → IsStart img moment s how
  of_foreign : IsForeignStart img moment s → IsStart img moment s Reading
