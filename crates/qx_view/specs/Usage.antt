-- How much of a volume is in use: the numbers that a mount tells of.
use Rattle.std.specs.Prelude.{ℕ, ◌-◌, List, length}
use Rattle.qx_geom.specs.declared.geometry.Geometry.{Geometry}
use Rattle.qx_geom.specs.Layout.{user_blocks}
use Rattle.qx_nodes.specs.BlockMap.{BlockMap}
use Rattle.qx_super.specs.Superblock.{Superblock}
use Rattle.qx_view.specs.Images.{Roots}
use Rattle.qx_view.specs.Walk.{met_of, tests_of, walked_inodes}

-- how many blocks there are for files, directories and names, how many of them are free, how many inodes there are, and how many of these are free
pub record Usage : Type 0 where
  pub user : ℕ
  pub free : ℕ
  pub inodes : ℕ
  pub free_inodes : ℕ

-- that of a sound image: its superblock counts right
abbrev pub sound_usage : Geometry → Superblock → Usage
sound_usage g s = record { user = user_blocks g; free = s.free_blocks; inodes = s.num_inodes; free_inodes = s.free_inodes }

-- the blocks that the walk meets from these root nodes on, theirs among them
abbrev pub met_blocks : BlockMap → Roots → List ℕ
met_blocks m r = met_of (tests_of m r)

-- that of a foreign image, which is mounted for reading: no half is set aside, and what the walk doesn't come to is free
abbrev pub foreign_usage : BlockMap → Roots → Superblock → Usage
foreign_usage m r s = record {
  user = s.num_blocks;
  free = s.num_blocks - length (met_blocks m r);
  inodes = s.num_inodes;
  free_inodes = s.num_inodes - length (walked_inodes m r);
}
