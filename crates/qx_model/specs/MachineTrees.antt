-- What holds of the trees and the sessions of every machine.
use Rattle.std.specs.Prelude.{◌≡◌, ℕ, true, length, Option, Some, None}
use Rattle.qx_model.specs.Tree.{Tree}
use Rattle.qx_model.specs.Rooted.{IsRooted}
use Rattle.qx_model.specs.Bounds.{IsBounded}
use Rattle.qx_model.specs.Whole.{AreUsed, IsWhole}
use Rattle.qx_model.specs.Directories.{is_directory}
use Rattle.qx_model.specs.Machine.{Frozen, Machine, directory_of}

-- the frozen tree is as P says, if there is one
abbrev pub HoldsOfFrozen : (Tree → Type 0) → Option Frozen → Type 0
HoldsOfFrozen P None = Unit {0}
HoldsOfFrozen P (Some p) = P p.snapshot.copy.tree

-- each tree is as P says, and each session stands in a directory, if anywhere
pub record HasTrees (P : Tree → Type 0) (s : Machine) : Type 0 where
  pub working : P s.working.tree
  pub durable : P s.durable.copy.tree
  pub frozen : HoldsOfFrozen P s.frozen
  pub sessions : (k d : ℕ) → directory_of s k ≡ Some d → is_directory s.working.tree d ≡ true

-- each tree is rooted, and each session stands in a directory, if anywhere
abbrev pub HasRootedTrees : Machine → Type 0
HasRootedTrees s = HasTrees IsRooted s

-- what is asked of a sound image's tree by itself: it is rooted, its parts agree, each long name is some row's, and the format's bounds are kept
pub record IsSoundTree (blocksize : ℕ) (t : Tree) : Type 0 where
  pub rooted : IsRooted t
  pub whole : IsWhole blocksize t
  pub used : AreUsed t
  pub bounded : IsBounded t

-- each tree is sound by itself, and each session stands in a directory, if anywhere
abbrev pub HasSoundTrees : Machine → Type 0
HasSoundTrees s = HasTrees (IsSoundTree s.volume.blocksize) s

-- a rooted tree with so many places for inodes
pub record HasInodePlaces (inodes : ℕ) (t : Tree) : Type 0 where
  pub rooted : IsRooted t
  pub places : length t.inodes ≡ inodes

-- each tree has as many places as the volume has inodes, and each session stands in a directory, if anywhere
abbrev pub HasVolumePlaces : Machine → Type 0
HasVolumePlaces s = HasTrees (HasInodePlaces s.volume.inodes) s
