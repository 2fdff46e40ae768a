-- What a device shows that is only read.
use Rattle.std.specs.Prelude.{◌≡◌, ◌≤◌, ◌+◌, ◌*◌, ℕ, IsTrue, List, Result, Some, is_some, length, slice_range, unwrap_or}
use Rattle.qx_outside.specs.Causes.{HasCause, IsCausedBy}
use Rattle.qx_outside.specs.Outside.{Outside}
use Rattle.qx_outside.specs.Trail.{bytes_of}
use Rattle.qx_geom.specs.Layout.{blocks_begin}
use Rattle.qx_nodes.specs.BlockMap.{BlockMap}
use Rattle.qx_view.specs.Images.{block_bytes}
use Rattle.qx_pointers.specs.declared.source.Shape.{Shape}

-- the blocks of an image, as they lie by this shape
abbrev pub shape_blocks : Shape → List ℕ → BlockMap
shape_blocks s img = record { order = s.order; size = s.blocksize; count = s.count; bytes = block_bytes img s.blocksize }

-- a device tells its bytes, and these are their blocks
pub record Shows (shape : Shape) (host : Outside) (m : BlockMap) : Type 0 where
  pub told : IsTrue host.tells
  pub is : m ≡ shape_blocks shape (bytes_of host.history)

-- these bytes are those of blocks side by side, from this one on
pub record HasBlocks (m : BlockMap) (first : ℕ) (bytes : List ℕ) : Type 0 where
  pub each : (k : ℕ) → k * m.size + m.size ≤ length bytes → slice_range bytes (k * m.size) (k * m.size + m.size) ≡ m.bytes (first + k)

-- a device whose length is told has room for all blocks
abbrev pub Fits : Shape → Outside → Type 0
Fits shape host = (len : ℕ) → host.extent ≡ Some len → blocks_begin + shape.count * shape.blocksize ≤ len

-- ---- what reading does

-- how many device reads were Ok, or 0 where that isn't told
abbrev pub good_reads : Outside → ℕ
good_reads host = unwrap_or host.dev_reads 0

-- nothing was done but reading, and no more reads were Ok than lie between two numbers
pub record JustReads (from to : ℕ) (old new : Outside) : Type 0 where
  pub before : IsTrue new.tells → IsTrue old.tells
  pub same : IsTrue new.tells → new.history ≡ old.history
  pub extent : (len : ℕ) → new.extent ≡ Some len → old.extent ≡ Some len
  pub counted : is_some new.dev_reads ≡ is_some old.dev_reads
  pub reads : good_reads new + from ≤ good_reads old + to
  pub paths : new.attached ≡ old.attached
  pub console : new.con_faults ≡ old.con_faults

-- a call did no more than that, and answers this error only where a device call failed
pub record Looks {T E : Type 0} (fault : E) (from to : ℕ) (old new : Outside) (result : Result T E) : Type 0 where
  pub reads : JustReads from to old new
  pub cause : IsCausedBy fault old.dev_faults new.dev_faults result

-- a call read once at most, and fails only where the device does
pub record ReadsOnce {T E : Type 0} (old new : Outside) (result : Result T E) : Type 0 where
  pub reads : JustReads 0 1 old new
  pub cause : HasCause old.dev_faults new.dev_faults result
