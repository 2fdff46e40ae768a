-- How a cache lies in memory.
use Rattle.std.specs.Prelude.{◌≡◌, ℕ, List, [], ◌∷◌, length, IsTrue, Option, Some, None}
use Rattle.qx_outside.specs.Outside.{Outside}
use Rattle.qx_outside.specs.Trail.{bytes_of}
use Rattle.qx_alloc.specs.SpaceState.{SpaceState}
use Rattle.qx_patch.specs.PatchState.{PatchState}
use Rattle.qx_cache.specs.CacheState.{CacheState, device_block, is_kept}
use Rattle.qx_cache.specs.Coherence.{IsCoherent}

-- the block whose bytes are in the buffer, if there is one
abbrev pub kept_in : Option ℕ → List ℕ
kept_in None = []
kept_in (Some b) = b ∷ []

-- the cache that such fields stand for
abbrev pub cache_in : {H : Type 0} → H → ℕ → SpaceState → PatchState → PatchState → Option ℕ → CacheState H
cache_in host size space changes frozen_changes clean = record {
  host = host;
  size = size;
  space = space;
  changes = changes.blocks;
  frozen_changes = frozen_changes.blocks;
  kept = kept_in clean;
}

-- the cache is coherent, each buffer has the size of a block, and the first has the bytes of the block that is kept
pub record IsInOrder {H : Type 0} (outside : H → Outside) (c : CacheState H) (changes frozen_changes : PatchState) (buffer spare : List ℕ) : Type 0 where
  pub coherent : IsCoherent outside c
  pub changes_size : changes.size ≡ c.size
  pub frozen_size : frozen_changes.size ≡ c.size
  pub buffer_long : length buffer ≡ c.size
  pub spare_long : length spare ≡ c.size
  pub kept_bytes : (b : ℕ) → IsTrue (is_kept c.kept b) → IsTrue (outside c.host).tells → buffer ≡ device_block (bytes_of (outside c.host).history) c.size b
