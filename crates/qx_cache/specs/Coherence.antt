-- What holds of a cache at any moment.
use Rattle.std.specs.Prelude.{◌≡◌, ℕ, ◌+◌, ◌<◌, ◌≤◌, true, false, List, length, IsTrue, Option, Some, None, IfSome}
use Rattle.std.specs.FinMap.{contains_key, empty, get}
use Rattle.qx_outside.specs.Outside.{Outside}
use Rattle.qx_alloc.specs.SpaceState.{is_private_in, limit_in, IsConsistent}
use Rattle.qx_blockset.specs.Members.{has, Has}
use Rattle.qx_blocks.specs.BlockState.{IsBlockSize}
use Rattle.qx_cache.specs.CacheState.{CacheState, block_place, is_kept}

-- the device has room for so many blocks, and for the second superblock behind them, where its length is told
abbrev pub HasRoom : Option ℕ → ℕ → ℕ → Type 0
HasRoom extent size count = IfSome extent (λ len. block_place size count + 0x200 ≤ len)

-- the changed blocks are the trees' that may be written, none of them is kept, and the blocks fit on the device
pub record IsCoherent {H : Type 0} (outside : H → Outside) (c : CacheState H) : Type 0 where
  pub size : IsBlockSize c.size
  pub space : IsConsistent c.space
  -- the blocks that the working tree alone holds are its changes
  pub private_changed : (b : ℕ) → contains_key c.changes b ≡ is_private_in c.space b
  -- the other changed blocks are the frozen tree's, and never the durable one's
  pub frozen_changed : (b : ℕ) → IsTrue (contains_key c.frozen_changes b) → Has c.space.frozen b × (has c.space.durable b ≡ false)
  pub unfrozen : c.space.is_frozen ≡ false → c.frozen_changes ≡ empty
  -- what the working tree still has of the durable one was frozen with it
  pub shared : c.space.is_frozen ≡ true → (b : ℕ) → Has c.space.working b → Has c.space.durable b → Has c.space.frozen b
  pub long : (b : ℕ) (bytes : List ℕ) → get c.changes b ≡ Some bytes → length bytes ≡ c.size
  pub frozen_long : (b : ℕ) (bytes : List ℕ) → get c.frozen_changes b ≡ Some bytes → length bytes ≡ c.size
  pub kept_few : length c.kept ≤ 1
  pub kept_clean : (b : ℕ) → IsTrue (is_kept c.kept b) → (get c.changes b ≡ None) × (get c.frozen_changes b ≡ None)
  pub kept_user : (b : ℕ) → IsTrue (is_kept c.kept b) → (c.space.first_user ≤ b) × (b < limit_in c.space)
  pub room : HasRoom (outside c.host).extent c.size (limit_in c.space)
