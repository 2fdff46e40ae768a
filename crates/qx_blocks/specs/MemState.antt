-- Blocks in memory, seen as the bytes of each block that is held.
use Rattle.std.specs.Prelude.{◌≡◌, ℕ, ◌<◌, ◌^◌, Bool, true, not, List, [], Option, Some, None, is_some, unwrap_or, count_by, length, slice_index_or, slice_set, option_map}
use Rattle.qx_bytes.specs.SameLengths.{refit}
use Rattle.qx_outside.specs.Trail.{History}
use Rattle.qx_blocks.specs.BlockState.{BlockState, IsBlockSize}

-- the block size, and for each block its bytes where it is held
pub record MemState : Type 0 where
  pub size : ℕ
  pub blocks : List (Option (List ℕ))

-- the bytes of block b, where it is held
abbrev pub slot_at : MemState → ℕ → Option (List ℕ)
slot_at v b = slice_index_or v.blocks b None

-- block b is held
abbrev pub holds : MemState → ℕ → Bool
holds v b = is_some (slot_at v b)

-- how many blocks nobody holds
abbrev pub free_in : MemState → ℕ
free_in v = count_by (λ slot. not (is_some slot)) v.blocks

-- nothing was done outside
abbrev pub no_history : History
no_history = record { starting = []; deeds = [] }

-- what the blocks in memory mean: a held block is the working tree's alone, and ready
abbrev pub state_of : MemState → BlockState
state_of v = record {
  holdings = record {
    size = v.size;
    count = length v.blocks;
    held = holds v;
    works = holds v;
    private = holds v;
    ready = holds v;
    free = free_in v;
  };
  tells = true;
  bytes = λ b. unwrap_or (slot_at v b) [];
  history = no_history;
}

-- slot b has these bytes, or none
abbrev pub with_slot : MemState → ℕ → Option (List ℕ) → MemState
with_slot v b slot = record v { blocks = slice_set v.blocks b slot }

-- block b got these bytes
abbrev pub edited_in : MemState → ℕ → List ℕ → MemState
edited_in v b bytes = with_slot v b (option_map (λ old. refit old bytes) (slot_at v b))

-- each held block has the size, and there are as many blocks as numbers can name
pub record IsKept (v : MemState) : Type 0 where
  pub size : IsBlockSize v.size
  pub few : length v.blocks < 2 ^ 32
  pub lengths : (b : ℕ) (bytes : List ℕ) → slot_at v b ≡ Some bytes → length bytes ≡ v.size
