-- How blocks lie in memory.
use Rattle.std.specs.Prelude.{◌≡◌, ℕ, ◌<◌, false, List, length, Option, Some, None, map, if◌then◌else◌, slice_index_or}
use Rattle.qx_blocks.specs.declared.memory.Slot.{Slot}
use Rattle.qx_blocks.specs.declared.memory.MemBlocks.TheInside.{Inside}
use Rattle.qx_blocks.specs.MemState.{MemState, free_in, IsKept}

-- the bytes of a slot, where it is held
abbrev pub slot_bytes : Slot → Option (List ℕ)
slot_bytes slot = if slot.held then Some slot.bytes.items else None

-- nobody holds the slot in this place
pub record IsFreeSlot (slots : List Slot) (b : ℕ) : Type 0 where
  pub low : b < length slots
  pub unheld : (d : Slot) → (slice_index_or slots b d).held ≡ false

-- the blocks that the fields stand for
abbrev pub mem_state_in : Inside → MemState
mem_state_in a = record { size = a.size; blocks = map slot_bytes a.slots.items }

-- the fields are in order, and the counter has the number of free blocks
pub record IsCounted (a : Inside) : Type 0 where
  pub kept : IsKept (mem_state_in a)
  pub free : a.free ≡ free_in (mem_state_in a)
