-- How changed blocks lie in memory.
use Rattle.std.specs.Prelude.{◌≡◌, ℕ, ◌+◌, ◌<◌, ◌≤◌, List, length, map, All, slice_index}
use Rattle.std.specs.FinMap.{from_entries}
use Rattle.std.specs.Vec.{vec_len, vec_capacity}
use Rattle.std.specs.VecDeque.{deque_len, deque_capacity}
use Rattle.qx_patch.specs.declared.patch.Entry.{Entry}
use Rattle.qx_patch.specs.declared.patch.Patch.TheInside.{Inside}
use Rattle.qx_patch.specs.PatchState.{PatchState}

-- the blocks and bytes of entries
abbrev pub pairs_of : List Entry → List (ℕ × List ℕ)
pairs_of entries = map (λ entry. (entry.block, entry.bytes.items)) entries

-- the block numbers of entries
abbrev pub numbers_of : List Entry → List ℕ
numbers_of entries = map (λ pair. pair.0) (pairs_of entries)

-- the blocks that the fields stand for
abbrev pub patch_in : Inside → PatchState
patch_in a = record {
  size = a.size;
  spare = length a.spares.items;
  blocks = from_entries (pairs_of a.entries.items);
}

-- each number is below those behind it
pub record IsAscending (numbers : List ℕ) : Type 0 where
  pub rises : (i j : ℕ) → i < j → j < length numbers → slice_index numbers i < slice_index numbers j

-- the entries ascend, every buffer has the size of a block, and there is room to move each of them to the other list
pub record IsInOrder (a : Inside) : Type 0 where
  pub ascending : IsAscending (numbers_of a.entries.items)
  pub entries_long : All (λ pair. length pair.1 ≡ a.size) (pairs_of a.entries.items)
  pub spares_long : All (λ spare. length spare.items ≡ a.size) a.spares.items
  pub entries_room : deque_len a.entries + vec_len a.spares ≤ deque_capacity a.entries
  pub spares_room : deque_len a.entries + vec_len a.spares ≤ vec_capacity a.spares
