-- Ids of blocks: which copies hold them, what is free, and what an edit needs.
use Rattle.std.specs.Prelude.{ℕ, ◌+◌, ◌-◌, Bool, not, List, [], ◌∷◌, ◌++◌, length, map, Option, Some, None, unwrap_or, ◌==◌, if◌then◌else◌}
use Rattle.qx_geom.specs.Lists.{is_in}
use Rattle.qx_model.specs.declared.reply.SpaceView.{SpaceView}
use Rattle.qx_model.specs.Directories.{live_count}
use Rattle.qx_model.specs.Edits.{Edit}
use Rattle.qx_model.specs.TreePositions.{Position, positions_of}
use Rattle.qx_model.specs.TreeTouch.{fresh_positions, rank_in}
use Rattle.qx_model.specs.Machine.{Copy, Frozen, Machine}

-- ---- held blocks

-- the ids of a copy's blocks
abbrev pub ids_of : ℕ → Copy → List ℕ
ids_of blocksize c = map c.ids (positions_of blocksize c.tree)

-- the ids of a frozen copy's blocks, if there is one
abbrev pub ids_of_frozen : ℕ → Option Frozen → List ℕ
ids_of_frozen blocksize None = []
ids_of_frozen blocksize (Some p) = ids_of blocksize p.snapshot.copy

-- the ids of the working copy's blocks
abbrev pub working_ids : Machine → List ℕ
working_ids s = ids_of s.volume.blocksize s.working

-- the ids of the durable copy's blocks
abbrev pub durable_ids : Machine → List ℕ
durable_ids s = ids_of s.volume.blocksize s.durable.copy

-- the ids of the frozen and the durable copy's blocks, which no edit may write
abbrev pub snapshot_ids : Machine → List ℕ
snapshot_ids s = ids_of_frozen s.volume.blocksize s.frozen ++ durable_ids s

-- ---- free blocks

-- how many different numbers are in a list
abbrev pub different_count : List ℕ → ℕ
different_count [] = 0
different_count (x ∷ xs) = (if is_in xs x then 0 else 1) + different_count xs

-- how many blocks the copies hold
abbrev pub held_count : Machine → ℕ
held_count s = different_count (working_ids s ++ snapshot_ids s)

-- how many user blocks no copy holds; where blocks have no ids, as many as the volume says
unfoldable pub free_count : Machine → ℕ
free_count s = unwrap_or s.volume.free_without_ids (s.volume.user - held_count s)

-- the numbers that `df` gives: the serial is the durable one
abbrev pub space_of : Machine → SpaceView
space_of s = record {
  blocks = s.volume.blocks;
  user = s.volume.user;
  free = free_count s;
  inodes = s.volume.inodes;
  free_inodes = s.volume.inodes - live_count s.working.tree;
  serial = s.durable.serial;
}

-- ---- an edit

-- the block at a position is the working copy's alone
abbrev pub is_private : Machine → Position → Bool
is_private s = let others = snapshot_ids s in λ p. not (is_in others (s.working.ids p))

-- the positions at which an edit takes a fresh block
abbrev pub fresh_in : Machine → Edit → List Position
fresh_in s e = fresh_positions s.volume.blocksize s.working.tree e (is_private s)

-- how many blocks an edit takes; those that it gives up don't count
abbrev pub need_of : Machine → Edit → ℕ
need_of s e = length (fresh_in s e)

-- a fresh position's id by its rank, any other's as it was
abbrev pub id_by : ℕ → Option ℕ → ℕ → ℕ
id_by next None old = old
id_by next (Some rank) old = next + rank

-- fresh positions get the next ids in their order, all others keep theirs
abbrev pub renewed : ℕ → List Position → (Position → ℕ) → Position → ℕ
renewed next fresh ids p = id_by next (rank_in fresh p) (ids p)

-- the machine with an edited working tree
abbrev pub with_edit : Edit → Machine → Machine
with_edit e s =
    let fresh = fresh_in s e in
    record s { working = record { tree = e.tree; ids = renewed s.next_id fresh s.working.ids }; next_id = s.next_id + length fresh }
