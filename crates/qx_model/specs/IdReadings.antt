-- Ids read as blocks: which block each id of a machine stands for.
use Rattle.std.specs.Prelude.{◌≡◌, ℕ, ◌<◌, ◌⊎◌, ◌↔◌, List, Contains, Option, Some, None}
use Rattle.qx_geom.specs.Lists.{Distinct}
use Rattle.qx_model.specs.Edits.{Edit}
use Rattle.qx_model.specs.TreePositions.{HasPosition, Position}
use Rattle.qx_model.specs.TreeTouch.{rank_in}
use Rattle.qx_model.specs.Machine.{Copy, Frozen, Machine}
use Rattle.qx_model.specs.Space.{fresh_in, with_edit}

-- ---- ids in use

-- a block of a copy has this id
abbrev pub HasId : ℕ → Copy → ℕ → Type 0
HasId blocksize c i = (p : Position) × HasPosition blocksize c.tree p × (c.ids p ≡ i)

-- a block of the frozen copy has it
abbrev pub HasFrozenId : ℕ → Option Frozen → ℕ → Type 0
HasFrozenId blocksize None i = ⊥
HasFrozenId blocksize (Some p) i = HasId blocksize p.snapshot.copy i

-- a block of the durable or the frozen copy has it
abbrev pub IsInSnapshots : Machine → ℕ → Type 0
IsInSnapshots s i = HasId s.volume.blocksize s.durable.copy i ⊎ HasFrozenId s.volume.blocksize s.frozen i

-- a block of one of the copies has it
abbrev pub IsUsed : Machine → ℕ → Type 0
IsUsed s i = HasId s.volume.blocksize s.working i ⊎ IsInSnapshots s i

-- these are the ids in use, each once
pub record AreIdsInUse (s : Machine) (ids : List ℕ) : Type 0 where
  pub once : Distinct ids
  pub used : (i : ℕ) → Contains ids i ↔ IsUsed s i

-- no two ids in use are read as one block
abbrev pub IsReading : Machine → (ℕ → ℕ) → Type 0
IsReading s block = (i j : ℕ) → IsUsed s i → IsUsed s j → block i ≡ block j → i ≡ j

-- ---- after an edit

-- a position takes a fresh block
abbrev pub IsFresh : Machine → Edit → Position → Type 0
IsFresh s e p = (rank : ℕ) × (rank_in (fresh_in s e) p ≡ Some rank)

-- the blocks of the edited tree are placed: a fresh position has a block that no copy holds, any other the block that it had
pub record IsPlaced (s : Machine) (e : Edit) (block : ℕ → ℕ) (block_at : Position → ℕ) : Type 0 where
  pub others_stay : (p : Position) → HasPosition s.volume.blocksize e.tree p → rank_in (fresh_in s e) p ≡ None → block_at p ≡ block (s.working.ids p)
  pub fresh_unheld : (p : Position) (i : ℕ) → IsFresh s e p → IsUsed s i → ¬ (block_at p ≡ block i)
  pub fresh_apart : (p q : Position) → IsFresh s e p → IsFresh s e q → block_at p ≡ block_at q → p ≡ q

-- a reading of the ids after the edit, which agrees with the one before on the ids that there were
pub record ReadsPlaced (s : Machine) (e : Edit) (block : ℕ → ℕ) (block_at : Position → ℕ) : Type 0 where
  pub later : ℕ → ℕ
  pub agrees : (i : ℕ) → i < s.next_id → later i ≡ block i
  pub read : (p : Position) → HasPosition s.volume.blocksize e.tree p → block_at p ≡ later ((with_edit e s).working.ids p)
  pub reading : IsReading (with_edit e s) later
