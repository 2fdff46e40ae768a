-- What holds of the ids of every machine.
use Rattle.std.specs.Prelude.{◌≡◌, ℕ, ◌<◌, ◌≤◌, Option, Some, None}
use Rattle.qx_model.specs.TreePositions.{HasPosition, Position}
use Rattle.qx_model.specs.Machine.{Copy, Frozen, Machine}
use Rattle.qx_model.specs.Space.{held_count}

-- each block of a copy has an id of its own, below a number
pub record HasIdsBelow (blocksize : ℕ) (c : Copy) (n : ℕ) : Type 0 where
  pub below : (p : Position) → HasPosition blocksize c.tree p → c.ids p < n
  pub differ : (p q : Position) → HasPosition blocksize c.tree p → HasPosition blocksize c.tree q → c.ids p ≡ c.ids q → p ≡ q

-- so has each block of the frozen copy, if there is one
abbrev pub HasFrozenIdsBelow : ℕ → Option Frozen → ℕ → Type 0
HasFrozenIdsBelow blocksize None n = Unit {0}
HasFrozenIdsBelow blocksize (Some p) n = HasIdsBelow blocksize p.snapshot.copy n

-- each block of each copy has an id of its own in that copy, below the next one
pub record HasIds (s : Machine) : Type 0 where
  pub working : HasIdsBelow s.volume.blocksize s.working s.next_id
  pub durable : HasIdsBelow s.volume.blocksize s.durable.copy s.next_id
  pub frozen : HasFrozenIdsBelow s.volume.blocksize s.frozen s.next_id

-- the blocks have ids, and no more of them are held than there are
pub record HasRoom (s : Machine) : Type 0 where
  pub with_ids : s.volume.free_without_ids ≡ None
  pub room : held_count s ≤ s.volume.user
