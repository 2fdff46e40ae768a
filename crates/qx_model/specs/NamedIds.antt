-- Machines that differ in the names of their ids alone.
use Rattle.std.specs.Prelude.{◌≡◌, ℕ, ◌⊎◌, ◌↔◌, Option, Some, None}
use Rattle.qx_model.specs.TreePositions.{HasPosition, Position}
use Rattle.qx_model.specs.Machine.{Copy, Frozen, Machine, Snapshot}

-- ---- ids of the same block

-- at some position of the first copy's tree, the first copy has the id i and the second has j
abbrev pub HaveIds : ℕ → Copy → Copy → ℕ → ℕ → Type 0
HaveIds blocksize c d i j = (p : Position) × HasPosition blocksize c.tree p × (c.ids p ≡ i) × (d.ids p ≡ j)

-- the same of two frozen copies: where both are there, at some position of the first one's tree they have the ids i and j
abbrev pub HaveFrozenIds : ℕ → Option Frozen → Option Frozen → ℕ → ℕ → Type 0
HaveFrozenIds blocksize (Some p) (Some q) i j = HaveIds blocksize p.snapshot.copy q.snapshot.copy i j
HaveFrozenIds blocksize (Some p) None i j = ⊥
HaveFrozenIds blocksize None o i j = ⊥

-- one block has the id i in the first machine and j in the second: in the working copies, the durable or the frozen ones
abbrev pub AreIdsOfOne : Machine → Machine → ℕ → ℕ → Type 0
AreIdsOfOne s t i j =
    HaveIds s.volume.blocksize s.working t.working i j
    ⊎ (HaveIds s.volume.blocksize s.durable.copy t.durable.copy i j ⊎ HaveFrozenIds s.volume.blocksize s.frozen t.frozen i j)

-- ---- the same but for ids

-- two snapshots have the same tree and serial
pub record AreAlike (a b : Snapshot) : Type 0 where
  pub tree : b.copy.tree ≡ a.copy.tree
  pub serial : b.serial ≡ a.serial

-- two frozen copies are alike, with as many steps left
pub record AreFrozenAlike (p q : Frozen) : Type 0 where
  pub snapshot : AreAlike p.snapshot q.snapshot
  pub due : q.due ≡ p.due

-- there are two frozen copies that are alike, or neither machine has one
abbrev pub AreBothAlike : Option Frozen → Option Frozen → Type 0
AreBothAlike None None = Unit {0}
AreBothAlike None (Some q) = ⊥
AreBothAlike (Some p) None = ⊥
AreBothAlike (Some p) (Some q) = AreFrozenAlike p q

-- two machines are the same but for ids
pub record AreSameButIds (s t : Machine) : Type 0 where
  pub volume : t.volume ≡ s.volume
  pub working : t.working.tree ≡ s.working.tree
  pub durable : AreAlike s.durable t.durable
  pub frozen : AreBothAlike s.frozen t.frozen
  pub last_begin : t.last_begin ≡ s.last_begin
  pub changed : t.changed ≡ s.changed
  pub sessions : t.sessions ≡ s.sessions

-- two machines are the same but for ids, and two blocks have one id in the first exactly where they have one in the second
pub record DifferInIds (s t : Machine) : Type 0 where
  pub same : AreSameButIds s t
  pub ids : (i j k l : ℕ) → AreIdsOfOne s t i j → AreIdsOfOne s t k l → (i ≡ k) ↔ (j ≡ l)

-- two readings of ids as blocks give the same block for both ids of one block
abbrev pub ReadAlike : Machine → Machine → (ℕ → ℕ) → (ℕ → ℕ) → Type 0
ReadAlike s t first second = (i j : ℕ) → AreIdsOfOne s t i j → first i ≡ second j
