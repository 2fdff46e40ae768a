-- Blocks as the layers above see them: who holds each, and what its bytes are.
use Rattle.std.specs.Prelude.{◌≡◌, ℕ, ◌+◌, ◌-◌, ◌<◌, ◌≤◌, ◌^◌, ◌⊎◌, ◌==◌, Bool, true, false, List, [], length, replicate, IsTrue, if◌then◌else◌}
use Rattle.qx_outside.specs.Trail.{History}

-- of `count` blocks of `size` bytes each: those that some tree holds, those that the working tree holds, those that it alone holds, those that can be written at once, and how many more can be taken
pub record Holdings : Type 0 where
  pub size : ℕ
  pub count : ℕ
  pub held : ℕ → Bool
  pub works : ℕ → Bool
  pub private : ℕ → Bool
  pub ready : ℕ → Bool
  pub free : ℕ

-- who holds the blocks, whether the bytes of all held ones are told, the bytes, and what was done outside: the bytes of a held block mean something where all are told or the block is ready, a block that no tree holds has none, and the history means something where bytes are told
pub record BlockState : Type 0 where
  pub holdings : Holdings
  pub tells : Bool
  pub bytes : ℕ → List ℕ
  pub history : History

-- the same but for one number, which has this value
abbrev pub put : {A : Type 0} → (ℕ → A) → ℕ → A → ℕ → A
put f b x q = if q == b then x else f q

-- block b has these bytes
abbrev pub with_bytes : BlockState → ℕ → List ℕ → BlockState
with_bytes m b bytes = record m { bytes = put m.bytes b bytes }

-- block b can be written at once
abbrev pub with_ready : BlockState → ℕ → BlockState
with_ready m b = record m { holdings = record m.holdings { ready = put m.holdings.ready b true } }

-- block b was taken: the working tree alone holds it, it is ready, and its bytes are 0
abbrev pub with_fresh : BlockState → ℕ → BlockState
with_fresh m b = record m {
  holdings = record m.holdings {
    held = put m.holdings.held b true;
    works = put m.holdings.works b true;
    private = put m.holdings.private b true;
    ready = put m.holdings.ready b true;
    free = m.holdings.free - 1;
  };
  bytes = put m.bytes b (replicate m.holdings.size 0);
}

-- the working tree gave block b up, which no other tree holds
abbrev pub with_free : BlockState → ℕ → BlockState
with_free m b = record m {
  holdings = record m.holdings {
    held = put m.holdings.held b false;
    works = put m.holdings.works b false;
    private = put m.holdings.private b false;
    ready = put m.holdings.ready b false;
    free = m.holdings.free + 1;
  };
  bytes = put m.bytes b [];
}

-- the working tree gave block b up, which other trees hold as well
abbrev pub with_shared : BlockState → ℕ → BlockState
with_shared m b = record m { holdings = record m.holdings { works = put m.holdings.works b false } }

-- the working tree gave block b up
abbrev pub without : BlockState → ℕ → BlockState
without m b = if m.holdings.private b then with_free m b else with_shared m b

-- the block sizes that there are
abbrev pub IsBlockSize : ℕ → Type 0
IsBlockSize size = (size ≡ 512) ⊎ (size ≡ 1024) ⊎ (size ≡ 2048) ⊎ (size ≡ 4096)

-- what holds of the blocks at any moment
pub record IsConsistent (m : BlockState) : Type 0 where
  pub size : IsBlockSize m.holdings.size
  pub count : m.holdings.count < 2 ^ 32
  pub free : m.holdings.free ≤ m.holdings.count
  pub numbers : (b : ℕ) → IsTrue (m.holdings.held b) → b < m.holdings.count
  pub works_held : (b : ℕ) → IsTrue (m.holdings.works b) → IsTrue (m.holdings.held b)
  pub private_works : (b : ℕ) → IsTrue (m.holdings.private b) → IsTrue (m.holdings.works b)
  pub ready_private : (b : ℕ) → IsTrue (m.holdings.ready b) → IsTrue (m.holdings.private b)
  pub told_long : IsTrue m.tells → (b : ℕ) → IsTrue (m.holdings.held b) → length (m.bytes b) ≡ m.holdings.size
  pub ready_long : (b : ℕ) → IsTrue (m.holdings.ready b) → length (m.bytes b) ≡ m.holdings.size
