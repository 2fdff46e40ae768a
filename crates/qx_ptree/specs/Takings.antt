-- What a call leaves that takes blocks for a change, and changes no others.
use Rattle.std.specs.Prelude.{◌≡◌, ℕ, ◌+◌, true, false, ◌||◌, List, length, IsTrue}
use Rattle.qx_geom.specs.Lists.{Distinct, is_in}
use Rattle.qx_blocks.specs.BlockState.{BlockState}
use Rattle.qx_ptree.specs.WorkState.{CanEdit, WorkState, and_then}

-- the working tree alone holds these blocks as well, which nobody held; every other block is as it was, but that private ones may be ready now and that bytes may be told no more
pub record Takes (fresh : List ℕ) (m n : BlockState) : Type 0 where
  pub size : n.holdings.size ≡ m.holdings.size
  pub count : n.holdings.count ≡ m.holdings.count
  pub held : (b : ℕ) → n.holdings.held b ≡ (m.holdings.held b || is_in fresh b)
  pub works : (b : ℕ) → n.holdings.works b ≡ (m.holdings.works b || is_in fresh b)
  pub private : (b : ℕ) → n.holdings.private b ≡ (m.holdings.private b || is_in fresh b)
  pub ready : (b : ℕ) → IsTrue (m.holdings.ready b || is_in fresh b) → IsTrue (n.holdings.ready b)
  pub unheld : (b : ℕ) → is_in fresh b ≡ true → m.holdings.held b ≡ false
  pub unused : (b : ℕ) → is_in fresh b ≡ true → (m.holdings.works b ≡ false) × (m.holdings.private b ≡ false) × (m.holdings.ready b ≡ false)
  pub distinct : Distinct fresh
  pub free : n.holdings.free + length fresh ≡ m.holdings.free
  pub ready_bytes : (b : ℕ) → IsTrue (m.holdings.ready b) → n.bytes b ≡ m.bytes b
  pub told_before : IsTrue n.tells → IsTrue m.tells
  pub told_bytes : IsTrue n.tells → (b : ℕ) → IsTrue (m.holdings.held b) → n.bytes b ≡ m.bytes b
  pub told_history : IsTrue n.tells → n.history ≡ m.history

-- some work was added: its blocks were taken, and those that are to stay, among them those that are to get other bytes, are ready
pub record Adds (m n : BlockState) (before after : WorkState) : Type 0 where
  pub added : WorkState
  pub is : after ≡ and_then before added
  pub takes : Takes added.fresh m n
  pub kept : (b : ℕ) → is_in added.kept b ≡ true → IsTrue (n.holdings.ready b)
  pub edits : CanEdit n added

-- all blocks but these are as they were
pub record LeavesOthers (blocks : List ℕ) (m n : BlockState) : Type 0 where
  pub size : n.holdings.size ≡ m.holdings.size
  pub count : n.holdings.count ≡ m.holdings.count
  pub tells : n.tells ≡ m.tells
  pub history : n.history ≡ m.history
  pub held : (b : ℕ) → is_in blocks b ≡ false → n.holdings.held b ≡ m.holdings.held b
  pub works : (b : ℕ) → is_in blocks b ≡ false → n.holdings.works b ≡ m.holdings.works b
  pub private : (b : ℕ) → is_in blocks b ≡ false → n.holdings.private b ≡ m.holdings.private b
  pub ready : (b : ℕ) → is_in blocks b ≡ false → n.holdings.ready b ≡ m.holdings.ready b
  pub bytes : (b : ℕ) → is_in blocks b ≡ false → n.bytes b ≡ m.bytes b
