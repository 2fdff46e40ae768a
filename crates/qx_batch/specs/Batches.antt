-- Changes that were prepared together and wait for their commit.
use Rattle.std.specs.Prelude.{◌≡◌, ℕ, true, false, List, [], ◌∷◌, ◌++◌, flat_map, length, map, IsTrue, Contains}
use Rattle.qx_fields.specs.declared.order.Order.{Order}
use Rattle.qx_geom.specs.Lists.{Distinct, is_in}
use Rattle.qx_blocks.specs.BlockState.{BlockState}
use Rattle.qx_ptree.specs.Altered.{IsPrepared}
use Rattle.qx_ptree.specs.PreparedNode.{Prepares}
use Rattle.qx_ptree.specs.ReadyLeaves.{IsReadyApart, IsWrittenBy, OwnAsLeft, StandIn}
use Rattle.qx_ptree.specs.Takings.{Takes}
use Rattle.qx_ptree.specs.Trees.{HasLevels}
use Rattle.qx_ptree.specs.WorkState.{CanCommit, Preparation, blocks_of, committed}
use Rattle.qx_batch.specs.declared.planned.Planned.{Planned}
use Rattle.qx_batch.specs.declared.batch.Waiting.{Waiting}

-- the blocks that all of them took
abbrev pub fresh_of : List Waiting → List ℕ
fresh_of ws = flat_map (λ (w : Waiting). w.prep.work.fresh) ws

-- all their blocks
abbrev pub all_blocks_of : List Waiting → List ℕ
all_blocks_of ws = flat_map (λ (w : Waiting). blocks_of w.prep) ws

-- what was planned
abbrev pub plans_of : List Waiting → List Planned
plans_of ws = map (λ (w : Waiting). w.plan) ws

-- a change has no block in common with one of these
abbrev pub IsApartFrom : List Waiting → Preparation → Type 0
IsApartFrom ws p = (w : Waiting) → Contains ws w → (b : ℕ) → is_in (blocks_of w.prep) b ≡ true → is_in (blocks_of p) b ≡ false

-- no two have a block in common
abbrev pub ArePairsApart : List Waiting → Type 0
ArePairsApart [] = Unit {0}
ArePairsApart (w ∷ ws) = IsApartFrom ws w.prep × ArePairsApart ws

-- nothing stands in the way of the commit of all
pub record CanCommitAll (m : BlockState) (ws : List Waiting) : Type 0 where
  pub apart : ArePairsApart ws
  pub each : (w : Waiting) → Contains ws w → CanCommit m w.prep

-- the blocks once all are committed, the last one first
abbrev pub committed_all : BlockState → List Waiting → BlockState
committed_all m [] = m
committed_all m (w ∷ ws) = committed (committed_all m ws) w.prep

-- a change is the planned one, and after its commit what it writes is ready, in its own blocks, whatever became of other blocks since
pub record IsReady (order : Order) (now : BlockState) (w : Waiting) : Type 0 where
  pub node : w.prep.node ≡ w.plan.node
  pub change : w.prep.change ≡ w.plan.change
  pub sixteen : length w.prep.root.pointers ≡ 16
  pub size : w.prep.root.size ≡ w.plan.change.size
  pub levels : HasLevels now.holdings.size w.prep.root
  pub distinct : Distinct (blocks_of w.prep)
  pub written : (m : BlockState) → OwnAsLeft w.prep now m → IsReadyApart order (committed m w.prep) w.prep.root (IsWrittenBy w.plan.change)
  pub own : (m : BlockState) → OwnAsLeft w.prep now m → StandIn order (committed m w.prep) w.prep.root (IsWrittenBy w.plan.change) (blocks_of w.prep)

-- so it is with each
abbrev pub AreReady : Order → BlockState → List Waiting → Type 0
AreReady order now ws = (w : Waiting) → Contains ws w → IsReady order now w

-- from the blocks `old` to the blocks `now` the planned changes were prepared, in their order: what they need was taken and nothing else changed, all can be committed, and where bytes are told, each commit makes of its node what the change makes of it
pub record ArePrepared (order : Order) (old now : BlockState) (ps : List Planned) (ws : List Waiting) : Type 0 where
  pub plans : plans_of ws ≡ ps
  pub takes : Takes (fresh_of ws) old now
  pub can : CanCommitAll now ws
  pub ready : AreReady order now ws
  pub prepared : IsTrue now.tells → (w : Waiting) → Contains ws w → IsPrepared order old now w.prep

-- one more change was prepared beside those that wait, and has no block in common with one of them
pub record IsAdded (order : Order) (old new : BlockState) (p : Planned) (before after : List Waiting) : Type 0 where
  pub prep : Preparation
  pub is : after ≡ before ++ (record { plan = p; prep = prep }) ∷ []
  pub prepares : Prepares order old new p.node p.change prep
  pub apart : IsApartFrom before prep

-- a change was committed: what it writes is ready, in its own blocks
pub record IsCommitted (order : Order) (n : BlockState) (w : Waiting) : Type 0 where
  pub sixteen : length w.prep.root.pointers ≡ 16
  pub size : w.prep.root.size ≡ w.plan.change.size
  pub levels : HasLevels n.holdings.size w.prep.root
  pub ready : IsReadyApart order n w.prep.root (IsWrittenBy w.plan.change)
  pub own : StandIn order n w.prep.root (IsWrittenBy w.plan.change) (blocks_of w.prep)

-- so was each
abbrev pub AreCommitted : Order → BlockState → List Waiting → Type 0
AreCommitted order n ws = (w : Waiting) → Contains ws w → IsCommitted order n w

-- a block that the working tree doesn't hold alone has the bytes that it had, is held as it was, and isn't its alone afterwards
pub record LeavesShared (m n : BlockState) : Type 0 where
  pub bytes : (b : ℕ) → m.holdings.private b ≡ false → n.bytes b ≡ m.bytes b
  pub held : (b : ℕ) → m.holdings.private b ≡ false → n.holdings.held b ≡ m.holdings.held b
  pub private : (b : ℕ) → m.holdings.private b ≡ false → n.holdings.private b ≡ false
