-- What a change has done so far, and what is left to its commit.
use Rattle.std.specs.Prelude.{◌≡◌, ℕ, true, List, [], ◌∷◌, ◌++◌, length, IsTrue, Contains, if◌then◌else◌}
use Rattle.qx_geom.specs.Lists.{is_in}
use Rattle.qx_geom.specs.declared.root.Root.{Root}
use Rattle.qx_blocks.specs.BlockState.{BlockState, with_bytes, without}
use Rattle.qx_ptree.specs.declared.change.Change.{Change}

-- a pointer block of the working tree alone, and the bytes that it is to get
pub record EditState : Type 0 where
  pub block : ℕ
  pub bytes : List ℕ

-- the blocks that were taken, the pointer blocks that are to get other bytes, the old blocks that were made ready and stay, and those that are to be given up
pub record WorkState : Type 0 where
  pub fresh : List ℕ
  pub edits : List EditState
  pub kept : List ℕ
  pub released : List ℕ

-- nothing
abbrev pub no_work : WorkState
no_work = record { fresh = []; edits = []; kept = []; released = [] }

-- some work after other work
abbrev pub and_then : WorkState → WorkState → WorkState
and_then a b = record { fresh = a.fresh ++ b.fresh; edits = a.edits ++ b.edits; kept = a.kept ++ b.kept; released = a.released ++ b.released }

-- a change that waits for its commit: the node and the change, the node afterwards, and the work
pub record Preparation : Type 0 where
  pub node : Root
  pub change : Change
  pub root : Root
  pub work : WorkState

-- the blocks of some work: those that were taken, made ready, or are to be given up
abbrev pub all_blocks : WorkState → List ℕ
all_blocks work = work.fresh ++ (work.kept ++ work.released)

-- those of a change that waits for its commit
abbrev pub blocks_of : Preparation → List ℕ
blocks_of p = all_blocks p.work

-- ---- the commit

-- the blocks with the bytes of each edit
abbrev pub with_edits : BlockState → List EditState → BlockState
with_edits m [] = m
with_edits m (e ∷ es) = with_edits (with_bytes m e.block e.bytes) es

-- the working tree holds the block no more
abbrev pub given_up : BlockState → ℕ → BlockState
given_up m b = if m.holdings.works b then without m b else m

-- the working tree holds none of these blocks
abbrev pub without_all : BlockState → List ℕ → BlockState
without_all m [] = m
without_all m (b ∷ bs) = without_all (given_up m b) bs

-- the blocks once the change is committed
abbrev pub committed : BlockState → Preparation → BlockState
committed m p = without_all (with_edits m p.work.edits) p.work.released

-- each block that is to get other bytes is ready, gets as many as it has, and is one that stays
abbrev pub CanEdit : BlockState → WorkState → Type 0
CanEdit m work = (e : EditState) → Contains work.edits e → IsTrue (m.holdings.ready e.block) × (length e.bytes ≡ m.holdings.size) × (is_in work.kept e.block ≡ true)

-- nothing stands in the way of the commit
abbrev pub CanCommit : BlockState → Preparation → Type 0
CanCommit m p = CanEdit m p.work
