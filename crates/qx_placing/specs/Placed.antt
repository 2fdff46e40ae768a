-- Blocks by positions, and by the ids of a machine.
use Rattle.std.specs.Prelude.{◌≡◌, ℕ, Bool, not, ◌&&◌, List, filter, Option, Some, None, IsTrue, slice_get}
use Rattle.qx_fields.specs.declared.order.Order.{Order}
use Rattle.qx_geom.specs.declared.root.Root.{Root}
use Rattle.qx_geom.specs.Touch.{is_fresh}
use Rattle.qx_nodes.specs.BlockMap.{BlockMap}
use Rattle.qx_blocks.specs.BlockState.{BlockState}
use Rattle.qx_ptree.specs.Trees.{block_map, pointer_at}
use Rattle.qx_model.specs.Edits.{Edit}
use Rattle.qx_model.specs.IdReadings.{IsUsed}
use Rattle.qx_model.specs.Machine.{Machine}
use Rattle.qx_model.specs.Space.{is_private}
use Rattle.qx_model.specs.Tree.{Tree}
use Rattle.qx_model.specs.TreePositions.{Position, has_position, positions_of, shape_in}
use Rattle.qx_model.specs.TreeTouch.{private_in, written_in}
use Rattle.qx_copies.specs.Copies.{BlockCopy}
use Rattle.qx_copies.specs.Standing.{RepresentsIds, node_of_owner}
use Rattle.qx_placing.specs.PlannedEdits.{ArePrivate}

-- ---- blocks by positions

-- the block at a position of a node, if there is a node
abbrev pub block_in : BlockMap → Option Root → ℕ → ℕ → ℕ
block_in m None k j = 0
block_in m (Some node) k j = pointer_at m node k j

-- the block at a position of a copy
abbrev pub block_at : BlockMap → BlockCopy → Position → ℕ
block_at m c p = block_in m (node_of_owner c p.owner) p.level p.index

-- the block at a position, if there is one
abbrev pub block_where : BlockMap → BlockCopy → Option Position → ℕ
block_where m c None = 0
block_where m c (Some p) = block_at m c p

-- the block of an id that is a position's rank, as all are at a mount
abbrev pub first_block : BlockMap → BlockCopy → ℕ → Tree → ℕ → ℕ
first_block m c blocksize t i = block_where m c (slice_get (positions_of blocksize t) i)

-- ---- what an edit gives up

-- a position of the edited tree has the block that it had
abbrev pub keeps_block : ℕ → Tree → Edit → (Position → Bool) → Position → Bool
keeps_block blocksize old e private p =
    has_position blocksize e.tree p
    && not (is_fresh blocksize (shape_in blocksize old p.owner) (shape_in blocksize e.tree p.owner) (written_in p.owner e.written) (private_in private p.owner) p.level p.index)

-- the positions of the old tree that have a private block and don't keep it
abbrev pub lost_positions : ℕ → Tree → Edit → (Position → Bool) → List Position
lost_positions blocksize old e private = filter (λ p. private p && not (keeps_block blocksize old e private p)) (positions_of blocksize old)

-- ---- the machine

-- the blocks are as a machine says, its ids being read as blocks: its working copy lies on them, each id in use is that of a held block, and those that the working copy alone has are the private ones
pub record IsReadAs (order : Order) (m : BlockState) (c : BlockCopy) (s : Machine) (block : ℕ → ℕ) : Type 0 where
  pub size : s.volume.blocksize ≡ m.holdings.size
  pub ids : RepresentsIds (block_map order m) c s.working block
  pub held : (i : ℕ) → IsUsed s i → IsTrue (m.holdings.held (block i))
  pub private : ArePrivate order m c (is_private s)
