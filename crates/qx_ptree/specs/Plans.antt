-- A change of a node that is looked at.
use Rattle.std.specs.Prelude.{ℕ, ◌+◌, ◌*◌, ◌^◌, ◌≤◌}
use Rattle.qx_geom.specs.Pointer.{per_block}
use Rattle.qx_blocks.specs.BlockState.{BlockState}
use Rattle.qx_ptree.specs.declared.plan.Plan.{Plan}
use Rattle.qx_ptree.specs.Alterations.{Alteration, alteration_of}
use Rattle.qx_ptree.specs.Fates.{IsChange}
use Rattle.qx_ptree.specs.Trees.{IsNode, block_map, pointer_at}

-- what the plan makes of its node
abbrev pub alteration_in : Plan → BlockState → Alteration
alteration_in plan m = alteration_of plan.order m plan.node plan.change

-- the pointer of the plan's node at a position
abbrev pub planned_pointer : Plan → BlockState → ℕ → ℕ → ℕ
planned_pointer plan m k j = pointer_at (block_map plan.order m) plan.node k j

-- the node can be changed, and so
pub record IsPlan (m : BlockState) (plan : Plan) : Type 0 where
  pub node : IsNode plan.order m plan.node
  pub change : IsChange m.holdings.size plan.change

-- a position's leaves have numbers of at most 54 bits
pub record InReach (blocksize level index : ℕ) : Type 0 where
  pub most : level ≤ 5
  pub leaves : (index + 1) * per_block blocksize ^ level ≤ 2 ^ 54
