-- What the preparation of a whole node leaves.
use Rattle.std.specs.Prelude.{◌≡◌, length, slice_index, IsTrue}
use Rattle.qx_geom.specs.declared.root.Root.{Root}
use Rattle.qx_geom.specs.Layout.{levels_for}
use Rattle.qx_blocks.specs.BlockState.{BlockState}
use Rattle.qx_ptree.specs.declared.plan.Plan.{Plan}
use Rattle.qx_ptree.specs.Building.{BuildsTree}
use Rattle.qx_ptree.specs.Fates.{leaves_after}
use Rattle.qx_ptree.specs.Reaching.{ReachesOnto}
use Rattle.qx_ptree.specs.WorkState.{WorkState}

-- a whole node was prepared: what is added to some work reaches the written leaves below its new pointers, and where bytes are told it makes the node what the change makes of it
pub record BuildsNode (m n : BlockState) (before after : WorkState) (plan : Plan) (root : Root) : Type 0 where
  pub size : root.size ≡ plan.change.size
  pub levels : root.levels ≡ levels_for m.holdings.size (leaves_after m.holdings.size plan.change)
  pub long : length root.pointers ≡ 16
  pub reaches : ReachesOnto m n before after plan (record { level = root.levels; first = 0; count = 16 }) (slice_index root.pointers)
  pub tree : IsTrue n.tells → BuildsTree m n plan reaches.adds.added root
