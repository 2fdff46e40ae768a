-- Why a change of a node isn't made.
use Rattle.std.specs.Prelude.{◌≡◌, ℕ, ◌<◌, Bool, IsTrue}
use Rattle.qx_fields.specs.declared.order.Order.{Order}
use Rattle.qx_geom.specs.declared.root.Root.{Root}
use Rattle.qx_outside.specs.Causes.{Rose}
use Rattle.qx_blocks.specs.declared.blocks.Stop.TheVariants.{Device}
use Rattle.qx_blocks.specs.BlockState.{BlockState}
use Rattle.qx_ptree.specs.declared.change.Change.{Change}
use Rattle.qx_ptree.specs.Alterations.{alteration_of, fresh_count}
use Rattle.qx_ptree.specs.Fates.{IsChange}
use Rattle.tree_bench.specs.declared.changes.Refusal.{Refusal}
use Rattle.tree_bench.specs.declared.changes.Refusal.TheVariants.{NoSpace, Stopped, Unfit}

-- a refusal has its reason: no node is changed so; fewer blocks are free than the change takes, where bytes are told; the count of the device's faults rose
pub record HasReason (order : Order) (m : BlockState) (node : Root) (c : Change) (told : Bool) (before now : ℕ) (refusal : Refusal) : Type 0 where
  pub unfit : refusal ≡ Unfit → ¬ (IsChange m.holdings.size c)
  pub no_space : refusal ≡ NoSpace → IsTrue told → m.holdings.free < fresh_count (alteration_of order m node c)
  pub device : refusal ≡ Stopped Device → Rose before now
