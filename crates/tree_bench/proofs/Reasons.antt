-- Why a change isn't made, where a call on blocks gave up.
use Rattle.std.proofs.Common.{◌≡◌, ℕ, Bool, subst}
use Rattle.qx_fields.specs.declared.order.Order.{Order}
use Rattle.qx_geom.specs.declared.root.Root.{Root}
use Rattle.qx_outside.specs.Causes.{Rose}
use Rattle.qx_blocks.specs.declared.blocks.Stop.{Stop}
use Rattle.qx_blocks.specs.declared.blocks.Stop.TheVariants.{Device}
use Rattle.qx_blocks.specs.BlockState.{BlockState}
use Rattle.qx_ptree.specs.declared.change.Change.{Change}
use Rattle.tree_bench.specs.declared.changes.Refusal.TheVariants.{Stopped}
use Rattle.tree_bench.specs.Refusals.{HasReason}

-- no fault was counted before that call
pub stopped : (order : Order) (m : BlockState) (node : Root) (c : Change) (told : Bool) (before mid now : ℕ) (stop : Stop) → mid ≡ before → (stop ≡ Device → Rose mid now)
    → HasReason order m node c told before now (Stopped stop)
stopped order m node c told before mid now stop same cause = record {
  unfit = λ e. absurd (cc e);
  no_space = λ e _. absurd (cc e);
  device = λ e. subst (λ n. Rose n now) same (cause (cc e));
}
