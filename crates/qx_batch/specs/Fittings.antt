-- What is answered where changes are prepared if they find room.
use Rattle.std.specs.Prelude.{◌≡◌, ℕ, Bool, true, false, List, [], IsTrue}
use Rattle.qx_fields.specs.declared.order.Order.{Order}
use Rattle.qx_blocks.specs.BlockState.{BlockState}
use Rattle.qx_ptree.specs.Takings.{Takes}
use Rattle.qx_batch.specs.declared.planned.Planned.{Planned}
use Rattle.qx_batch.specs.declared.fitting.Fitting.{Fitting}
use Rattle.qx_batch.specs.declared.fitting.Fitting.TheVariants.{Prepared, NoSpace}
use Rattle.qx_batch.specs.Batches.{ArePrepared}
use Rattle.qx_batch.specs.Plans.{need_of_all}
use Rattle.qx_geom.specs.Room.{fits}

-- the changes need so many blocks and so many are free, which doesn't do; no block was taken
pub record Lacks (order : Order) (old new : BlockState) (ps : List Planned) (is_removing : Bool) (need free : ℕ) : Type 0 where
  pub free_is : free ≡ old.holdings.free
  pub need_is : IsTrue new.tells → need ≡ need_of_all order old ps
  pub lacks : fits is_removing need free ≡ false
  pub takes : Takes [] old new

-- the changes were prepared, and where bytes are told they fit; or they don't fit
abbrev pub IsFitting : Order → BlockState → BlockState → List Planned → Bool → Fitting → Type 0
IsFitting order old new ps is_removing (Prepared ws) = ArePrepared order old new ps ws × (IsTrue new.tells → fits is_removing (need_of_all order old ps) old.holdings.free ≡ true)
IsFitting order old new ps is_removing (NoSpace need free) = Lacks order old new ps is_removing need free
