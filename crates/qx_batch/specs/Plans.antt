-- Changes of nodes that are planned together.
use Rattle.std.specs.Prelude.{ℕ, ◌≤◌, List, sum_by, IsTrue, Contains}
use Rattle.qx_fields.specs.declared.order.Order.{Order}
use Rattle.qx_blocks.specs.BlockState.{BlockState}
use Rattle.qx_ptree.specs.Alterations.{Alteration, alteration_of, fresh_count}
use Rattle.qx_ptree.specs.Fates.{IsChange}
use Rattle.qx_ptree.specs.Trees.{IsNode}
use Rattle.qx_batch.specs.declared.planned.Planned.{Planned}

-- the node can be changed, and so
pub record IsPlanned (order : Order) (m : BlockState) (p : Planned) : Type 0 where
  pub node : IsNode order m p.node
  pub change : IsChange m.holdings.size p.change

-- so it is with each
abbrev pub ArePlanned : Order → BlockState → List Planned → Type 0
ArePlanned order m ps = (p : Planned) → Contains ps p → IsPlanned order m p

-- what a planned change makes of its node
abbrev pub plan_alteration : Order → BlockState → Planned → Alteration
plan_alteration order m p = alteration_of order m p.node p.change

-- how many fresh blocks all the changes take
abbrev pub need_of_all : Order → BlockState → List Planned → ℕ
need_of_all order m ps = sum_by (λ (p : Planned). fresh_count (plan_alteration order m p)) ps

-- as many blocks are free, where bytes are told
abbrev pub HasJointRoom : Order → BlockState → List Planned → Type 0
HasJointRoom order m ps = IsTrue m.tells → need_of_all order m ps ≤ m.holdings.free
