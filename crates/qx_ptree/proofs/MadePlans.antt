-- A plan of a node that can be changed, and of a change that can be made.
use Rattle.std.proofs.Common.{◌≡◌, sym, subst}
use Rattle.qx_fields.specs.declared.order.Order.{Order}
use Rattle.qx_geom.specs.declared.root.Root.{Root}
use Rattle.qx_blocks.specs.BlockState.{BlockState}
use Rattle.qx_ptree.specs.declared.change.Change.{Change}
use Rattle.qx_ptree.specs.declared.plan.Plan.{Plan}
use Rattle.qx_ptree.specs.Fates.{IsChange}
use Rattle.qx_ptree.specs.Plans.{IsPlan}
use Rattle.qx_ptree.specs.Trees.{IsNode}

-- it meets the conditions
pub made_plan : (m : BlockState) (node : Root) (order : Order) (c : Change) (plan : Plan) → (h : _) × (plan ≡ record { node = node; order = order; change = c; sixteen = h }) → IsNode order m node → IsChange m.holdings.size c → IsPlan m plan
made_plan m node order c plan is fit change = subst (IsPlan m) (sym is.1) (record { node = fit; change = change })
