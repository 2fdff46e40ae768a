use Rattle.std.proofs.Common.{◌≡◌, ℕ, ◌+◌, ◌<◌, List, length, take, get_or, rules, refl, sym, ◌∙◌, ap, arith}
use Rattle.std.specs.Prelude.{IsTrue}
use Rattle.std.proofs.lemmas.List.{take_all}
use Rattle.qx_fields.specs.declared.order.Order.{Order}
use Rattle.qx_blocks.specs.BlockState.{BlockState}
use Rattle.qx_blocks.specs.Calls.{Keeps}
use Rattle.qx_ptree.specs.Alterations.{fresh_count}
use Rattle.qx_ptree.proofs.KeptPlans.{kept_again, told_before}
use Rattle.qx_batch.specs.declared.planned.Planned.{Planned}
use Rattle.qx_batch.specs.Plans.{ArePlanned, IsPlanned, need_of_all, plan_alteration}
use Rattle.qx_batch.proofs.JointNeeds.{at_place, need_next}
use Rattle.qx_batch.proofs.PreparedBatches.{planned_kept}
use Rattle.qx_batch.proofs.room.joint_need.Goals as goal

-- nothing was done
keeps_same : (m : BlockState) → Keeps m m
keeps_same m = record { told = λ _. refl; holdings = refl; ready = λ b r. refl }

module _ (order : Order) (old mid : BlockState) (k : Keeps old mid) (ps : List Planned) (i : ℕ) (p : Planned) (low : i < length ps) (is : p ≡ get_or ps i p) (all : ArePlanned order old ps) where
  -- the next one can be asked
  planned : IsPlanned order mid p
  planned = planned_kept order old mid p k (all p (at_place ps i p low is))

  -- the need so far and its own
  total_more : (new : BlockState) (total need : ℕ) → Keeps mid new → (IsTrue mid.tells → total ≡ need_of_all order old (take i ps)) → (IsTrue new.tells → need ≡ fresh_count (plan_alteration order mid p)) → IsTrue new.tells
      → total + need ≡ need_of_all order old (take (i + 1) ps)
  total_more new total need later so_far own told =
      let told_mid : IsTrue mid.tells = told_before mid new later told in
      (λ j. so_far told_mid j + own told j) ∙ ap (λ x. need_of_all order old (take i ps) + fresh_count (plan_alteration order x p)) (k.told told_mid) ∙ sym (need_next order old ps i p low is)

pub loop-plan-init : goal.loop-plan-init
loop-plan-init g c = record { keeps = keeps_same (g.B.Blocks.state c.args.blocks.now); total = λ _. refl; few = omega arith; aside = refl; faults = refl }

pub need-requires-clause-node : goal.need-requires-clause-node
need-requires-clause-node g c = (planned _ _ _ c.loop-plan.invariant.keeps c.args.planned.now c.loop-plan.plan-index c.plan-item.result c.loop-plan-test.true c.plan-item.is c.requires.planned).node

pub need-requires-clause-change : goal.need-requires-clause-change
need-requires-clause-change g c = (planned _ _ _ c.loop-plan.invariant.keeps c.args.planned.now c.loop-plan.plan-index c.plan-item.result c.loop-plan-test.true c.plan-item.is c.requires.planned).change

pub loop-plan-preserved : goal.loop-plan-preserved
loop-plan-preserved g c = record {
  keeps = kept_again (g.B.Blocks.state c.args.blocks.now) (g.B.Blocks.state c.loop-plan.blocks) (g.B.Blocks.state c.need.new.blocks) c.loop-plan.invariant.keeps c.need.ensures.reads.keeps;
  total = total_more c.args.order (g.B.Blocks.state c.args.blocks.now) (g.B.Blocks.state c.loop-plan.blocks) c.loop-plan.invariant.keeps c.args.planned.now c.loop-plan.plan-index c.plan-item.result c.loop-plan-test.true c.plan-item.is c.requires.planned
      (g.B.Blocks.state c.need.new.blocks) c.loop-plan.total c.in_ok-total.field-0 c.need.ensures.reads.keeps c.loop-plan.invariant.total c.in_ok-total.ensures.need;
  few = omega (arith, c.loop-plan.invariant.few, c.in_ok-total.ensures.few);
  aside = c.need.ensures.reads.others.aside ∙ c.loop-plan.invariant.aside;
  faults = search (rules, arith);
}

pub returns-clause-need : goal.returns-clause-need
returns-clause-need g c = λ told. c.loop-plan.invariant.total told ∙ ap (need_of_all c.args.order (g.B.Blocks.state c.args.blocks.now)) (take_all c.loop-plan.plan-index c.args.planned.now c.loop-plan-test.false)
