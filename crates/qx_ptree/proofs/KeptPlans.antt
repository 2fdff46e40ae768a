-- What is known of a plan holds after a call that keeps the blocks as well.
use Rattle.std.proofs.Common.{◌≡◌, ℕ, ◌^◌, ◌<◌, ◌≤◌, length, sym, ◌∙◌, ap, subst}
use Rattle.std.specs.Prelude.{IsTrue}
use Rattle.qx_fields.specs.declared.order.Order.{Order}
use Rattle.qx_geom.specs.declared.root.Root.{Root}
use Rattle.qx_blocks.specs.BlockState.{BlockState, IsBlockSize, IsConsistent}
use Rattle.qx_blocks.specs.Calls.{Keeps}
use Rattle.qx_ptree.specs.declared.plan.Plan.{Plan}
use Rattle.qx_ptree.specs.Fates.{IsChange}
use Rattle.qx_ptree.specs.Plans.{InReach, IsPlan, alteration_in, planned_pointer}
use Rattle.qx_ptree.specs.Trees.{HasLevels, IsNode, IsRegular, IsWorking}
use Rattle.qx_ptree.specs.Parts.{part_of}

-- bytes that are told after it were told before it
pub told_before : (old mid : BlockState) → Keeps old mid → IsTrue mid.tells → IsTrue old.tells
told_before old mid k told = subst (λ x. IsTrue x.tells) (k.told told) told

-- two such calls, one after the other
pub kept_again : (old mid new : BlockState) → Keeps old mid → Keeps mid new → Keeps old new
kept_again old mid new first later = record {
  told = λ told. later.told told ∙ first.told (told_before mid new later told);
  holdings = later.holdings ∙ first.holdings;
  ready = λ b is. later.ready b (subst (λ h. IsTrue (h.ready b)) (sym first.holdings) is) ∙ first.ready b is;
}

-- the blocks are consistent
pub kept_consistent : (old mid : BlockState) → Keeps old mid → IsConsistent old → IsConsistent mid
kept_consistent old mid k s = record {
  size = subst (λ h. IsBlockSize h.size) (sym k.holdings) s.size;
  count = subst (λ h. h.count < 2 ^ 32) (sym k.holdings) s.count;
  free = subst (λ h. h.free ≤ h.count) (sym k.holdings) s.free;
  numbers = subst (λ h. (b : ℕ) → IsTrue (h.held b) → b < h.count) (sym k.holdings) s.numbers;
  works_held = subst (λ h. (b : ℕ) → IsTrue (h.works b) → IsTrue (h.held b)) (sym k.holdings) s.works_held;
  private_works = subst (λ h. (b : ℕ) → IsTrue (h.private b) → IsTrue (h.works b)) (sym k.holdings) s.private_works;
  ready_private = subst (λ h. (b : ℕ) → IsTrue (h.ready b) → IsTrue (h.private b)) (sym k.holdings) s.ready_private;
  told_long = λ told. subst (λ x. (b : ℕ) → IsTrue (x.holdings.held b) → length (x.bytes b) ≡ x.holdings.size) (sym (k.told told)) (s.told_long (told_before old mid k told));
  ready_long = λ b ready.
      let was : IsTrue (old.holdings.ready b) = subst (λ h. IsTrue (h.ready b)) k.holdings ready in
      ap length (k.ready b was) ∙ s.ready_long b was ∙ ap (λ h. h.size) (sym k.holdings);
}

-- a node can be changed
pub kept_node : (order : Order) (old mid : BlockState) (node : Root) → Keeps old mid → IsNode order old node → IsNode order mid node
kept_node order old mid node k is = record {
  levels = subst (λ h. HasLevels h.size node) (sym k.holdings) is.levels;
  works = λ told. subst (λ x. IsWorking order x node) (sym (k.told told)) (is.works (told_before old mid k told));
  regular = λ told. subst (λ x. IsRegular order x node) (sym (k.told told)) (is.regular (told_before old mid k told));
}

-- the plan meets its conditions
pub kept_plan : (old mid : BlockState) (plan : Plan) → Keeps old mid → IsPlan old plan → IsPlan mid plan
kept_plan old mid plan k p = record { node = kept_node plan.order old mid plan.node k p.node; change = subst (λ h. IsChange h.size plan.change) (sym k.holdings) p.change }

-- a position is within reach
pub kept_reach : (old mid : BlockState) (level index : ℕ) → Keeps old mid → InReach old.holdings.size level index → InReach mid.holdings.size level index
kept_reach old mid level index k r = subst (λ h. InReach h.size level index) (sym k.holdings) r

-- the pointers are the same
pub kept_pointer : (old mid : BlockState) (plan : Plan) (k j : ℕ) → Keeps old mid → IsTrue mid.tells → planned_pointer plan mid k j ≡ planned_pointer plan old k j
kept_pointer old mid plan k j keeps told = ap (λ x. planned_pointer plan x k j) (keeps.told told)

-- and so is what the change makes of each part
pub kept_part : (old mid : BlockState) (plan : Plan) (k j : ℕ) → Keeps old mid → IsTrue mid.tells → part_of (alteration_in plan mid) k j ≡ part_of (alteration_in plan old) k j
kept_part old mid plan k j keeps told = ap (λ x. part_of (alteration_in plan x) k j) (keeps.told told)
