-- What a planned change has made of its node once it is committed.
use Rattle.std.proofs.Common.{◌≡◌, ℕ, ◌≤◌, refl, ap, subst}
use Rattle.std.specs.Prelude.{Bool, true, false, ◌||◌, Option, Some, IsTrue, Contains}
use Rattle.qx_fields.specs.declared.order.Order.{Order}
use Rattle.qx_geom.specs.declared.root.Root.{Root}
use Rattle.qx_geom.specs.Pointer.{absent}
use Rattle.qx_geom.proofs.Truths.{true_or_false}
use Rattle.qx_nodes.specs.Visits.{Visit, visits_of}
use Rattle.qx_blocks.specs.BlockState.{BlockState, IsConsistent}
use Rattle.qx_ptree.specs.Altered.{Alters, takes_fresh}
use Rattle.qx_ptree.specs.ReadyLeaves.{IsAbove, IsReadyApart, IsWrittenBy}
use Rattle.qx_ptree.specs.Trees.{IsToldNode, block_map, pointer_at}
use Rattle.qx_ptree.specs.WaitingChanges.{IsWaiting}
use Rattle.qx_ptree.specs.WorkState.{Preparation}
use Rattle.qx_ptree.proofs.AlteredNodes.{after_fresh, after_stays}
use Rattle.qx_ptree.proofs.CarriedPlans.{absent_free}
use Rattle.qx_ptree.proofs.NodePositions.{there_met}
use Rattle.qx_ptree.proofs.SeveralChanges.{altered_told}
use Rattle.qx_ptree.proofs.StandingBlocks.{block_kept, kept_private, taken_private}
use Rattle.qx_batch.specs.declared.batch.Waiting.{Waiting}
use Rattle.qx_batch.specs.Changes.{IsChangedNode}
use Rattle.qx_batch.specs.Plans.{plan_alteration}
use Rattle.qx_batch.proofs.NodeContentsAfter.{content_changed}

-- a preparation, said by its plan
abbrev pub as_planned : Waiting → Preparation
as_planned w = record { node = w.plan.node; change = w.plan.change; root = w.prep.root; work = w.prep.work }

-- where it is the planned one, it is the same
pub is_planned : (w : Waiting) → w.prep.node ≡ w.plan.node → w.prep.change ≡ w.plan.change → w.prep ≡ as_planned w
is_planned w node change = λ i. record { node = node i; change = change i; root = w.prep.root; work = w.prep.work }

-- a truth or another, by whether a test holds
either : (t : Bool) (p q : Bool) → (t ≡ true → p ≡ true) → (t ≡ false → p ≡ q) → p ≡ (t || q)
either true p q holds fails = holds refl
either false p q holds fails = fails refl

module _ (order : Order) (old now m : BlockState) (p : Preparation) (w : IsWaiting order old now p) (s : IsConsistent m) (a : Alters order old p m) where
  -- what is known of the node afterwards
  after_told : IsToldNode order m p.root
  after_told = altered_told order old now m p w s a

  -- a written leaf, and each block above one, is ready
  above_ready : (k j : ℕ) → k ≤ p.root.levels → IsAbove m.holdings.size (IsWrittenBy p.change) k j → IsTrue (m.holdings.ready (pointer_at (block_map order m) p.root k j))
  above_ready k j low above = subst (λ i. IsTrue (m.holdings.ready (pointer_at (block_map order m) p.root k i))) above.above (a.ready above.leaf above.one k low)

  -- so it is met
  above_met : (k j : ℕ) → k ≤ p.root.levels → IsAbove m.holdings.size (IsWrittenBy p.change) k j → Contains (visits_of (block_map order m) p.root) (record { level = k; index = j; block = pointer_at (block_map order m) p.root k j })
  above_met k j low above =
      let b : ℕ = pointer_at (block_map order m) p.root k j in
      let held : IsTrue (m.holdings.held b) = s.works_held b (s.private_works b (s.ready_private b (above_ready k j low above))) in
      there_met order m p.root after_told k j (λ none. true_or_false (m.holdings.held absent) (subst (λ q. IsTrue (m.holdings.held q)) none held) (absent_free m s))

  -- what the change writes is ready
  pub written_ready : IsReadyApart order m p.root (IsWrittenBy p.change)
  written_ready = record {
    ready = above_ready;
    apart = λ k j h i low high c d same.
        let one : record { level = k; index = j; block = pointer_at (block_map order m) p.root k j } ≡ record { level = h; index = i; block = pointer_at (block_map order m) p.root h i } = after_told.regular.apart
        (record { level = k; index = j; block = pointer_at (block_map order m) p.root k j }) (record { level = h; index = i; block = pointer_at (block_map order m) p.root h i }) (above_met k j low c) (above_met h i high d) same in
        (ap (λ (v : Visit). v.level) one, ap (λ (v : Visit). v.index) one);
  }

-- what the change made of its node
pub changed_node : (order : Order) (old now m : BlockState) (w : Waiting) (after : Option Root) → IsWaiting order old now (as_planned w) → IsConsistent m → Alters order old (as_planned w) m → after ≡ Some w.prep.root → IsChangedNode order old m w.plan after
changed_node order old now m w after waiting s a is =
    let p : Preparation = as_planned w in
    record {
      root = w.prep.root;
      is = is;
      levels = a.levels;
      holds = content_changed order old now m p waiting s a;
      ready = written_ready order old now m p waiting s a;
      fresh = λ v met fresh. waiting.unheld v.block (after_fresh order old m p waiting.node waiting.prepared.change waiting.prepared.sixteen s a v met fresh);
      stays = λ v met none. after_stays order old m p waiting.node waiting.prepared.change waiting.prepared.sixteen s a v met none;
      keeps = λ v met kept. block_kept order old now m p waiting s a v met kept;
      private = λ v met. either (takes_fresh (plan_alteration order old w.plan) v.level v.index) (m.holdings.private v.block) (old.holdings.private v.block)
          (λ fresh. taken_private order old now m p waiting s a v met fresh) (λ none. kept_private order old now m p waiting s a v met none);
    }
