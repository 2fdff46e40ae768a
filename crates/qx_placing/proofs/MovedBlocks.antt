-- Where the blocks of nodes stand that changes made, and that puts leave them there.
use Rattle.std.proofs.Common.{◌≡◌, ℕ, ◌+◌, List, [], refl, ◌∙◌, ap, subst, arith}
use Rattle.std.specs.Prelude.{false, ◌||◌, IsTrue, Contains}
use Rattle.qx_fields.specs.declared.order.Order.{Order}
use Rattle.qx_geom.specs.Lists.{is_in}
use Rattle.qx_geom.proofs.Truths.{not_so, true_or_false}
use Rattle.qx_nodes.specs.Visits.{visits_of}
use Rattle.qx_blocks.specs.BlockState.{BlockState, Holdings}
use Rattle.qx_ptree.specs.Takings.{Takes}
use Rattle.qx_ptree.specs.Trees.{block_map}
use Rattle.qx_batch.specs.declared.planned.Planned.{Planned}
use Rattle.qx_batch.specs.Batches.{LeavesShared}
use Rattle.qx_batch.specs.Changes.{AreChanged}
use Rattle.qx_batch.specs.Nodes.{AreLaid, Nodes}
use Rattle.qx_batch.specs.Plans.{need_of_all}
use Rattle.qx_batch.specs.PutNodes.{ArePut}
use Rattle.qx_placing.specs.MovedNodes.{AreMoved, KeepsShared}

-- changes that were made
pub moved_made : (order : Order) (nodes after : Nodes) (m n : BlockState) (ps : List Planned) → AreChanged order nodes after m n ps → AreMoved order nodes after m n ps
moved_made order nodes after m n ps ch = record {
  size = ch.size;
  laid = ch.laid;
  moved = λ p c. let g = ch.changed p c in record { root = g.root; is = g.is; fresh = g.fresh; stays = g.stays; private = g.private };
  still = λ o node at out. let k = ch.kept o node at out in record { is = k.is; visits = k.visits; private = k.keeps.private };
  none = ch.none;
  all_met = ch.all_met;
  free = ch.free;
}

-- and bytes that were put since
pub moved_put : (order : Order) (nodes after : Nodes) (m n o : BlockState) (ps : List Planned) (owner at : ℕ) (bytes : List ℕ) → AreMoved order nodes after m n ps → ArePut order after n o owner at bytes
    → AreMoved order nodes after m o ps
moved_put order nodes after m n o ps owner at bytes mv put = record {
  size = ap (λ (h : Holdings). h.size) put.holdings ∙ mv.size;
  laid = put.laid;
  moved = λ p c.
      let g = mv.moved p c in
      let same : visits_of (block_map order o) g.root ≡ visits_of (block_map order n) g.root = put.visits p.owner g.root g.is in
      record {
        root = g.root;
        is = g.is;
        fresh = λ v met. g.fresh v (subst (λ vs. Contains vs v) same met);
        stays = λ v met. g.stays v (subst (λ vs. Contains vs v) same met);
        private = λ v met. ap (λ (h : Holdings). h.private v.block) put.holdings ∙ g.private v (subst (λ vs. Contains vs v) same met);
      };
  still = λ q node there out.
      let k = mv.still q node there out in
      record {
        is = k.is;
        visits = put.visits q node k.is ∙ k.visits;
        private = λ v met. ap (λ (h : Holdings). h.private v.block) put.holdings ∙ k.private v met;
      };
  none = mv.none;
  all_met = λ all. put.all_met (mv.all_met all);
  free = ap (λ (h : Holdings). h.free + need_of_all order m ps) put.holdings ∙ mv.free;
}

-- nothing was changed
pub moved_none : (order : Order) (nodes : Nodes) (m : BlockState) → AreLaid order m nodes → AreMoved order nodes nodes m m []
moved_none order nodes m laid = record {
  size = refl;
  laid = laid;
  moved = λ p c. absurd (omega (arith, c.1));
  still = λ o node at out. record { is = at; visits = refl; private = λ v met. refl };
  none = λ o out. out;
  all_met = λ all. all;
  free = refl;
}

-- blocks of other trees, from before a preparation to behind the commit
pub shared_committed : (fresh : List ℕ) (m now n : BlockState) → Takes fresh m now → LeavesShared now n → KeepsShared m n
shared_committed fresh m now n takes leaves = record {
  held = λ b held shared. leaves.held b (not_private b held shared) ∙ takes.held b ∙ (λ i. held i || is_in fresh b);
  private = λ b held shared. leaves.private b (not_private b held shared);
}
  where
    not_fresh : (b : ℕ) → IsTrue (m.holdings.held b) → is_in fresh b ≡ false
    not_fresh b held = not_so (is_in fresh b) (λ t. true_or_false (m.holdings.held b) held (takes.unheld b t))

    not_private : (b : ℕ) → IsTrue (m.holdings.held b) → m.holdings.private b ≡ false → now.holdings.private b ≡ false
    not_private b held shared = takes.private b ∙ (λ i. shared i || not_fresh b held i)

pub shared_put : (order : Order) (nodes : Nodes) (m n o : BlockState) (owner at : ℕ) (bytes : List ℕ) → KeepsShared m n → ArePut order nodes n o owner at bytes → KeepsShared m o
shared_put order nodes m n o owner at bytes keeps put = record {
  held = λ b held shared. ap (λ (h : Holdings). h.held b) put.holdings ∙ keeps.held b held shared;
  private = λ b held shared. ap (λ (h : Holdings). h.private b) put.holdings ∙ keeps.private b held shared;
}
