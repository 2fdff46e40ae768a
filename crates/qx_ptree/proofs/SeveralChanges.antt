-- Changes of several nodes that were prepared one after another, and what their commits leave.
use Rattle.std.proofs.Common.{◌≡◌, ℕ, inl, inr, List, ◌++◌, sym, ◌∙◌, ap, subst}
use Rattle.std.specs.Prelude.{true, false, IsTrue, Contains}
use Rattle.qx_fields.specs.declared.order.Order.{Order}
use Rattle.qx_geom.specs.declared.root.Root.{Root}
use Rattle.qx_geom.specs.Lists.{is_in}
use Rattle.qx_geom.proofs.Members.{in_left}
use Rattle.qx_geom.proofs.Truths.{not_so, or_left, true_or_false}
use Rattle.qx_nodes.specs.Visits.{Visit, visits_of}
use Rattle.qx_blocks.specs.BlockState.{BlockState, IsConsistent}
use Rattle.qx_ptree.specs.Alterations.{Alteration, fresh_count}
use Rattle.qx_ptree.specs.Altered.{Alters, AsLeft, IsPrepared, keeps_block}
use Rattle.qx_ptree.specs.Fates.{IsChange}
use Rattle.qx_ptree.specs.KeptNodes.{KeepsNode}
use Rattle.qx_ptree.specs.Takings.{LeavesOthers, Takes}
use Rattle.qx_ptree.specs.Trees.{AreApart, IsToldNode, IsWorking, block_map}
use Rattle.qx_ptree.specs.WaitingChanges.{IsClearOf, IsWaiting}
use Rattle.qx_ptree.specs.WorkState.{Preparation, blocks_of, committed}
use Rattle.qx_ptree.proofs.AlteredNodes.{after_met, altered_before, altered_others, told_after}
use Rattle.qx_ptree.proofs.KeptNodes.{alteration_kept, kept_taken, kept_then, visits_kept, working_kept}
use Rattle.qx_ptree.proofs.WaitingChanges.{apart_back, left_keeps, left_others, left_same, left_taken, left_then, own_held}

-- ---- preparations

-- what was prepared goes on waiting
pub prepared_later : (order : Order) (old m n : BlockState) (p : Preparation) → AsLeft order p m n → IsPrepared order old m p → IsPrepared order old n p
prepared_later order old m n p left i = record {
  change = i.change;
  sixteen = i.sixteen;
  need = i.need;
  blocks = i.blocks;
  released = i.released;
  lost = i.lost;
  commits = λ x later. i.commits x (left_then order p m n x left later);
}

-- and was prepared for the node of older blocks, from which it stayed
pub prepared_before : (order : Order) (old mid now : BlockState) (p : Preparation) → IsToldNode order old p.node → IsConsistent mid → KeepsNode order old mid p.node → IsPrepared order mid now p → IsPrepared order old now p
prepared_before order old mid now p told s k i =
    let same = alteration_kept order old mid p.node s k told p.change in
    let visits : visits_of (block_map order mid) p.node ≡ visits_of (block_map order old) p.node = visits_kept order old mid p.node k in
    record {
      change = subst (λ z. IsChange z p.change) k.size i.change;
      sixteen = i.sixteen;
      need = i.need ∙ ap fresh_count same;
      blocks = λ b own. elim (i.blocks b own) [ inl fresh ↦ inl fresh | inr (v, met, is) ↦ inr (v, subst (λ vs. Contains vs v) visits met, is) ];
      released = λ b gone. let at = i.released b gone in (at.0, subst (λ vs. Contains vs at.0) visits at.1, at.2, sym (ap (λ (x : Alteration). keeps_block x at.0.level at.0.index) same) ∙ at.3);
      lost = λ v met gone. i.lost v (subst (λ vs. Contains vs v) (sym visits) met) (ap (λ (x : Alteration). keeps_block x v.level v.index) same ∙ gone);
      commits = λ m left. altered_before order old mid (committed m p) p s k told (i.commits m left);
    }

-- ---- a change that waits

-- it begins to wait once it is prepared
pub wait_begins : (order : Order) (old now : BlockState) (p : Preparation) → IsToldNode order old p.node → IsTrue now.tells → Takes p.work.fresh old now → IsPrepared order old now p → IsWaiting order old now p
wait_begins order old now p told tells t i = record {
  node = told;
  unheld = t.unheld;
  held = own_held order old now p told.consistent told.works t i;
  kept = kept_taken order p.work.fresh old now p.node told.consistent told.works tells t;
  prepared = i;
}

-- it waits on where its blocks and its node stay
pub wait_later : (order : Order) (old m n : BlockState) (p : Preparation) → IsWaiting order old m p → AsLeft order p m n → IsWaiting order old n p
wait_later order old m n p w left = record {
  node = w.node;
  unheld = w.unheld;
  held = λ b h. (left.own b h).held ∙ w.held b h;
  kept = kept_then order old m n p.node w.kept (left_keeps order p m n left);
  prepared = prepared_later order old m n p left w.prepared;
}

-- as where blocks are taken
pub wait_taken : (order : Order) (fresh : List ℕ) (old m n : BlockState) (p : Preparation) → IsWaiting order old m p → IsConsistent m → IsTrue n.tells → Takes fresh m n → IsWaiting order old n p
wait_taken order fresh old m n p w s tells t = wait_later order old m n p w (left_taken order fresh p m n s tells (working_kept order old m p.node w.kept w.node.works) w.held t)

-- and where others change
pub wait_others : (order : Order) (changed : List ℕ) (old m n : BlockState) (p : Preparation) → IsWaiting order old m p → IsClearOf order old p changed → LeavesOthers changed m n → IsWaiting order old n p
wait_others order changed old m n p w clear l =
    wait_later order old m n p w (left_others order changed p m n l clear.own (λ v c. clear.met v (subst (λ vs. Contains vs v) (visits_kept order old m p.node w.kept) c)))

-- it waits as well as seen from older blocks, from which others were taken
pub wait_before : (order : Order) (fresh : List ℕ) (old mid now : BlockState) (p : Preparation) → IsToldNode order old p.node → IsConsistent mid → IsTrue mid.tells → Takes fresh old mid → IsWaiting order mid now p → IsWaiting order old now p
wait_before order fresh old mid now p told s tells t w =
    let k : KeepsNode order old mid p.node = kept_taken order fresh old mid p.node told.consistent told.works tells t in
    record {
      node = told;
      unheld = λ b f. or_left (old.holdings.held b) (is_in fresh b) (sym (t.held b) ∙ w.unheld b f);
      held = w.held;
      kept = kept_then order old mid now p.node k w.kept;
      prepared = prepared_before order old mid now p told s k w.prepared;
    }

-- its commit alters its node
pub wait_commits : (order : Order) (old now : BlockState) (p : Preparation) → IsWaiting order old now p → Alters order old p (committed now p)
wait_commits order old now p w = w.prepared.commits now (left_same order p now)

-- ---- changes of nodes that are apart

-- a block that was taken was no node's
new_block : (order : Order) (old now : BlockState) (p : Preparation) (node : Root) (v : Visit) → IsWaiting order old now p → IsWorking order old node → Contains (visits_of (block_map order old) node) v → is_in p.work.fresh v.block ≡ true → ⊥
new_block order old now p node v w works met f = true_or_false (old.holdings.held v.block) (w.node.consistent.works_held v.block (works v met)) (w.unheld v.block f)

-- a change has no block of another node
pub clear_node : (order : Order) (old now : BlockState) (p : Preparation) (node : Root) → IsWaiting order old now p → IsWorking order old node → AreApart order old node p.node
    → (v : Visit) → Contains (visits_of (block_map order old) node) v → is_in (blocks_of p) v.block ≡ false
clear_node order old now p node w works apart v met =
    not_so (is_in (blocks_of p) v.block) (λ own. elim (w.prepared.blocks v.block own) [
      | inl fresh ↦ new_block order old now p node v w works met fresh
      | inr other ↦ apart v other.0 met other.1 (sym other.2)
    ])

-- nor one of another change, which was prepared later
pub clear_pair : (order : Order) (old now after : BlockState) (p q : Preparation) → IsWaiting order old now p → IsWaiting order old after q → Takes q.work.fresh now after → AreApart order old p.node q.node
    → IsClearOf order old p (blocks_of q) × IsClearOf order old q (blocks_of p)
clear_pair order old now after p q w x t apart =
    let met_q : (v : Visit) → Contains (visits_of (block_map order old) q.node) v → is_in (blocks_of p) v.block ≡ false = clear_node order old now p q.node w x.node.works (λ u v c d e. apart v u d c (sym e)) in
    let own : (b : ℕ) → is_in (blocks_of p) b ≡ true → is_in (blocks_of q) b ≡ false =
    λ b h. not_so (is_in (blocks_of q) b) (λ e. elim (x.prepared.blocks b e) [
      | inl fresh ↦ true_or_false (now.holdings.held b) (w.held b h) (t.unheld b fresh)
      | inr other ↦ true_or_false (is_in (blocks_of p) b) h (subst (λ z. is_in (blocks_of p) z ≡ false) other.2 (met_q other.0 other.1))
    ]) in (
      record { own = own; met = clear_node order old after q p.node x w.node.works apart },
      record { own = apart_back (blocks_of p) (blocks_of q) own; met = met_q },
    )

-- ---- nodes that were altered

-- the same is known of the node afterwards
pub altered_told : (order : Order) (old now m : BlockState) (p : Preparation) → IsWaiting order old now p → IsConsistent m → Alters order old p m → IsToldNode order m p.root
altered_told order old now m p w s a = told_after order old m p w.node w.prepared.change w.prepared.sixteen s a

-- it stays altered where others change
pub altered_stays : (order : Order) (changed : List ℕ) (old now m n : BlockState) (p : Preparation) → IsWaiting order old now p → IsConsistent m → IsConsistent n → IsClearOf order old p changed → LeavesOthers changed m n → Alters order old p m → Alters order old p n
altered_stays order changed old now m n p w s after clear l a = altered_others order old m p w.node w.prepared.change w.prepared.sixteen s a changed n after l clear

-- it is apart from a node that stayed
pub apart_kept : (order : Order) (old now m : BlockState) (p : Preparation) (node : Root) → IsWaiting order old now p → IsConsistent m → Alters order old p m → IsWorking order old node → KeepsNode order old m node → AreApart order old node p.node
    → AreApart order m node p.root
apart_kept order old now m p node w s a works k apart u v c d same =
    let before : Contains (visits_of (block_map order old) node) u = subst (λ vs. Contains vs u) (visits_kept order old m node k) c in
    after_met order old m p w.node w.prepared.change w.prepared.sixteen s a v d
    (λ fresh. new_block order old now p node u w works before (subst (λ b. is_in p.work.fresh b ≡ true) (sym same) fresh)) (λ stays. apart u v before stays same)

-- and from another that was altered
pub apart_altered : (order : Order) (old now after m : BlockState) (p q : Preparation) → IsWaiting order old now p → IsWaiting order old after q → IsClearOf order old p (blocks_of q) × IsClearOf order old q (blocks_of p) → AreApart order old p.node q.node
    → IsConsistent m → Alters order old p m → Alters order old q m → AreApart order m p.root q.root
apart_altered order old now after m p q w x clear apart s a b u v c d same =
    after_met order old m p w.node w.prepared.change w.prepared.sixteen s a u c
    (λ fresh.
    let own : is_in (blocks_of p) u.block ≡ true = in_left p.work.fresh (p.work.kept ++ p.work.released) u.block fresh in
    after_met order old m q x.node x.prepared.change x.prepared.sixteen s b v d
    (λ too. true_or_false (is_in (blocks_of q) v.block) (in_left q.work.fresh (q.work.kept ++ q.work.released) v.block too) (subst (λ z. is_in (blocks_of q) z ≡ false) same (clear.0.own u.block own)))
    (λ met. true_or_false (is_in (blocks_of p) v.block) (subst (λ z. is_in (blocks_of p) z ≡ true) same own) (clear.1.met v met)))
    (λ stays. after_met order old m q x.node x.prepared.change x.prepared.sixteen s b v d
    (λ too. true_or_false (is_in (blocks_of q) v.block) (in_left q.work.fresh (q.work.kept ++ q.work.released) v.block too) (subst (λ z. is_in (blocks_of q) z ≡ false) same (clear.0.met u stays)))
    (λ met. apart u v stays met same))
