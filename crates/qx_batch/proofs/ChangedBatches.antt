-- What has become of all nodes once changes of some were committed together.
use Rattle.std.proofs.Common.{◌≡◌, ◌≢◌, ℕ, ◌+◌, List, [], ◌∷◌, ◌++◌, length, inl, inr, refl, sym, ◌∙◌, ap, subst, arith}
use Rattle.std.specs.Prelude.{◌⊎◌, true, false, Some, None, IsTrue, Contains}
use Rattle.std.proofs.lemmas.Bool.{or_cases}
use Rattle.qx_fields.specs.declared.order.Order.{Order}
use Rattle.qx_geom.specs.declared.root.Root.{Root}
use Rattle.qx_geom.specs.Lists.{Distinct, is_in}
use Rattle.qx_geom.proofs.Members.{Contains-cons, Contains-head, in_append_cases}
use Rattle.qx_geom.proofs.Truths.{and_left, true_or_false}
use Rattle.qx_nodes.specs.Visits.{visits_of}
use Rattle.qx_blocks.specs.BlockState.{BlockState, IsConsistent}
use Rattle.qx_ptree.specs.Altered.{Alters, keeps_block, prepared_alteration}
use Rattle.qx_ptree.specs.KeptNodes.{KeepsNode}
use Rattle.qx_ptree.specs.Trees.{AreApart, IsToldNode, block_map}
use Rattle.qx_ptree.specs.WaitingChanges.{IsClearOf, IsWaiting}
use Rattle.qx_ptree.specs.WorkState.{blocks_of}
use Rattle.qx_ptree.proofs.ApartNodes.{apart_stays, apart_turned}
use Rattle.qx_ptree.proofs.CommittedHoldings.{holds-works}
use Rattle.qx_ptree.proofs.KeptNodes.{told_kept, visits_kept}
use Rattle.qx_ptree.proofs.SeveralChanges.{altered_told, apart_altered, apart_kept}
use Rattle.qx_ptree.proofs.StandingBlocks.{block_kept, block_taken}
use Rattle.qx_ptree.proofs.WaitingChanges.{IsApart, apart_back}
use Rattle.qx_batch.specs.declared.batch.Waiting.{Waiting}
use Rattle.qx_batch.specs.declared.planned.Planned.{Planned}
use Rattle.qx_batch.specs.Batches.{ArePrepared, committed_all, fresh_of, plans_of}
use Rattle.qx_batch.specs.Changes.{AreChanged, IsChangedNode, total_lost, with_nodes}
use Rattle.qx_batch.specs.Nodes.{AreLaid, AreNodesOf, IsMet, Nodes, owners_of}
use Rattle.qx_batch.specs.Plans.{need_of_all, plan_alteration}
use Rattle.qx_batch.proofs.CommittedBatches.{altered, clear_of_node, node_of, others_stay, owners_differ, pair_apart, pairs_clear, waits}
use Rattle.qx_batch.proofs.CommittedStates.{AllConsistent, consistent_after, rest_all}
use Rattle.qx_batch.proofs.NodeContentsAfter.{node_kept}
use Rattle.qx_batch.proofs.PreparedBatches.{need_so_far}
use Rattle.qx_batch.proofs.PlacedNodes.{owned, owner_in, planned_waiting, with_other, with_own}
use Rattle.qx_batch.proofs.ChangedNodes.{as_planned, changed_node, is_planned}
use Rattle.qx_batch.proofs.CountedLosses.{IsKnown, free_after}

-- what the working tree holds it held before the commits
works_before : (now : BlockState) (ws : List Waiting) (b : ℕ) → IsTrue ((committed_all now ws).holdings.works b) → IsTrue (now.holdings.works b)
works_before now [] b works = works
works_before now (w ∷ ws) b works = works_before now ws b (and_left ((committed_all now ws).holdings.works b) _ (sym (holds-works (committed_all now ws) w.prep b) ∙ works))

-- the second of two lists stands once
distinct_right : (xs ys : List ℕ) → Distinct (xs ++ ys) → Distinct ys
distinct_right [] ys d = d
distinct_right (x ∷ xs) ys d = distinct_right xs ys d.1

module _ (order : Order) (nodes : Nodes) (old now : BlockState) (ps : List Planned) (ws : List Waiting) (told : IsTrue now.tells) (s : IsConsistent old) (all : AllConsistent now ws) (laid : AreLaid order old nodes) (own : AreNodesOf nodes ps) (a : ArePrepared order old now ps ws) where
  -- the blocks afterwards
  abbrev new : BlockState
  new = committed_all now ws

  -- and the nodes
  abbrev after : Nodes
  after = with_nodes nodes ws

  -- the blocks are consistent
  sn : IsConsistent new
  sn = consistent_after now ws all

  -- a change waited
  waited : (w : Waiting) → Contains ws w → IsWaiting order old now w.prep
  waited w c = waits order nodes old now ps ws told s laid own a w c

  -- and was committed
  made : (w : Waiting) → Contains ws w → Alters order old w.prep new
  made w c = altered order nodes old now ps ws told s laid own a all w c

  -- each was the planned one
  planned_is : (w : Waiting) → Contains ws w → w.prep ≡ as_planned w
  planned_is w c = is_planned w (a.ready w c).node (a.ready w c).change

  -- all that is known of it
  known : (w : Waiting) → Contains ws w → IsKnown order old now w
  known w c = record {
    is = planned_is w c;
    waits = waited w c;
    distinct = distinct_right w.prep.work.kept w.prep.work.released (distinct_right w.prep.work.fresh (w.prep.work.kept ++ w.prep.work.released) (a.ready w c).distinct);
  }

  -- the node that its number had
  had : (w : Waiting) → Contains ws w → nodes w.plan.owner ≡ Some w.prep.node
  had w c = node_of order nodes old now ps ws told s laid own a w c

  -- and has
  has : (w : Waiting) → Contains ws w → after w.plan.owner ≡ Some w.prep.root
  has w c = with_own nodes ws w (owners_differ order nodes old now ps ws told s laid own a) c

  -- a number is that of a change, or of none
  by_owner : (o : ℕ) → ((w : Waiting) × Contains ws w × (w.plan.owner ≡ o)) ⊎ (is_in (owners_of (plans_of ws)) o ≡ false)
  by_owner o = elim (is_in (owners_of (plans_of ws)) o) as (λ t. is_in (owners_of (plans_of ws)) o ≡ t → ((w : Waiting) × Contains ws w × (w.plan.owner ≡ o)) ⊎ (is_in (owners_of (plans_of ws)) o ≡ false)) [
    | true ↦ λ e. inl (owned ws o e)
    | false ↦ λ e. inr e
  ] refl

  -- a node of a change's number is the one that the change made
  root_is : (w : Waiting) (o : ℕ) (x : Root) → Contains ws w → w.plan.owner ≡ o → after o ≡ Some x → w.prep.root ≡ x
  root_is w o x c e there = let both : Some w.prep.root ≡ Some x = sym (has w c) ∙ ap after e ∙ there in cc

  -- and one that it had is the one that it changed
  node_is : (w : Waiting) (o : ℕ) (x : Root) → Contains ws w → w.plan.owner ≡ o → nodes o ≡ Some x → w.prep.node ≡ x
  node_is w o x c e there = let both : Some w.prep.node ≡ Some x = sym (had w c) ∙ ap nodes e ∙ there in cc

  -- the node of another number is the one that it had
  was : (o : ℕ) (x : Root) → is_in (owners_of (plans_of ws)) o ≡ false → after o ≡ Some x → nodes o ≡ Some x
  was o x out there = sym (with_other nodes ws o out) ∙ there

  -- which stays
  keeps : (o : ℕ) (x : Root) → is_in (owners_of (plans_of ws)) o ≡ false → nodes o ≡ Some x → KeepsNode order old new x
  keeps o x out there = others_stay order nodes old now ps ws told s laid own a o x there
      (λ w c e. true_or_false (is_in (owners_of (plans_of ws)) o) (subst (λ q. is_in (owners_of (plans_of ws)) q ≡ true) (sym e) (owner_in ws w c)) out)

  -- nodes of two numbers were apart
  were_apart : (w : Waiting) (o : ℕ) (x : Root) → Contains ws w → nodes o ≡ Some x → o ≢ w.plan.owner → AreApart order old x w.prep.node
  were_apart w o x c there differ = laid.apart o w.plan.owner x w.prep.node there (had w c) differ

  -- a changed node is apart from one that stayed
  changed_apart : (w : Waiting) (o : ℕ) (x : Root) → Contains ws w → is_in (owners_of (plans_of ws)) o ≡ false → nodes o ≡ Some x → o ≢ w.plan.owner → AreApart order new x w.prep.root
  changed_apart w o x c out there differ = apart_kept order old now new w.prep x (waited w c) sn (made w c) (laid.node o x there).works (keeps o x out there) (were_apart w o x c there differ)

  -- two changes of different nodes have no block in common
  clear_both : (w v : Waiting) → Contains ws w → Contains ws v → w.plan.owner ≢ v.plan.owner → IsClearOf order old w.prep (blocks_of v.prep) × IsClearOf order old v.prep (blocks_of w.prep)
  clear_both w v c d differ =
      let blocks : IsApart (blocks_of w.prep) (blocks_of v.prep) = elim (pair_apart ws w v a.can.apart c d) [ inl same ↦ absurd (differ (ap (λ (x : Waiting). x.plan.owner) same)) | inr out ↦ out ] in (
        record { own = blocks; met = λ u met. clear_of_node order nodes old now ps ws told s laid own a v w.plan.owner w.prep.node u d (had w c) differ met },
        record { own = apart_back (blocks_of w.prep) (blocks_of v.prep) blocks; met = λ u met. clear_of_node order nodes old now ps ws told s laid own a w v.plan.owner v.prep.node u c (had v d) (λ e. differ (sym e)) met },
      )

  -- so the nodes that they made are apart
  both_apart : (w v : Waiting) → Contains ws w → Contains ws v → w.plan.owner ≢ v.plan.owner → AreApart order new w.prep.root v.prep.root
  both_apart w v c d differ = apart_altered order old now now new w.prep v.prep (waited w c) (waited v d) (clear_both w v c d differ) (were_apart v w.plan.owner w.prep.node d (had w c) differ) sn (made w c) (made v d)

  -- all nodes lie over the blocks
  laid_after : AreLaid order new after
  laid_after = record {
    node = λ o x there. elim (by_owner o) [
      | inl (w, c, e) ↦ subst (IsToldNode order new) (root_is w o x c e there) (altered_told order old now new w.prep (waited w c) sn (made w c))
      | inr out ↦ told_kept order old new x sn (keeps o x out (was o x out there)) (laid.node o x (was o x out there))
    ];
    apart = λ o q x y there too differ. elim (by_owner o) [
      | inl (w, c, e) ↦ subst (λ z. AreApart order new z y) (root_is w o x c e there) (elim (by_owner q) [
        | inl (v, d, f) ↦ subst (AreApart order new w.prep.root) (root_is v q y d f too) (both_apart w v c d (λ same. differ (sym e ∙ same ∙ f)))
        | inr out ↦ apart_turned order new y w.prep.root (changed_apart w q y c out (was q y out too) (λ same. differ (sym e ∙ sym same)))
      ])
      | inr out ↦ elim (by_owner q) [
        | inl (v, d, f) ↦ subst (AreApart order new x) (root_is v q y d f too) (changed_apart v o x d out (was o x out there) (λ same. differ (same ∙ f)))
        | inr none ↦ apart_stays order old new x y (keeps o x out (was o x out there)) (keeps q y none (was q y none too)) (laid.apart o q x y (was o x out there) (was q y none too) differ)
      ]
    ];
  }

  -- a block that a change took is met in the node that it made
  met_fresh : (vs : List Waiting) → ((w : Waiting) → Contains vs w → Contains ws w) → (b : ℕ) → is_in (fresh_of vs) b ≡ true → IsMet order new after b
  met_fresh [] within b h = absurd (cc)
  met_fresh (w ∷ vs) within b h = elim (in_append_cases w.prep.work.fresh (fresh_of vs) b h) [
    | inl fresh ↦
        let c : Contains ws w = within w (Contains-head w vs) in
        let at = block_taken order old now new w.prep (waited w c) sn (made w c) b fresh in
        record { number = w.plan.owner; node = w.prep.root; is = has w c; visit = at.0; met = at.1; block = at.2 }
    | inr later ↦ met_fresh vs (λ v c. within v (Contains-cons w v vs c)) b later
  ]

  -- one that was met before is met, or not the working tree's
  met_still : (b : ℕ) → IsTrue (new.holdings.works b) → IsMet order old nodes b → IsMet order new after b
  met_still b works i = elim (by_owner i.number) [
    | inl (w, c, e) ↦
        let met : Contains (visits_of (block_map order old) w.prep.node) i.visit = subst (λ x. Contains (visits_of (block_map order old) x) i.visit) (sym (node_is w i.number i.node c e i.is)) i.met in
        record {
          number = w.plan.owner;
          node = w.prep.root;
          is = has w c;
          visit = i.visit;
          met = elim (keeps_block (prepared_alteration order old w.prep) i.visit.level i.visit.index) as (λ t. keeps_block (prepared_alteration order old w.prep) i.visit.level i.visit.index ≡ t → Contains (visits_of (block_map order new) w.prep.root) i.visit) [
            | true ↦ λ kept. block_kept order old now new w.prep (waited w c) sn (made w c) i.visit met kept
            | false ↦ λ lost. absurd (true_or_false (new.holdings.works i.visit.block) (subst (λ q. IsTrue (new.holdings.works q)) (sym i.block) works) ((made w c).given_up i.visit met lost))
          ] refl;
          block = i.block;
        }
    | inr out ↦ record {
      number = i.number;
      node = i.node;
      is = with_other nodes ws i.number out ∙ i.is;
      visit = i.visit;
      met = subst (λ vs. Contains vs i.visit) (sym (visits_kept order old new i.node (keeps i.number i.node out i.is))) i.met;
      block = i.block;
    }
  ]

  -- all of it
  pub are_changed : AreChanged order nodes after old new ps
  are_changed = record {
    size = (rest_all now ws a.can).size ∙ a.takes.size;
    laid = laid_after;
    changed = λ p c.
        let at = plan_waits p c in
        subst (λ (q : Planned). IsChangedNode order old new q (after q.owner)) at.2
        (changed_node order old now new at.0 (after at.0.plan.owner) (subst (IsWaiting order old now) (planned_is at.0 at.1) (waited at.0 at.1)) sn (subst (λ x. Alters order old x new) (planned_is at.0 at.1) (made at.0 at.1)) (has at.0 at.1));
    lost = λ p v c met lost.
        let at = plan_waits p c in
        (subst (λ x. Alters order old x new) (planned_is at.0 at.1) (made at.0 at.1)).given_up v
        (subst (λ (q : Planned). Contains (visits_of (block_map order old) q.node) v) (sym at.2) met)
        (subst (λ (q : Planned). keeps_block (plan_alteration order old q) v.level v.index ≡ false) (sym at.2) lost);
    kept = λ o node there out.
        let none : is_in (owners_of (plans_of ws)) o ≡ false = ap (λ qs. is_in (owners_of qs) o) a.plans ∙ out in
        node_kept order old new node (after o) (laid.node o node there) (keeps o node none there) (with_other nodes ws o none ∙ there);
    none = λ o there. elim (by_owner o) [
      | inl (w, c, e) ↦ let both : Some w.prep.node ≡ None = sym (had w c) ∙ ap nodes e ∙ there in absurd (cc)
      | inr out ↦ with_other nodes ws o out ∙ there
    ];
    all_met = λ met b works. elim (or_cases (old.holdings.works b) (is_in (fresh_of ws) b) (sym (a.takes.works b) ∙ works_before now ws b works)) [
      | inl before ↦ met_still b works (met b before)
      | inr fresh ↦ met_fresh ws (λ w c. c) b fresh
    ];
    free = subst (λ qs. new.holdings.free + need_of_all order old qs ≡ old.holdings.free + total_lost order old qs) a.plans
        (let freed : new.holdings.free ≡ now.holdings.free + total_lost order old (plans_of ws) = free_after order old now ws a.can all (pairs_clear order nodes old now ps ws told s laid own a) known in
        let need : length (fresh_of ws) ≡ need_of_all order old (plans_of ws) = need_so_far order old now ws a.ready (a.prepared told) in
        omega (arith, freed, need, a.takes.free));
  }
    where
      plan_waits : (p : Planned) → Contains ps p → (w : Waiting) × Contains ws w × (w.plan ≡ p)
      plan_waits p c = planned_waiting ws p (subst (λ qs. Contains qs p) (sym a.plans) c)

-- so they are where changes were prepared in turn and all were committed
pub changed_all : (order : Order) (nodes : Nodes) (old now : BlockState) (ps : List Planned) (ws : List Waiting) → IsTrue now.tells → IsConsistent old → AllConsistent now ws → AreLaid order old nodes → AreNodesOf nodes ps → ArePrepared order old now ps ws
    → AreChanged order nodes (with_nodes nodes ws) old (committed_all now ws) ps
changed_all order nodes old now ps ws told s all laid own a = are_changed order nodes old now ps ws told s all laid own a
