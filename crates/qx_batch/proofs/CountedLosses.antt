-- How many blocks are free once changes were committed together.
use Rattle.std.proofs.Common.{◌≡◌, ℕ, ◌+◌, List, [], ◌∷◌, ◌∙◌, ap, subst, arith}
use Rattle.std.specs.Prelude.{true, not, ◌&&◌, count_by, Contains}
use Rattle.std.proofs.lemmas.List.Sums.{sum_by-cons}
use Rattle.qx_fields.specs.declared.order.Order.{Order}
use Rattle.qx_geom.specs.Lists.{Distinct}
use Rattle.qx_geom.proofs.ImagesAndFilters.{Contains-in, in_Contains}
use Rattle.qx_geom.proofs.Members.{Contains-cons, Contains-head}
use Rattle.qx_geom.proofs.Truths.{and_left, and_right, not_true}
use Rattle.qx_nodes.specs.Visits.{Visit, visits_of}
use Rattle.qx_nodes.proofs.DistinctPositions.{node_distinct}
use Rattle.qx_blocks.specs.BlockState.{BlockState, IsConsistent}
use Rattle.qx_ptree.specs.Altered.{keeps_block, prepared_alteration}
use Rattle.qx_ptree.specs.Trees.{block_map}
use Rattle.qx_ptree.specs.WaitingChanges.{IsWaiting}
use Rattle.qx_ptree.specs.WorkState.{Preparation, committed}
use Rattle.qx_ptree.proofs.CommittedHoldings.{holds-free}
use Rattle.qx_ptree.proofs.PointerCounts.{words_positive}
use Rattle.qx_batch.specs.declared.batch.Waiting.{Waiting}
use Rattle.qx_batch.specs.Batches.{CanCommitAll, committed_all, plans_of}
use Rattle.qx_batch.specs.Changes.{plan_lost, total_lost}
use Rattle.qx_batch.proofs.CommittedBatches.{ArePairsClear, wait_all}
use Rattle.qx_batch.proofs.CommittedStates.{AllConsistent, can_rest, consistent_after}
use Rattle.qx_batch.proofs.ChangedNodes.{as_planned}
use Rattle.qx_batch.proofs.DistinctLists.{count_alike, count_same}

-- how many private blocks a change gives up
lost_before : (order : Order) (old now : BlockState) (p : Preparation) → IsWaiting order old now p → Distinct p.work.released
    → count_by (λ b. old.holdings.private b) p.work.released ≡ count_by (λ (v : Visit). old.holdings.private v.block && not (keeps_block (prepared_alteration order old p) v.level v.index)) (visits_of (block_map order old) p.node)
lost_before order old now p w d = count_same (λ (v : Visit). v.block) (λ b. old.holdings.private b) (λ (v : Visit). old.holdings.private v.block && not (keeps_block (prepared_alteration order old p) v.level v.index))
    p.work.released (visits_of (block_map order old) p.node) d
    (node_distinct (block_map order old) p.node (words_positive old.holdings.size w.node.consistent.size)) w.node.regular.apart
    there back
  where
    there : (n : ℕ) → Contains p.work.released n → old.holdings.private n ≡ true
        → (v : Visit) × Contains (visits_of (block_map order old) p.node) v × (v.block ≡ n) × ((old.holdings.private v.block && not (keeps_block (prepared_alteration order old p) v.level v.index)) ≡ true)
    there n c private =
        let at = w.prepared.released n (in_Contains p.work.released n c) in
        (at.0, at.1, at.2, λ i. (ap old.holdings.private at.2 ∙ private) i && not (at.3 i))

    back : (v : Visit) → Contains (visits_of (block_map order old) p.node) v → (old.holdings.private v.block && not (keeps_block (prepared_alteration order old p) v.level v.index)) ≡ true → Contains p.work.released v.block × (old.holdings.private v.block ≡ true)
    back v met lost = (
      Contains-in p.work.released v.block (w.prepared.lost v met (not_true (keeps_block (prepared_alteration order old p) v.level v.index) (and_right (old.holdings.private v.block) _ lost))),
      and_left (old.holdings.private v.block) _ lost,
    )

-- as many are private when its commit comes
private_still : (order : Order) (old m : BlockState) (p : Preparation) → IsWaiting order old m p → count_by (λ b. m.holdings.private b) p.work.released ≡ count_by (λ b. old.holdings.private b) p.work.released
private_still order old m p w = count_alike (λ b. m.holdings.private b) (λ b. old.holdings.private b) p.work.released (λ b c.
    let at = w.prepared.released b (in_Contains p.work.released b c) in
    subst (λ q. m.holdings.private q ≡ old.holdings.private q) at.2 (w.kept.private at.0 at.1))

-- what is known of a change, also by its plan
pub record IsKnown (order : Order) (old now : BlockState) (w : Waiting) : Type 0 where
  pub is : w.prep ≡ as_planned w
  pub waits : IsWaiting order old now w.prep
  pub distinct : Distinct w.prep.work.released

-- so many more blocks are free once all are committed
pub free_after : (order : Order) (old now : BlockState) (ws : List Waiting) → CanCommitAll now ws → AllConsistent now ws → ArePairsClear order old ws → ((w : Waiting) → Contains ws w → IsKnown order old now w)
    → (committed_all now ws).holdings.free ≡ now.holdings.free + total_lost order old (plans_of ws)
free_after order old now [] can all clear known = omega arith
free_after order old now (w ∷ ws) can all clear known =
    let m : BlockState = committed_all now ws in
    let sm : IsConsistent m = consistent_after now ws all.1 in
    let k : IsKnown order old now w = known w (Contains-head w ws) in
    let waiting : IsWaiting order old m w.prep = wait_all order old now ws w.prep (can_rest now w ws can) k.waits (λ v c. (clear.0 v c).0) in
    let before : m.holdings.free ≡ now.holdings.free + total_lost order old (plans_of ws) = free_after order old now ws (can_rest now w ws can) all.1 clear.1 (λ v c. known v (Contains-cons w v ws c)) in
    let freed : (committed m w.prep).holdings.free ≡ m.holdings.free + count_by (λ b. m.holdings.private b) w.prep.work.released = holds-free m w.prep sm k.distinct in
    let as_before : count_by (λ b. m.holdings.private b) w.prep.work.released ≡ count_by (λ b. old.holdings.private b) w.prep.work.released = private_still order old m w.prep waiting in
    let lost : count_by (λ b. old.holdings.private b) w.prep.work.released ≡ plan_lost order old w.plan = lost_before order old now (as_planned w) (subst (IsWaiting order old now) k.is k.waits) k.distinct in
    let sum : total_lost order old (w.plan ∷ plans_of ws) ≡ plan_lost order old w.plan + total_lost order old (plans_of ws) = sum_by-cons (plan_lost order old) w.plan (plans_of ws) in
    freed ∙ omega (arith, before, as_before, lost, sum)
