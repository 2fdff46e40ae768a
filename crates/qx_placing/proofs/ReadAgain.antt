-- The ids of an edited tree are read as the blocks at its positions.
use Rattle.std.proofs.Common.{◌≡◌, ℕ, ◌+◌, ◌<◌, inl, inr, List, refl, sym, ◌∙◌, ap, subst, arith}
use Rattle.std.specs.Prelude.{true, false, not, Option, Some, None, IsTrue, Contains}
use Rattle.std.proofs.lemmas.Option.{get_or_from_slice_get}
use Rattle.qx_fields.specs.declared.order.Order.{Order}
use Rattle.qx_geom.specs.Lists.{is_in}
use Rattle.qx_geom.proofs.ImagesAndFilters.{Contains-in, in_Contains}
use Rattle.qx_geom.proofs.Members.{in_append_cases, in_left, in_right}
use Rattle.qx_geom.proofs.Truths.{not_so, true_or_false}
use Rattle.qx_blocks.specs.BlockState.{BlockState, IsConsistent}
use Rattle.qx_ptree.specs.Trees.{block_map}
use Rattle.qx_batch.specs.declared.planned.Planned.{Planned}
use Rattle.qx_batch.specs.Nodes.{AreAllMet, IsMet, Nodes}
use Rattle.qx_model.specs.Edits.{Edit}
use Rattle.qx_model.specs.IdReadings.{HasFrozenId, HasId, IsFresh, IsInSnapshots, IsPlaced, IsReading, IsUsed, ReadsPlaced}
use Rattle.qx_model.specs.Ids.{HasFrozenIdsBelow, HasIds}
use Rattle.qx_model.specs.Machine.{Copy, Frozen, Machine}
use Rattle.qx_model.specs.Space.{durable_ids, fresh_in, id_by, ids_of, ids_of_frozen, is_private, snapshot_ids, with_edit}
use Rattle.qx_model.specs.TreePositions.{HasPosition, Position, positions_of}
use Rattle.qx_model.specs.TreeTouch.{fresh_positions, rank_in}
use Rattle.qx_model.proofs.ListMembers.{Contains-map, map-Contains}
use Rattle.qx_model.proofs.SamePositions.{rank_in-get, rank_in-lt, rank_in-member}
use Rattle.qx_model.proofs.TreeNodes.{listed_fresh, listed_position, position_listed, was_there}
use Rattle.qx_copies.specs.Copies.{BlockCopy, node_in}
use Rattle.qx_copies.specs.Standing.{RepresentsIds, StandsAt}
use Rattle.qx_copies.proofs.CopyPositions.{ids_placed, one_stands, position_stands, stands_position}
use Rattle.qx_placing.specs.MovedNodes.{IsEdited, KeepsShared}
use Rattle.qx_placing.specs.Placed.{IsReadAs, block_at}
use Rattle.qx_placing.specs.PlannedEdits.{owner_of_number}
use Rattle.qx_placing.proofs.EditedCopies.{met_stands, stands_held, stands_once}
use Rattle.qx_placing.proofs.EditedPositions.{stands_fresh, stands_still}
use Rattle.qx_placing.proofs.StandingBlocks.{at_position}

-- ---- ids in snapshots

-- a copy's id is listed
id_listed : (blocksize : ℕ) (c : Copy) (i : ℕ) → HasId blocksize c i → is_in (ids_of blocksize c) i ≡ true
id_listed blocksize c i u = subst (λ x. is_in (ids_of blocksize c) x ≡ true) u.2 (in_Contains (ids_of blocksize c) (c.ids u.0) (Contains-map c.ids (positions_of blocksize c.tree) u.0 (position_listed blocksize c.tree u.0 u.1)))

listed_id : (blocksize : ℕ) (c : Copy) (i : ℕ) → is_in (ids_of blocksize c) i ≡ true → HasId blocksize c i
listed_id blocksize c i h =
    let r : (p : Position) × Contains (positions_of blocksize c.tree) p × (c.ids p ≡ i) = map-Contains c.ids (positions_of blocksize c.tree) i (Contains-in (ids_of blocksize c) i h) in
    (r.0, listed_position blocksize c.tree r.0 r.1, r.2)

frozen_listed : (blocksize : ℕ) (o : Option Frozen) (i : ℕ) → HasFrozenId blocksize o i → is_in (ids_of_frozen blocksize o) i ≡ true
frozen_listed blocksize None i u = absurd u
frozen_listed blocksize (Some f) i u = id_listed blocksize f.snapshot.copy i u

listed_frozen : (blocksize : ℕ) (o : Option Frozen) (i : ℕ) → is_in (ids_of_frozen blocksize o) i ≡ true → HasFrozenId blocksize o i
listed_frozen blocksize None i h = absurd (cc)
listed_frozen blocksize (Some f) i h = listed_id blocksize f.snapshot.copy i h

-- so is one of a snapshot, and no other
pub snapshot_listed : (s : Machine) (i : ℕ) → IsInSnapshots s i → is_in (snapshot_ids s) i ≡ true
snapshot_listed s i (inl u) = in_right (ids_of_frozen s.volume.blocksize s.frozen) (durable_ids s) i (id_listed s.volume.blocksize s.durable.copy i u)
snapshot_listed s i (inr u) = in_left (ids_of_frozen s.volume.blocksize s.frozen) (durable_ids s) i (frozen_listed s.volume.blocksize s.frozen i u)

pub listed_snapshot : (s : Machine) (i : ℕ) → is_in (snapshot_ids s) i ≡ true → IsInSnapshots s i
listed_snapshot s i h = elim (in_append_cases (ids_of_frozen s.volume.blocksize s.frozen) (durable_ids s) i h) [
  | inl u ↦ inr (listed_frozen s.volume.blocksize s.frozen i u)
  | inr u ↦ inl (listed_id s.volume.blocksize s.durable.copy i u)
]

-- each is below the next one
frozen_below : (blocksize next : ℕ) (o : Option Frozen) (i : ℕ) → HasFrozenIdsBelow blocksize o next → HasFrozenId blocksize o i → i < next
frozen_below blocksize next None i below u = absurd u
frozen_below blocksize next (Some f) i below u = subst (λ x. x < next) u.2 (below.below u.0 u.1)

pub snapshot_below : (s : Machine) (i : ℕ) → HasIds s → IsInSnapshots s i → i < s.next_id
snapshot_below s i ids (inl u) = subst (λ x. x < s.next_id) u.2 (ids.durable.below u.0 u.1)
snapshot_below s i ids (inr u) = frozen_below s.volume.blocksize s.next_id s.frozen i ids.frozen u

-- so a new id is none of theirs
pub new_apart : (s : Machine) (k : ℕ) → HasIds s → is_in (snapshot_ids s) (s.next_id + k) ≡ false
new_apart s k ids = not_so (is_in (snapshot_ids s) (s.next_id + k)) (λ t. let low = snapshot_below s (s.next_id + k) ids (listed_snapshot s (s.next_id + k) t) in omega (arith, low))

-- ---- an edit

-- what has a rank is listed
pub ranked : (xs : List Position) (p : Position) (k : ℕ) → rank_in xs p ≡ Some k → Contains xs p
ranked xs p k is = (k, rank_in-lt xs p k is, get_or_from_slice_get xs k p p (rank_in-get xs p k is))

module _ (order : Order) (m n : BlockState) (c d : BlockCopy) (nodes after : Nodes) (ps : List Planned) (e : Edit) (s : Machine) (block : ℕ → ℕ) (ed : IsEdited order m n c d s.working.tree nodes after ps e)
    (same : s.volume.blocksize ≡ m.holdings.size) where
  -- the block at a position of the edited tree
  pub stands_new : (p : Position) → HasPosition s.volume.blocksize e.tree p → StandsAt (block_map order n) d p (block_at (block_map order n) d p)
  stands_new p h =
      let has : HasPosition n.holdings.size e.tree p = subst (λ size. HasPosition size e.tree p) (same ∙ sym ed.moved.size) h in
      let at : (b : ℕ) × StandsAt (block_map order n) d p b = position_stands (block_map order n) d e.tree ed.tree ed.own p has in
      subst (λ b. StandsAt (block_map order n) d p b) (sym (at_position order n d p at.0 at.1)) at.1

  -- the ids are read as these blocks
  pub ids_again : (r : ReadsPlaced s e block (block_at (block_map order n) d)) → RepresentsIds (block_map order n) d (with_edit e s).working r.later
  ids_again r = ids_placed (block_map order n) d (with_edit e s).working r.later ed.tree ed.own (λ p has.
      let h : HasPosition s.volume.blocksize e.tree p = subst (λ size. HasPosition size e.tree p) (ed.moved.size ∙ sym same) has in
      subst (λ b. StandsAt (block_map order n) d p b) (r.read p h) (stands_new p h))

  module _ (ra : IsReadAs order m c s block) where
    -- fresh positions over the machine's blocks and over these
    fresh_here : (p : Position) → Contains (fresh_in s e) p → Contains (fresh_positions m.holdings.size s.working.tree e (is_private s)) p
    fresh_here p there = subst (λ size. Contains (fresh_positions size s.working.tree e (is_private s)) p) same there

    not_fresh_here : (p : Position) → rank_in (fresh_in s e) p ≡ None → ¬ (Contains (fresh_positions m.holdings.size s.working.tree e (is_private s)) p)
    not_fresh_here p unranked there = rank_in-member (fresh_in s e) p (subst (λ size. Contains (fresh_positions size s.working.tree e (is_private s)) p) (sym same) there) unranked

    fresh_there : (p : Position) → IsFresh s e p → HasPosition s.volume.blocksize e.tree p
    fresh_there p f = (listed_fresh s.volume.blocksize s.working.tree e (is_private s) p (ranked (fresh_in s e) p f.0 f.1)).0

    -- no tree held a fresh one's block
    unheld : (p : Position) → IsFresh s e p → m.holdings.held (block_at (block_map order n) d p) ≡ false
    unheld p f =
        (stands_fresh order m n c d s.working.tree nodes after ps e (is_private s) ed ra.private p (block_at (block_map order n) d p) (stands_new p (fresh_there p f)) (fresh_here p (ranked (fresh_in s e) p f.0 f.1))).0

    -- the blocks are placed as the machine asks
    pub placed : IsPlaced s e block (block_at (block_map order n) d)
    placed = record {
      others_stay = λ p h unranked.
          let still = stands_still order m n c d s.working.tree nodes after ps e (is_private s) ed ra.private p (block_at (block_map order n) d p) (stands_new p h) (not_fresh_here p unranked) in
          let was : HasPosition m.holdings.size s.working.tree p = subst (λ size. HasPosition size s.working.tree p) same (was_there s.volume.blocksize s.working.tree e (is_private s) p h unranked) in
          one_stands (block_map order m) c p (block_at (block_map order n) d p) (block (s.working.ids p)) still.0 (ra.ids.placed p was);
      fresh_unheld = λ p i f used is. true_or_false (m.holdings.held (block i)) (ra.held i used) (ap m.holdings.held (sym is) ∙ unheld p f);
      fresh_apart = λ p q f g is.
          stands_once order n d e.tree ed.tree p q (block_at (block_map order n) d p) (block_at (block_map order n) d q) (stands_new p (fresh_there p f)) (stands_new q (fresh_there q g)) is;
    }

    -- ---- and the machine says again where the blocks are

    module _ (ids : HasIds s) (apart : IsReading s block) (all : AreAllMet order m (node_in c)) (keeps : KeepsShared m n) (r : ReadsPlaced s e block (block_at (block_map order n) d)) where
      consistent : IsConsistent m
      consistent = (ed.plans.laid.node 0 c.longfile (ed.plans.has.own 0 c.longfile refl)).consistent

      -- a block of a snapshot isn't the working tree's alone
      snapshot_shared : (i : ℕ) → IsInSnapshots s i → m.holdings.private (block i) ≡ false
      snapshot_shared i u = not_so (m.holdings.private (block i)) (λ t.
          let met : IsMet order m (node_in c) (block i) = all (block i) (consistent.private_works (block i) t) in
          let p : Position = record { owner = owner_of_number met.number; level = met.visit.level; index = met.visit.index } in
          let st : StandsAt (block_map order m) c p (block i) = met_stands order m c (block i) met in
          let has : HasPosition m.holdings.size s.working.tree p = stands_position (block_map order m) c s.working.tree ed.plans.tree ed.plans.own p (block i) st in
          let blocks : block i ≡ block (s.working.ids p) = one_stands (block_map order m) c p (block i) (block (s.working.ids p)) st (ra.ids.placed p has) in
          let one : i ≡ s.working.ids p = apart i (s.working.ids p) (inr u) (inl (p, subst (λ size. HasPosition size s.working.tree p) (sym same) has, refl)) blocks in
          let listed : is_in (snapshot_ids s) (s.working.ids p) ≡ true = subst (λ x. is_in (snapshot_ids s) x ≡ true) one (snapshot_listed s i u) in
          true_or_false (m.holdings.private (block i)) t (ra.private p (block i) st ∙ ap not listed))

      -- so it is held still
      snapshot_held : (i : ℕ) → IsInSnapshots s i → IsTrue (n.holdings.held (r.later i))
      snapshot_held i u = ap n.holdings.held (r.agrees i (snapshot_below s i ids u)) ∙ keeps.held (block i) (ra.held i (inr u)) (snapshot_shared i u)

      used_held : (i : ℕ) → IsUsed (with_edit e s) i → IsTrue (n.holdings.held (r.later i))
      used_held i (inl u) =
          subst (λ x. IsTrue (n.holdings.held (r.later x))) u.2
          (subst (λ b. IsTrue (n.holdings.held b)) (r.read u.0 u.1) (stands_held order m n c d s.working.tree nodes after ps e ed u.0 (block_at (block_map order n) d u.0) (stands_new u.0 u.1)))
      used_held i (inr u) = snapshot_held i u

      private_by : (p : Position) (b : ℕ) (o : Option ℕ) → StandsAt (block_map order n) d p b → rank_in (fresh_in s e) p ≡ o → n.holdings.private b ≡ not (is_in (snapshot_ids s) (id_by s.next_id o (s.working.ids p)))
      private_by p b None st is = (stands_still order m n c d s.working.tree nodes after ps e (is_private s) ed ra.private p b st (not_fresh_here p is)).1
      private_by p b (Some k) st is =
          (stands_fresh order m n c d s.working.tree nodes after ps e (is_private s) ed ra.private p b st (fresh_here p (ranked (fresh_in s e) p k is))).1 ∙ sym (ap not (new_apart s k ids))

      pub read_again : IsReadAs order n d (with_edit e s) r.later
      read_again = record {
        size = same ∙ sym ed.moved.size;
        ids = ids_again r;
        held = used_held;
        private = λ p b st. private_by p b (rank_in (fresh_in s e) p) st refl;
      }
