-- The private blocks that planned changes give up are those at the positions that an edit loses.
use Rattle.std.proofs.Common.{◌≡◌, ℕ, zero, suc, inl, inr, List, [], ◌∷◌, length, refl, sym, ◌∙◌, ap, subst, arith}
use Rattle.std.specs.Prelude.{Bool, true, false, not, ◌&&◌, Some, Contains, filter, flat_map, map}
use Rattle.std.proofs.lemmas.List.{length-map}
use Rattle.std.proofs.lemmas.List.Concat.{length-flat_map}
use Rattle.std.proofs.lemmas.List.Sums.{length-filter}
use Rattle.qx_fields.specs.declared.order.Order.{Order}
use Rattle.qx_geom.specs.Lists.{Distinct, is_in}
use Rattle.qx_geom.specs.Positions.{Shape}
use Rattle.qx_geom.specs.Positions as node
use Rattle.qx_geom.specs.Touch.{is_fresh}
use Rattle.qx_geom.proofs.Members.{Contains-cases}
use Rattle.qx_geom.proofs.Truths.{and_right, not_true, true_or_false}
use Rattle.qx_nodes.specs.Visits.{Visit, visits_of}
use Rattle.qx_nodes.proofs.DistinctPositions.{node_distinct}
use Rattle.qx_blocks.specs.BlockState.{BlockState}
use Rattle.qx_ptree.specs.Altered.{keeps_block as change_keeps}
use Rattle.qx_ptree.specs.Trees.{IsToldNode, block_map}
use Rattle.qx_ptree.proofs.NodePositions.{position_has, told_whole}
use Rattle.qx_batch.specs.declared.planned.Planned.{Planned}
use Rattle.qx_batch.specs.Changes.{plan_lost, total_lost}
use Rattle.qx_batch.specs.Nodes.{Nodes, owners_of}
use Rattle.qx_batch.specs.Plans.{plan_alteration}
use Rattle.qx_batch.proofs.DistinctLists.{Contains-filter, Distinct-filter, filter-Contains, image-Distinct}
use Rattle.qx_model.specs.Edits.{Edit}
use Rattle.qx_model.specs.Owners.{Owner}
use Rattle.qx_model.specs.Tree.{Tree}
use Rattle.qx_model.specs.TreePositions.{HasPosition, Position, positions_of, shape_in}
use Rattle.qx_model.specs.TreeTouch.{private_in, written_in}
use Rattle.qx_model.proofs.ListMembers.{Contains-flat_map, Contains-map, flat_map-Contains, map-Contains}
use Rattle.qx_model.proofs.SeparatePositions.{whole_distinct}
use Rattle.qx_model.proofs.TreeNodes.{listed_position, position_listed}
use Rattle.qx_copies.specs.Copies.{BlockCopy}
use Rattle.qx_copies.specs.Standing.{StandsAt}
use Rattle.qx_copies.proofs.CopyPositions.{position_stands}
use Rattle.qx_copies.proofs.MetPositions.{one_visit}
use Rattle.qx_placing.specs.Placed.{keeps_block, lost_positions}
use Rattle.qx_placing.specs.PlannedEdits.{ArePrivate, PlansEdit, owner_of_number}
use Rattle.qx_placing.proofs.AlikeTouch.{none_fresh}
use Rattle.qx_placing.proofs.NodeShapes.{meets_there, number_owner, shape_before}
use Rattle.qx_placing.proofs.OwnerSums.{sum_same}
use Rattle.qx_placing.proofs.PlannedShapes.{fresh_same}
use Rattle.qx_placing.proofs.SameMembers.{length_alike, parts_once}
use Rattle.qx_placing.proofs.StandingBlocks.{HasNumber, number_of, planned_of}

-- owners of two numbers differ
owner_once : (n q : ℕ) → owner_of_number n ≡ owner_of_number q → n ≡ q
owner_once zero zero same = refl
owner_once zero (suc j) same = absurd (cc)
owner_once (suc k) zero same = absurd (cc)
owner_once (suc k) (suc j) same = cc

-- changes of different numbers differ
plans_once : (ps : List Planned) → Distinct (owners_of ps) → Distinct ps
plans_once [] d = tt
plans_once (p ∷ ps) d = (λ c. d.0 (Contains-map (λ (q : Planned). q.owner) ps p c), plans_once ps d.1)

-- and of one number there is one
plan_once : (ps : List Planned) (p q : Planned) → Distinct (owners_of ps) → Contains ps p → Contains ps q → p.owner ≡ q.owner → p ≡ q
plan_once [] p q d a b same = absurd (omega (arith, a.1))
plan_once (x ∷ ps) p q d a b same = elim (Contains-cases x p ps a) [
  | inl is ↦ elim (Contains-cases x q ps b) [
    | inl too ↦ sym is ∙ too
    | inr later ↦ absurd (d.0 (subst (λ n. Contains (owners_of ps) n) (sym same ∙ ap (λ (z : Planned). z.owner) (sym is)) (Contains-map (λ (z : Planned). z.owner) ps q later)))
  ]
  | inr before ↦ elim (Contains-cases x q ps b) [
    | inl too ↦ absurd (d.0 (subst (λ n. Contains (owners_of ps) n) (same ∙ ap (λ (z : Planned). z.owner) (sym too)) (Contains-map (λ (z : Planned). z.owner) ps p before)))
    | inr later ↦ plan_once ps p q d.1 before later same
  ]
]

module _ (order : Order) (m : BlockState) (c : BlockCopy) (t : Tree) (nodes : Nodes) (ps : List Planned) (e : Edit) (private : Position → Bool) (pl : PlansEdit order m c t nodes ps e) (are : ArePrivate order m c private) where
  abbrev size : ℕ
  size = m.holdings.size

  -- the test of a lost position, and that of a visit that a change loses
  abbrev loses : Position → Bool
  loses q = private q && not (keeps_block size t e private q)

  abbrev change_loses : Planned → Visit → Bool
  change_loses p v = m.holdings.private v.block && not (change_keeps (plan_alteration order m p) v.level v.index)

  -- where a visit of a planned node stands
  abbrev place : Planned → Visit → Position
  place p v = record { owner = owner_of_number p.owner; level = v.level; index = v.index }

  -- the places that changes lose
  abbrev places_of : Planned → List Position
  places_of p = map (place p) (filter (change_loses p) (visits_of (block_map order m) p.node))

  abbrev places : List Position
  places = flat_map places_of ps

  places_long : length places ≡ total_lost order m ps
  places_long =
      length-flat_map places_of ps
      ∙ sum_same (λ p. length (places_of p)) (plan_lost order m) ps (λ p c. length-map (filter (change_loses p) (visits_of (block_map order m) p.node)) (place p) ∙ length-filter (change_loses p) (visits_of (block_map order m) p.node))

  -- ---- one planned node

  module _ (p : Planned) (there : Contains ps p) where
    told : IsToldNode order m p.node
    told = pl.laid.node p.owner p.node (pl.planned.is p there)

    -- a visit stands at its place
    visit_stands : (v : Visit) → Contains (visits_of (block_map order m) p.node) v → StandsAt (block_map order m) c (place p v) v.block
    visit_stands v met = record {
      node = p.node;
      is = number_owner c p.owner ∙ meets_there order m c t nodes pl.tree pl.laid pl.has p.owner p.node v (pl.planned.is p there) met;
      met = met;
    }

    -- which the tree has
    place_there : (v : Visit) → Contains (visits_of (block_map order m) p.node) v → HasPosition size t (place p v)
    place_there v met =
        subst (λ (s : Shape). node.HasPosition size s v.level v.index) (sym (shape_before order m c t nodes pl.tree pl.laid pl.has p.owner p.node (pl.planned.is p there)))
        (position_has order m p.node told v met)

    -- it is lost in the change where it is in the edit
    loses_same : (v : Visit) → Contains (visits_of (block_map order m) p.node) v → change_loses p v ≡ loses (place p v)
    loses_same v met =
        λ i. are (place p v) v.block (visit_stands v met) i
        && not (node.has_position size (sym (pl.made.shapes p there) i) v.level v.index && not (fresh_same order m c t nodes ps e private pl are p there v.level v.index i))

    -- no place of one node comes twice
    places_once : Distinct (places_of p)
    places_once =
        image-Distinct (place p) (filter (change_loses p) (visits_of (block_map order m) p.node))
        (Distinct-filter (change_loses p) (visits_of (block_map order m) p.node) (node_distinct (block_map order m) p.node (told_whole order m p.node told).words))
        (λ u v a b same. one_place u v (Contains-filter (change_loses p) (visits_of (block_map order m) p.node) u a).0 (Contains-filter (change_loses p) (visits_of (block_map order m) p.node) v b).0 same)
      where
        one_place : (u v : Visit) → Contains (visits_of (block_map order m) p.node) u → Contains (visits_of (block_map order m) p.node) v → place p u ≡ place p v → u ≡ v
        one_place u v a b same =
            let level : u.level ≡ v.level = ap (λ (q : Position). q.level) same in
            let index : u.index ≡ v.index = ap (λ (q : Position). q.index) same in
            let block : u.block ≡ v.block = one_visit (block_map order m) p.node u v a b level index in
            λ i. record { level = level i; index = index i; block = block i }

  -- its places are its owner's
  owner_at : (p : Planned) (q : Position) → Contains (places_of p) q → owner_of_number p.owner ≡ q.owner
  owner_at p q c = let a = map-Contains (place p) (filter (change_loses p) (visits_of (block_map order m) p.node)) q c in ap (λ (x : Position). x.owner) a.2

  -- ---- all

  -- whose place it is
  record IsPlaceOf (q : Position) : Type 0 where
    planned : Planned
    listed : Contains ps planned
    visit : Visit
    met : Contains (visits_of (block_map order m) planned.node) visit
    lost : change_loses planned visit ≡ true
    is : place planned visit ≡ q

  place_of : (q : Position) → Contains places q → IsPlaceOf q
  place_of q c =
      let a : (p : Planned) × Contains ps p × Contains (places_of p) q = flat_map-Contains places_of ps q c in
      let b : (v : Visit) × Contains (filter (change_loses a.0) (visits_of (block_map order m) a.0.node)) v × (place a.0 v ≡ q) = map-Contains (place a.0) (filter (change_loses a.0) (visits_of (block_map order m) a.0.node)) q a.2 in
      let f = Contains-filter (change_loses a.0) (visits_of (block_map order m) a.0.node) b.0 b.1 in
      record { planned = a.0; listed = a.1; visit = b.0; met = f.0; lost = f.1; is = b.2 }

  -- a place that changes lose is lost
  place_lost : (q : Position) → Contains places q → Contains (lost_positions size t e private) q
  place_lost q there =
      let a : IsPlaceOf q = place_of q there in
      let at : Position = place a.planned a.visit in
      subst (λ x. Contains (lost_positions size t e private) x) a.is
      (filter-Contains loses (positions_of size t) at (position_listed size t at (place_there a.planned a.listed a.visit a.met)) (sym (loses_same a.planned a.listed a.visit a.met) ∙ a.lost))

  -- a position of a node that isn't changed keeps its block
  kept_still : (n k j : ℕ) → is_in (owners_of ps) n ≡ false → HasPosition size t (record { owner = owner_of_number n; level = k; index = j }) → keeps_block size t e private (record { owner = owner_of_number n; level = k; index = j }) ≡ true
  kept_still n k j out has =
      let o : Owner = owner_of_number n in
      let there : node.has_position size (shape_in size e.tree o) k j ≡ true = ap (λ (s : Shape). node.has_position size s k j) (pl.made.others n out) ∙ has in
      let quiet : is_fresh size (shape_in size t o) (shape_in size e.tree o) (written_in o e.written) (private_in private o) k j ≡ false
      = (λ i. is_fresh size (shape_in size t o) (pl.made.others n out i) (pl.made.unwritten n out i) (private_in private o) k j) ∙ none_fresh size (shape_in size t o) (private_in private o) k j has in
      λ i. there i && not (quiet i)

  -- so a lost position is such a place
  lost_place : (q : Position) → Contains (lost_positions size t e private) q → Contains places q
  lost_place q lost = by_plan (is_in (owners_of ps) h.number) refl
    where
      f : Contains (positions_of size t) q × (loses q ≡ true)
      f = Contains-filter loses (positions_of size t) q lost

      has : HasPosition size t q
      has = listed_position size t q f.0

      st : (b : ℕ) × StandsAt (block_map order m) c q b
      st = position_stands (block_map order m) c t pl.tree pl.own q has

      h : HasNumber c q.owner st.1.node
      h = number_of c q.owner st.1.node st.1.is

      by_plan : (z : Bool) → is_in (owners_of ps) h.number ≡ z → Contains places q
      by_plan false out =
          let here : Position = record { owner = owner_of_number h.number; level = q.level; index = q.index } in
          let same : here ≡ q = λ i. record { owner = h.owner i; level = q.level; index = q.index } in
          let keeps : keeps_block size t e private q ≡ true = ap (keeps_block size t e private) (sym same) ∙ kept_still h.number q.level q.index out (subst (λ x. HasPosition size t x) (sym same) has) in
          absurd (true_or_false (keeps_block size t e private q) keeps (not_true (keeps_block size t e private q) (and_right (private q) (not (keeps_block size t e private q)) f.1)))
      by_plan true there =
          let p : (p : Planned) × Contains ps p × (p.owner ≡ h.number) = planned_of ps h.number there in
          let v : Visit = record { level = q.level; index = q.index; block = st.0 } in
          let both : Some st.1.node ≡ Some p.0.node = sym (pl.has.own h.number st.1.node h.node) ∙ ap nodes (sym p.2) ∙ pl.planned.is p.0 p.1 in
          let one : st.1.node ≡ p.0.node = cc in
          let met : Contains (visits_of (block_map order m) p.0.node) v = subst (λ x. Contains (visits_of (block_map order m) x) v) one st.1.met in
          let same : place p.0 v ≡ q = λ i. record { owner = (ap owner_of_number p.2 ∙ h.owner) i; level = q.level; index = q.index } in
          let lost : change_loses p.0 v ≡ true = loses_same p.0 p.1 v met ∙ ap loses same ∙ f.1 in
          subst (λ x. Contains places x) same
          (Contains-flat_map places_of ps p.0 (place p.0 v) p.1 (Contains-map (place p.0) (filter (change_loses p.0) (visits_of (block_map order m) p.0.node)) v (filter-Contains (change_loses p.0) (visits_of (block_map order m) p.0.node) v met lost)))

  -- as many
  pub lost_same : total_lost order m ps ≡ length (lost_positions size t e private)
  lost_same =
      sym places_long
      ∙ length_alike places (lost_positions size t e private)
      (parts_once places_of ps (plans_once ps pl.planned.owners) (λ p c. places_once p c) (λ p q b c d here there.
      plan_once ps p q pl.planned.owners c d (owner_once p.owner q.owner (owner_at p b here ∙ sym (owner_at q b there)))))
      (Distinct-filter loses (positions_of size t) (whole_distinct size t pl.own.whole)) place_lost lost_place
