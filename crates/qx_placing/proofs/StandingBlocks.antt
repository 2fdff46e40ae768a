-- At the positions of an edited tree stand fresh blocks, or those that stood there.
use Rattle.std.proofs.Common.{◌≡◌, ℕ, zero, suc, List, refl, sym, ◌∙◌, ap, subst}
use Rattle.std.specs.Prelude.{Bool, true, false, ◌||◌, Option, Some, None, IsTrue, Contains}
use Rattle.qx_fields.specs.declared.order.Order.{Order}
use Rattle.qx_geom.specs.declared.root.Root.{Root}
use Rattle.qx_geom.specs.Lists.{is_in}
use Rattle.qx_geom.specs.Positions.{HasPosition, Shape}
use Rattle.qx_geom.specs.Touch.{is_fresh}
use Rattle.qx_geom.proofs.ImagesAndFilters.{Contains-in}
use Rattle.qx_geom.proofs.Truths.{true_or_false}
use Rattle.qx_nodes.specs.Visits.{Visit, visits_of}
use Rattle.qx_blocks.specs.BlockState.{BlockState}
use Rattle.qx_ptree.specs.Altered.{takes_fresh}
use Rattle.qx_ptree.specs.Trees.{block_map}
use Rattle.qx_ptree.proofs.MetPositions.{visit_at}
use Rattle.qx_ptree.proofs.NodePositions.{position_has}
use Rattle.qx_batch.specs.declared.planned.Planned.{Planned}
use Rattle.qx_batch.specs.Nodes.{Nodes, owners_of}
use Rattle.qx_batch.specs.Plans.{plan_alteration}
use Rattle.qx_model.specs.Edits.{Edit}
use Rattle.qx_model.specs.Owners.{OfFurther, OfInode, OfInodes, OfLongfile, Owner}
use Rattle.qx_model.specs.Tree.{Tree}
use Rattle.qx_model.specs.TreePositions.{Position, shape_in}
use Rattle.qx_model.specs.TreeTouch.{private_in, written_in}
use Rattle.qx_model.proofs.ListMembers.{map-Contains}
use Rattle.qx_copies.specs.Copies.{BlockCopy, node_in}
use Rattle.qx_copies.specs.Standing.{StandsAt, node_of_owner}
use Rattle.qx_placing.specs.MovedNodes.{IsEdited, IsMovedNode, IsStillNode}
use Rattle.qx_placing.specs.Placed.{block_at, block_in}
use Rattle.qx_placing.specs.PlannedEdits.{ArePrivate, owner_of_number}
use Rattle.qx_placing.proofs.AlikeTouch.{none_fresh}
use Rattle.qx_placing.proofs.NodeShapes.{meets_there, number_owner, shape_before}
use Rattle.qx_placing.proofs.PlannedShapes.{fresh_same}

-- the number of an owner that has a node
pub record HasNumber (c : BlockCopy) (o : Owner) (x : Root) : Type 0 where
  pub number : ℕ
  pub owner : owner_of_number number ≡ o
  pub node : node_in c number ≡ Some x

pub number_of : (c : BlockCopy) (o : Owner) (x : Root) → node_of_owner c o ≡ Some x → HasNumber c o x
number_of c OfInodes x is = absurd (cc)
number_of c OfLongfile x is = record { number = 0; owner = refl; node = is }
number_of c (OfFurther k) x is = absurd (cc)
number_of c (OfInode zero) x is = absurd (cc)
number_of c (OfInode (suc k)) x is = record { number = suc k; owner = refl; node = is }

-- the planned change of a number that has one
pub planned_of : (ps : List Planned) (n : ℕ) → is_in (owners_of ps) n ≡ true → (p : Planned) × Contains ps p × (p.owner ≡ n)
planned_of ps n h = map-Contains (λ (p : Planned). p.owner) ps n (Contains-in (owners_of ps) n h)

module _ (order : Order) (m n : BlockState) (c d : BlockCopy) (t : Tree) (nodes after : Nodes) (ps : List Planned) (e : Edit) (private : Position → Bool)
    (ed : IsEdited order m n c d t nodes after ps e) (are : ArePrivate order m c private) where
  -- a position of an owner's node takes a fresh block
  abbrev pub takes : Owner → ℕ → ℕ → Bool
  takes o k j = is_fresh m.holdings.size (shape_in m.holdings.size t o) (shape_in m.holdings.size e.tree o) (written_in o e.written) (private_in private o) k j

  -- what stands at a position of the edited tree, where it takes a fresh block and where it doesn't
  pub record Stands (o : Owner) (k j b : ℕ) : Type 0 where
    pub fresh : takes o k j ≡ true → (m.holdings.held b ≡ false) × IsTrue (n.holdings.private b)
    pub stays : takes o k j ≡ false → StandsAt (block_map order m) c (record { owner = o; level = k; index = j }) b × (n.holdings.private b ≡ private_in private o k j)

  -- what was met in a node stood at a position of the copy
  stood : (q k j b : ℕ) (x : Root) → nodes q ≡ Some x → Contains (visits_of (block_map order m) x) (record { level = k; index = j; block = b })
      → StandsAt (block_map order m) c (record { owner = owner_of_number q; level = k; index = j }) b
  stood q k j b x at met = record {
    node = x;
    is = number_owner c q ∙ meets_there order m c t nodes ed.plans.tree ed.plans.laid ed.plans.has q x (record { level = k; index = j; block = b }) at met;
    met = met;
  }

  -- in a node that was changed
  in_moved : (p : Planned) (x : Root) (k j b : ℕ) → Contains ps p → after p.owner ≡ Some x → Contains (visits_of (block_map order n) x) (record { level = k; index = j; block = b }) → Stands (owner_of_number p.owner) k j b
  in_moved p x k j b there at met =
      let v : Visit = record { level = k; index = j; block = b } in
      let g : IsMovedNode order m n p (after p.owner) = ed.moved.moved p there in
      let both : Some x ≡ Some g.root = sym at ∙ g.is in
      let one : x ≡ g.root = cc in
      let here : Contains (visits_of (block_map order n) g.root) v = subst (λ y. Contains (visits_of (block_map order n) y) v) one met in
      let same : takes_fresh (plan_alteration order m p) k j ≡ takes (owner_of_number p.owner) k j = fresh_same order m c t nodes ps e private ed.plans are p there k j in
      record {
        fresh = λ f. (g.fresh v here (same ∙ f), g.private v here ∙ ap (λ z. z || m.holdings.private b) (same ∙ f));
        stays = λ f.
            let stand = stood p.owner k j b p.node (ed.plans.planned.is p there) (g.stays v here (same ∙ f)) in
            (stand, g.private v here ∙ ap (λ z. z || m.holdings.private b) (same ∙ f) ∙ are (record { owner = owner_of_number p.owner; level = k; index = j }) b stand);
      }

  -- in one that wasn't
  in_still : (q : ℕ) (x : Root) (k j b : ℕ) → is_in (owners_of ps) q ≡ false → after q ≡ Some x → Contains (visits_of (block_map order n) x) (record { level = k; index = j; block = b }) → Stands (owner_of_number q) k j b
  in_still q x k j b out at met = by_node (nodes q) refl
    where
      by_node : (o : Option Root) → nodes q ≡ o → Stands (owner_of_number q) k j b
      by_node None is = let both : None ≡ Some x = sym (ed.moved.none q is) ∙ at in absurd (cc)
      by_node (Some y) is =
          let v : Visit = record { level = k; index = j; block = b } in
          let g : IsStillNode order m n y (after q) = ed.moved.still q y is out in
          let both : Some x ≡ Some y = sym at ∙ g.is in
          let one : x ≡ y = cc in
          let here : Contains (visits_of (block_map order m) y) v = subst (λ vs. Contains vs v) g.visits (subst (λ z. Contains (visits_of (block_map order n) z) v) one met) in
          let size : ℕ = m.holdings.size in
          let o : Owner = owner_of_number q in
          let has : HasPosition size (shape_in size t o) k j
          = subst (λ (s : Shape). HasPosition size s k j) (sym (shape_before order m c t nodes ed.plans.tree ed.plans.laid ed.plans.has q y is)) (position_has order m y (ed.plans.laid.node q y is) v here) in
          let quiet : takes o k j ≡ false
          = (λ i. is_fresh size (shape_in size t o) (ed.plans.made.others q out i) (ed.plans.made.unwritten q out i) (private_in private o) k j) ∙ none_fresh size (shape_in size t o) (private_in private o) k j has in
          let stand = stood q k j b y is here in
          record {
            fresh = λ f. absurd (true_or_false (takes o k j) f quiet);
            stays = λ f. (stand, g.private v here ∙ are (record { owner = o; level = k; index = j }) b stand);
          }

  -- in any
  in_number : (q : ℕ) (x : Root) (k j b : ℕ) → after q ≡ Some x → Contains (visits_of (block_map order n) x) (record { level = k; index = j; block = b }) → Stands (owner_of_number q) k j b
  in_number q x k j b at met = by_plan (is_in (owners_of ps) q) refl
    where
      by_plan : (z : Bool) → is_in (owners_of ps) q ≡ z → Stands (owner_of_number q) k j b
      by_plan false out = in_still q x k j b out at met
      by_plan true there =
          let p : (p : Planned) × Contains ps p × (p.owner ≡ q) = planned_of ps q there in
          subst (λ r. Stands (owner_of_number r) k j b) p.2 (in_moved p.0 x k j b p.1 (ap after p.2 ∙ at) met)

  -- at any position of the new copy
  pub stands_so : (p : Position) (b : ℕ) → StandsAt (block_map order n) d p b → Stands p.owner p.level p.index b
  stands_so p b s =
      let h : HasNumber d p.owner s.node = number_of d p.owner s.node s.is in
      subst (λ o. Stands o p.level p.index b) h.owner (in_number h.number s.node p.level p.index b (ed.has.own h.number s.node h.node) s.met)

-- the block at a position is the one that stands there
pub at_position : (order : Order) (n : BlockState) (d : BlockCopy) (p : Position) (b : ℕ) → StandsAt (block_map order n) d p b → block_at (block_map order n) d p ≡ b
at_position order n d p b s =
    let v : Visit = record { level = p.level; index = p.index; block = b } in
    ap (λ o. block_in (block_map order n) o p.level p.index) s.is ∙ sym (visit_at (block_map order n) s.node v s.met).block
