-- The touched positions of a tree are those of its nodes.
use Rattle.std.proofs.Common.{◌≡◌, ℕ, ◌↔◌, ◌⊎◌, inl, inr, refl, sym, subst}
use Rattle.std.specs.Prelude.{Bool, true, false, not, ◌&&◌, ◌||◌, Contains}
use Rattle.qx_geom.proofs.Truths.{and_left, and_right, not_so, not_true, true_or_false}
use Rattle.qx_geom.proofs.LeastTouch.{test_is_least}
use Rattle.qx_geom.specs.Touch as node
use Rattle.qx_model.specs.Tree.{Tree}
use Rattle.qx_model.specs.Owners.{Owner}
use Rattle.qx_model.specs.Edits.{Edit}
use Rattle.qx_model.specs.TreePositions.{HasPosition, Position, has_position, shape_in}
use Rattle.qx_model.specs.TreeTouch.{IsTouched, WritesPresent, fresh_positions, is_touched, lost_child, new_position, touched_child, written_in, written_leaf}
use Rattle.qx_model.proofs.TreeNodes.{fresh_listed, listed_fresh}

module _ (blocksize : ℕ) (old : Tree) (e : Edit) where
  -- touched in its node
  abbrev NodeTouched : Owner → ℕ → ℕ → Type 0
  NodeTouched o k j = node.IsTouched blocksize (shape_in blocksize old o) (shape_in blocksize e.tree o) (written_in o e.written) k j

  -- the least set of the tree has what that of the node has
  from_node : (o : Owner) {k j : ℕ} → NodeTouched o k j → IsTouched blocksize old e (record { owner = o; level = k; index = j })
  from_node o (node.written_leaf h w) = written_leaf h refl w
  from_node o (node.new_position h n) = new_position h n
  from_node o (node.lost_child {k} {j} c h i was gone) = lost_child k c h refl i was gone
  from_node o (node.touched_child {k} {j} c h i t) = touched_child k c h refl i (from_node o t)

  -- and no more
  to_node : {p : Position} → IsTouched blocksize old e p → NodeTouched p.owner p.level p.index
  to_node (written_leaf {p} h zero w) =
      subst (λ k. NodeTouched p.owner k p.index) (sym zero) (node.written_leaf (subst (λ k. HasPosition blocksize e.tree (record { owner = p.owner; level = k; index = p.index })) zero h) w)
  to_node (new_position {p} h n) = node.new_position h n
  to_node (lost_child {p} k c h above i was gone) =
      subst (λ l. NodeTouched p.owner l p.index) (sym above)
      (node.lost_child c (subst (λ l. HasPosition blocksize e.tree (record { owner = p.owner; level = l; index = p.index })) above h) i was gone)
  to_node (touched_child {p} k c h above i t) =
      subst (λ l. NodeTouched p.owner l p.index) (sym above)
      (node.touched_child c (subst (λ l. HasPosition blocksize e.tree (record { owner = p.owner; level = l; index = p.index })) above h) i (to_node t))

  -- the test decides it
  pub tree_test : WritesPresent blocksize e → (p : Position) → HasPosition blocksize e.tree p → IsTouched blocksize old e p ↔ (is_touched blocksize old e p ≡ true)
  tree_test present p h =
      let test = test_is_least blocksize (shape_in blocksize old p.owner) (shape_in blocksize e.tree p.owner) (written_in p.owner e.written) (present p.owner) p.level p.index h in
      ((λ t. test.0 (to_node t)), (λ b. from_node p.owner (test.1 b)))

  -- what takes a fresh block is new, or touched and not private
  module _ (private : Position → Bool) where
    by_test : (p : Position) → (has : Bool) → has_position blocksize old p ≡ has → (not has || (is_touched blocksize old e p && not (private p))) ≡ true
        → ¬ (HasPosition blocksize old p) ⊎ ((is_touched blocksize old e p ≡ true) × (private p ≡ false))
    by_test p true is h = inr (and_left (is_touched blocksize old e p) (not (private p)) h, not_true (private p) (and_right (is_touched blocksize old e p) (not (private p)) h))
    by_test p false is h = inl (λ there. true_or_false (has_position blocksize old p) there is)

    -- and these are all that take one
    pub fresh_cases : (p : Position) → Contains (fresh_positions blocksize old e private) p
        → HasPosition blocksize e.tree p × (¬ (HasPosition blocksize old p) ⊎ ((is_touched blocksize old e p ≡ true) × (private p ≡ false)))
    fresh_cases p c = let r = listed_fresh blocksize old e private p c in (r.0, by_test p (has_position blocksize old p) refl r.1)

    new_or_touched : (p : Position) → HasPosition blocksize e.tree p → ¬ (HasPosition blocksize old p) ⊎ ((is_touched blocksize old e p ≡ true) × (private p ≡ false)) → Contains (fresh_positions blocksize old e private) p
    new_or_touched p h (inl new) =
        let none = not_so (has_position blocksize old p) new in
        fresh_listed blocksize old e private p h (λ i. not (none i) || (is_touched blocksize old e p && not (private p)))
    new_or_touched p h (inr (t, shared)) = fresh_listed blocksize old e private p h (or_true (not (has_position blocksize old p)) (λ i. t i && not (shared i)))
      where
        or_true : (a : Bool) {b : Bool} → b ≡ true → (a || b) ≡ true
        or_true true h = refl
        or_true false h = h

    -- the fresh positions are those of the least set that are new or not private
    pub tree_fresh : WritesPresent blocksize e → (p : Position)
        → Contains (fresh_positions blocksize old e private) p ↔ (IsTouched blocksize old e p × (¬ (HasPosition blocksize old p) ⊎ (private p ≡ false)))
    tree_fresh present p = (to, from)
      where
        with_touch : HasPosition blocksize e.tree p → ¬ (HasPosition blocksize old p) ⊎ ((is_touched blocksize old e p ≡ true) × (private p ≡ false))
            → IsTouched blocksize old e p × (¬ (HasPosition blocksize old p) ⊎ (private p ≡ false))
        with_touch h (inl new) = (new_position h new, inl new)
        with_touch h (inr (t, shared)) = ((tree_test present p h).1 t, inr shared)

        to : Contains (fresh_positions blocksize old e private) p → IsTouched blocksize old e p × (¬ (HasPosition blocksize old p) ⊎ (private p ≡ false))
        to c = let r = fresh_cases p c in with_touch r.0 r.1

        there : {q : Position} → IsTouched blocksize old e q → HasPosition blocksize e.tree q
        there (written_leaf h zero w) = h
        there (new_position h n) = h
        there (lost_child k c h above i was gone) = h
        there (touched_child k c h above i t) = h

        from : IsTouched blocksize old e p × (¬ (HasPosition blocksize old p) ⊎ (private p ≡ false)) → Contains (fresh_positions blocksize old e private) p
        from (t, inl new) = new_or_touched p (there t) (inl new)
        from (t, inr shared) = new_or_touched p (there t) (inr ((tree_test present p (there t)).0 t, shared))
