-- The last leaf of a node, and the bytes past the size in it.
use Rattle.std.proofs.Common.{◌≡◌, ℕ, zero, suc, ◌+◌, ◌-◌, ◌*◌, ◌/◌, ◌%◌, ◌<◌, inl, inr, List, [], ◌∷◌, refl, sym, ◌∙◌, ap, subst, arith}
use Rattle.std.specs.Prelude.{Bool, true, false, not, ◌&&◌, ◌==◌, IsTrue, Option, Some, None, Contains, drop, min, replicate, if◌then◌else◌}
use Rattle.std.specs.List.{find}
use Rattle.std.specs.Option.{option_map}
use Rattle.std.proofs.lemmas.Bool.{eq-eqb, eqb-true}
use Rattle.std.proofs.lemmas.List.{drop-replicate}
use Rattle.std.proofs.Math.Nat.{div-mul-le_self, mul-div_cancel, mod-eq-sub-div-mul}
use Rattle.qx_geom.proofs.LevelCounts.{ceil_div-is}
use Rattle.qx_geom.proofs.Members.{Contains-cases, Contains-cons, Contains-head}
use Rattle.qx_geom.proofs.Truths.{and_left, and_right, true_or_false}
use Rattle.qx_geom.specs.declared.root.Root.{Root}
use Rattle.qx_nodes.proofs.AbsentLeaves.{absent_bytes}
use Rattle.qx_nodes.proofs.ContentLocality.{lies_below, reaches_of}
use Rattle.qx_nodes.proofs.MetLeaves.{leaf_visit, node_leaf_found}
use Rattle.qx_nodes.specs.BlockMap.{BlockMap}
use Rattle.qx_nodes.specs.Content.{HasSize, bytes_at_leaf, leaf_bytes, levels_fit}
use Rattle.qx_nodes.specs.Leaves.{leaves_below}
use Rattle.qx_nodes.specs.Visits.{LiesBelow, Visit, is_leaf, visits_of}
use Rattle.qx_view.specs.Sound.{are_zero, has_tail}
use Rattle.qx_view.proofs.HoleRecords.{are_zero-replicate}
use Rattle.qx_walk.specs.Inodes.{tail_at}
use Rattle.qx_pointers.specs.Parts.{end_of, is_end}

-- what is found is among those that were searched, and passes
found_among : {X : Type 0} (p : X → Bool) (xs : List X) (x : X) → find p xs ≡ Some x → Contains xs x × (p x ≡ true)
found_among p [] x e = absurd (cc)
found_among p (y ∷ ys) x e = go (p y) refl e (found_among p ys x)
  where
    go : (b : Bool) → p y ≡ b → (if b then Some y else find p ys) ≡ Some x → (find p ys ≡ Some x → Contains ys x × (p x ≡ true)) → Contains (y ∷ ys) x × (p x ≡ true)
    go true is h more = let same : y ≡ x = cc h in (subst (λ z. Contains (y ∷ ys) z) same (Contains-head y ys), subst (λ z. p z ≡ true) same is)
    go false is h more = let r : Contains ys x × (p x ≡ true) = more h in (Contains-cons y x ys r.0, r.1)

-- where nothing is found, none passes
none_passes : {X : Type 0} (p : X → Bool) (xs : List X) (x : X) → find p xs ≡ None → Contains xs x → p x ≡ false
none_passes p [] x e c = absurd (omega (arith, c.1))
none_passes p (y ∷ ys) x e c = go (p y) refl e (none_passes p ys x)
  where
    go : (b : Bool) → p y ≡ b → (if b then Some y else find p ys) ≡ None → (find p ys ≡ None → Contains ys x → p x ≡ false) → p x ≡ false
    go true is h more = absurd (cc)
    go false is h more = elim (Contains-cases y x ys c) [
      | inl same ↦ subst (λ z. p z ≡ false) same is
      | inr there ↦ more h there
    ]

-- a number that isn't 0
some_past : (k : ℕ) → (k == 0) ≡ false → 0 < k
some_past zero e = absurd (cc)
some_past (suc k) e = omega arith

module _ (m : BlockMap) (node : Root) (sized : HasSize m) (fit : IsTrue (levels_fit m node)) (undamaged : (v : Visit) → Contains (visits_of m node) v → v.block < m.count) where
  -- the leaf that has the size within it
  abbrev last : ℕ
  last = node.size / m.size

  abbrev past : ℕ
  past = node.size % m.size

  -- the parts of the size
  size_is : node.size ≡ last * m.size + past
  size_is = omega (arith, mod-eq-sub-div-mul node.size m.size, div-mul-le_self node.size m.size, sized.size)

  -- it is the last of the leaves below the size
  is_last : 0 < past → leaves_below m node ≡ last + 1
  is_last some = sym (ceil_div-is node.size m.size sized.size) ∙ (let one : min 1 past ≡ 1 = omega (arith, some) in ap (λ k. last + k) one)

  -- so it lies below the size
  last_below : 0 < past → LiesBelow m node last
  last_below some = subst (λ k. LiesBelow m node k) (mul-div_cancel last sized.size) (lies_below m node (last * m.size) (reaches_of m node sized fit) (omega (arith, some, size_is)))

  -- where it is present, its bytes are its block's
  block_bytes : (v : Visit) → 0 < past → find (is_end (leaves_below m node)) (visits_of m node) ≡ Some v → leaf_bytes m node last ≡ m.bytes v.block
  block_bytes v some e =
      let r : Contains (visits_of m node) v × (is_end (leaves_below m node) v ≡ true) = found_among (is_end (leaves_below m node)) (visits_of m node) v e in
      let level : v.level ≡ 0 = eqb-true v.level 0 (and_left (is_leaf v) (v.index + 1 == leaves_below m node) r.1) in
      let index : v.index + 1 ≡ leaves_below m node = eqb-true (v.index + 1) (leaves_below m node) (and_right (is_leaf v) (v.index + 1 == leaves_below m node) r.1) in
      let at : v.index ≡ last = omega (arith, index, is_last some) in
      ap (λ k. leaf_bytes m node k) (sym at) ∙ ap (λ l. bytes_at_leaf m l) (node_leaf_found m node v sized.words r.0 level (undamaged v r.0))

  -- else they are 0
  no_bytes : 0 < past → find (is_end (leaves_below m node)) (visits_of m node) ≡ None → leaf_bytes m node last ≡ replicate m.size 0
  no_bytes some e = absent_bytes m node last (last_below some) (λ c.
      let v = leaf_visit (visits_of m node) last c in
      let ends : is_end (leaves_below m node) v.0 ≡ true = (λ i. eq-eqb v.0.level 0 v.2 i && eq-eqb (v.0.index + 1) (leaves_below m node) (ap (λ k. k + 1) v.3 ∙ sym (is_last some)) i) in
      true_or_false _ ends (none_passes (is_end (leaves_below m node)) (visits_of m node) v.0 e v.1))

  -- by what is found, and whether something lies past the size
  by_end : (o : Option Visit) (b : Bool) → find (is_end (leaves_below m node)) (visits_of m node) ≡ o → (past == 0) ≡ b → tail_at m past (option_map (λ (v : Visit). v.block) o) ≡ has_tail m node
  by_end None true e is = sym (ap (λ x. not x && not (are_zero (drop past (leaf_bytes m node last)))) is)
  by_end (Some v) true e is = ap (λ x. not x && not (are_zero (drop past (m.bytes v.block)))) is ∙ sym (ap (λ x. not x && not (are_zero (drop past (leaf_bytes m node last)))) is)
  by_end None false e is = sym (ap (λ x. not x && not (are_zero (drop past (leaf_bytes m node last)))) is
      ∙ ap (λ (bs : List ℕ). not (are_zero (drop past bs))) (no_bytes (some_past past is) e)
      ∙ ap (λ (bs : List ℕ). not (are_zero bs)) (drop-replicate past m.size 0)
      ∙ ap not (are_zero-replicate (m.size - past)))
  by_end (Some v) false e is = ap (λ (bs : List ℕ). not (past == 0) && not (are_zero (drop past bs))) (sym (block_bytes v (some_past past is) e))

  -- what the end of a node says of its tail
  pub tail_is : tail_at m past (end_of (leaves_below m node) (visits_of m node)) ≡ has_tail m node
  tail_is = by_end (find (is_end (leaves_below m node)) (visits_of m node)) (past == 0) refl refl
