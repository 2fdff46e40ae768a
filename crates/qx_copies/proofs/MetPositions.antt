-- The positions of a node, as its present leaves have them, are those at which it meets a block.
use Rattle.std.proofs.Common.{◌≡◌, ℕ, zero, suc, ◌+◌, ◌*◌, ◌/◌, ◌^◌, ◌<◌, ◌≤◌, ◌⊎◌, inl, inr, List, [], ◌∷◌, sym, ◌∙◌, ap, subst, arith}
use Rattle.std.specs.Prelude.{Bool, true, false, not, ◌&&◌, ◌||◌, nat_le, nat_lt, ◌==◌, if◌then◌else◌, Contains, slice_index_or}
use Rattle.std.specs.List.{list_any}
use Rattle.std.proofs.lemmas.Bool.{cases_lt, eqb-true, not-false}
use Rattle.qx_geom.specs.declared.root.Root.{Root}
use Rattle.qx_geom.specs.Layout.{levels_for}
use Rattle.qx_geom.specs.Lists.{is_in, parts_below}
use Rattle.qx_geom.specs.Pointer.{absent, per_block}
use Rattle.qx_geom.specs.Positions.{HasPosition, Shape, index_above, shape_of}
use Rattle.qx_geom.proofs.ImagesAndFilters.{Contains-in, in_Contains}
use Rattle.qx_geom.proofs.LeastTouch.{has_above, leaf_below}
use Rattle.qx_geom.proofs.Members.{Contains-cases, Contains-cons, Contains-head, Contains-any, Contains-parts, any-Contains, parts-Contains}
use Rattle.qx_geom.proofs.Truths.{and_left, and_right, not_so, or_left, or_right, true_or_false}
use Rattle.qx_nodes.specs.BlockMap.{BlockMap, word}
use Rattle.qx_nodes.specs.ForeignNodes.{has_bare_block, has_leaf_below, has_strays, is_foreign_node}
use Rattle.qx_nodes.specs.Leaves.{leaves_below}
use Rattle.qx_nodes.specs.Visits.{Visit, present_of, visits_of, visits_under}
use Rattle.qx_nodes.proofs.DistinctPositions.{LiesUnder, visits_lie}
use Rattle.qx_nodes.proofs.LeafPaths.{by_one}
use Rattle.qx_nodes.proofs.MetLeaves.{leaf_member, leaf_visit}

-- a test that passes nowhere in a list passes at no member
none_member : {A : Type 0} (test : A → Bool) (xs : List A) (y : A) → list_any test xs ≡ false → Contains xs y → test y ≡ false
none_member test xs y h c = not_so (test y) (λ t. true_or_false (list_any test xs) (Contains-any test xs y c t) h)

-- ---- below one pointer

-- what is met is the pointer's own or below it, and all that stands there is met
record IsMetBelow (top : Visit) (xs whole : List Visit) (v : Visit) : Type 0 where
  pub cases : (top ≡ v) ⊎ Contains xs v
  pub all : (w : Visit) → (top ≡ w) ⊎ Contains xs w → Contains whole w

-- whatever the tests say
below_tests : (a z c : Bool) (top v : Visit) (xs : List Visit) → Contains (if a || z then [] else top ∷ (if c then xs else [])) v → (top ≡ v) ⊎ IsMetBelow top xs (if a || z then [] else top ∷ (if c then xs else [])) v
below_tests true z c top v xs h = absurd (omega (arith, h.1))
below_tests false true c top v xs h = absurd (omega (arith, h.1))
below_tests false false true top v xs h = inr (record {
  cases = Contains-cases top v xs h;
  all = λ w at. elim at [ inl is ↦ subst (λ x. Contains (top ∷ xs) x) is (Contains-head top xs) | inr there ↦ Contains-cons top w xs there ];
})
below_tests false false false top v xs h = inl (elim (Contains-cases top v [] h) [ inl is ↦ is | inr none ↦ absurd (omega (arith, none.1)) ])

-- a pointer to a leaf meets that leaf alone
leaf_test : (b : Bool) (top v : Visit) → Contains (if b then [] else top ∷ []) v → top ≡ v
leaf_test true top v h = absurd (omega (arith, h.1))
leaf_test false top v h = elim (Contains-cases top v [] h) [ inl is ↦ is | inr none ↦ absurd (omega (arith, none.1)) ]

-- no level is above the pointer's
level_low : (m : BlockMap) (last l index p : ℕ) (v : Visit) → Contains (visits_under m last l index p) v → v.level ≤ l
level_low m last zero index p v c = let is = leaf_test (p == absent || nat_le last index) (record { level = 0; index = index; block = p }) v c in let same : 0 ≡ v.level = ap (λ (z : Visit). z.level) is in omega (arith, same)
level_low m last (suc l) index p v c =
    let P : ℕ = per_block m.size in
    let part : ℕ → List Visit = λ w. visits_under m last l (index * P + w) (word m p w) in
    let top : Visit = record { level = suc l; index = index; block = p } in
    elim (below_tests (p == absent) (nat_le last (index * P ^ suc l)) (nat_lt p m.count) top v (parts_below P part) c) [
      | inl is ↦ top_level is
      | inr met ↦ elim met.cases [
        | inl is ↦ top_level is
        | inr there ↦ let from = parts-Contains P part v there in let low = level_low m last l (index * P + from.0) (word m p from.0) v from.2 in omega (arith, low)
      ]
    ]
  where
    top_level : record { level = suc l; index = index; block = p } ≡ v → v.level ≤ suc l
    top_level is = let same : suc l ≡ v.level = ap (λ (z : Visit). z.level) is in omega (arith, same)

-- some block is met at a position
record HasVisit (visits : List Visit) (k j : ℕ) : Type 0 where
  pub block : ℕ
  pub met : Contains visits (record { level = k; index = j; block = block })

-- above a leaf that is met a block is met at each level
leaf_above : (m : BlockMap) (last l index p : ℕ) (v : Visit) (k : ℕ) → k ≤ l → Contains (visits_under m last l index p) v → v.level ≡ 0 → HasVisit (visits_under m last l index p) k (index_above m.size k v.index)
leaf_above m last zero index p v k low c none =
    record { block = v.block; met = subst (λ w. Contains (visits_under m last zero index p) w) (λ i. record { level = same i; index = own i; block = v.block }) c }
  where
    same : v.level ≡ k
    same = omega (arith, low, none)

    own : v.index ≡ index_above m.size k v.index
    own = let first : 0 ≡ k = omega (arith, low) in sym (by_one v.index (per_block m.size)) ∙ ap (λ n. index_above m.size n v.index) first
leaf_above m last (suc l) index p v k low c none =
    let P : ℕ = per_block m.size in
    let part : ℕ → List Visit = λ w. visits_under m last l (index * P + w) (word m p w) in
    let top : Visit = record { level = suc l; index = index; block = p } in
    elim (below_tests (p == absent) (nat_le last (index * P ^ suc l)) (nat_lt p m.count) top v (parts_below P part) c) [
      | inl is ↦ absurd (no_leaf is)
      | inr met ↦ elim met.cases [
        | inl is ↦ absurd (no_leaf is)
        | inr there ↦
            let from : (w : ℕ) × (w < P) × Contains (part w) v = parts-Contains P part v there in
            elim (cases_lt k (suc l)) [
              | inl under ↦
                  let ih = leaf_above m last l (index * P + from.0) (word m p from.0) v k (omega (arith, under)) from.2 none in
                  record { block = ih.block; met = met.all (record { level = k; index = index_above m.size k v.index; block = ih.block }) (inr (Contains-parts P part from.0 _ from.1 ih.met)) }
              | inr above ↦
                  let lies : LiesUnder P (suc l) index v = visits_lie m last (suc l) index p v (omega (arith, from.1)) c in
                  let up : lies.up ≡ k = omega (arith, lies.level, none, above, low) in
                  let here : index ≡ index_above m.size k v.index = sym lies.index ∙ ap (λ n. v.index / P ^ n) up in
                  let level : suc l ≡ k = omega (arith, above, low) in
                  record { block = p; met = met.all (record { level = k; index = index_above m.size k v.index; block = p }) (inl (λ i. record { level = level i; index = here i; block = p })) }
            ]
      ]
    ]
  where
    no_leaf : record { level = suc l; index = index; block = p } ≡ v → ⊥
    no_leaf is = let same : suc l ≡ v.level = ap (λ (z : Visit). z.level) is in omega (arith, same, none)

-- ---- one block at a position

-- what lies below two blocks of a level makes them one
one_above : (P l i j : ℕ) (u v : Visit) → u.level ≡ v.level → u.index ≡ v.index → LiesUnder P l i u → LiesUnder P l j v → i ≡ j
one_above P l i j u v level index a b =
    let up : a.up ≡ b.up = omega (arith, a.level, b.level, level) in
    sym a.index ∙ (λ x. index x / P ^ up x) ∙ b.index

-- below a pointer block
module _ (m : BlockMap) (last l index p : ℕ) where
  abbrev P : ℕ
  P = per_block m.size

  abbrev part : ℕ → List Visit
  part w = visits_under m last l (index * P + w) (word m p w)

  abbrev top : Visit
  top = record { level = suc l; index = index; block = p }

  -- the block itself, or what its pointers lead to
  top_or_below : (v : Visit) → Contains (visits_under m last (suc l) index p) v → (top ≡ v) ⊎ Contains (parts_below P part) v
  top_or_below v c = elim (below_tests (p == absent) (nat_le last (index * P ^ suc l)) (nat_lt p m.count) top v (parts_below P part) c) [ inl is ↦ inl is | inr met ↦ met.cases ]

  -- each lies below it
  block_lies : (v : Visit) → Contains (visits_under m last (suc l) index p) v → LiesUnder P (suc l) index v
  block_lies v c = elim (top_or_below v c) [
    | inl is ↦ subst (λ z. LiesUnder P (suc l) index z) is (record { up = 0; level = omega arith; index = by_one index P })
    | inr there ↦ let from = parts-Contains P part v there in let some : from.0 < P = from.1 in visits_lie m last (suc l) index p v (omega (arith, some)) c
  ]

  -- what its pointers lead to stands on other levels
  apart_levels : (u v : Visit) → top ≡ u → u.level ≡ v.level → Contains (parts_below P part) v → ⊥
  apart_levels u v is same there =
      let from = parts-Contains P part v there in
      let low = level_low m last l (index * P + from.0) (word m p from.0) v from.2 in
      let high : suc l ≡ u.level = ap (λ (z : Visit). z.level) is in
      omega (arith, low, high, same)

  -- and below one of them
  one_part : (u v : Visit) → u.level ≡ v.level → u.index ≡ v.index → ((w : ℕ) → Contains (part w) u → Contains (part w) v → u.block ≡ v.block) → Contains (parts_below P part) u → Contains (parts_below P part) v → u.block ≡ v.block
  one_part u v level at each a b =
      let x : (w : ℕ) × (w < P) × Contains (part w) u = parts-Contains P part u a in
      let y : (w : ℕ) × (w < P) × Contains (part w) v = parts-Contains P part v b in
      let same : index * P + x.0 ≡ index * P + y.0 = one_above P l (index * P + x.0) (index * P + y.0) u v level at
      (visits_lie m last l (index * P + x.0) (word m p x.0) u (omega (arith, x.1)) x.2) (visits_lie m last l (index * P + y.0) (word m p y.0) v (omega (arith, y.1)) y.2) in
      let word_same : y.0 ≡ x.0 = omega (arith, same) in
      each x.0 x.2 (subst (λ w. Contains (part w) v) word_same y.2)

  -- one block at most, where that holds below each of its pointers
  one_block : (u v : Visit) → u.level ≡ v.level → u.index ≡ v.index → ((w : ℕ) → Contains (part w) u → Contains (part w) v → u.block ≡ v.block)
      → (top ≡ u) ⊎ Contains (parts_below P part) u → (top ≡ v) ⊎ Contains (parts_below P part) v → u.block ≡ v.block
  one_block u v level at each (inl a) (inl b) = ap (λ (z : Visit). z.block) (sym a ∙ b)
  one_block u v level at each (inl a) (inr b) = absurd (apart_levels u v a level b)
  one_block u v level at each (inr a) (inl b) = absurd (apart_levels v u b (sym level) a)
  one_block u v level at each (inr a) (inr b) = one_part u v level at each a b

-- what is met below a pointer lies below it
lies_below : (m : BlockMap) (last l index p : ℕ) (v : Visit) → Contains (visits_under m last l index p) v → LiesUnder (per_block m.size) l index v
lies_below m last zero index p v c =
    subst (λ z. LiesUnder (per_block m.size) zero index z) (leaf_test (p == absent || nat_le last index) (record { level = 0; index = index; block = p }) v c) (record { up = 0; level = omega arith; index = by_one index (per_block m.size) })
lies_below m last (suc l) index p v c = block_lies m last l index p v c

-- at a position one block at most is met
one_met : (m : BlockMap) (last l index p : ℕ) (u v : Visit) → Contains (visits_under m last l index p) u → Contains (visits_under m last l index p) v → u.level ≡ v.level → u.index ≡ v.index → u.block ≡ v.block
one_met m last zero index p u v c d level at =
    let top : Visit = record { level = 0; index = index; block = p } in
    ap (λ (z : Visit). z.block) (sym (leaf_test (p == absent || nat_le last index) top u c) ∙ leaf_test (p == absent || nat_le last index) top v d)
one_met m last (suc l) index p u v c d level at =
    one_block m last l index p u v level at (λ w a b. one_met m last l (index * per_block m.size + w) (word m p w) u v a b level at) (top_or_below m last l index p u c) (top_or_below m last l index p v d)

-- ---- of a node

module _ (m : BlockMap) (node : Root) where
  -- the shape that its size and its present leaves give
  abbrev pub own_shape : Shape
  own_shape = shape_of m.size node.size (present_of m node)

  abbrev part_at : ℕ → List Visit
  part_at j = visits_under m (leaves_below m node) node.levels j (slice_index_or node.pointers j absent)

  -- at a position one block at most is met
  pub one_visit : (u v : Visit) → Contains (visits_of m node) u → Contains (visits_of m node) v → u.level ≡ v.level → u.index ≡ v.index → u.block ≡ v.block
  one_visit u v c d level at =
      let x : (j : ℕ) × (j < 16) × Contains (part_at j) u = parts-Contains 16 part_at u c in
      let y : (j : ℕ) × (j < 16) × Contains (part_at j) v = parts-Contains 16 part_at v d in
      let same : y.0 ≡ x.0 = from_one x.0 y.0 x.2 y.2 in
      one_met m (leaves_below m node) node.levels x.0 (slice_index_or node.pointers x.0 absent) u v x.2 (subst (λ j. Contains (part_at j) v) same y.2) level at
    where
      from_one : (i j : ℕ) → Contains (part_at i) u → Contains (part_at j) v → j ≡ i
      from_one i j a b = sym (one_above (per_block m.size) node.levels i j u v level at (lies_below m (leaves_below m node) node.levels i (slice_index_or node.pointers i absent) u a)
          (lies_below m (leaves_below m node) node.levels j (slice_index_or node.pointers j absent) v b))

  module _ (plain : is_foreign_node m node ≡ false) where
    levels_are : node.levels ≡ levels_for m.size (leaves_below m node)
    levels_are = eqb-true node.levels (levels_for m.size (leaves_below m node)) (not-false (node.levels == levels_for m.size (leaves_below m node)) (or_left (not (node.levels == levels_for m.size (leaves_below m node))) (has_strays m node || has_bare_block m node) plain))

    -- where a block is met, the node has that position
    pub visit_has : (v : Visit) → Contains (visits_of m node) v → HasPosition m.size own_shape v.level v.index
    visit_has v c =
        let vs : List Visit = visits_of m node in
        let P : ℕ = per_block m.size in
        let test : Visit → Bool = λ u. (u.level == 0) && (u.index / P ^ v.level == v.index) in
        let u : (u : Visit) × Contains vs u × (test u ≡ true) = any-Contains test vs (not_bare v c) in
        let level : u.0.level ≡ 0 = eqb-true u.0.level 0 (and_left (u.0.level == 0) (u.0.index / P ^ v.level == v.index) u.2) in
        let index : u.0.index / P ^ v.level ≡ v.index = eqb-true (u.0.index / P ^ v.level) v.index (and_right (u.0.level == 0) (u.0.index / P ^ v.level == v.index) u.2) in
        let there : is_in (present_of m node) u.0.index ≡ true = in_Contains (present_of m node) u.0.index (leaf_member vs u.0 u.1 level) in
        subst (λ j. HasPosition m.size own_shape v.level j) index (has_above m.size own_shape v.level u.0.index (subst (λ l. v.level ≤ l) levels_are (low v c)) there)
      where
        low : (v : Visit) → Contains (visits_of m node) v → v.level ≤ node.levels
        low v c = let from : (j : ℕ) × (j < 16) × Contains (part_at j) v = parts-Contains 16 part_at v c in level_low m (leaves_below m node) node.levels from.0 (slice_index_or node.pointers from.0 absent) v from.2

        no_bare : has_bare_block m node ≡ false
        no_bare = or_right (has_strays m node) (has_bare_block m node) (or_right (not (node.levels == levels_for m.size (leaves_below m node))) (has_strays m node || has_bare_block m node) plain)

        not_bare : (v : Visit) → Contains (visits_of m node) v → has_leaf_below m (visits_of m node) v ≡ true
        not_bare v c = not-false (has_leaf_below m (visits_of m node) v) (none_member (λ v. not (has_leaf_below m (visits_of m node) v)) (visits_of m node) v no_bare c)

    -- and a block is met at each position that it has
    pub has_visit : (k j : ℕ) → HasPosition m.size own_shape k j → (b : ℕ) × Contains (visits_of m node) (record { level = k; index = j; block = b })
    has_visit k j has =
        let l : (k ≤ own_shape.levels) × ((i : ℕ) × (is_in (present_of m node) i ≡ true) × (index_above m.size k i ≡ j)) = leaf_below m.size own_shape k j has in
        let u : (v : Visit) × Contains (visits_of m node) v × (v.level ≡ 0) × (v.index ≡ l.1.0) = leaf_visit (visits_of m node) l.1.0 (Contains-in (present_of m node) l.1.0 l.1.1) in
        let from : (i : ℕ) × (i < 16) × Contains (part_at i) u.0 = parts-Contains 16 part_at u.0 u.1 in
        let a : HasVisit (part_at from.0) k (index_above m.size k u.0.index) = leaf_above m (leaves_below m node) node.levels from.0 (slice_index_or node.pointers from.0 absent) u.0 k
        (subst (λ n. k ≤ n) (sym levels_are) l.0) from.2 u.2 in
        let here : index_above m.size k u.0.index ≡ j = ap (λ i. index_above m.size k i) u.3 ∙ l.1.2 in
        (a.block, subst (λ i. Contains (visits_of m node) (record { level = k; index = i; block = a.block })) here (Contains-parts 16 part_at from.0 _ from.1 a.met))
