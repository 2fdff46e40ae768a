-- The leaves that a node meets are those that the paths give, in ascending order.
use Rattle.std.proofs.Common.{◌≡◌, ℕ, zero, suc, ◌+◌, ◌*◌, ◌/◌, ◌%◌, ◌^◌, ◌<◌, ◌≤◌, inl, inr, List, [], ◌∷◌, ◌++◌, refl, sym, ◌∙◌, ap, subst, arith, ◌≢◌}
use Rattle.std.specs.Prelude.{Bool, true, false, ◌||◌, nat_le, nat_lt, ◌==◌, if◌then◌else◌, Contains, map, filter, slice_index_or}
use Rattle.std.proofs.lemmas.Bool.{leb-false, eqb-true, eq-eqb, cases_lt}
use Rattle.std.proofs.lemmas.Nat.{mod-mul-add, le-div}
use Rattle.std.proofs.Math.Nat.{div-mul-le_self}
use Rattle.qx_nodes.proofs.ContentLocality.{pow_above}
use Rattle.std.proofs.lemmas.List.Elements.{Contains-append_cases}
use Rattle.qx_geom.specs.declared.root.Root.{Root}
use Rattle.qx_geom.proofs.Members.{Contains-cases, Contains-cons, Contains-head, parts-Contains}
use Rattle.qx_geom.proofs.Truths.{not_so}
use Rattle.qx_geom.specs.Lists.{IsAscending, parts_below}
use Rattle.qx_geom.specs.Pointer.{absent, per_block}
use Rattle.qx_nodes.proofs.DistinctPositions.{LiesUnder, visits_lie}
use Rattle.qx_nodes.specs.BlockMap.{BlockMap, word}
use Rattle.qx_nodes.specs.Leaves.{Block, Damage, Hole, Leaf, leaf_of, leaf_under, leaves_below}
use Rattle.qx_nodes.specs.Visits.{Visit, is_leaf, present_of, visits_of, visits_under}

-- a pointer to a leaf that is met, whatever the tests say
met_pointer : (a b k : Bool) (index p n : ℕ) (v : Visit) → nat_lt p n ≡ k → Contains (if a || b then [] else record { level = 0; index = index; block = p } ∷ []) v → v.block < n
    → (if a then Hole else if k then Block p else Damage) ≡ Block v.block
met_pointer true b k index p n v e c h = absurd (omega (arith, c.1))
met_pointer false true k index p n v e c h = absurd (omega (arith, c.1))
met_pointer false false true index p n v e c h =
    elim (Contains-cases (record { level = 0; index = index; block = p }) v [] c) [ inl is ↦ ap (λ (z : Visit). Block z.block) is | inr none ↦ absurd (omega (arith, none.1)) ]
met_pointer false false false index p n v e c h =
    elim (Contains-cases (record { level = 0; index = index; block = p }) v [] c) [
      | inl is ↦ let same : p ≡ v.block = ap (λ (z : Visit). z.block) is in absurd (omega (arith, leb-false (suc p) n e))
      | inr none ↦ absurd (omega (arith, none.1))
    ]

-- a pointer to a block of a level above, whatever the tests say
met_below : (a b k : Bool) (top v : Visit) (xs : List Visit) (x : Leaf) → (top.level ≡ v.level → ⊥) → Contains (if a || b then [] else top ∷ (if k then xs else [])) v → (Contains xs v → x ≡ Block v.block)
    → (if a then Hole else if k then x else Damage) ≡ Block v.block
met_below true b k top v xs x apart c more = absurd (omega (arith, c.1))
met_below false true k top v xs x apart c more = absurd (omega (arith, c.1))
met_below false false true top v xs x apart c more = elim (Contains-cases top v xs c) [ inl is ↦ absurd (apart (ap (λ (z : Visit). z.level) is)) | inr there ↦ more there ]
met_below false false false top v xs x apart c more = elim (Contains-cases top v [] c) [ inl is ↦ absurd (apart (ap (λ (z : Visit). z.level) is)) | inr none ↦ absurd (omega (arith, none.1)) ]

-- above a leaf stands the block below which it lies
leaf_lies : (P l top : ℕ) (v : Visit) → v.level ≡ 0 → LiesUnder P l top v → v.index / P ^ l ≡ top
leaf_lies P l top v z u = let up : l ≡ u.up = omega (arith, u.level) in ap (λ k. v.index / P ^ k) up ∙ u.index

-- a leaf that is met below a pointer is what the path gives
pub leaf_found : (m : BlockMap) (last l index p : ℕ) (v : Visit) → 0 < per_block m.size → Contains (visits_under m last l index p) v → v.level ≡ 0 → v.block < m.count → leaf_under m l p v.index ≡ Block v.block
leaf_found m last zero index p v pos c z h = met_pointer (p == absent) (nat_le last index) (nat_lt p m.count) index p m.count v refl c h
leaf_found m last (suc l) index p v pos c z h =
    let P : ℕ = per_block m.size in
    let part : ℕ → List Visit = λ w. visits_under m last l (index * P + w) (word m p w) in
    met_below (p == absent) (nat_le last (index * P ^ suc l)) (nat_lt p m.count) (record { level = suc l; index = index; block = p }) v (parts_below P part) _ (λ e. omega (arith, e, z)) c
    (λ there.
    let from : (w : ℕ) × (w < P) × Contains (part w) v = parts-Contains P part v there in
    let at : v.index / P ^ l ≡ index * P + from.0 = leaf_lies P l (index * P + from.0) v z (visits_lie m last l (index * P + from.0) (word m p from.0) v pos from.2) in
    let way : v.index / P ^ l % P ≡ from.0 = ap (λ k. k % P) at ∙ mod-mul-add index P from.0 from.1 in
    subst (λ k. leaf_under m l (word m p k) v.index ≡ Block v.block) (sym way) (leaf_found m last l (index * P + from.0) (word m p from.0) v pos from.2 z h))

-- so is one that is met in a node
pub node_leaf_found : (m : BlockMap) (node : Root) (v : Visit) → 0 < per_block m.size → Contains (visits_of m node) v → v.level ≡ 0 → v.block < m.count → leaf_of m node v.index ≡ Block v.block
node_leaf_found m node v pos c z h =
    let part : ℕ → List Visit = λ j. visits_under m (leaves_below m node) node.levels j (slice_index_or node.pointers j absent) in
    let from : (j : ℕ) × (j < 16) × Contains (part j) v = parts-Contains 16 part v c in
    let at : v.index / per_block m.size ^ node.levels ≡ from.0 = leaf_lies (per_block m.size) node.levels from.0 v z (visits_lie m (leaves_below m node) node.levels from.0 (slice_index_or node.pointers from.0 absent) v pos from.2) in
    subst (λ j. leaf_under m node.levels (slice_index_or node.pointers j absent) v.index ≡ Block v.block) (sym at) (leaf_found m (leaves_below m node) node.levels from.0 (slice_index_or node.pointers from.0 absent) v pos from.2 z h)

-- ---- the present leaves

-- the numbers of the leaves among visits
abbrev leaves_in : List Visit → List ℕ
leaves_in visits = map (λ v. v.index) (filter is_leaf visits)

-- those of lists end to end
leaves-append : (vs ws : List Visit) → leaves_in (vs ++ ws) ≡ leaves_in vs ++ leaves_in ws
leaves-append [] ws = refl
leaves-append (v ∷ vs) ws = go (is_leaf v) (leaves-append vs ws)
  where
    go : (b : Bool) → leaves_in (vs ++ ws) ≡ leaves_in vs ++ leaves_in ws → map (λ (x : Visit). x.index) (if b then v ∷ filter is_leaf (vs ++ ws) else filter is_leaf (vs ++ ws)) ≡ map (λ (x : Visit). x.index) (if b then v ∷ filter is_leaf vs else filter is_leaf vs) ++ leaves_in ws
    go true e = ap (λ z. v.index ∷ z) e
    go false e = e

-- a block above the leaves is none of them
leaves-above : (v : Visit) (vs : List Visit) → is_leaf v ≡ false → leaves_in (v ∷ vs) ≡ leaves_in vs
leaves-above v vs e = ap (λ b. map (λ (x : Visit). x.index) (if b then v ∷ filter is_leaf vs else filter is_leaf vs)) e

-- a present leaf was met
pub leaf_visit : (vs : List Visit) (k : ℕ) → Contains (leaves_in vs) k → (v : Visit) × Contains vs v × (v.level ≡ 0) × (v.index ≡ k)
leaf_visit [] k c = absurd (omega (arith, c.1))
leaf_visit (v ∷ vs) k c = go (is_leaf v) refl c (leaf_visit vs k)
  where
    go : (b : Bool) → is_leaf v ≡ b → Contains (map (λ (x : Visit). x.index) (if b then v ∷ filter is_leaf vs else filter is_leaf vs)) k → (Contains (leaves_in vs) k → (w : Visit) × Contains vs w × (w.level ≡ 0) × (w.index ≡ k)) → (w : Visit) × Contains (v ∷ vs) w × (w.level ≡ 0) × (w.index ≡ k)
    go true e c more = elim (Contains-cases v.index k (leaves_in vs) c) [
      | inl is ↦ (v, Contains-head v vs, eqb-true v.level 0 e, is)
      | inr there ↦ let r : (w : Visit) × Contains vs w × (w.level ≡ 0) × (w.index ≡ k) = more there in (r.0, Contains-cons v r.0 vs r.1, r.2, r.3)
    ]
    go false e c more = let r : (w : Visit) × Contains vs w × (w.level ≡ 0) × (w.index ≡ k) = more c in (r.0, Contains-cons v r.0 vs r.1, r.2, r.3)

-- a leaf that was met is present
pub leaf_member : (vs : List Visit) (v : Visit) → Contains vs v → v.level ≡ 0 → Contains (leaves_in vs) v.index
leaf_member [] v c z = absurd (omega (arith, c.1))
leaf_member (w ∷ vs) v c z = elim (Contains-cases w v vs c) [
  | inl is ↦ subst (λ b. Contains (map (λ (x : Visit). x.index) (if b then w ∷ filter is_leaf vs else filter is_leaf vs)) v.index) (sym (eq-eqb w.level 0 (ap (λ (q : Visit). q.level) is ∙ z))) (subst (λ k. Contains (w.index ∷ leaves_in vs) k) (ap (λ (q : Visit). q.index) is) (Contains-head w.index (leaves_in vs)))
  | inr there ↦ more (is_leaf w) (leaf_member vs v there z)
]
  where
    more : (b : Bool) → Contains (leaves_in vs) v.index → Contains (map (λ (x : Visit). x.index) (if b then w ∷ filter is_leaf vs else filter is_leaf vs)) v.index
    more true c = Contains-cons w.index v.index (leaves_in vs) c
    more false c = c

-- ascending lists end to end, the second above the first
pub ascending-append : (xs ys : List ℕ) → IsAscending xs → IsAscending ys → ((x y : ℕ) → Contains xs x → Contains ys y → x < y) → IsAscending (xs ++ ys)
ascending-append [] ys a b above = b
ascending-append (x ∷ xs) ys a b above =
    (λ y c. elim (Contains-append_cases xs ys y c) [ inl l ↦ a.0 y l | inr r ↦ above x y (Contains-head x xs) r ], ascending-append xs ys a.1 b (λ z y c d. above z y (Contains-cons x z xs c) d))

-- the leaves of parts ascend where those of each do, and those of each lie above those of the ones before
ascending-parts : (n : ℕ) (f : ℕ → List Visit) → ((k : ℕ) → k < n → IsAscending (leaves_in (f k))) → ((k j x y : ℕ) → k < j → j < n → Contains (leaves_in (f k)) x → Contains (leaves_in (f j)) y → x < y) → IsAscending (leaves_in (parts_below n f))
ascending-parts zero f each above = tt
ascending-parts (suc n) f each above =
    subst IsAscending (sym (leaves-append (parts_below n f) (f n)))
    (ascending-append (leaves_in (parts_below n f)) (leaves_in (f n)) (ascending-parts n f (λ k h. each k (omega arith)) (λ k j x y lt h c d. above k j x y lt (omega arith) c d)) (each n (omega arith))
    (λ x y c d.
    let v : (v : Visit) × Contains (parts_below n f) v × (v.level ≡ 0) × (v.index ≡ x) = leaf_visit (parts_below n f) x c in
    let from : (k : ℕ) × (k < n) × Contains (f k) v.0 = parts-Contains n f v.0 v.1 in
    above from.0 n x y from.1 (omega arith) (subst (λ z. Contains (leaves_in (f from.0)) z) v.3 (leaf_member (f from.0) v.0 from.2 v.2)) d))

-- leaves below a lesser block come before those below a greater one
leaf_order : (P l i j x y : ℕ) → 0 < P → x / P ^ l ≡ i → y / P ^ l ≡ j → i < j → x < y
leaf_order P l i j x y pos a b lt = elim (cases_lt x y) [ inl h ↦ h | inr h ↦ let le : y / P ^ l ≤ x / P ^ l = le-div (y / P ^ l) x (P ^ l) (pow_above P l pos) (omega (arith, div-mul-le_self y (P ^ l))) in absurd (omega (arith, le, a, b)) ]

-- unless a test holds
ascending_unless : (b : Bool) (vs : List Visit) → IsAscending (leaves_in vs) → IsAscending (leaves_in (if b then [] else vs))
ascending_unless true vs a = tt
ascending_unless false vs a = a

-- if a test holds
ascending_if : (b : Bool) (vs : List Visit) → IsAscending (leaves_in vs) → IsAscending (leaves_in (if b then vs else []))
ascending_if true vs a = a
ascending_if false vs a = tt

-- the parts below one pointer block, or below a node, ascend
parts_ascend : (m : BlockMap) (last l n from : ℕ) (p : ℕ → ℕ) → 0 < per_block m.size → ((w : ℕ) → w < n → IsAscending (leaves_in (visits_under m last l (from + w) (p w)))) → IsAscending (leaves_in (parts_below n (λ w. visits_under m last l (from + w) (p w))))
parts_ascend m last l n from p pos each = ascending-parts n (λ w. visits_under m last l (from + w) (p w)) each (λ k j x y lt h c d.
    let v : (v : Visit) × Contains (visits_under m last l (from + k) (p k)) v × (v.level ≡ 0) × (v.index ≡ x) = leaf_visit (visits_under m last l (from + k) (p k)) x c in
    let w : (v : Visit) × Contains (visits_under m last l (from + j) (p j)) v × (v.level ≡ 0) × (v.index ≡ y) = leaf_visit (visits_under m last l (from + j) (p j)) y d in
    let a : x / per_block m.size ^ l ≡ from + k = subst (λ z. z / per_block m.size ^ l ≡ from + k) v.3 (leaf_lies (per_block m.size) l (from + k) v.0 v.2 (visits_lie m last l (from + k) (p k) v.0 pos v.1)) in
    let b : y / per_block m.size ^ l ≡ from + j = subst (λ z. z / per_block m.size ^ l ≡ from + j) w.3 (leaf_lies (per_block m.size) l (from + j) w.0 w.2 (visits_lie m last l (from + j) (p j) w.0 pos w.1)) in
    leaf_order (per_block m.size) l (from + k) (from + j) x y pos a b (omega (arith, lt)))

-- the leaves that are met below a pointer ascend
pub visits_ascend : (m : BlockMap) (last l index p : ℕ) → 0 < per_block m.size → IsAscending (leaves_in (visits_under m last l index p))
visits_ascend m last zero index p pos = ascending_unless (p == absent || nat_le last index) (record { level = 0; index = index; block = p } ∷ []) (λ y c. absurd (omega (arith, c.1)), tt)
visits_ascend m last (suc l) index p pos =
    let P : ℕ = per_block m.size in
    let below : List Visit = parts_below P (λ w. visits_under m last l (index * P + w) (word m p w)) in
    let top : Visit = record { level = suc l; index = index; block = p } in
    let above : is_leaf top ≡ false = not_so (suc l == 0) (λ t. let e : suc l ≡ 0 = eqb-true (suc l) 0 t in omega (arith, e)) in
    ascending_unless (p == absent || nat_le last (index * P ^ suc l)) (top ∷ (if nat_lt p m.count then below else []))
    (subst IsAscending (sym (leaves-above top (if nat_lt p m.count then below else []) above)) (ascending_if (nat_lt p m.count) below (parts_ascend m last l P (index * P) (λ w. word m p w) pos (λ w h. visits_ascend m last l (index * P + w) (word m p w) pos))))

-- so do those that a node meets
pub present_ascends : (m : BlockMap) (node : Root) → 0 < per_block m.size → IsAscending (present_of m node)
present_ascends m node pos = parts_ascend m (leaves_below m node) node.levels 16 0 (λ j. slice_index_or node.pointers j absent) pos (λ j h. visits_ascend m (leaves_below m node) node.levels (0 + j) (slice_index_or node.pointers j absent) pos)

-- a leaf that is met, whatever the tests say
leaf_low : (a : Bool) (last : ℕ) (z : Bool) (top v : Visit) → z ≡ nat_le last top.index → Contains (if a || z then [] else top ∷ []) v → v.index < last
leaf_low true last z top v is c = absurd (omega (arith, c.1))
leaf_low false last true top v is c = absurd (omega (arith, c.1))
leaf_low false last false top v is c = elim (Contains-cases top v [] c) [ inl same ↦ subst (λ (x : Visit). x.index < last) same (leb-false last top.index (sym is)) | inr none ↦ absurd (omega (arith, none.1)) ]

-- or one below a block
block_low : (a z k : Bool) (top v : Visit) (xs : List Visit) → top.level ≢ v.level → Contains (if a || z then [] else top ∷ (if k then xs else [])) v → Contains xs v
block_low true z k top v xs apart c = absurd (omega (arith, c.1))
block_low false true k top v xs apart c = absurd (omega (arith, c.1))
block_low false false true top v xs apart c = elim (Contains-cases top v xs c) [ inl is ↦ absurd (apart (ap (λ (z : Visit). z.level) is)) | inr there ↦ there ]
block_low false false false top v xs apart c = elim (Contains-cases top v [] c) [ inl is ↦ absurd (apart (ap (λ (z : Visit). z.level) is)) | inr none ↦ absurd (omega (arith, none.1)) ]

-- a leaf that is met below a pointer lies below the size
pub under_low : (m : BlockMap) (last l index p : ℕ) (v : Visit) → Contains (visits_under m last l index p) v → v.level ≡ 0 → v.index < last
under_low m last zero index p v c none = leaf_low (p == absent) last (nat_le last index) (record { level = zero; index = index; block = p }) v refl c
under_low m last (suc l) index p v c none =
    let P : ℕ = per_block m.size in
    let part : ℕ → List Visit = λ w. visits_under m last l (index * P + w) (word m p w) in
    let there : Contains (parts_below P part) v = block_low (p == absent) (nat_le last (index * P ^ suc l)) (nat_lt p m.count) (record { level = suc l; index = index; block = p }) v (parts_below P part) (λ e. omega (arith, e, none)) c in
    let from : (w : ℕ) × (w < P) × Contains (part w) v = parts-Contains P part v there in
    under_low m last l (index * P + from.0) (word m p from.0) v from.2 none
