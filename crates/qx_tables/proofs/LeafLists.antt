-- The list of a node's present leaves, and what the paths to its leaves give.
use Rattle.std.proofs.Common.{◌≡◌, ℕ, zero, suc, ◌+◌, ◌-◌, ◌*◌, ◌/◌, ◌^◌, ◌<◌, inl, inr, List, [], ◌∷◌, ◌++◌, refl, sym, ◌∙◌, ap, subst, arith}
use Rattle.std.specs.Prelude.{Bool, true, false, ◌||◌, ◌==◌, nat_le, nat_lt, if◌then◌else◌, Contains, filter, map, slice_index_or}
use Rattle.std.proofs.lemmas.Bool.{cases_lt, eqb-true, eq-eqb, ne_eqb}
use Rattle.std.proofs.lemmas.List.Elements.{filter-append}
use Rattle.qx_geom.proofs.Members.{parts-Contains}
use Rattle.qx_geom.specs.declared.root.Root.{Root}
use Rattle.qx_geom.specs.Lists.{IsAscending, parts_below}
use Rattle.qx_geom.specs.Pointer.{absent, per_block}
use Rattle.qx_geom.proofs.ImagesAndFilters.{Contains-image}
use Rattle.qx_nodes.proofs.LeafPaths.{node_leaf_met}
use Rattle.qx_nodes.proofs.MetLeaves.{node_leaf_found, present_ascends, under_low}
use Rattle.qx_nodes.specs.BlockMap.{BlockMap, word}
use Rattle.qx_nodes.specs.Leaves.{Block, Damage, Hole, Leaf, leaf_of, leaves_below}
use Rattle.qx_nodes.specs.Visits.{IsMet, LiesBelow, Visit, is_leaf, present_of, visits_of, visits_under}
use Rattle.qx_view.proofs.AlikeLists.{filter_members, members_filter, members_map}
use Rattle.qx_pointers.specs.declared.node.LeafPlace.{LeafPlace}
use Rattle.qx_pointers.specs.Parts.{place_of}
use Rattle.qx_tables.specs.Tables.{AreLeaves}

-- the numbers of leaves
abbrev pub numbers_of : List LeafPlace → List ℕ
numbers_of leaves = map (λ (p : LeafPlace). p.index) leaves

-- ---- the list and the visits

-- the places of visits have their numbers
numbers-places : (vs : List Visit) → numbers_of (map place_of vs) ≡ map (λ (v : Visit). v.index) vs
numbers-places [] = refl
numbers-places (v ∷ vs) = ap (λ z. v.index ∷ z) (numbers-places vs)

-- the numbers of a node's present leaves
pub numbers_present : (m : BlockMap) (node : Root) (leaves : List LeafPlace) → AreLeaves m node leaves → numbers_of leaves ≡ present_of m node
numbers_present m node leaves a = ap numbers_of a.are ∙ numbers-places (filter is_leaf (visits_of m node))

-- a leaf of the list was met
listed_visit : (m : BlockMap) (node : Root) (leaves : List LeafPlace) (p : LeafPlace) → AreLeaves m node leaves → Contains leaves p → (v : Visit) × Contains (visits_of m node) v × (v.level ≡ 0) × (place_of v ≡ p)
listed_visit m node leaves p a c =
    let r : (v : Visit) × Contains (filter is_leaf (visits_of m node)) v × (place_of v ≡ p) = Contains-image place_of (filter is_leaf (visits_of m node)) p (subst (λ z. Contains z p) a.are c) in
    let q : Contains (visits_of m node) r.0 × (is_leaf r.0 ≡ true) = filter_members is_leaf (visits_of m node) r.0 r.1 in
    (r.0, q.0, eqb-true r.0.level 0 q.1, r.2)

-- a leaf that was met is in the list
visit_listed : (m : BlockMap) (node : Root) (leaves : List LeafPlace) (v : Visit) → AreLeaves m node leaves → Contains (visits_of m node) v → v.level ≡ 0 → Contains leaves (place_of v)
visit_listed m node leaves v a c z =
    subst (λ l. Contains l (place_of v)) (sym a.are) (members_map place_of (filter is_leaf (visits_of m node)) v (members_filter is_leaf (visits_of m node) v c (eq-eqb v.level 0 z)))

-- the number of a leaf of the list is one of the numbers
pub number_listed : (leaves : List LeafPlace) (p : LeafPlace) → Contains leaves p → Contains (numbers_of leaves) p.index
number_listed leaves p c = members_map (λ (q : LeafPlace). q.index) leaves p c

-- one of the numbers is that of a leaf of the list
pub listed_number : (leaves : List LeafPlace) (i : ℕ) → Contains (numbers_of leaves) i → (p : LeafPlace) × Contains leaves p × (p.index ≡ i)
listed_number leaves i c = Contains-image (λ (q : LeafPlace). q.index) leaves i c

-- ---- what the paths give

-- a leaf of the list is a block
pub leaf_listed : (m : BlockMap) (node : Root) (leaves : List LeafPlace) (p : LeafPlace) → 0 < per_block m.size → AreLeaves m node leaves → Contains leaves p → leaf_of m node p.index ≡ Block p.block
leaf_listed m node leaves p pos a c =
    let v : (v : Visit) × Contains (visits_of m node) v × (v.level ≡ 0) × (place_of v ≡ p) = listed_visit m node leaves p a c in
    subst (λ (q : LeafPlace). leaf_of m node q.index ≡ Block q.block) v.3 (node_leaf_found m node v.0 pos v.1 v.2 (a.undamaged v.0 v.1))

-- one that isn't in it is none
pub leaf_unlisted : (m : BlockMap) (node : Root) (leaves : List LeafPlace) (i : ℕ) → AreLeaves m node leaves → LiesBelow m node i → (Contains (numbers_of leaves) i → ⊥) → leaf_of m node i ≡ Hole
leaf_unlisted m node leaves i a below none = go (leaf_of m node i) (node_leaf_met m node i below)
  where
    go : (x : Leaf) → IsMet i m.count x (visits_of m node) → x ≡ Hole
    go (Block b) met = absurd (none (number_listed leaves (record { index = i; block = b }) (visit_listed m node leaves (record { level = 0; index = i; block = b }) a met refl)))
    go Hole met = refl
    go Damage met = let in_range : met.0.block < m.count = a.undamaged met.0 met.1 in absurd (omega (arith, met.2, in_range))

-- ---- leaves lie below the size

-- a leaf of the list lies below the size
pub listed_below : (m : BlockMap) (node : Root) (leaves : List LeafPlace) (p : LeafPlace) → AreLeaves m node leaves → Contains leaves p → p.index < leaves_below m node
listed_below m node leaves p a c =
    let v : (v : Visit) × Contains (visits_of m node) v × (v.level ≡ 0) × (place_of v ≡ p) = listed_visit m node leaves p a c in
    let part : ℕ → List Visit = λ j. visits_under m (leaves_below m node) node.levels j (slice_index_or node.pointers j absent) in
    let from : (j : ℕ) × (j < 16) × Contains (part j) v.0 = parts-Contains 16 part v.0 v.1 in
    subst (λ (q : LeafPlace). q.index < leaves_below m node) v.3 (under_low m (leaves_below m node) node.levels from.0 (slice_index_or node.pointers from.0 absent) v.0 from.2 v.2)

-- ---- the numbers ascend, also where a block has no room for a pointer

-- no visit of parts without leaves is a leaf
no_leaves : (n : ℕ) (f : ℕ → List Visit) → ((j : ℕ) → filter is_leaf (f j) ≡ []) → filter is_leaf (parts_below n f) ≡ []
no_leaves zero f none = refl
no_leaves (suc n) f none = filter-append is_leaf (parts_below n f) (f n) ∙ ap (λ (vs : List Visit). vs ++ filter is_leaf (f n)) (no_leaves n f none) ∙ none n

-- a root pointer
abbrev pointer_of : Root → ℕ → ℕ
pointer_of node j = slice_index_or node.pointers j absent

-- the numbers of the leaves that are met from a node's pointers, so many levels up
abbrev numbers_met : BlockMap → Root → ℕ → ℕ → List ℕ
numbers_met m node last l = map (λ (v : Visit). v.index) (filter is_leaf (parts_below 16 (λ j. visits_under m last l j (pointer_of node j))))

-- without levels it doesn't matter how large a block is
flat_ascend : (m : BlockMap) (node : Root) (last : ℕ) → IsAscending (numbers_met m node last 0)
flat_ascend m node last =
    let wide : BlockMap = record m { size = 512 } in
    let flat : Root = record node { size = last * 512; levels = 0 } in
    let as_many : leaves_below wide flat ≡ last = (let whole : (last * 512 + 512 - 1) / 512 ≡ last = omega arith in whole) in
    subst (λ n. IsAscending (numbers_met wide node n 0)) as_many (present_ascends wide flat (omega arith))

-- below a pointer block without pointers is no leaf
none_below : (m : BlockMap) (last l j p : ℕ) → per_block m.size ≡ 0 → filter is_leaf (visits_under m last (suc l) j p) ≡ []
none_below m last l j p e = go (p == absent || nat_le last (j * per_block m.size ^ suc l)) (nat_lt p m.count)
  where
    above : (suc l == 0) ≡ false
    above = ne_eqb (suc l) 0 (λ is. omega (arith, is))

    skips : (vs : List Visit) → filter is_leaf (record { level = suc l; index = j; block = p } ∷ vs) ≡ filter is_leaf vs
    skips vs = ap (λ b. if b then record { level = suc l; index = j; block = p } ∷ filter is_leaf vs else filter is_leaf vs) above

    go : (a b : Bool) → filter is_leaf (if a then [] else record { level = suc l; index = j; block = p } ∷ (if b then parts_below (per_block m.size) (λ w. visits_under m last l (j * per_block m.size + w) (word m p w)) else [])) ≡ []
    go true b = refl
    go false true =
        skips (parts_below (per_block m.size) (λ w. visits_under m last l (j * per_block m.size + w) (word m p w)))
        ∙ ap (λ k. filter is_leaf (parts_below k (λ w. visits_under m last l (j * per_block m.size + w) (word m p w)))) e
    go false false = skips []

-- so the numbers ascend there as well
small_ascend : (m : BlockMap) (node : Root) (last l : ℕ) → per_block m.size ≡ 0 → IsAscending (numbers_met m node last l)
small_ascend m node last zero e = flat_ascend m node last
small_ascend m node last (suc l) e =
    subst (λ vs. IsAscending (map (λ (v : Visit). v.index) vs)) (sym (no_leaves 16 (λ j. visits_under m last (suc l) j (pointer_of node j)) (λ j. none_below m last l j (pointer_of node j) e))) tt

-- the numbers that are met ascend
numbers_ascend : (m : BlockMap) (node : Root) → IsAscending (present_of m node)
numbers_ascend m node = elim (cases_lt 0 (per_block m.size)) [
  | inl pos ↦ present_ascends m node pos
  | inr low ↦ small_ascend m node (leaves_below m node) node.levels (omega (arith, low))
]

-- the numbers of a node's present leaves ascend
pub listed_ascend : (m : BlockMap) (node : Root) (leaves : List LeafPlace) → AreLeaves m node leaves → IsAscending (numbers_of leaves)
listed_ascend m node leaves a = subst IsAscending (sym (numbers_present m node leaves a)) (numbers_ascend m node)
