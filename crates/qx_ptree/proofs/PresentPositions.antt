-- The positions of a node that is as this project writes it are those whose pointers are there.
use Rattle.std.proofs.Common.{◌≡◌, ◌≢◌, ℕ, suc, ◌*◌, ◌^◌, ◌/◌, ◌<◌, ◌≤◌, inl, inr, List, [], ◌∷◌, refl, sym, ◌∙◌, ap, subst, arith}
use Rattle.std.specs.Prelude.{Bool, true, false, not, ◌&&◌, ◌||◌, ◌==◌, if◌then◌else◌, Contains, map}
use Rattle.std.specs.List.{list_any}
use Rattle.std.proofs.Math.Nat.{div-eq_of_lt, div-lt_iff_lt-mul, mul-le-mul_right, mul_comm, one-le-pow, pow-le-pow_right, pow-suc}
use Rattle.std.proofs.lemmas.Bool.{cases_lt, eq-eqb, eqb-true, le-leb, lt-leb, not-false}
use Rattle.qx_geom.specs.declared.root.Root.{Root}
use Rattle.qx_geom.specs.Lists.{is_in}
use Rattle.qx_geom.specs.Pointer.{absent, per_block}
use Rattle.qx_geom.specs.Positions.{each_once, has_position, index_above}
use Rattle.qx_geom.proofs.ImagesAndFilters.{Contains-in, any_image, each_once_from, each_once_in, image_any, image_in, in_Contains, in_image}
use Rattle.qx_geom.proofs.Members.{Contains-cases, any-Contains}
use Rattle.qx_geom.proofs.Truths.{and_left, and_right, not_so, true_or_false, same_truth}
use Rattle.qx_nodes.specs.BlockMap.{BlockMap}
use Rattle.qx_nodes.specs.ForeignNodes.{has_bare_block, has_leaf_below}
use Rattle.qx_nodes.specs.Visits.{Visit, present_of, visits_of}
use Rattle.qx_nodes.proofs.MetLeaves.{leaf_member, leaf_visit}
use Rattle.qx_ptree.specs.Alterations.{shape_in}
use Rattle.qx_ptree.specs.Parts.{has_below}
use Rattle.qx_ptree.specs.Trees.{pointer_at}
use Rattle.qx_ptree.proofs.MetPositions.{IsAt, IsMetWhole, pointer_met, visit_at}
use Rattle.qx_ptree.proofs.PointersByPosition.{leaf_up, pointer_past}

-- ---- words on lists

-- a test that passes nowhere in a list passes at no member
none_member : {A : Type 0} (test : A → Bool) (xs : List A) (y : A) → list_any test xs ≡ false → Contains xs y → test y ≡ false
none_member test [] y h c = absurd (omega (arith, c.1))
none_member test (x ∷ xs) y h c = go (test x) refl h (none_member test xs y)
  where
    go : (b : Bool) → test x ≡ b → (b || list_any test xs) ≡ false → (list_any test xs ≡ false → Contains xs y → test y ≡ false) → test y ≡ false
    go true e h more = absurd (cc)
    go false e h more = elim (Contains-cases x y xs c) [ inl is ↦ ap test (sym is) ∙ e | inr there ↦ more h there ]

-- ---- positions, by the leaves below them

-- a level's position is there where a leaf below it is
pub position_below : (m : BlockMap) (node : Root) (k j : ℕ) → k ≤ node.levels → has_position m.size (shape_in m node) k j ≡ has_below m.size (present_of m node) k j
position_below m node k j h =
    let f : ℕ → ℕ = index_above m.size k in
    let xs : List ℕ = present_of m node in
    ap (λ b. is_in (if b then each_once (map f xs) else []) j) (le-leb k node.levels h)
    ∙ same_truth (is_in (each_once (map f xs)) j) (list_any (λ i. f i == j) xs)
    (λ t. let r : (i : ℕ) × (is_in xs i ≡ true) × (f i ≡ j) = image_in f xs j (each_once_from (map f xs) j t) in any_image f j xs r.0 r.1 r.2)
    (λ t. let r : (i : ℕ) × (is_in xs i ≡ true) × (f i ≡ j) = image_any f j xs t in each_once_in (map f xs) j (subst (λ z. is_in (map f xs) z ≡ true) r.2 (in_image f xs r.0 r.1)))

-- a present leaf has a pointer
pub leaf_there : (m : BlockMap) (node : Root) (i : ℕ) → is_in (present_of m node) i ≡ true → pointer_at m node 0 i ≢ absent
leaf_there m node i t =
    let v : (v : Visit) × Contains (visits_of m node) v × (v.level ≡ 0) × (v.index ≡ i) = leaf_visit (visits_of m node) i (Contains-in (present_of m node) i t) in
    let at : IsAt m node v.0 = visit_at m node v.0 v.1 in
    λ e. at.there (at.block ∙ (λ x. pointer_at m node (v.2 x) (v.3 x)) ∙ e)

-- so has each block above it
pub below_there : (m : BlockMap) (node : Root) (k j : ℕ) → 0 < per_block m.size → k ≤ node.levels → has_below m.size (present_of m node) k j ≡ true → pointer_at m node k j ≢ absent
below_there m node k j pos h t =
    let r : (i : ℕ) × (is_in (present_of m node) i ≡ true) × (index_above m.size k i ≡ j) = image_any (index_above m.size k) j (present_of m node) t in
    subst (λ x. pointer_at m node k x ≢ absent) r.2 (leaf_up m node k r.0 pos h (leaf_there m node r.0 r.1))

-- no visit is that of a bare block
leaf_below_visit : (m : BlockMap) (node : Root) (v : Visit) → has_bare_block m node ≡ false → Contains (visits_of m node) v → has_leaf_below m (visits_of m node) v ≡ true
leaf_below_visit m node v bare c = not-false (has_leaf_below m (visits_of m node) v) (none_member (λ v. not (has_leaf_below m (visits_of m node) v)) (visits_of m node) v bare c)

-- so below what is met stands a present leaf
pub there_below : (m : BlockMap) (node : Root) (k j : ℕ) → IsMetWhole m node → has_bare_block m node ≡ false → k ≤ node.levels → pointer_at m node k j ≢ absent → has_below m.size (present_of m node) k j ≡ true
there_below m node k j w bare h there =
    let vs : List Visit = visits_of m node in
    let v : Visit = record { level = k; index = j; block = pointer_at m node k j } in
    let test : Visit → Bool = λ u. (u.level == 0) && (u.index / per_block m.size ^ k == j) in
    let u : (u : Visit) × Contains vs u × (test u ≡ true) = any-Contains test vs (leaf_below_visit m node v bare (pointer_met m node k j w h there)) in
    let level : u.0.level ≡ 0 = eqb-true u.0.level 0 (and_left (u.0.level == 0) (u.0.index / per_block m.size ^ k == j) u.2) in
    let index : u.0.index / per_block m.size ^ k ≡ j = eqb-true (u.0.index / per_block m.size ^ k) j (and_right (u.0.level == 0) (u.0.index / per_block m.size ^ k == j) u.2) in
    any_image (index_above m.size k) j (present_of m node) u.0.index (in_Contains (present_of m node) u.0.index (leaf_member vs u.0 u.1 level)) index

-- a leaf is present below a position where its pointer is there
pub below_at : (m : BlockMap) (node : Root) (k j : ℕ) → IsMetWhole m node → has_bare_block m node ≡ false → k ≤ node.levels → has_below m.size (present_of m node) k j ≡ not (pointer_at m node k j == absent)
below_at m node k j w bare h =
    elim (pointer_at m node k j == absent) as (λ b. (pointer_at m node k j == absent) ≡ b → has_below m.size (present_of m node) k j ≡ not b) [
      | true ↦ λ e. not_so (has_below m.size (present_of m node) k j) (λ t. below_there m node k j w.words h t (eqb-true (pointer_at m node k j) absent e))
      | false ↦ λ e. there_below m node k j w bare h (λ is. true_or_false (pointer_at m node k j == absent) (eq-eqb (pointer_at m node k j) absent is) e)
    ] refl

-- and so is the position
pub position_at : (m : BlockMap) (node : Root) (k j : ℕ) → IsMetWhole m node → has_bare_block m node ≡ false → k ≤ node.levels → has_position m.size (shape_in m node) k j ≡ not (pointer_at m node k j == absent)
position_at m node k j w bare h = position_below m node k j h ∙ below_at m node k j w bare h

-- above the node's levels there is no position
pub position_above : (m : BlockMap) (node : Root) (k j : ℕ) → node.levels < k → has_position m.size (shape_in m node) k j ≡ false
position_above m node k j h = ap (λ b. is_in (if b then each_once (map (index_above m.size k) (present_of m node)) else []) j) (lt-leb k node.levels h)

-- ---- how far the leaves reach

-- the present leaves are those that the node's levels reach
pub leaf_reached : (m : BlockMap) (node : Root) (i : ℕ) → IsMetWhole m node → is_in (present_of m node) i ≡ true → i / per_block m.size ^ node.levels < 16
leaf_reached m node i w t =
    let top : ℕ = i / per_block m.size ^ node.levels in
    elim (cases_lt top 16) [ inl h ↦ h | inr h ↦ absurd (leaf_up m node node.levels i w.words (omega arith) (leaf_there m node i t) (pointer_past m node top w.long h)) ]

-- so above its levels they all lie below the first block
pub first_above : (P l k i : ℕ) → 16 ≤ P → l < k → i / P ^ l < 16 → i / P ^ k ≡ 0
first_above P l k i words h low =
    let some : 0 < P ^ l = one-le-pow l P (omega arith) in
    let more : P ^ suc l ≤ P ^ k = pow-le-pow_right {n = P} (omega arith) h in
    let step : P ^ suc l ≡ P ^ l * P = pow-suc P l in
    let room : 16 * P ^ l ≤ P * P ^ l = mul-le-mul_right (P ^ l) words in
    let within : i < 16 * P ^ l = (div-lt_iff_lt-mul some).0 low in
    div-eq_of_lt (omega (arith, mul_comm P (P ^ l)))

-- and no leaf lies below another one
pub none_above : (m : BlockMap) (node : Root) (k j : ℕ) → IsMetWhole m node → 16 ≤ per_block m.size → node.levels < k → j ≢ 0 → has_below m.size (present_of m node) k j ≡ false
none_above m node k j w words h other =
    not_so (has_below m.size (present_of m node) k j) (λ t.
    let r : (i : ℕ) × (is_in (present_of m node) i ≡ true) × (index_above m.size k i ≡ j) = image_any (index_above m.size k) j (present_of m node) t in
    other (sym r.2 ∙ first_above (per_block m.size) node.levels k r.0 words h (leaf_reached m node r.0 w r.1)))
