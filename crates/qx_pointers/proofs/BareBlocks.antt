-- A node's pointer blocks with no present leaf, by the recursion over its pointers.
use Rattle.std.proofs.Common.{◌≡◌, ℕ, zero, suc, ◌+◌, ◌*◌, ◌/◌, ◌^◌, ◌<◌, inl, inr, List, [], ◌∷◌, refl, sym, ◌∙◌, ap, subst, arith}
use Rattle.std.specs.Prelude.{Bool, true, false, not, ◌||◌, ◌&&◌, ◌==◌, nat_le, nat_lt, if◌then◌else◌, Contains, slice_index_or}
use Rattle.std.specs.List.{list_any}
use Rattle.std.proofs.lemmas.Bool.{eq-eqb, eqb-true}
use Rattle.std.proofs.lemmas.List.Folds.{list_any-append}
use Rattle.std.proofs.lemmas.Nat.{div-mul-add}
use Rattle.qx_geom.proofs.Members.{Contains-cases, Contains-cons, Contains-parts, parts-Contains, Contains-any, any-Contains}
use Rattle.qx_geom.proofs.Truths.{and_left, and_right, not_so, same_truth}
use Rattle.qx_geom.specs.Lists.{each_below, parts_below}
use Rattle.qx_geom.specs.Pointer.{absent, per_block}
use Rattle.qx_geom.specs.declared.root.Root.{Root}
use Rattle.qx_nodes.proofs.DistinctPositions.{LiesUnder, visits_lie, above_one}
use Rattle.qx_nodes.specs.BlockMap.{BlockMap, word}
use Rattle.qx_nodes.specs.Leaves.{leaves_below}
use Rattle.qx_nodes.specs.Visits.{Visit, is_leaf, visits_of, visits_under}
use Rattle.qx_nodes.specs.ForeignNodes.{has_bare_block, has_leaf_below}
use Rattle.qx_pointers.proofs.PointerVisits.{any_alike, block_at}
use Rattle.qx_pointers.proofs.SeenParts.{any_more}
use Rattle.qx_pointers.specs.Parts.{has_bare_under, leaf_at}

-- ---- some elements

-- some element of parts is one of some part
any_parts : {A : Type 0} (test : A → Bool) (n : ℕ) (f : ℕ → List A) → list_any test (parts_below n f) ≡ list_any (λ w. list_any test (f w)) (each_below n (λ w. w))
any_parts test zero f = refl
any_parts test (suc n) f = list_any-append test (parts_below n f) (f n) ∙ ap (λ b. b || list_any test (f n)) (any_parts test n f) ∙ sym (any_more n (λ w. list_any test (f w)))

-- ---- what lies below a block

-- these of all visits are those at block `index` of a level and below it; all the leaves below it are among them
record Covers (P : ℕ) (all part : List Visit) (level index : ℕ) : Type 0 where
  pub inside : (v : Visit) → Contains part v → Contains all v
  pub lies : (v : Visit) → Contains part v → LiesUnder P level index v
  pub whole : (v : Visit) → Contains all v → v.level ≡ 0 → v.index / P ^ level ≡ index → Contains part v

-- a leaf lies so many levels below
leaf_lies : (P level index : ℕ) (v : Visit) → v.level ≡ 0 → LiesUnder P level index v → v.index / P ^ level ≡ index
leaf_lies P level index v leaf u = ap (λ k. v.index / P ^ k) (omega (arith, leaf, u.level)) ∙ u.index

-- a block has a leaf below it if there is one among these
leaf_below : (m : BlockMap) (all part : List Visit) (level index p : ℕ) → Covers (per_block m.size) all part level index → has_leaf_below m all (block_at level index p) ≡ list_any is_leaf part
leaf_below m all part level index p covers =
    let P : ℕ = per_block m.size in
    let test : Visit → Bool = λ u. (u.level == 0) && (u.index / P ^ level == index) in
    same_truth (list_any test all) (list_any is_leaf part)
    (λ t. let found : (x : Visit) × Contains all x × (test x ≡ true) = any-Contains test all t in
    let leaf : is_leaf found.0 ≡ true = and_left (found.0.level == 0) (found.0.index / P ^ level == index) found.2 in
    Contains-any is_leaf part found.0 (covers.whole found.0 found.1 (eqb-true found.0.level 0 leaf) (eqb-true (found.0.index / P ^ level) index (and_right (found.0.level == 0) (found.0.index / P ^ level == index) found.2))) leaf)
    (λ t. let found : (x : Visit) × Contains part x × (is_leaf x ≡ true) = any-Contains is_leaf part t in
    Contains-any test all found.0 (covers.inside found.0 found.1)
    (ap (λ b. b && (found.0.index / P ^ level == index)) found.2 ∙ eq-eqb (found.0.index / P ^ level) index (leaf_lies P level index found.0 (eqb-true found.0.level 0 found.2) (covers.lies found.0 found.1))))

module _ (m : BlockMap) (last : ℕ) (pos : 0 < per_block m.size) (all : List Visit) where
  -- what lies below one pointer of a block
  part_at : (l index p : ℕ) (w : ℕ) → w < per_block m.size
      → Covers (per_block m.size) all (block_at (suc l) index p ∷ parts_below (per_block m.size) (λ w. visits_under m last l (index * per_block m.size + w) (word m p w))) (suc l) index
      → Covers (per_block m.size) all (visits_under m last l (index * per_block m.size + w) (word m p w)) l (index * per_block m.size + w)
  part_at l index p w below covers =
      let P : ℕ = per_block m.size in
      let part : ℕ → List Visit = λ w. visits_under m last l (index * P + w) (word m p w) in
      let top : Visit = block_at (suc l) index p in
      record {
        inside = λ v c. covers.inside v (Contains-cons top v (parts_below P part) (Contains-parts P part w v below c));
        lies = λ v c. visits_lie m last l (index * P + w) (word m p w) v pos c;
        whole = λ v c leaf at.
            let up : v.index / P ^ suc l ≡ index = above_one v.index P l (index * P + w) at ∙ div-mul-add index P w below in
            elim (Contains-cases top v (parts_below P part) (covers.whole v c leaf up)) [
              | inl is ↦ absurd (let e : suc l ≡ 0 = ap (λ (z : Visit). z.level) is ∙ leaf in omega (arith, e))
              | inr there ↦
                  let from : (k : ℕ) × (k < P) × Contains (part k) v = parts-Contains P part v there in
                  let place : v.index / P ^ l ≡ index * P + from.0 = leaf_lies P l (index * P + from.0) v leaf (visits_lie m last l (index * P + from.0) (word m p from.0) v pos from.2) in
                  let same : from.0 ≡ w = omega (arith, place, at) in
                  subst (λ k. Contains (part k) v) same from.2
            ];
      }

  -- no leaf stands below this visit
  abbrev lacks : Visit → Bool
  lacks v = not (has_leaf_below m all v)

  -- the bare blocks below a pointer
  bare_under : (l index p : ℕ) → Covers (per_block m.size) all (visits_under m last l index p) l index → list_any lacks (visits_under m last l index p) ≡ has_bare_under m last l index p
  bare_under zero index p covers = go (p == absent || nat_le last index) covers
    where
      go : (c : Bool) → Covers (per_block m.size) all (if c then [] else leaf_at index p ∷ []) 0 index → list_any lacks (if c then [] else leaf_at index p ∷ []) ≡ false
      go true covers = refl
      go false covers = ap (λ b. not b || false) (leaf_below m all (leaf_at index p ∷ []) 0 index p covers)
  bare_under (suc l) index p covers = go (p == absent || nat_le last (index * per_block m.size ^ suc l)) (nat_lt p m.count) covers (λ w. bare_under l (index * per_block m.size + w) (word m p w))
    where
      parts : List Visit
      parts = parts_below (per_block m.size) (λ w. visits_under m last l (index * per_block m.size + w) (word m p w))

      below : Bool
      below = list_any (λ w. has_bare_under m last l (index * per_block m.size + w) (word m p w)) (each_below (per_block m.size) (λ w. w))

      go : (c d : Bool) → Covers (per_block m.size) all (if c then [] else block_at (suc l) index p ∷ (if d then parts else [])) (suc l) index
          → ((w : ℕ) → Covers (per_block m.size) all (visits_under m last l (index * per_block m.size + w) (word m p w)) l (index * per_block m.size + w) → list_any lacks (visits_under m last l (index * per_block m.size + w) (word m p w)) ≡ has_bare_under m last l (index * per_block m.size + w) (word m p w))
          → list_any lacks (if c then [] else block_at (suc l) index p ∷ (if d then parts else []))
          ≡ (if c then false else not (list_any is_leaf (if c then [] else block_at (suc l) index p ∷ (if d then parts else []))) || below)
      go true d covers lower = refl
      go false true covers lower =
          let own : has_leaf_below m all (block_at (suc l) index p) ≡ list_any is_leaf (block_at (suc l) index p ∷ parts) = leaf_below m all (block_at (suc l) index p ∷ parts) (suc l) index p covers in
          let rest : list_any lacks parts ≡ below =
          any_parts lacks (per_block m.size) (λ w. visits_under m last l (index * per_block m.size + w) (word m p w))
          ∙ any_alike (per_block m.size) (λ w. list_any lacks (visits_under m last l (index * per_block m.size + w) (word m p w))) (λ w. has_bare_under m last l (index * per_block m.size + w) (word m p w))
          (λ w h. lower w (part_at l index p w h covers)) in
          λ i. not (own i) || rest i
      go false false covers lower =
          let own : has_leaf_below m all (block_at (suc l) index p) ≡ list_any is_leaf (block_at (suc l) index p ∷ []) = leaf_below m all (block_at (suc l) index p ∷ []) (suc l) index p covers in
          let none : is_leaf (block_at (suc l) index p) ≡ false = not_so (suc l == 0) (λ t. let e : suc l ≡ 0 = eqb-true (suc l) 0 t in omega (arith, e)) in
          ap (λ b. not b || false) (own ∙ ap (λ b. b || false) none) ∙ sym (ap (λ b. not (b || false) || below) none)

-- the bare blocks of a node
pub bare_of : (m : BlockMap) (node : Root) → 0 < per_block m.size → list_any (λ w. has_bare_under m (leaves_below m node) node.levels w (slice_index_or node.pointers w absent)) (each_below 16 (λ w. w)) ≡ has_bare_block m node
bare_of m node pos = sym (any_parts (λ v. not (has_leaf_below m (visits_of m node) v)) 16 part ∙ any_alike 16 (λ w. list_any (λ v. not (has_leaf_below m (visits_of m node) v)) (part w)) (λ w. has_bare_under m (leaves_below m node) node.levels w (slice_index_or node.pointers w absent))
    (λ w h. bare_under m (leaves_below m node) pos (visits_of m node) node.levels w (slice_index_or node.pointers w absent) (covers 16 (visits_of m node) refl w h)))
  where
    part : ℕ → List Visit
    part = λ w. visits_under m (leaves_below m node) node.levels w (slice_index_or node.pointers w absent)

    covers : (n : ℕ) (all : List Visit) → all ≡ parts_below n part → (w : ℕ) → w < n → Covers (per_block m.size) all (part w) node.levels w
    covers n all is w below = record {
      inside = λ v c. subst (λ z. Contains z v) (sym is) (Contains-parts n part w v below c);
      lies = λ v c. visits_lie m (leaves_below m node) node.levels w (slice_index_or node.pointers w absent) v pos c;
      whole = λ v c leaf at.
          let from : (k : ℕ) × (k < n) × Contains (part k) v = parts-Contains n part v (subst (λ z. Contains z v) is c) in
          let place : v.index / per_block m.size ^ node.levels ≡ from.0 = leaf_lies (per_block m.size) node.levels from.0 v leaf (visits_lie m (leaves_below m node) node.levels from.0 (slice_index_or node.pointers from.0 absent) v pos from.2) in
          let same : from.0 ≡ w = sym place ∙ at in
          subst (λ k. Contains (part k) v) same from.2;
    }
