-- No position is met twice in a node.
use Rattle.std.proofs.Common.{◌≡◌, ℕ, zero, suc, ◌+◌, ◌*◌, ◌/◌, ◌^◌, ◌<◌, inl, inr, List, [], ◌∷◌, sym, ◌∙◌, ap, subst, arith}
use Rattle.std.specs.Prelude.{Bool, true, false, ◌||◌, nat_le, nat_lt, ◌==◌, if◌then◌else◌, Contains, slice_index_or}
use Rattle.std.proofs.Math.Nat.{div-div-eq-div-mul, pow-suc}
use Rattle.std.proofs.lemmas.Nat.{div-mul-add}
use Rattle.qx_geom.specs.declared.root.Root.{Root}
use Rattle.qx_geom.proofs.DistinctElements.{Distinct-parts}
use Rattle.qx_geom.proofs.Members.{Contains-cases, parts-Contains}
use Rattle.qx_geom.specs.Lists.{Distinct, parts_below}
use Rattle.qx_geom.specs.Pointer.{absent, per_block}
use Rattle.qx_nodes.proofs.LeafPaths.{by_one}
use Rattle.qx_nodes.specs.BlockMap.{BlockMap, word}
use Rattle.qx_nodes.specs.Leaves.{leaves_below}
use Rattle.qx_nodes.specs.Visits.{Visit, visits_of, visits_under}

-- what is met below block `index` of level l lies below it
pub record LiesUnder (P l top : ℕ) (v : Visit) : Type 0 where
  pub up : ℕ
  pub level : v.level + up ≡ l
  pub index : v.index / P ^ up ≡ top

-- one level further up
pub above_one : (i P up j : ℕ) → i / P ^ up ≡ j → i / P ^ suc up ≡ j / P
above_one i P up j e = ap (λ q. i / q) (pow-suc P up) ∙ sym (div-div-eq-div-mul i (P ^ up) P) ∙ ap (λ q. q / P) e

-- a member of what is there unless a test holds
if_empty : {A : Type 0} (b : Bool) (x : A) (xs : List A) → Contains (if b then [] else xs) x → Contains xs x
if_empty true x xs c = absurd (omega (arith, c.1))
if_empty false x xs c = c

-- a member of what is there if a test holds
pub if_filled : {A : Type 0} (b : Bool) (x : A) (xs : List A) → Contains (if b then xs else []) x → Contains xs x
if_filled true x xs c = c
if_filled false x xs c = absurd (omega (arith, c.1))

-- what is met below a pointer lies below it
pub visits_lie : (m : BlockMap) (last l index p : ℕ) (v : Visit) → 0 < per_block m.size → Contains (visits_under m last l index p) v → LiesUnder (per_block m.size) l index v
visits_lie m last zero index p v pos c =
    let top : Visit = record { level = 0; index = index; block = p } in
    elim (Contains-cases top v [] (if_empty (p == absent || nat_le last index) v (top ∷ []) c)) [
      | inl is ↦ subst (λ z. LiesUnder (per_block m.size) zero index z) is (record { up = 0; level = omega arith; index = by_one index (per_block m.size) })
      | inr none ↦ absurd (omega (arith, none.1))
    ]
visits_lie m last (suc l) index p v pos c =
    let P : ℕ = per_block m.size in
    let top : Visit = record { level = suc l; index = index; block = p } in
    let below : List Visit = parts_below P (λ w. visits_under m last l (index * P + w) (word m p w)) in
    elim (Contains-cases top v (if nat_lt p m.count then below else []) (if_empty (p == absent || nat_le last (index * P ^ suc l)) v (top ∷ (if nat_lt p m.count then below else [])) c)) [
      | inl is ↦ subst (λ z. LiesUnder P (suc l) index z) is (record { up = 0; level = omega arith; index = by_one index P })
      | inr there ↦
          let from : (w : ℕ) × (w < P) × Contains (visits_under m last l (index * P + w) (word m p w)) v = parts-Contains P (λ w. visits_under m last l (index * P + w) (word m p w)) v (if_filled (nat_lt p m.count) v below there) in
          let ih : LiesUnder P l (index * P + from.0) v = visits_lie m last l (index * P + from.0) (word m p from.0) v pos from.2 in
          record { up = suc ih.up; level = omega (arith, ih.level); index = above_one v.index P ih.up (index * P + from.0) ih.index ∙ div-mul-add index P from.0 from.1 }
    ]

-- what lies below two blocks of a level makes them one
same_up : (P l i j : ℕ) (v : Visit) → LiesUnder P l i v → LiesUnder P l j v → i ≡ j
same_up P l i j v a b = let up : a.up ≡ b.up = omega (arith, a.level, b.level) in sym a.index ∙ ap (λ u. v.index / P ^ u) up ∙ b.index

-- unless a test holds
if_distinct : {A : Type 0} (b : Bool) (xs : List A) → Distinct xs → Distinct (if b then [] else xs)
if_distinct true xs d = tt
if_distinct false xs d = d

-- if a test holds
filled_distinct : {A : Type 0} (b : Bool) (xs : List A) → Distinct xs → Distinct (if b then xs else [])
filled_distinct true xs d = d
filled_distinct false xs d = tt

-- no position is met twice below a pointer
pub visits_distinct : (m : BlockMap) (last l index p : ℕ) → 0 < per_block m.size → Distinct (visits_under m last l index p)
visits_distinct m last zero index p pos = if_distinct (p == absent || nat_le last index) (record { level = 0; index = index; block = p } ∷ []) (λ c. omega (arith, c.1), tt)
visits_distinct m last (suc l) index p pos =
    let P : ℕ = per_block m.size in
    let top : Visit = record { level = suc l; index = index; block = p } in
    let part : ℕ → List Visit = λ w. visits_under m last l (index * P + w) (word m p w) in
    let below : List Visit = parts_below P part in
    if_distinct (p == absent || nat_le last (index * P ^ suc l)) (top ∷ (if nat_lt p m.count then below else [])) (
      λ c. let from : (w : ℕ) × (w < P) × Contains (part w) top = parts-Contains P part top (if_filled (nat_lt p m.count) top below c) in
          let u : LiesUnder P l (index * P + from.0) top = visits_lie m last l (index * P + from.0) (word m p from.0) top pos from.2 in omega (arith, u.level),
      filled_distinct (nat_lt p m.count) below (Distinct-parts P part (λ w h. visits_distinct m last l (index * P + w) (word m p w) pos)
          (λ k j v h i a b. let same : index * P + k ≡ index * P + j = same_up P l (index * P + k) (index * P + j) v (visits_lie m last l (index * P + k) (word m p k) v pos a) (visits_lie m last l (index * P + j) (word m p j) v pos b) in omega (arith, same))),
    )

-- none is met twice in a node
pub node_distinct : (m : BlockMap) (node : Root) → 0 < per_block m.size → Distinct (visits_of m node)
node_distinct m node pos =
    let part : ℕ → List Visit = λ j. visits_under m (leaves_below m node) node.levels j (slice_index_or node.pointers j absent) in
    Distinct-parts 16 part (λ j h. visits_distinct m (leaves_below m node) node.levels j (slice_index_or node.pointers j absent) pos)
    (λ k j v h i a b. same_up (per_block m.size) node.levels k j v (visits_lie m (leaves_below m node) node.levels k (slice_index_or node.pointers k absent) v pos a) (visits_lie m (leaves_below m node) node.levels j (slice_index_or node.pointers j absent) v pos b))
