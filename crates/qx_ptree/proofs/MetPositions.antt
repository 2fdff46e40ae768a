-- What is met in a node stands at the positions whose pointers are there.
use Rattle.std.proofs.Common.{◌≡◌, ◌≢◌, ℕ, zero, suc, ◌+◌, ◌*◌, ◌-◌, ◌^◌, ◌/◌, ◌%◌, ◌<◌, ◌≤◌, ◌⊎◌, inl, inr, List, [], ◌∷◌, length, refl, sym, ◌∙◌, ap, subst, arith}
use Rattle.std.specs.Prelude.{Bool, true, false, not, ◌&&◌, ◌||◌, ◌==◌, nat_lt, nat_le, if◌then◌else◌, Contains, slice_index_or}
use Rattle.std.specs.List.{list_any}
use Rattle.std.proofs.Math.Nat.{mod-lt}
use Rattle.std.proofs.lemmas.Bool.{cases_lt, eq-eqb, lt-ltb, ne_eqb}
use Rattle.std.proofs.lemmas.List.{get_or_past}
use Rattle.std.proofs.lemmas.List.Folds.{list_any_at}
use Rattle.std.proofs.lemmas.List.FromFn.{get_or-map-range_with_len, length-map-range_with_len}
use Rattle.std.proofs.lemmas.Nat.{div-add-mod'}
use Rattle.qx_geom.specs.declared.root.Root.{Root}
use Rattle.qx_geom.specs.Lists.{each_below, parts_below}
use Rattle.qx_geom.specs.Pointer.{absent, per_block}
use Rattle.qx_geom.proofs.Members.{Contains-cases, Contains-cons, Contains-head, Contains-parts, parts-Contains}
use Rattle.qx_geom.proofs.Truths.{not_so, or_left, or_right, true_or_false}
use Rattle.qx_nodes.specs.BlockMap.{BlockMap, word}
use Rattle.qx_nodes.specs.ForeignNodes.{has_strays, is_stray_under}
use Rattle.qx_nodes.specs.Leaves.{leaves_below}
use Rattle.qx_nodes.specs.Visits.{Visit, visits_of, visits_under}
use Rattle.qx_ptree.specs.Trees.{pointer_at, pointer_from}
use Rattle.qx_ptree.proofs.PointersByPosition.{HasAbove, at_from, if_above, pointer_step, pointer_top}

-- ---- tests on one pointer

-- what is met at a pointer, whatever the tests say
some_met : (a z c : Bool) (top v : Visit) (xs : List Visit) → Contains (if a || z then [] else top ∷ (if c then xs else [])) v → (a ≡ false) × ((top ≡ v) ⊎ Contains xs v)
some_met true z c top v xs h = absurd (omega (arith, h.1))
some_met false true c top v xs h = absurd (omega (arith, h.1))
some_met false false true top v xs h = (refl, Contains-cases top v xs h)
some_met false false false top v xs h = (refl, elim (Contains-cases top v [] h) [ inl is ↦ inl is | inr none ↦ absurd (omega (arith, none.1)) ])

-- the pointer itself is met
pub top_member : (a z : Bool) (top : Visit) (rest : List Visit) → a ≡ false → z ≡ false → Contains (if a || z then [] else top ∷ rest) top
top_member true z top rest there low = absurd (cc)
top_member false true top rest there low = absurd (cc)
top_member false false top rest there low = Contains-head top rest

-- and what is met below it
pub below_member : (a z c : Bool) (top v : Visit) (xs : List Visit) → a ≡ false → z ≡ false → c ≡ true → Contains xs v → Contains (if a || z then [] else top ∷ (if c then xs else [])) v
below_member true z c top v xs there low held h = absurd (cc)
below_member false true c top v xs there low held h = absurd (cc)
below_member false false true top v xs there low held h = Contains-cons top v xs h
below_member false false false top v xs there low held h = absurd (cc)

-- ---- from visits to pointers

-- a visit is that of the pointer at its position
pub record IsAt (m : BlockMap) (node : Root) (v : Visit) : Type 0 where
  pub level : v.level ≤ node.levels
  pub there : v.block ≢ absent
  pub block : v.block ≡ pointer_at m node v.level v.index

-- the pointer at which a visit began
at_top : (m : BlockMap) (node : Root) (l index p : ℕ) → l ≤ node.levels → p ≡ pointer_at m node l index → (p == absent) ≡ false → IsAt m node (record { level = l; index = index; block = p })
at_top m node l index p h is there = record { level = h; there = λ e. absurd (cc (there, eq-eqb p absent e)); block = is }

-- so are those below a pointer that stands at its position
under_at : (m : BlockMap) (node : Root) (last l index p : ℕ) (v : Visit) → l ≤ node.levels → p ≡ pointer_at m node l index → Contains (visits_under m last l index p) v → IsAt m node v
under_at m node last zero index p v h is c =
    let top : Visit = record { level = zero; index = index; block = p } in
    let met : ((p == absent) ≡ false) × ((top ≡ v) ⊎ Contains [] v) = some_met (p == absent) (nat_le last index) false top v [] c in
    elim met.1 [ inl same ↦ subst (IsAt m node) same (at_top m node zero index p h is met.0) | inr none ↦ absurd (omega (arith, none.1)) ]
under_at m node last (suc l) index p v h is c =
    let P : ℕ = per_block m.size in
    let top : Visit = record { level = suc l; index = index; block = p } in
    let part : ℕ → List Visit = λ w. visits_under m last l (index * P + w) (word m p w) in
    let met : ((p == absent) ≡ false) × ((top ≡ v) ⊎ Contains (parts_below P part) v) = some_met (p == absent) (nat_le last (index * P ^ suc l)) (nat_lt p m.count) top v (parts_below P part) c in
    elim met.1 [
      | inl same ↦ subst (IsAt m node) same (at_top m node (suc l) index p h is met.0)
      | inr there ↦
          let from : (w : ℕ) × (w < P) × Contains (part w) v = parts-Contains P part v there in
          let next : word m p from.0 ≡ pointer_at m node l (index * P + from.0) =
          sym (pointer_step m node l index from.0 h from.1 ∙ ap (λ q. if q == absent then absent else word m q from.0) (sym is) ∙ ap (λ b. if b then absent else word m p from.0) met.0) in
          under_at m node last l (index * P + from.0) (word m p from.0) v (omega arith) next from.2
    ]

-- what is met in a node
pub visit_at : (m : BlockMap) (node : Root) (v : Visit) → Contains (visits_of m node) v → IsAt m node v
visit_at m node v c =
    let part : ℕ → List Visit = λ j. visits_under m (leaves_below m node) node.levels j (slice_index_or node.pointers j absent) in
    let from : (j : ℕ) × (j < 16) × Contains (part j) v = parts-Contains 16 part v c in
    under_at m node (leaves_below m node) node.levels from.0 (slice_index_or node.pointers from.0 absent) v (omega arith) (sym (pointer_top m node from.0)) from.2

-- ---- from pointers to visits

-- a test that no number below a bound passes
none_below : (test : ℕ → Bool) (n k : ℕ) → list_any test (each_below n (λ j. j)) ≡ false → k < n → test k ≡ false
none_below test n k none low =
    let at = get_or-map-range_with_len (λ (j : ℕ). j) 0 n k k 0 low (omega arith) in
    let long = length-map-range_with_len (λ (j : ℕ). j) 0 n in
    not_so (test k) (λ t. true_or_false (list_any test (each_below n (λ j. j))) (list_any_at test (each_below n (λ j. j)) k 0 (omega arith) (ap test at ∙ t)) none)

-- what is met below a pointer is met in the node, and leads to no leaf past the size
record IsBelow (m : BlockMap) (node : Root) (l index p : ℕ) : Type 0 where
  pub visits : (v : Visit) → Contains (visits_under m (leaves_below m node) l index p) v → Contains (visits_of m node) v
  pub plain : is_stray_under m (leaves_below m node) l index p ≡ false

-- a pointer that is there and no stray passes the other test
stray_passes : (a b : Bool) → a ≡ false → (not a && b) ≡ false → b ≡ false
stray_passes true b there plain = absurd (cc)
stray_passes false b there plain = plain

-- the pointer itself
below_top : (m : BlockMap) (node : Root) (l index p : ℕ) → p ≢ absent → IsBelow m node l index p → Contains (visits_of m node) (record { level = l; index = index; block = p })
below_top m node zero index p there b =
    let top : Visit = record { level = zero; index = index; block = p } in
    b.visits top (top_member (p == absent) (nat_le (leaves_below m node) index) top [] (ne_eqb p absent there) (stray_passes (p == absent) (nat_le (leaves_below m node) index) (ne_eqb p absent there) b.plain))
below_top m node (suc l) index p there b =
    let P : ℕ = per_block m.size in
    let last : ℕ = leaves_below m node in
    let top : Visit = record { level = suc l; index = index; block = p } in
    let stray : Bool = list_any (λ w. is_stray_under m last l (index * P + w) (word m p w)) (each_below P (λ w. w)) in
    b.visits top (top_member (p == absent) (nat_le last (index * P ^ suc l)) top _ (ne_eqb p absent there)
    (or_left (nat_le last (index * P ^ suc l)) stray (stray_passes (p == absent) (nat_le last (index * P ^ suc l) || stray) (ne_eqb p absent there) b.plain)))

-- the pointers below it
below_word : (m : BlockMap) (node : Root) (l index p w : ℕ) → p ≢ absent → p < m.count → w < per_block m.size → IsBelow m node (suc l) index p → IsBelow m node l (index * per_block m.size + w) (word m p w)
below_word m node l index p w there held low b =
    let P : ℕ = per_block m.size in
    let last : ℕ = leaves_below m node in
    let top : Visit = record { level = suc l; index = index; block = p } in
    let part : ℕ → List Visit = λ w. visits_under m last l (index * P + w) (word m p w) in
    let strays : ℕ → Bool = λ w. is_stray_under m last l (index * P + w) (word m p w) in
    let plain : (nat_le last (index * P ^ suc l) || list_any strays (each_below P (λ w. w))) ≡ false = stray_passes (p == absent) (nat_le last (index * P ^ suc l) || list_any strays (each_below P (λ w. w))) (ne_eqb p absent there) b.plain in
    record {
      visits = λ v c. b.visits v (below_member (p == absent) (nat_le last (index * P ^ suc l)) (nat_lt p m.count) top v (parts_below P part) (ne_eqb p absent there)
          (or_left (nat_le last (index * P ^ suc l)) (list_any strays (each_below P (λ w. w))) plain) (lt-ltb p m.count held) (Contains-parts P part w v low c));
      plain = none_below strays P w (or_right (nat_le last (index * P ^ suc l)) (list_any strays (each_below P (λ w. w))) plain) low;
    }

-- a node that is met as a whole: it has 16 pointers and no strays, and what is met in it is a block's number
pub record IsMetWhole (m : BlockMap) (node : Root) : Type 0 where
  pub words : 0 < per_block m.size
  pub long : length node.pointers ≡ 16
  pub plain : has_strays m node ≡ false
  pub numbers : (v : Visit) → Contains (visits_of m node) v → v.block < m.count

-- at each level, a pointer that is there is met
below_from : (m : BlockMap) (node : Root) (d l j : ℕ) → IsMetWhole m node → l + d ≡ node.levels → pointer_from m node d j ≢ absent → IsBelow m node l j (pointer_from m node d j)
below_from m node zero l j w at there =
    let last : ℕ = leaves_below m node in
    let level : node.levels ≡ l = omega arith in
    let low : j < 16 = elim (cases_lt j 16) [ inl h ↦ h | inr h ↦ absurd (there (get_or_past node.pointers j absent (omega (arith, w.long)))) ] in
    subst (λ k. IsBelow m node k j (slice_index_or node.pointers j absent)) level (record {
      visits = λ v c. Contains-parts 16 (λ j. visits_under m last node.levels j (slice_index_or node.pointers j absent)) j v low c;
      plain = none_below (λ j. is_stray_under m last node.levels j (slice_index_or node.pointers j absent)) 16 j w.plain low;
    })
below_from m node (suc d) l j w at there =
    let P : ℕ = per_block m.size in
    let p : ℕ = pointer_from m node d (j / P) in
    let above : HasAbove m p (j % P) (pointer_from m node (suc d) j) = if_above m p (j % P) there in
    let b : IsBelow m node (suc l) (j / P) p = below_from m node d (suc l) (j / P) w (omega arith) above.there in
    let held : p < m.count = w.numbers (record { level = suc l; index = j / P; block = p }) (below_top m node (suc l) (j / P) p above.there b) in
    subst (λ q. IsBelow m node l j q) (sym above.word_is)
    (subst (λ i. IsBelow m node l i (word m p (j % P))) (div-add-mod' j P) (below_word m node l (j / P) p (j % P) above.there held (mod-lt j w.words) b))

-- so the pointers that are there are met
pub pointer_met : (m : BlockMap) (node : Root) (k j : ℕ) → IsMetWhole m node → k ≤ node.levels → pointer_at m node k j ≢ absent → Contains (visits_of m node) (record { level = k; index = j; block = pointer_at m node k j })
pointer_met m node k j w h there =
    let is : pointer_at m node k j ≡ pointer_from m node (node.levels - k) j = at_from m node k j (node.levels - k) h refl in
    let from : pointer_from m node (node.levels - k) j ≢ absent = λ e. there (is ∙ e) in
    below_top m node k j (pointer_at m node k j) there (subst (λ q. IsBelow m node k j q) (sym is) (below_from m node (node.levels - k) k j w (omega arith) from))
