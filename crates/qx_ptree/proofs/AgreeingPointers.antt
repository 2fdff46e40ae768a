-- What a node meets once other bytes stand in its leaves.
use Rattle.std.proofs.Common.{◌≡◌, ℕ, zero, suc, ◌+◌, ◌*◌, ◌/◌, ◌%◌, ◌^◌, ◌<◌, ◌≤◌, inl, inr, List, [], ◌∷◌, map, refl, sym, ◌∙◌, ap, subst, arith}
use Rattle.std.specs.Prelude.{Bool, true, false, not, ◌&&◌, ◌||◌, nat_le, nat_lt, ◌==◌, if◌then◌else◌, Contains, slice_index_or}
use Rattle.std.specs.List.{list_any, range_with_len}
use Rattle.std.proofs.Math.Nat.{mod-lt}
use Rattle.std.proofs.lemmas.Bool.{cases_eq, lt-leb, lt-ltb}
use Rattle.qx_geom.specs.declared.root.Root.{Root}
use Rattle.qx_fields.specs.Number.{field}
use Rattle.qx_geom.proofs.Members.{Contains-cons, Contains-head, Contains-parts, parts_alike}
use Rattle.qx_geom.specs.Layout.{levels_for}
use Rattle.qx_geom.proofs.Truths.{or_left, or_right}
use Rattle.qx_geom.specs.Lists.{each_below, parts_below}
use Rattle.qx_geom.specs.Pointer.{absent, per_block}
use Rattle.qx_nodes.specs.BlockMap.{BlockMap, with_bytes, word}
use Rattle.qx_nodes.specs.ForeignNodes.{has_bare_block, has_leaf_below, has_strays, is_foreign_node, is_stray_under}
use Rattle.qx_nodes.specs.Leaves.{leaf_of, leaf_under, leaves_below}
use Rattle.qx_nodes.specs.Visits.{LiesBelow, Visit, visits_of, visits_under}
use Rattle.qx_nodes.proofs.LeafPaths.{begins_before, way_down, if_leaf}
use Rattle.qx_nodes.proofs.VisitLocality.{if_parts}

-- the same bytes stand in each pointer block of these visits
abbrev pub AgreesAbove : BlockMap → (ℕ → List ℕ) → List Visit → Type 0
AgreesAbove m g visits = (v : Visit) → Contains visits v → 0 < v.level → m.bytes v.block ≡ g v.block

-- what is met below a pointer is the same where the pointer blocks agree
visits_under_above : (m : BlockMap) (g : ℕ → List ℕ) (last l index p : ℕ) → AgreesAbove m g (visits_under m last l index p) → visits_under m last l index p ≡ visits_under (with_bytes m g) last l index p
visits_under_above m g last zero index p same = refl
visits_under_above m g last (suc l) index p same =
    if_parts (p == absent || nat_le last (index * per_block m.size ^ suc l)) (nat_lt p m.count) (record { level = suc l; index = index; block = p }) _ _
    (λ v. 0 < v.level → m.bytes v.block ≡ g v.block) same
    (λ here. parts_alike (per_block m.size) _ _ (λ w h.
    let bytes : m.bytes p ≡ g p = here (record { level = suc l; index = index; block = p }) (Contains-head _ _) (omega arith) in
    let words : word m p w ≡ word (with_bytes m g) p w = ap (λ (bs : List ℕ). field m.order 4 bs (4 * w)) bytes in
    visits_under_above m g last l (index * per_block m.size + w) (word m p w)
    (λ v c. here v (Contains-cons _ _ _ (Contains-parts (per_block m.size) (λ w. visits_under m last l (index * per_block m.size + w) (word m p w)) w v h c)))
    ∙ ap (λ q. visits_under (with_bytes m g) last l (index * per_block m.size + w) q) words))

-- what is met in a node is the same where its pointer blocks agree
pub visits_above : (m : BlockMap) (g : ℕ → List ℕ) (node : Root) → AgreesAbove m g (visits_of m node) → visits_of m node ≡ visits_of (with_bytes m g) node
visits_above m g node same = parts_alike 16 _ _ (λ j h. visits_under_above m g (leaves_below m node) node.levels j (slice_index_or node.pointers j absent)
    (λ v c. same v (Contains-parts 16 (λ j. visits_under m (leaves_below m node) node.levels j (slice_index_or node.pointers j absent)) j v h c)))

-- a leaf is the same where the pointer blocks that its node meets are
leaf_under_above : (m : BlockMap) (g : ℕ → List ℕ) (last l p i : ℕ) → 0 < per_block m.size → i < last → AgreesAbove m g (visits_under m last l (i / per_block m.size ^ l) p) → leaf_under m l p i ≡ leaf_under (with_bytes m g) l p i
leaf_under_above m g last zero p i pos below same = refl
leaf_under_above m g last (suc l) p i pos below same =
    let P = per_block m.size in
    let top : Visit = record { level = suc l; index = i / P ^ suc l; block = p } in
    if_leaf (p == absent) (nat_le last (i / P ^ suc l * P ^ suc l)) (nat_lt p m.count) top _ _ _ (λ v. 0 < v.level → m.bytes v.block ≡ g v.block)
    (lt-leb _ _ (omega (arith, begins_before i (suc l) P))) same
    (λ here.
    let words : word m p (i / P ^ l % P) ≡ word (with_bytes m g) p (i / P ^ l % P) = ap (λ (bs : List ℕ). field m.order 4 bs (4 * (i / P ^ l % P))) (here top (Contains-head _ (parts_below P (λ w. visits_under m last l (i / P ^ suc l * P + w) (word m p w)))) (omega arith)) in
    leaf_under_above m g last l (word m p (i / P ^ l % P)) i pos below
    (λ v c. here v (Contains-cons top v (parts_below P (λ w. visits_under m last l (i / P ^ suc l * P + w) (word m p w)))
    (Contains-parts P (λ w. visits_under m last l (i / P ^ suc l * P + w) (word m p w)) (i / P ^ l % P) v (mod-lt (i / P ^ l) pos)
    (subst (λ k. Contains (visits_under m last l k (word m p (i / P ^ l % P))) v) (sym (way_down i l P)) c))))
    ∙ ap (λ q. leaf_under (with_bytes m g) l q i) words)

-- so is a node's leaf
pub leaf_above : (m : BlockMap) (g : ℕ → List ℕ) (node : Root) (i : ℕ) → LiesBelow m node i → AgreesAbove m g (visits_of m node) → leaf_of m node i ≡ leaf_of (with_bytes m g) node i
leaf_above m g node i h same =
    let j : ℕ = i / per_block m.size ^ node.levels in
    leaf_under_above m g (leaves_below m node) node.levels (slice_index_or node.pointers j absent) i h.positive h.below
    (λ v c. same v (Contains-parts 16 (λ j. visits_under m (leaves_below m node) node.levels j (slice_index_or node.pointers j absent)) j v h.reached c))

-- ---- pointers past the size

-- a test that no number of a range passes
none_range : (f : ℕ → Bool) (a n : ℕ) → ((w : ℕ) → a ≤ w → w < a + n → f w ≡ false) → list_any f (map (λ w. w) (range_with_len a n)) ≡ false
none_range f a zero h = refl
none_range f a (suc n) h = ap (λ b. b || list_any f (map (λ w. w) (range_with_len (a + 1) n))) (h a (omega arith) (omega arith)) ∙ none_range f (a + 1) n (λ w low high. h w (omega arith) (omega arith))

-- so each number fails it
range_none : (f : ℕ → Bool) (a n w : ℕ) → list_any f (map (λ w. w) (range_with_len a n)) ≡ false → a ≤ w → w < a + n → f w ≡ false
range_none f a zero w h low high = absurd (omega arith)
range_none f a (suc n) w h low high =
    let rest : Bool = list_any f (map (λ w. w) (range_with_len (a + 1) n)) in
    elim (cases_eq w a) [
      | inl e ↦ ap f e ∙ or_left (f a) rest h
      | inr ne ↦ range_none f (a + 1) n w (or_right (f a) rest h) (omega (arith, ne)) (omega arith)
    ]

-- what is asked of a visit
abbrev IsSeen : BlockMap → (ℕ → List ℕ) → Visit → Type 0
IsSeen m g v = (0 < v.level → m.bytes v.block ≡ g v.block) × (v.block < m.count)

-- no stray stands at a pointer or below it, whatever the tests say
stray_if : (a z c : Bool) (v : Visit) (xs : List Visit) (s r : Bool) (Q : Visit → Type 0)
    → ((w : Visit) → Contains (if a || z then [] else v ∷ (if c then xs else [])) w → Q w) → (Q v → c ≡ true)
    → (((w : Visit) → Contains (v ∷ xs) w → Q w) → s ≡ false → r ≡ false)
    → (not a && (z || s)) ≡ false → (not a && (z || r)) ≡ false
stray_if true z c v xs s r Q all there k h = refl
stray_if false true c v xs s r Q all there k h = h
stray_if false false true v xs s r Q all there k h = k all h
stray_if false false false v xs s r Q all there k h = let t : false ≡ true = there (all v (Contains-head v [])) in absurd (cc t)

-- where pointer blocks agree, no stray stands below a pointer that had none
stray_under : (m : BlockMap) (g : ℕ → List ℕ) (last l index p : ℕ) → ((v : Visit) → Contains (visits_under m last l index p) v → IsSeen m g v) → is_stray_under m last l index p ≡ false → is_stray_under (with_bytes m g) last l index p ≡ false
stray_under m g last zero index p seen h = h
stray_under m g last (suc l) index p seen h =
    let P : ℕ = per_block m.size in
    let top : Visit = record { level = suc l; index = index; block = p } in
    let part : ℕ → List Visit = λ w. visits_under m last l (index * P + w) (word m p w) in
    let stray : ℕ → Bool = λ w. is_stray_under m last l (index * P + w) (word m p w) in
    let later : ℕ → Bool = λ w. is_stray_under (with_bytes m g) last l (index * P + w) (word (with_bytes m g) p w) in
    stray_if (p == absent) (nat_le last (index * P ^ suc l)) (nat_lt p m.count) top (parts_below P part) (list_any stray (each_below P (λ w. w))) (list_any later (each_below P (λ w. w))) (IsSeen m g) seen
    (λ s. lt-ltb p m.count s.1)
    (λ here none. none_range later 0 P (λ w low high.
    let bytes : m.bytes p ≡ g p = (here top (Contains-head top (parts_below P part))).0 (omega arith) in
    let words : word m p w ≡ word (with_bytes m g) p w = ap (λ (bs : List ℕ). field m.order 4 bs (4 * w)) bytes in
    subst (λ q. is_stray_under (with_bytes m g) last l (index * P + w) q ≡ false) words
    (stray_under m g last l (index * P + w) (word m p w) (λ v c. here v (Contains-cons top v (parts_below P part) (Contains-parts P part w v (omega arith) c))) (range_none stray 0 P w none low high)))) h

-- so a node has none
strays_above : (m : BlockMap) (g : ℕ → List ℕ) (node : Root) → ((v : Visit) → Contains (visits_of m node) v → IsSeen m g v) → has_strays m node ≡ false → has_strays (with_bytes m g) node ≡ false
strays_above m g node seen h =
    let part : ℕ → List Visit = λ j. visits_under m (leaves_below m node) node.levels j (slice_index_or node.pointers j absent) in
    let stray : ℕ → Bool = λ j. is_stray_under m (leaves_below m node) node.levels j (slice_index_or node.pointers j absent) in
    let later : ℕ → Bool = λ j. is_stray_under (with_bytes m g) (leaves_below m node) node.levels j (slice_index_or node.pointers j absent) in
    none_range later 0 16 (λ j low high. stray_under m g (leaves_below m node) node.levels j (slice_index_or node.pointers j absent)
    (λ v c. seen v (Contains-parts 16 part j v (omega arith) c)) (range_none stray 0 16 j h low high))

-- and it stays as this project writes nodes
pub plain_above : (m : BlockMap) (g : ℕ → List ℕ) (node : Root) → AgreesAbove m g (visits_of m node) → ((v : Visit) → Contains (visits_of m node) v → v.block < m.count) → is_foreign_node m node ≡ false → is_foreign_node (with_bytes m g) node ≡ false
plain_above m g node agrees numbers h =
    let first : Bool = not (node.levels == levels_for m.size (leaves_below m node)) in
    let strays : has_strays (with_bytes m g) node ≡ false = strays_above m g node (λ v c. (agrees v c, numbers v c)) (or_left (has_strays m node) (has_bare_block m node) (or_right first (has_strays m node || has_bare_block m node) h)) in
    let bare : has_bare_block (with_bytes m g) node ≡ false = ap (λ vs. list_any (λ v. not (has_leaf_below m vs v)) vs) (sym (visits_above m g node agrees)) ∙ or_right (has_strays m node) (has_bare_block m node) (or_right first (has_strays m node || has_bare_block m node) h) in
    λ i. or_left first (has_strays m node || has_bare_block m node) h i || (strays i || bare i)
