-- What the path to a leaf gives is what the walk of the node meets there.
use Rattle.std.proofs.Common.{◌≡◌, ℕ, zero, suc, ◌+◌, ◌*◌, ◌/◌, ◌%◌, ◌^◌, ◌<◌, ◌≤◌, List, [], ◌∷◌, refl, sym, ◌∙◌, ap, subst, arith}
use Rattle.std.specs.Prelude.{Bool, true, false, ◌||◌, nat_le, nat_lt, ◌==◌, if◌then◌else◌, Contains, slice_index_or}
use Rattle.std.proofs.Math.Nat.{div-div-eq-div-mul, div-mul-le_self, mod-lt, pow-suc, pow-zero, div-one}
use Rattle.std.proofs.lemmas.Nat.{div-add-mod'}
use Rattle.std.proofs.lemmas.Bool.{leb-false, lt-leb}
use Rattle.qx_geom.specs.declared.root.Root.{Root}
use Rattle.qx_fields.specs.Number.{field}
use Rattle.qx_geom.proofs.Members.{Contains-cons, Contains-head, Contains-parts}
use Rattle.qx_geom.specs.Lists.{parts_below}
use Rattle.qx_geom.specs.Pointer.{absent, per_block}
use Rattle.qx_nodes.specs.BlockMap.{BlockMap, with_bytes, word}
use Rattle.qx_nodes.specs.Leaves.{Block, Damage, Hole, Leaf, leaf_of, leaf_under, leaves_below}
use Rattle.qx_nodes.specs.Visits.{AgreesOn, IsMet, LiesBelow, Visit, visits_of, visits_under}

-- the way down from block i / P^(l+1) to block i / P^l is by word (i / P^l) mod P
pub way_down : (i l P : ℕ) → i / P ^ suc l * P + i / P ^ l % P ≡ i / P ^ l
way_down i l P = ap (λ q. q * P + i / P ^ l % P) (ap (λ q. i / q) (pow-suc P l) ∙ sym (div-div-eq-div-mul i (P ^ l) P)) ∙ div-add-mod' (i / P ^ l) P

-- a block above a leaf begins at the leaf or before it
pub begins_before : (i l P : ℕ) → i / P ^ l * P ^ l ≤ i
begins_before i l P = div-mul-le_self i (P ^ l)

-- without levels a leaf is its own place
pub by_one : (i P : ℕ) → i / P ^ zero ≡ i
by_one i P = ap (λ q. i / q) (pow-zero P) ∙ div-one i

-- what is met in some is met in more
pub IsMet-more : (i n : ℕ) (x : Leaf) (vs ws : List Visit) → ((v : Visit) → Contains vs v → Contains ws v) → IsMet i n x vs → IsMet i n x ws
IsMet-more i n (Block b) vs ws more t = more _ t
IsMet-more i n Hole vs ws more t = tt
IsMet-more i n Damage vs ws more t = (t.0, more t.0 t.1, t.2)

-- a pointer to a leaf, whatever the tests say
met_leaf : (a z c : Bool) (p i n : ℕ) → z ≡ false → nat_lt p n ≡ c → IsMet i n (if a then Hole else if c then Block p else Damage) (if a || z then [] else record { level = 0; index = i; block = p } ∷ [])
met_leaf true z c p i n e is = tt
met_leaf false true c p i n e is = absurd (cc)
met_leaf false false true p i n e is = Contains-head _ []
met_leaf false false false p i n e is = (record { level = 0; index = i; block = p }, Contains-head _ [], omega (arith, leb-false (suc p) n is))

-- a pointer to a block, whatever the tests say
met_block : (a z c : Bool) (v : Visit) (xs : List Visit) (x : Leaf) (i n : ℕ) → z ≡ false → nat_lt v.block n ≡ c → IsMet i n x xs → IsMet i n (if a then Hole else if c then x else Damage) (if a || z then [] else v ∷ (if c then xs else []))
met_block true z c v xs x i n e is t = tt
met_block false true c v xs x i n e is t = absurd (cc)
met_block false false true v xs x i n e is t = IsMet-more i n x xs (v ∷ xs) (λ w k. Contains-cons v w xs k) t
met_block false false false v xs x i n e is t = (v, Contains-head v [], omega (arith, leb-false (suc v.block) n is))

-- what the path below a pointer gives is met there
pub leaf_met : (m : BlockMap) (last l p i : ℕ) → 0 < per_block m.size → i < last → IsMet i m.count (leaf_under m l p i) (visits_under m last l (i / per_block m.size ^ l) p)
leaf_met m last zero p i pos below =
    subst (λ k. IsMet i m.count (leaf_under m zero p i) (visits_under m last zero k p)) (sym (by_one i (per_block m.size)))
    (met_leaf (p == absent) (nat_le last i) (nat_lt p m.count) p i m.count (lt-leb _ _ below) refl)
leaf_met m last (suc l) p i pos below =
    let P = per_block m.size in
    met_block (p == absent) (nat_le last (i / P ^ suc l * P ^ suc l)) (nat_lt p m.count) _ _ _ i m.count
    (lt-leb _ _ (omega (arith, begins_before i (suc l) P))) refl
    (IsMet-more i m.count (leaf_under m l (word m p (i / P ^ l % P)) i) _ _
    (λ v c. Contains-parts P (λ w. visits_under m last l (i / P ^ suc l * P + w) (word m p w)) (i / P ^ l % P) v (mod-lt (i / P ^ l) pos)
    (subst (λ k. Contains (visits_under m last l k (word m p (i / P ^ l % P))) v) (sym (way_down i l P)) c))
    (leaf_met m last l (word m p (i / P ^ l % P)) i pos below))

-- a leaf by a pointer, whatever the tests say
pub if_leaf : (a z c : Bool) (v : Visit) (xs : List Visit) (x y : Leaf) (Q : Visit → Type 0) → z ≡ false
    → ((w : Visit) → Contains (if a || z then [] else v ∷ (if c then xs else [])) w → Q w)
    → (((w : Visit) → Contains (v ∷ xs) w → Q w) → x ≡ y)
    → (if a then Hole else if c then x else Damage) ≡ (if a then Hole else if c then y else Damage)
if_leaf true z c v xs x y Q e h k = refl
if_leaf false true c v xs x y Q e h k = absurd (cc)
if_leaf false false true v xs x y Q e h k = k h
if_leaf false false false v xs x y Q e h k = refl

-- a leaf is the same where the blocks that its node meets are
pub leaf_under_local : (m : BlockMap) (g : ℕ → List ℕ) (last l p i : ℕ) → 0 < per_block m.size → i < last → AgreesOn m g (visits_under m last l (i / per_block m.size ^ l) p) → leaf_under m l p i ≡ leaf_under (with_bytes m g) l p i
leaf_under_local m g last zero p i pos below same = refl
leaf_under_local m g last (suc l) p i pos below same =
    let P = per_block m.size in
    let top : Visit = record { level = suc l; index = i / P ^ suc l; block = p } in
    if_leaf (p == absent) (nat_le last (i / P ^ suc l * P ^ suc l)) (nat_lt p m.count) top _ _ _ (λ v. m.bytes v.block ≡ g v.block)
    (lt-leb _ _ (omega (arith, begins_before i (suc l) P))) same
    (λ here.
    let words : word m p (i / P ^ l % P) ≡ word (with_bytes m g) p (i / P ^ l % P) = ap (λ (bs : List ℕ). field m.order 4 bs (4 * (i / P ^ l % P))) (here top (Contains-head _ (parts_below P (λ w. visits_under m last l (i / P ^ suc l * P + w) (word m p w))))) in
    leaf_under_local m g last l (word m p (i / P ^ l % P)) i pos below
    (λ v c. here v (Contains-cons top v (parts_below P (λ w. visits_under m last l (i / P ^ suc l * P + w) (word m p w)))
    (Contains-parts P (λ w. visits_under m last l (i / P ^ suc l * P + w) (word m p w)) (i / P ^ l % P) v (mod-lt (i / P ^ l) pos)
    (subst (λ k. Contains (visits_under m last l k (word m p (i / P ^ l % P))) v) (sym (way_down i l P)) c))))
    ∙ ap (λ q. leaf_under (with_bytes m g) l q i) words)

-- what the path in a node gives is met in it
pub node_leaf_met : (m : BlockMap) (node : Root) (i : ℕ) → LiesBelow m node i → IsMet i m.count (leaf_of m node i) (visits_of m node)
node_leaf_met m node i h =
    let j : ℕ = i / per_block m.size ^ node.levels in
    IsMet-more i m.count (leaf_of m node i) _ _
    (λ v c. Contains-parts 16 (λ j. visits_under m (leaves_below m node) node.levels j (slice_index_or node.pointers j absent)) j v h.reached c)
    (leaf_met m (leaves_below m node) node.levels (slice_index_or node.pointers j absent) i h.positive h.below)

-- so is a node's leaf
pub leaf_local : (m : BlockMap) (g : ℕ → List ℕ) (node : Root) (i : ℕ) → LiesBelow m node i → AgreesOn m g (visits_of m node) → leaf_of m node i ≡ leaf_of (with_bytes m g) node i
leaf_local m g node i h same =
    let j : ℕ = i / per_block m.size ^ node.levels in
    leaf_under_local m g (leaves_below m node) node.levels (slice_index_or node.pointers j absent) i h.positive h.below
    (λ v c. same v (Contains-parts 16 (λ j. visits_under m (leaves_below m node) node.levels j (slice_index_or node.pointers j absent)) j v h.reached c))
