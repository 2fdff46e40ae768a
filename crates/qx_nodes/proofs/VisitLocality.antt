-- What is met in a node depends on the blocks that are met alone.
use Rattle.std.proofs.Common.{◌≡◌, ℕ, zero, suc, ◌+◌, ◌*◌, ◌^◌, List, [], ◌∷◌, refl, ◌∙◌, ap}
use Rattle.std.specs.Prelude.{Bool, true, false, ◌||◌, nat_le, nat_lt, ◌==◌, if◌then◌else◌, Contains, slice_index_or}
use Rattle.qx_geom.specs.declared.root.Root.{Root}
use Rattle.qx_fields.specs.Number.{field}
use Rattle.qx_geom.proofs.Members.{Contains-cons, Contains-head, Contains-parts, parts_alike}
use Rattle.qx_geom.specs.Pointer.{absent, per_block}
use Rattle.qx_nodes.specs.BlockMap.{BlockMap, with_bytes, word}
use Rattle.qx_nodes.specs.Leaves.{leaves_below}
use Rattle.qx_nodes.specs.Visits.{AgreesOn, Visit, visits_of, visits_under}

-- a visit and those below it, whatever the two tests say
pub if_parts : (b c : Bool) (v : Visit) (xs ys : List Visit) (Q : Visit → Type 0)
    → ((w : Visit) → Contains (if b then [] else v ∷ (if c then xs else [])) w → Q w)
    → (((w : Visit) → Contains (v ∷ xs) w → Q w) → xs ≡ ys)
    → (if b then [] else v ∷ (if c then xs else [])) ≡ (if b then [] else v ∷ (if c then ys else []))
if_parts true c v xs ys Q h k = refl
if_parts false true v xs ys Q h k = ap (λ zs. v ∷ zs) (k h)
if_parts false false v xs ys Q h k = refl

-- what is met below a pointer is the same where the blocks that are met agree
pub visits_under_local : (m : BlockMap) (g : ℕ → List ℕ) (last l index p : ℕ) → AgreesOn m g (visits_under m last l index p) → visits_under m last l index p ≡ visits_under (with_bytes m g) last l index p
visits_under_local m g last zero index p same = refl
visits_under_local m g last (suc l) index p same =
    if_parts (p == absent || nat_le last (index * per_block m.size ^ suc l)) (nat_lt p m.count) (record { level = suc l; index = index; block = p }) _ _
    (λ v. m.bytes v.block ≡ g v.block) same
    (λ here. parts_alike (per_block m.size) _ _ (λ w h.
    let bytes : m.bytes p ≡ g p = here (record { level = suc l; index = index; block = p }) (Contains-head _ _) in
    let words : word m p w ≡ word (with_bytes m g) p w = ap (λ (bs : List ℕ). field m.order 4 bs (4 * w)) bytes in
    visits_under_local m g last l (index * per_block m.size + w) (word m p w)
    (λ v c. here v (Contains-cons _ _ _ (Contains-parts (per_block m.size) (λ w. visits_under m last l (index * per_block m.size + w) (word m p w)) w v h c)))
    ∙ ap (λ q. visits_under (with_bytes m g) last l (index * per_block m.size + w) q) words))

-- images that agree on what a node meets have it meet the same
pub visits_local : (m : BlockMap) (g : ℕ → List ℕ) (node : Root) → AgreesOn m g (visits_of m node) → visits_of m node ≡ visits_of (with_bytes m g) node
visits_local m g node same = parts_alike 16 _ _ (λ j h. visits_under_local m g (leaves_below m node) node.levels j (slice_index_or node.pointers j absent)
    (λ v c. same v (Contains-parts 16 (λ j. visits_under m (leaves_below m node) node.levels j (slice_index_or node.pointers j absent)) j v h c)))
