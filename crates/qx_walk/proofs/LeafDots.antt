-- A directory that is laid out as this project does begins in a present leaf.
use Rattle.std.proofs.Common.{◌≡◌, ℕ, ◌+◌, ◌-◌, ◌*◌, ◌/◌, ◌%◌, ◌<◌, ◌≤◌, inl, inr, List, [], ◌∷◌, length, refl, ap, sym, ◌∙◌, subst, arith}
use Rattle.std.specs.Prelude.{All, Bool, true, false, ◌||◌, ◌&&◌, not, ◌==◌, Contains, slice_range}
use Rattle.std.proofs.lemmas.Bool.{cases_eq, eqb-false, eqb-true}
use Rattle.std.proofs.lemmas.List.Elements.{All-contains}
use Rattle.std.proofs.lemmas.Nat.{div-add-mod', div-mul-add}
use Rattle.qx_fields.specs.declared.order.Order.{Order}
use Rattle.qx_geom.proofs.Members.{Contains-cons, Contains-head}
use Rattle.qx_geom.specs.Lists.{IsAscending}
use Rattle.qx_geom.specs.Pointer.{ceil_div, per_block}
use Rattle.qx_geom.specs.declared.root.Root.{Root}
use Rattle.qx_nodes.proofs.MetLeaves.{present_ascends}
use Rattle.qx_nodes.specs.BlockMap.{BlockMap}
use Rattle.qx_nodes.specs.Leaves.{Block, leaf_of}
use Rattle.qx_nodes.specs.Visits.{present_of}
use Rattle.qx_records.specs.NameRecord.{raw_in}
use Rattle.qx_view.specs.Images.{raw_of}
use Rattle.qx_view.specs.Sound.{is_foreign_directory, is_short}
use Rattle.qx_tables.proofs.LeafLists.{listed_number, numbers_present}
use Rattle.qx_walk.proofs.LeafRecords.{leaf_record}
use Rattle.qx_pointers.specs.declared.node.LeafPlace.{LeafPlace}
use Rattle.qx_pointers.specs.declared.source.Shape.{Shape}
use Rattle.qx_pointers.specs.Parts.{IsPlaced}
use Rattle.qx_walk.specs.Rows.{begins_with_dots, dots_in}
use Rattle.qx_tables.specs.Tables.{AreLeaves}

-- ---- the first leaf

-- numbers that ascend below a bound are no more than it leaves room for
ascending_few : (xs : List ℕ) (a b : ℕ) → IsAscending xs → ((x : ℕ) → Contains xs x → (a ≤ x) × (x < b)) → length xs ≤ b - a
ascending_few [] a b up within = omega arith
ascending_few (x ∷ xs) a b up within =
    let here : (a ≤ x) × (x < b) = within x (Contains-head x xs) in
    let rest : length xs ≤ b - (x + 1) = ascending_few xs (x + 1) b up.1 (λ y c. (let low : x < y = up.0 y c in omega arith, (within y (Contains-cons x y xs c)).1)) in
    omega (arith, here, rest)

-- if they are all that lie below it, 0 is one of them
has_zero : (xs : List ℕ) (b : ℕ) → IsAscending xs → ((x : ℕ) → Contains xs x → x < b) → length xs ≡ b → 0 < b → Contains xs 0
has_zero [] b up within all pos = absurd (omega arith)
has_zero (x ∷ xs) b up within all pos =
    let here : x < b = within x (Contains-head x xs) in
    let rest : length xs ≤ b - (x + 1) = ascending_few xs (x + 1) b up.1 (λ y c. (let low : x < y = up.0 y c in omega arith, within y (Contains-cons x y xs c))) in
    let first : x ≡ 0 = omega (arith, here, rest, all) in
    subst (λ z. Contains (x ∷ xs) z) first (Contains-head x xs)

-- how many leaves a size that is a multiple of the block size has
whole_leaves : (size block : ℕ) → 0 < block → size % block ≡ 0 → ceil_div size block ≡ size / block
whole_leaves size block pos whole =
    let parts : size + block - 1 ≡ size / block * block + (block - 1) = omega (arith, div-add-mod' size block) in
    ap (λ z. z / block) parts ∙ div-mul-add (size / block) block (block - 1) (omega arith)

-- and some, where the size isn't 0
some_leaves : (size block : ℕ) → size % block ≡ 0 → (size ≡ 0 → ⊥) → 0 < size / block
some_leaves size block whole some = elim (cases_eq (size / block) 0) [
  | inl none ↦ absurd (some (let all : size / block * block ≡ 0 * block = ap (λ q. q * block) none in omega (arith, all, whole, div-add-mod' size block)))
  | inr more ↦ omega arith
]

-- what it says that none of three tests holds
none_of : (a b c : Bool) → (a || (not b || not c)) ≡ false → (a ≡ false) × (b ≡ true) × (c ≡ true)
none_of false true true e = (refl, refl, refl)
none_of true b c e = absurd (cc)
none_of false false c e = absurd (cc)
none_of false true false e = absurd (cc)

-- a directory that isn't foreign has its first leaf
pub has_first : (m : BlockMap) (shape : Shape) (node : Root) (leaves : List LeafPlace) → 0 < per_block m.size → m.size ≡ shape.blocksize → AreLeaves m node leaves → All (IsPlaced shape node) leaves
    → is_foreign_directory m node ≡ false → (p : LeafPlace) × Contains leaves p × (p.index ≡ 0)
has_first m shape node leaves pos size are placed laid =
    let tests : (node.size == 0 ≡ false) × (node.size % m.size == 0 ≡ true) × (length (present_of m node) == node.size / m.size ≡ true) = none_of _ _ _ laid in
    let some : node.size ≡ 0 → ⊥ = eqb-false node.size 0 tests.0 in
    let whole : node.size % m.size ≡ 0 = eqb-true _ _ tests.1 in
    let all : length (present_of m node) ≡ node.size / m.size = eqb-true _ _ tests.2 in
    let room : 0 < m.size = omega arith in
    let count : ceil_div node.size m.size ≡ node.size / m.size = whole_leaves node.size m.size room whole in
    let zero_there : Contains (present_of m node) 0 = has_zero (present_of m node) (node.size / m.size) (present_ascends m node pos)
    (λ x c.
    let at : (p : LeafPlace) × Contains leaves p × (p.index ≡ x) = listed_number leaves x (subst (λ z. Contains z x) (sym (numbers_present m node leaves are)) c) in
    let low : at.0.index < ceil_div node.size shape.blocksize = (All-contains (IsPlaced shape node) leaves at.0 placed at.1).index in
    subst (λ z. z < node.size / m.size) at.2 (subst (λ z. at.0.index < z) (ap (ceil_div node.size) (sym size) ∙ count) low))
    all (some_leaves node.size m.size whole some) in
    listed_number leaves 0 (subst (λ z. Contains z 0) (sym (numbers_present m node leaves are)) zero_there)

-- ---- its first two records

-- they are those of the block
pub leaf_dots : (m : BlockMap) (node : Root) (i b : ℕ) (order : Order) (bytes : List ℕ) → m.size % 32 ≡ 0 → 64 ≤ m.size → leaf_of m node i ≡ Block b → i ≡ 0
    → order ≡ m.order → bytes ≡ m.bytes b → dots_in order bytes ≡ begins_with_dots m node
leaf_dots m node i b order bytes whole long at front same stands =
    let room : 1 < m.size / 32 = omega (arith, div-add-mod' m.size 32) in
    let place : (j : ℕ) → i * (m.size / 32) + j ≡ j = λ j. ap (λ z. z * (m.size / 32) + j) front ∙ omega arith in
    let record_is : (j : ℕ) → j < m.size / 32 → raw_in order (slice_range bytes (j * 32) (j * 32 + 32)) ≡ raw_of m node j = λ j low.
    (λ z. raw_in (same z) (slice_range (stands z) (j * 32) (j * 32 + 32))) ∙ sym (leaf_record m node i b j whole low at) ∙ ap (raw_of m node) (place j) in
    λ z. is_short (record_is 0 (omega (arith, room)) z) (46 ∷ []) && is_short (record_is 1 room z) (46 ∷ 46 ∷ [])
