-- The need of a change is that of the 16 parts below the node's own pointers.
use Rattle.std.proofs.Common.{◌≡◌, ℕ, ◌+◌, ◌-◌, ◌*◌, ◌/◌, ◌^◌, ◌<◌, ◌≤◌, inl, inr, sym, ◌∙◌, ap, subst, arith}
use Rattle.std.specs.Prelude.{true, ◌==◌, count_by, length}
use Rattle.std.specs.Int.{div_ceil}
use Rattle.std.proofs.Math.Nat.{div-div-eq-div-mul, div-lt_iff_lt-mul, one-le-pow}
use Rattle.std.proofs.lemmas.Nat.{div_below, pow-add}
use Rattle.qx_geom.proofs.ImagesAndFilters.{filter_in}
use Rattle.qx_geom.proofs.LeastLevels.{levels_for-le, levels_for-reach}
use Rattle.qx_geom.proofs.LeastTouch.{leaf_below}
use Rattle.qx_geom.proofs.LevelCounts.{ceil_div-is, ceil_div-le}
use Rattle.qx_geom.proofs.PresentLeaves.{present_after_members}
use Rattle.qx_geom.specs.declared.root.Root.{Root}
use Rattle.qx_geom.specs.Layout.{levels_for}
use Rattle.qx_geom.specs.Lists.{is_in}
use Rattle.qx_geom.specs.Pointer.{ceil_div, per_block, reach}
use Rattle.qx_geom.specs.Positions.{Shape, at_level, index_above}
use Rattle.qx_geom.specs.Touch.{is_fresh, need_of}
use Rattle.qx_blocks.specs.BlockState.{IsBlockSize}
use Rattle.qx_ptree.specs.declared.change.Change.{Change}
use Rattle.qx_ptree.specs.declared.part.Part.{Part}
use Rattle.qx_ptree.specs.Alterations.{Alteration, fresh_count}
use Rattle.qx_ptree.specs.Fates.{IsChange, leaves_after, written_by}
use Rattle.qx_ptree.specs.Parts.{fresh_positions, part_of}
use Rattle.qx_ptree.specs.Trees.{HasLevels}
use Rattle.qx_ptree.proofs.LeafParts.{in_written-is, new_shape}
use Rattle.qx_ptree.proofs.PartsOfBlocks.{fresh-levels}
use Rattle.qx_ptree.proofs.PointerCounts.{size_positive}
use Rattle.qx_ptree.proofs.SumsBelow.{count_all, sum_by-below, sum_up_to, sum_up_to-alike, sum_up_to-more, sum_up_to-turned}

-- ---- the parts of the whole

-- the index some levels above a block is that so many levels above the leaf
above-both : (blocksize i d leaf : ℕ) → index_above blocksize d (index_above blocksize i leaf) ≡ index_above blocksize (i + d) leaf
above-both blocksize i d leaf = div-div-eq-div-mul leaf (per_block blocksize ^ i) (per_block blocksize ^ d) ∙ ap (λ (n : ℕ). leaf / n) (sym (pow-add (per_block blocksize) i d))

-- each fresh position lies below one of the node's own pointers
fresh-within : (a : Alteration) (i x : ℕ) → 0 < per_block a.blocksize → ((leaf : ℕ) → is_in a.new.present leaf ≡ true → leaf < 16 * per_block a.blocksize ^ a.new.levels)
    → i < a.new.levels + 1 → is_in (fresh_positions a i) x ≡ true → index_above a.blocksize (a.new.levels - i) x < 16
fresh-within a i x some reached low m =
    let has = filter_in (is_fresh a.blocksize a.old a.new a.written a.private i) (at_level a.blocksize a.new i) x m in
    let l = leaf_below a.blocksize a.new i x has.0 in
    let top : index_above a.blocksize a.new.levels l.1.0 < 16 = div_below l.1.0 (per_block a.blocksize ^ a.new.levels) 16 (one-le-pow a.new.levels (per_block a.blocksize) some) (reached l.1.0 l.1.1) in
    subst (λ y. index_above a.blocksize (a.new.levels - i) y < 16) l.1.2
    (subst (λ n. n < 16) (sym (above-both a.blocksize i (a.new.levels - i) l.1.0 ∙ ap (λ k. index_above a.blocksize k l.1.0) (let e : i + (a.new.levels - i) ≡ a.new.levels = omega arith in e))) top)

-- the need of the whole is the sum over those pointers
pub whole-need : (a : Alteration) → 0 < per_block a.blocksize → ((leaf : ℕ) → is_in a.new.present leaf ≡ true → leaf < 16 * per_block a.blocksize ^ a.new.levels)
    → fresh_count a ≡ sum_up_to 16 (λ j. (part_of a a.new.levels j).need)
unfolding need_of
whole-need a some reached =
    sum_by-below (λ i. length (fresh_positions a i)) (a.new.levels + 1)
    ∙ sum_up_to-alike (a.new.levels + 1) (λ i. length (fresh_positions a i)) (λ i. sum_up_to 16 (λ j. count_by (λ x. index_above a.blocksize (a.new.levels - i) x == j) (fresh_positions a i)))
    (λ i low. sym (count_all (index_above a.blocksize (a.new.levels - i)) 16 (fresh_positions a i) (λ x m. fresh-within a i x some reached low m)))
    ∙ sum_up_to-turned (a.new.levels + 1) 16 (λ i j. count_by (λ x. index_above a.blocksize (a.new.levels - i) x == j) (fresh_positions a i))
    ∙ sum_up_to-alike 16 (λ j. sum_up_to (a.new.levels + 1) (λ i. count_by (λ x. index_above a.blocksize (a.new.levels - i) x == j) (fresh_positions a i))) (λ j. (part_of a a.new.levels j).need)
    (λ j low. sym (fresh-levels a a.new.levels j))

-- one of them more
pub need-more : (a : Alteration) (level need j sum : ℕ) (child : Part) → need ≡ sum_up_to j (λ v. (part_of a level v).need) → child ≡ part_of a level j → sum ≡ need + child.need → sum ≡ sum_up_to (j + 1) (λ v. (part_of a level v).need)
need-more a level need j sum child is child_is sum_is = sum_is ∙ (λ i. is i + (child_is i).need) ∙ sym (sum_up_to-more j (λ v. (part_of a level v).need))

-- ---- levels and leaves

-- the leaves below the new size, as the code's division gives them
pub leaves-are : (c : Change) (blocksize size : ℕ) → 0 < blocksize → size ≡ blocksize → div_ceil c.size size ≡ leaves_after blocksize c
leaves-are c blocksize size some same = ap (div_ceil c.size) same ∙ ceil_div-is c.size blocksize some

-- five levels reach them
pub leaves-reached : (blocksize : ℕ) (c : Change) → 0 < blocksize → IsChange blocksize c → leaves_after blocksize c ≤ reach blocksize 5
leaves-reached blocksize c some change = ceil_div-le c.size blocksize (reach blocksize 5) some change.reached

-- so the new node has five levels at most
pub new-levels : (blocksize : ℕ) (c : Change) → 0 < blocksize → IsChange blocksize c → levels_for blocksize (leaves_after blocksize c) ≤ 5
new-levels blocksize c some change = levels_for-le blocksize (leaves_after blocksize c) 5 (leaves-reached blocksize c some change)

-- the leaves that are present afterwards lie below the new size
pub new-below : (blocksize : ℕ) (old : Shape) (c : Change) (i : ℕ) → IsChange blocksize c → is_in (new_shape blocksize old c).present i ≡ true → i < leaves_after blocksize c
new-below blocksize old c i change m = elim ((present_after_members old.present (ceil_div c.size blocksize) (written_by c) c.gone i).0 m) [
  | inl there ↦ change.below i (sym (in_written-is c i) ∙ there)
  | inr kept ↦ kept.1
]

-- and the new node's levels reach them
pub new-reached : (blocksize : ℕ) (old : Shape) (c : Change) → 0 < blocksize → IsChange blocksize c → (i : ℕ) → is_in (new_shape blocksize old c).present i ≡ true → i < 16 * per_block blocksize ^ (new_shape blocksize old c).levels
new-reached blocksize old c some change i m =
    let low : i < leaves_after blocksize c = new-below blocksize old c i change m in
    let far : leaves_after blocksize c ≤ reach blocksize (levels_for blocksize (leaves_after blocksize c)) = levels_for-reach blocksize (leaves_after blocksize c) 5 (omega arith) (leaves-reached blocksize c some change) in
    omega (arith, low, far)

-- a size lies below as many leaves as it takes
size-below : (n p most : ℕ) → 0 < p → ceil_div n p ≤ most → n ≤ most * p
size-below n p most some low = let far : n + p - 1 < (most + 1) * p = (div-lt_iff_lt-mul some).0 (omega (arith, low)) in omega (arith, far)

-- and its levels reach its size
pub levels-reach : (size : ℕ) (root : Root) (c : Change) → IsBlockSize size → IsChange size c → root.size ≡ c.size → root.levels ≡ levels_for size (leaves_after size c) → HasLevels size root
levels-reach size root c is change size_is levels =
    let some : 0 < size = size_positive size is in
    let leaves : ℕ = leaves_after size c in
    let far : leaves ≤ reach size (levels_for size leaves) = levels_for-reach size leaves 5 (omega arith) (leaves-reached size c some change) in
    let low : c.size ≤ reach size root.levels * size = size-below c.size size (reach size root.levels) some (subst (λ l. leaves ≤ reach size l) (sym levels) far) in
    record { most = omega (arith, levels, new-levels size c some change); reached = omega (arith, size_is, low) }
