-- What the change of a plan of long names does.
use Rattle.std.proofs.Common.{◌≡◌, ◌≢◌, ℕ, ◌+◌, ◌-◌, ◌*◌, ◌/◌, ◌%◌, ◌^◌, ◌<◌, ◌≤◌, ◌⊎◌, inl, inr, List, Option, None, Some, max, refl, sym, ◌∙◌, ap, subst, arith}
use Rattle.std.specs.Prelude.{Bool, true, false, not, ◌&&◌, ◌||◌, ◌==◌, nat_le, nat_lt, if◌then◌else◌, IsTrue, IfSome}
use Rattle.std.proofs.Math.Nat.{div-mul-le_self, mul-le-mul_right, mul-mod_left, pow-le-pow_left}
use Rattle.std.proofs.lemmas.Bool.{cases_lt, eq-eqb, eqb-false, eqb-true, le-leb, leb-true, lt-ltb, ltb-true, or_left}
use Rattle.std.proofs.lemmas.Nat.{le-div}
use Rattle.qx_geom.specs.declared.root.Root.{Root}
use Rattle.qx_geom.specs.Layout.{is_block_size}
use Rattle.qx_geom.specs.Lists.{is_in}
use Rattle.qx_geom.specs.Pointer.{ceil_div, per_block, reach}
use Rattle.qx_geom.specs.Positions.{is_named, present_after}
use Rattle.qx_geom.proofs.BlockSizes.{block_size-bounds}
use Rattle.qx_geom.proofs.PresentLeaves.{present_after_members}
use Rattle.qx_geom.proofs.Truths.{not_so, true_or_false, same_truth}
use Rattle.qx_ptree.specs.declared.change.Change.{Change}
use Rattle.qx_ptree.specs.Fates.{IsChange, is_written, leaves_after, written_by}
use Rattle.qx_ptree.proofs.LeafParts.{in_written-is, named-is}
use Rattle.qx_long.specs.NamePlans.{name_change, unless}

-- ---- the written leaf

-- a leaf of a range is one of it
in_range : (first count i : ℕ) → ((nat_le first i && nat_lt i (first + count)) || false) ≡ true → (first ≤ i) × (i < first + count)
in_range first count i t = within (nat_le first i) (nat_lt i (first + count)) refl refl t
  where
    within : (a b : Bool) → nat_le first i ≡ a → nat_lt i (first + count) ≡ b → ((a && b) || false) ≡ true → (first ≤ i) × (i < first + count)
    within true true le lt t = (leb-true first i le, ltb-true i (first + count) lt)
    within true false le lt t = absurd (cc)
    within false b le lt t = absurd (cc)

-- the leaf of an added name alone is written
pub one_written : (long : Root) (n : ℕ) (drop : Option ℕ) (b i : ℕ) → is_written (name_change long (Some n) drop b) i ≡ true → i ≡ n
one_written long n drop b i t = let r : (n ≤ i) × (i < n + 1) = in_range n 1 i t in omega arith

-- and none where no name is added
pub none_written : (long : Root) (drop : Option ℕ) (b i : ℕ) → is_written (name_change long None drop b) i ≡ true → ⊥
none_written long drop b i t = let r : (0 ≤ i) × (i < 0 + 0) = in_range 0 0 i t in omega arith

-- a leaf that goes is not the written one
pub unless_other : (n i : ℕ) (drop : Option ℕ) → is_named (unless n drop) i ≡ true → i ≢ n
unless_other n i None t = absurd (cc)
unless_other n i (Some x) t = by_test (x == n) refl t
  where
    by_test : (a : Bool) → (x == n) ≡ a → is_named (if a then None else Some x) i ≡ true → i ≢ n
    by_test true e t = absurd (cc)
    by_test false e t = λ is. eqb-false x n e (sym (eqb-true i x t) ∙ is)

-- ---- bounds

-- a block has from 128 to 1024 pointers
sized_words : (b : ℕ) → IsTrue (is_block_size b) → (512 ≤ b) × (128 ≤ per_block b)
sized_words b sized = let bounds = block_size-bounds b sized in (bounds.size_from, bounds.pointers_from)

-- 5 levels reach the leaf of each number that a record can hold
pub number_reached : (b n : ℕ) → IsTrue (is_block_size b) → n < 2 ^ 32 → (n + 1) * b ≤ reach b 5 * b
number_reached b n sized few =
    let most : 128 ^ 5 ≤ per_block b ^ 5 = pow-le-pow_left (sized_words b sized).1 5 in
    let many : n + 1 ≤ reach b 5 = omega arith in
    mul-le-mul_right b many

-- a leaf lies below a size that has room for it
pub leaf_below : (b n size : ℕ) → 0 < b → (n + 1) * b ≤ size → n < ceil_div size b
leaf_below b n size some room = let whole : n + 1 ≤ (size + b - 1) / b = le-div (n + 1) (size + b - 1) b some (omega arith) in omega arith

-- ---- the change

-- it is one that may be made
pub change_of : (long : Root) (add drop : Option ℕ) (b : ℕ) → IsTrue (is_block_size b) → long.size ≤ reach b 5 * b → IfSome add (λ n. n < 2 ^ 32) → IsChange b (name_change long add drop b)
change_of long None drop b sized reached few = record {
  reached = reached;
  below = λ i t. absurd (none_written long drop b i t);
  apart = λ i t. absurd (cc);
  stays = λ i t. not_so (is_written (name_change long None drop b) i) (none_written long drop b i);
}
change_of long (Some n) drop b sized reached few =
    let room : (n + 1) * b ≤ reach b 5 * b = number_reached b n sized few in
    record {
      reached = omega (arith, reached, room);
      below = λ i t. subst (λ k. k < ceil_div (max long.size ((n + 1) * b)) b) (sym (one_written long n drop b i t)) (leaf_below b n (max long.size ((n + 1) * b)) (omega (arith, (sized_words b sized).0)) (omega arith));
      apart = λ i t. absurd (cc);
      stays = λ i t. not_so (is_written (name_change long (Some n) drop b) i) (λ w. unless_other n i drop t (one_written long n drop b i w));
    }

-- the size doesn't fall
pub size_grows : (long : Root) (add drop : Option ℕ) (b : ℕ) → long.size ≤ (name_change long add drop b).size
size_grows long None drop b = omega arith
size_grows long (Some n) drop b = omega arith

-- and stays a whole number of leaves
pub size_whole : (long : Root) (add drop : Option ℕ) (b : ℕ) → long.size % b ≡ 0 → (name_change long add drop b).size % b ≡ 0
size_whole long None drop b whole = whole
size_whole long (Some n) drop b whole =
    elim (cases_lt long.size ((n + 1) * b)) [
      | inl more ↦ let is : max long.size ((n + 1) * b) ≡ (n + 1) * b = omega arith in ap (λ k. k % b) is ∙ mul-mod_left (n + 1) b
      | inr within ↦ let is : max long.size ((n + 1) * b) ≡ long.size = omega arith in ap (λ k. k % b) is ∙ whole
    ]

-- ---- the present leaves

-- the written leaf is that of the added name
written_named : (long : Root) (add drop : Option ℕ) (b i : ℕ) → is_written (name_change long add drop b) i ≡ is_named add i
written_named long None drop b i = not_so (is_written (name_change long None drop b) i) (none_written long drop b i)
written_named long (Some n) drop b i =
    same_truth (is_written (name_change long (Some n) drop b) i) (i == n) (λ t. eq-eqb i n (one_written long n drop b i t))
    (λ t. let is : i ≡ n = eqb-true i n t in (λ k. (le-leb n i (omega arith) k && lt-ltb i (n + 1) (omega arith) k) || false))

-- the leaf that goes is that of the dropped name, unless it is added
gone_named : (long : Root) (add drop : Option ℕ) (b i : ℕ) → is_named (name_change long add drop b).gone i ≡ (is_named drop i && not (is_named add i))
gone_named long None drop b i = as_it_is (is_named drop i)
  where
    as_it_is : (d : Bool) → d ≡ (d && not false)
    as_it_is true = refl
    as_it_is false = refl
gone_named long (Some n) None b i = refl
gone_named long (Some n) (Some x) b i = by_tests (x == n) (i == x) (i == n) refl refl refl
  where
    by_tests : (a d w : Bool) → (x == n) ≡ a → (i == x) ≡ d → (i == n) ≡ w → is_named (if a then None else Some x) i ≡ (d && not w)
    by_tests true true true e f h = refl
    by_tests true false w e f h = refl
    by_tests true true false e f h = absurd (eqb-false i n h (eqb-true i x f ∙ eqb-true x n e))
    by_tests false true false e f h = f
    by_tests false false w e f h = f
    by_tests false true true e f h = absurd (eqb-false x n e (sym (eqb-true i x f) ∙ eqb-true i n h))

-- is the one of that name
is_its_name : (g : Option ℕ) (i : ℕ) → g ≡ Some i → is_named g i ≡ true
is_its_name g i is = ap (λ o. is_named o i) is ∙ eq-eqb i i refl

-- a size that doesn't fall has no fewer leaves
more_leaves : (a c b : ℕ) → 0 < b → a ≤ c → ceil_div a b ≤ ceil_div c b
more_leaves a c b some more = le-div ((a + b - 1) / b) (c + b - 1) b some (omega (arith, div-mul-le_self (a + b - 1) b))

-- afterwards they are the old ones, with that of the added name and without that of the dropped one
pub present_planned : (long : Root) (present : List ℕ) (add drop : Option ℕ) (b i : ℕ) → IsTrue (is_block_size b) → ((j : ℕ) → is_in present j ≡ true → j < ceil_div long.size b)
    → is_in (present_after present (leaves_after b (name_change long add drop b)) (written_by (name_change long add drop b)) (name_change long add drop b).gone) i ≡ (is_named add i || (is_in present i && not (is_named drop i)))
present_planned long present add drop b i sized within =
    let c : Change = name_change long add drop b in
    let members = present_after_members present (leaves_after b c) (written_by c) c.gone i in
    same_truth (is_in (present_after present (leaves_after b c) (written_by c) c.gone) i) (is_named add i || (is_in present i && not (is_named drop i)))
    (λ t. elim (members.0 t) [
      | inl written ↦ or_left (is_named add i) (is_in present i && not (is_named drop i)) (sym (written_named long add drop b i) ∙ sym (in_written-is c i) ∙ written)
      | inr kept ↦ stayed (is_named add i) (is_in present i) (is_named drop i) kept.0 (sym (gone_named long add drop b i) ∙ not_so (is_named c.gone i) (λ g. kept.2 (named-is c.gone i g)))
    ])
    (λ t. elim (cases (is_named add i) (is_in present i) (is_named drop i) t) [
      | inl new ↦ members.1 (inl (in_written-is c i ∙ written_named long add drop b i ∙ new))
      | inr old ↦ members.1 (inr (
        old.0,
        omega (arith, within i old.0, more_leaves long.size c.size b (omega (arith, (sized_words b sized).0)) (size_grows long add drop b)),
        λ g. true_or_false (is_named c.gone i) (is_its_name c.gone i g) (gone_named long add drop b i ∙ old.1),
      ))
    ])
  where
    stayed : (a p d : Bool) → p ≡ true → (d && not a) ≡ false → (a || (p && not d)) ≡ true
    stayed true p d e f = refl
    stayed false true false e f = refl
    stayed false true true e f = absurd (cc)
    stayed false false d e f = absurd (cc)

    cases : (a p d : Bool) → (a || (p && not d)) ≡ true → (a ≡ true) ⊎ ((p ≡ true) × ((d && not a) ≡ false))
    cases true p d e = inl refl
    cases false true false e = inr (refl, refl)
    cases false true true e = absurd (cc)
    cases false false d e = absurd (cc)
