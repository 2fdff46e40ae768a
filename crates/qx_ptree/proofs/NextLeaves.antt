-- The least present leaf of a node from one on, by the pointers on the way to it.
use Rattle.std.proofs.Common.{◌≡◌, ◌≢◌, ℕ, zero, suc, ◌+◌, ◌*◌, ◌-◌, ◌^◌, ◌/◌, ◌<◌, ◌≤◌, inl, inr, List, sym, ◌∙◌, ap, subst, arith}
use Rattle.std.specs.Prelude.{true, false, Option, Some, None, is_some, IfSome, IsTrue}
use Rattle.std.proofs.Math.Nat.{div-mul-le_self, mul-div_cancel, mul-le-mul_right, pow-zero}
use Rattle.std.proofs.lemmas.Bool.{cases_eq, cases_lt}
use Rattle.std.proofs.lemmas.Nat.{div-mul-add}
use Rattle.qx_fields.specs.declared.order.Order.{Order}
use Rattle.qx_geom.specs.declared.root.Root.{Root}
use Rattle.qx_geom.specs.Lists.{is_in}
use Rattle.qx_geom.specs.Pointer.{absent, ceil_div, per_block}
use Rattle.qx_geom.proofs.Truths.{not_so}
use Rattle.qx_nodes.specs.BlockMap.{BlockMap}
use Rattle.qx_nodes.specs.Leaves.{leaves_below}
use Rattle.qx_nodes.specs.Visits.{present_of}
use Rattle.qx_blocks.specs.BlockState.{BlockState}
use Rattle.qx_blocks.specs.Calls.{Keeps}
use Rattle.qx_ptree.specs.declared.present.Leaf.{Leaf}
use Rattle.qx_ptree.specs.Holes.{StandsAt}
use Rattle.qx_ptree.specs.Present.{HasNone, IsNextBetween, IsNextPresent}
use Rattle.qx_ptree.specs.Trees.{Leads, block_map, pointer_at}
use Rattle.qx_ptree.proofs.FirstHoles.{IsKnown, first_span, last_span, past_lacks, power_down, stands_met, stands_works}
use Rattle.qx_ptree.proofs.PointerCounts.{words_positive}
use Rattle.qx_ptree.proofs.PointersByPosition.{leaf_up}
use Rattle.qx_ptree.proofs.PresentPositions.{leaf_there}
use Rattle.qx_ptree.proofs.ReachedLeaves.{present-reached}

-- ---- words on lists

-- ranges side by side
pub none_join : (xs : List ℕ) (from a b c : ℕ) → HasNone xs from a b → HasNone xs from b c → HasNone xs from a c
none_join xs from a b c first more i late low high = elim (cases_lt i b) [ inl under ↦ first i late low under | inr over ↦ more i late over high ]

-- a part of a range
pub none_less : (xs : List ℕ) (from a b c : ℕ) → c ≤ b → HasNone xs from a b → HasNone xs from a c
none_less xs from a b c less none i late low high = none i late low (omega (arith, less))

-- a range that ends before
pub none_before : (xs : List ℕ) (from a b : ℕ) → b ≤ from → HasNone xs from a b
none_before xs from a b past i late low high = absurd (omega (arith, past))

-- no numbers
pub none_empty : (xs : List ℕ) (from a b : ℕ) → b ≤ a → HasNone xs from a b
none_empty xs from a b none i late low high = absurd (omega (arith, none))

-- ---- what isn't there

-- no leaf below an absent pointer is present
pub absent_none : (m : BlockMap) (node : Root) (l index p from : ℕ) → 0 < per_block m.size → StandsAt m node l index p → p ≡ absent
    → HasNone (present_of m node) from (index * per_block m.size ^ l) ((index + 1) * per_block m.size ^ l)
absent_none m node l index p from words at none i late low high =
    let span : ℕ = per_block m.size ^ l in
    let parts : i ≡ index * span + (i - index * span) = omega (arith, low) in
    let rest : i - index * span < span = omega (arith, low, high) in
    let up : i / span ≡ index = ap (λ k. k / span) parts ∙ div-mul-add index span (i - index * span) rest in
    not_so (is_in (present_of m node) i) (λ t. leaf_up m node l i words at.within (leaf_there m node i t) (ap (λ k. pointer_at m node l k) up ∙ sym at.pointer ∙ none))

-- neither is one past the size
pub past_none : (m : BlockMap) (node : Root) (from a b : ℕ) → leaves_below m node ≤ a → HasNone (present_of m node) from a b
past_none m node from a b past i late low high = past_lacks m node i (omega (arith, past, low))

-- nor one below a pointer that isn't followed
pub lead_none : (order : Order) (m : BlockState) (node : Root) (l index p lead from : ℕ) → IsKnown order m node → StandsAt (block_map order m) node l index p → (Leads m p → lead ≡ p) → lead ≡ absent
    → HasNone (present_of (block_map order m) node) from (index * per_block m.holdings.size ^ l) ((index + 1) * per_block m.holdings.size ^ l)
lead_none order m node l index p lead from known at same none =
    let t : BlockMap = block_map order m in
    elim (cases_lt (index * per_block m.holdings.size ^ l) (leaves_below t node)) [
      | inr past ↦ past_none t node from (index * per_block m.holdings.size ^ l) ((index + 1) * per_block m.holdings.size ^ l) past
      | inl below ↦ elim (cases_eq p absent) [
        | inl is ↦ absent_none t node l index p from (words_positive m.holdings.size known.consistent.size) at is
        | inr there ↦ absurd (there (sym (same (λ _. stands_works order m node l index p known at there below)) ∙ none))
      ]
    ]

-- a leaf's pointer that is there is the next
pub leaf_next : (m : BlockMap) (node : Root) (l index p from : ℕ) → l ≡ 0 → StandsAt m node l index p → p ≢ absent → index * per_block m.size ^ l < leaves_below m node
    → IsNextBetween m node from (index * per_block m.size ^ l) ((index + 1) * per_block m.size ^ l) (Some (record { index = index; block = p }))
leaf_next m node (suc l) index p from none at there below = absurd (omega arith)
leaf_next m node zero index p from none at there below =
    let one : index * per_block m.size ^ zero ≡ index = rw (pow-zero (per_block m.size)) (omega arith) in
    (stands_met m node zero index p at there below, none_empty (present_of m node) from (index * per_block m.size ^ zero) index (omega (arith, one)))

-- ---- spans of leaves

-- those below each word of a block
pub span_down : (P l power words : ℕ) → 0 < P → l ≢ 0 → power ≡ P ^ l → words ≡ P → power / words ≡ P ^ (l - 1)
span_down P l power words some above is same = (λ j. is j / same j) ∙ ap (λ k. k / P) (power_down P l above) ∙ mul-div_cancel (P ^ (l - 1)) some

-- the words that are left out lead to none
pub skip_none : (xs : List ℕ) (P l index from skip : ℕ) → l ≢ 0 → skip * P ^ (l - 1) ≤ from - index * P ^ l → HasNone xs from (index * P ^ l) ((index * P + skip) * P ^ (l - 1))
skip_none xs P l index from skip above few i late low high =
    let split : (index * P + skip) * P ^ (l - 1) ≡ (index * P + 0) * P ^ (l - 1) + skip * P ^ (l - 1) = omega arith in
    absurd (omega (arith, split, few, first_span P l index above))

-- as they were counted
pub skip_few : (P l index from power words less skip : ℕ) → 0 < P → l ≢ 0 → power ≡ P ^ l → words ≡ P → less ≡ from - index * power → skip ≡ less / (power / words) → skip * P ^ (l - 1) ≤ from - index * P ^ l
skip_few P l index from power words less skip some above is same less_is skip_is =
    let down : power / words ≡ P ^ (l - 1) = span_down P l power words some above is same in
    let most : less / (power / words) * (power / words) ≤ less = div-mul-le_self less (power / words) in
    let at : skip * P ^ (l - 1) ≤ less = subst (λ k. skip * k ≤ less) down (subst (λ s. s * (power / words) ≤ less) (sym skip_is) most) in
    omega (arith, at, less_is, ap (λ k. index * k) is)

-- behind the last word the block's leaves end
pub all_none : (xs : List ℕ) (P l index from w : ℕ) → l ≢ 0 → P ≤ w → HasNone xs from (index * P ^ l) ((index * P + w) * P ^ (l - 1)) → HasNone xs from (index * P ^ l) ((index + 1) * P ^ l)
all_none xs P l index from w above past none =
    let more : index * P + P ≤ index * P + w = omega (arith, past) in
    let times : (index * P + P) * P ^ (l - 1) ≤ (index * P + w) * P ^ (l - 1) = mul-le-mul_right (P ^ (l - 1)) more in
    none_less xs from (index * P ^ l) ((index * P + w) * P ^ (l - 1)) ((index + 1) * P ^ l) (omega (arith, times, last_span P l index above)) none

-- ---- answers

-- the next leaf below one word is the next of all
pub next_ends : (m : BlockMap) (node : Root) (from a b c d : ℕ) (found : Option Leaf) → is_some found ≡ true → HasNone (present_of m node) from a b → IsNextBetween m node from b c found → IsNextBetween m node from a d found
next_ends m node from a b c d None some none next = absurd (cc)
next_ends m node from a b c d (Some leaf) some none next = (next.0, none_join (present_of m node) from a b leaf.index none next.1)

-- where there is none, there is none so far
pub next_goes_on : (m : BlockMap) (node : Root) (from a b c : ℕ) (found : Option Leaf) → is_some found ≡ false → HasNone (present_of m node) from a b → IsNextBetween m node from b c found → HasNone (present_of m node) from a c
next_goes_on m node from a b c None empty none next = none_join (present_of m node) from a b c none next
next_goes_on m node from a b c (Some leaf) empty none next = absurd (cc)

-- the next of the leaves from the first on is the next
pub next_whole : (m : BlockMap) (node : Root) (from b c : ℕ) (found : Option Leaf) → is_some found ≡ true → HasNone (present_of m node) from 0 b → IsNextBetween m node from b c found → IsNextPresent m node from found
next_whole m node from b c None some none next = absurd (cc)
next_whole m node from b c (Some leaf) some none next = (next.0, λ i late low. none_join (present_of m node) from 0 b leaf.index none next.1 i late (omega arith) low)

-- and where none lies below the node's own pointers, there is none
pub none_whole : (m : BlockMap) (node : Root) (from : ℕ) → 0 < per_block m.size → HasNone (present_of m node) from 0 (16 * per_block m.size ^ node.levels) → IsNextPresent m node from None
none_whole m node from words none i late = elim (cases_lt i (16 * per_block m.size ^ node.levels)) [
  | inl low ↦ none i late (omega arith) low
  | inr past ↦ not_so (is_in (present_of m node) i) (λ t. omega (arith, past, present-reached m node words i t))
]

-- what is found below one word is said of the same node after a call that keeps the blocks as well
pub next_kept : (order : Order) (old mid : BlockState) (node : Root) (from l index words w : ℕ) (found : Option Leaf) → mid ≡ old → words ≡ per_block old.holdings.size
    → IsNextBetween (block_map order mid) node from ((index * words + w) * per_block mid.holdings.size ^ l) ((index * words + w + 1) * per_block mid.holdings.size ^ l) found
    → IsNextBetween (block_map order old) node from ((index * per_block old.holdings.size + w) * per_block old.holdings.size ^ l) ((index * per_block old.holdings.size + w + 1) * per_block old.holdings.size ^ l) found
next_kept order old mid node from l index words w found kept same next =
    let at_old : IsNextBetween (block_map order old) node from ((index * words + w) * per_block old.holdings.size ^ l) ((index * words + w + 1) * per_block old.holdings.size ^ l) found =
    subst (λ x. IsNextBetween (block_map order x) node from ((index * words + w) * per_block x.holdings.size ^ l) ((index * words + w + 1) * per_block x.holdings.size ^ l) found) kept next in
    subst (λ k. IsNextBetween (block_map order old) node from ((index * k + w) * per_block old.holdings.size ^ l) ((index * k + w + 1) * per_block old.holdings.size ^ l) found) same at_old

-- below one of the node's own pointers
pub top_kept : (order : Order) (old mid : BlockState) (node : Root) (from j : ℕ) (found : Option Leaf) → mid ≡ old
    → IsNextBetween (block_map order mid) node from (j * per_block mid.holdings.size ^ node.levels) ((j + 1) * per_block mid.holdings.size ^ node.levels) found
    → IsNextBetween (block_map order old) node from (j * per_block old.holdings.size ^ node.levels) ((j + 1) * per_block old.holdings.size ^ node.levels) found
top_kept order old mid node from j found kept next =
    subst (λ x. IsNextBetween (block_map order x) node from (j * per_block x.holdings.size ^ node.levels) ((j + 1) * per_block x.holdings.size ^ node.levels) found) kept next

-- and it lies in the same bounds
pub bounds_kept : (order : Order) (old mid : BlockState) (node : Root) (from : ℕ) (found : Option Leaf) → Keeps old mid → IfSome found (λ leaf. (from ≤ leaf.index) × (leaf.index < leaves_below (block_map order mid) node))
    → IfSome found (λ leaf. (from ≤ leaf.index) × (leaf.index < leaves_below (block_map order old) node))
bounds_kept order old mid node from None keeps bounds = tt
bounds_kept order old mid node from (Some leaf) keeps bounds = (bounds.0, subst (λ h. leaf.index < ceil_div node.size h.size) keeps.holdings bounds.1)

-- as its block is held
pub held_kept : (old mid : BlockState) (found : Option Leaf) → Keeps old mid → IfSome found (λ leaf. IsTrue (mid.holdings.works leaf.block)) → IfSome found (λ leaf. IsTrue (old.holdings.works leaf.block))
held_kept old mid None keeps held = tt
held_kept old mid (Some leaf) keeps held = subst (λ h. IsTrue (h.works leaf.block)) keeps.holdings held
