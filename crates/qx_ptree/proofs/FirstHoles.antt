-- The least leaf of a node that isn't present, by the pointers on the way to it.
use Rattle.std.proofs.Common.{◌≡◌, ◌≢◌, ℕ, zero, suc, ◌+◌, ◌*◌, ◌-◌, ◌^◌, ◌/◌, ◌%◌, ◌<◌, ◌≤◌, min, inl, inr, List, [], length, refl, sym, ◌∙◌, ap, subst, arith}
use Rattle.std.specs.Prelude.{true, false, ◌==◌, nat_le, nat_lt, if◌then◌else◌, Contains, slice_index, slice_index_or, Option, Some, None, is_some, IfSome, IsTrue}
use Rattle.std.proofs.Math.Nat.{mul-le-mul_right, mul_assoc, mul_comm, one-le-pow, pow-suc, pow-zero}
use Rattle.std.proofs.Math.Numerals.{sub-one}
use Rattle.std.proofs.lemmas.Bool.{cases_eq, cases_lt, lt-leb, lt-ltb, ne_eqb}
use Rattle.std.proofs.lemmas.List.{get_or_default}
use Rattle.std.proofs.lemmas.Nat.{div-mul-add}
use Rattle.qx_fields.specs.declared.order.Order.{Order}
use Rattle.qx_geom.specs.declared.root.Root.{Root}
use Rattle.qx_geom.specs.Lists.{is_in, parts_below}
use Rattle.qx_geom.specs.Pointer.{absent, per_block}
use Rattle.qx_geom.proofs.ImagesAndFilters.{Contains-in, in_Contains}
use Rattle.qx_geom.proofs.LevelCounts.{ceil_div-is}
use Rattle.qx_geom.proofs.Members.{Contains-parts, parts-Contains}
use Rattle.qx_geom.proofs.Truths.{not_so}
use Rattle.qx_nodes.specs.BlockMap.{BlockMap, word}
use Rattle.qx_nodes.specs.Leaves.{leaves_below}
use Rattle.qx_nodes.specs.Visits.{Visit, present_of, visits_of, visits_under}
use Rattle.qx_nodes.proofs.MetLeaves.{leaf_member, leaf_visit, under_low}
use Rattle.qx_blocks.specs.BlockState.{BlockState, IsConsistent}
use Rattle.qx_ptree.specs.Holes.{HasEach, IsLeastLack, StandsAt}
use Rattle.qx_ptree.specs.Trees.{IsWorking, Leads, block_map, pointer_at}
use Rattle.qx_ptree.proofs.PointerCounts.{size_positive, words_positive}
use Rattle.qx_ptree.proofs.PointersByPosition.{leaf_up, pointer_step, pointer_top}
use Rattle.qx_ptree.proofs.PresentPositions.{leaf_there}
use Rattle.qx_ptree.proofs.ReachedLeaves.{present-reached}
use Rattle.qx_ptree.proofs.WorkingPaths.{works_below}
use Rattle.qx_ptree.proofs.MetPositions.{top_member, below_member}

-- ---- words on lists

-- numbers side by side
pub each_join : (xs : List ℕ) (a b c : ℕ) → HasEach xs a b → HasEach xs b c → HasEach xs a c
each_join xs a b c first more i from to = elim (cases_lt i b) [ inl low ↦ first i from low | inr high ↦ more i high to ]

-- no numbers
pub each_none : (xs : List ℕ) (a b : ℕ) → b ≤ a → HasEach xs a b
each_none xs a b none i from to = absurd (omega arith)

-- what lacks behind numbers that are all there is what lacks from the first on
pub lack_found : (xs : List ℕ) (a b c d i : ℕ) → HasEach xs a b → IsLeastLack xs b c (Some i) → IsLeastLack xs a d (Some i)
lack_found xs a b c d i each lack = (each_join xs a b i each lack.0, lack.1)

-- ---- what is met below the size

-- a pointer below the size that is there is met in the node
pub stands_met : (m : BlockMap) (node : Root) (l index p : ℕ) → StandsAt m node l index p → p ≢ absent → index * per_block m.size ^ l < leaves_below m node
    → Contains (visits_of m node) (record { level = l; index = index; block = p })
stands_met m node zero index p at there below =
    let v : Visit = record { level = zero; index = index; block = p } in
    let one : index * per_block m.size ^ zero ≡ index = rw (pow-zero (per_block m.size)) (omega arith) in
    at.met v (top_member (p == absent) (nat_le (leaves_below m node) index) v [] (ne_eqb p absent there) (lt-leb _ _ (subst (λ k. k < leaves_below m node) one below)))
stands_met m node (suc l) index p at there below =
    let v : Visit = record { level = suc l; index = index; block = p } in
    at.met v (top_member (p == absent) (nat_le (leaves_below m node) (index * per_block m.size ^ suc l)) v _ (ne_eqb p absent there) (lt-leb _ _ below))

-- so its leaf, where it leads to one, is present
pub stands_present : (m : BlockMap) (node : Root) (l index p : ℕ) → l ≡ 0 → StandsAt m node l index p → p ≢ absent → index * per_block m.size ^ l < leaves_below m node
    → HasEach (present_of m node) (index * per_block m.size ^ l) ((index + 1) * per_block m.size ^ l)
stands_present m node (suc l) index p none at there below i from to = absurd (omega arith)
stands_present m node zero index p none at there below i from to =
    let one : per_block m.size ^ zero ≡ 1 = pow-zero (per_block m.size) in
    let from_one : index * 1 ≤ i = subst (λ k. index * k ≤ i) one from in
    let to_one : i < (index + 1) * 1 = subst (λ k. i < (index + 1) * k) one to in
    let is : index ≡ i = omega arith in
    let v : Visit = record { level = zero; index = index; block = p } in
    subst (λ k. is_in (present_of m node) k ≡ true) is (in_Contains (present_of m node) index (leaf_member (visits_of m node) v (stands_met m node zero index p at there below) refl))

-- the pointers below one that is there stand at their positions
pub stands_below : (m : BlockMap) (node : Root) (l index p w : ℕ) → l ≢ 0 → StandsAt m node l index p → p ≢ absent → index * per_block m.size ^ l < leaves_below m node → p < m.count → w < per_block m.size
    → StandsAt m node (l - 1) (index * per_block m.size + w) (word m p w)
stands_below m node zero index p w above at there below held low = absurd (above refl)
stands_below m node (suc l) index p w above at there below held low =
    let P : ℕ = per_block m.size in
    let last : ℕ = leaves_below m node in
    let top : Visit = record { level = suc l; index = index; block = p } in
    let part : ℕ → List Visit = λ w. visits_under m last l (index * P + w) (word m p w) in
    let is : word m p w ≡ (if p == absent then absent else word m p w) = sym (ap (λ b. if b then absent else word m p w) (ne_eqb p absent there)) in
    rw sub-one (record {
      within = omega (arith, at.within);
      pointer = is ∙ ap (λ q. if q == absent then absent else word m q w) at.pointer ∙ sym (pointer_step m node l index w at.within low);
      met = λ v c. at.met v (below_member (p == absent) (nat_le last (index * P ^ suc l)) (nat_lt p m.count) top v (parts_below P part) (ne_eqb p absent there) (lt-leb _ _ below) (lt-ltb p m.count held) (Contains-parts P part w v low c));
    })

-- ---- what isn't there

-- no leaf stands below an absent pointer
pub absent_lacks : (m : BlockMap) (node : Root) (l index p : ℕ) → 0 < per_block m.size → StandsAt m node l index p → p ≡ absent → is_in (present_of m node) (index * per_block m.size ^ l) ≡ false
absent_lacks m node l index p words at none =
    let span : ℕ = per_block m.size ^ l in
    let whole : index * span + 0 ≡ index * span = omega arith in
    let up : index * span / span ≡ index = ap (λ k. k / span) (sym whole) ∙ div-mul-add index span 0 (one-le-pow l (per_block m.size) words) in
    not_so (is_in (present_of m node) (index * span)) (λ t.
    leaf_up m node l (index * span) words at.within (leaf_there m node (index * span) t) (ap (λ k. pointer_at m node l k) up ∙ sym at.pointer ∙ none))

-- so present leaves lie below the size
pub present_low : (m : BlockMap) (node : Root) (i : ℕ) → is_in (present_of m node) i ≡ true → i < leaves_below m node
present_low m node i t =
    let v : (v : Visit) × Contains (visits_of m node) v × (v.level ≡ 0) × (v.index ≡ i) = leaf_visit (visits_of m node) i (Contains-in (present_of m node) i t) in
    let part : ℕ → List Visit = λ j. visits_under m (leaves_below m node) node.levels j (slice_index_or node.pointers j absent) in
    let from : (j : ℕ) × (j < 16) × Contains (part j) v.0 = parts-Contains 16 part v.0 v.1 in
    subst (λ k. k < leaves_below m node) v.3 (under_low m (leaves_below m node) node.levels from.0 (slice_index_or node.pointers from.0 absent) v.0 from.2 v.2)

-- a leaf past it isn't present
pub past_lacks : (m : BlockMap) (node : Root) (i : ℕ) → leaves_below m node ≤ i → is_in (present_of m node) i ≡ false
past_lacks m node i past = not_so (is_in (present_of m node) i) (λ t. omega (arith, past, present_low m node i t))

-- ---- the node's own pointers

-- each stands at its position
pub stands_top : (m : BlockMap) (node : Root) (j p : ℕ) → j < 16 → p ≡ slice_index_or node.pointers j absent → StandsAt m node node.levels j p
stands_top m node j p low is = record {
  within = omega arith;
  pointer = is ∙ sym (pointer_top m node j);
  met = λ v c. Contains-parts 16 (λ j. visits_under m (leaves_below m node) node.levels j (slice_index_or node.pointers j absent)) j v low
      (subst (λ q. Contains (visits_under m (leaves_below m node) node.levels j q) v) is c);
}

-- as it is read
pub own_stands : (m : BlockMap) (node : Root) (j : ℕ) → length node.pointers ≡ 16 → j < 16 → StandsAt m node node.levels j (slice_index node.pointers j)
own_stands m node j long low = stands_top m node j (slice_index node.pointers j) low (get_or_default node.pointers j 0 absent (omega arith))

-- what they don't reach isn't present
pub reach_lacks : (m : BlockMap) (node : Root) → 0 < per_block m.size → is_in (present_of m node) (16 * per_block m.size ^ node.levels) ≡ false
reach_lacks m node words = not_so (is_in (present_of m node) (16 * per_block m.size ^ node.levels)) (λ t. omega (arith, present-reached m node words (16 * per_block m.size ^ node.levels) t))

-- ---- spans of leaves

-- the leaves below a block, by those below each of its words
pub power_down : (P l : ℕ) → l ≢ 0 → P ^ l ≡ P ^ (l - 1) * P
power_down P zero above = absurd (above refl)
power_down P (suc l) above = rw (sub-one, pow-suc P l) refl

-- they begin with those of the first word
pub first_span : (P l index : ℕ) → l ≢ 0 → (index * P + 0) * P ^ (l - 1) ≡ index * P ^ l
first_span P l index above =
    let zero_more : index * P + 0 ≡ index * P = omega arith in
    ap (λ k. k * P ^ (l - 1)) zero_more ∙ mul_assoc index P (P ^ (l - 1)) ∙ ap (λ k. index * k) (mul_comm P (P ^ (l - 1)) ∙ sym (power_down P l above))

-- and end with those of the last
pub last_span : (P l index : ℕ) → l ≢ 0 → (index * P + P) * P ^ (l - 1) ≡ (index + 1) * P ^ l
last_span P l index above =
    let all : index * P + P ≡ (index + 1) * P = omega arith in
    ap (λ k. k * P ^ (l - 1)) all ∙ mul_assoc (index + 1) P (P ^ (l - 1)) ∙ ap (λ k. (index + 1) * k) (mul_comm P (P ^ (l - 1)) ∙ sym (power_down P l above))

-- those of each word end within them
pub word_span : (P l index w : ℕ) → l ≢ 0 → w < P → (index * P + w + 1) * P ^ (l - 1) ≤ (index + 1) * P ^ l
word_span P l index w above low =
    let more : index * P + w + 1 ≤ index * P + P = omega arith in
    let times : (index * P + w + 1) * P ^ (l - 1) ≤ (index * P + P) * P ^ (l - 1) = mul-le-mul_right (P ^ (l - 1)) more in
    omega (arith, times, last_span P l index above)

-- ---- answers

-- a power that was taken
pub power_is : (m : BlockState) (level n k power : ℕ) → n ≡ m.holdings.size → k ≡ level → power ≡ (n / 4) ^ k → power ≡ per_block m.holdings.size ^ level
power_is m level n k power size k_is is = is ∙ (λ j. (size j / 4) ^ k_is j)

-- the leaves that were counted
pub leaves_is : (order : Order) (m : BlockState) (node : Root) (n leaves : ℕ) → IsConsistent m → n ≡ m.holdings.size → leaves ≡ node.size / n + min 1 (node.size % n) → leaves ≡ leaves_below (block_map order m) node
leaves_is order m node n leaves s size is =
    is ∙ ap (λ k. node.size / k + min 1 (node.size % k)) size ∙ ceil_div-is node.size m.holdings.size (size_positive m.holdings.size s.size)

-- a first leaf that lies past them
pub first_past : (P l index power leaves last : ℕ) → power ≡ P ^ l → leaves ≡ last → leaves ≤ index * power → last ≤ index * P ^ l
first_past P l index power leaves last power_of leaves_of past = subst (λ k. last ≤ index * k) power_of (subst (λ k. k ≤ index * power) leaves_of past)

-- or before their end
pub first_below : (P l index power leaves last : ℕ) → power ≡ P ^ l → leaves ≡ last → index * power < leaves → index * P ^ l < last
first_below P l index power leaves last power_of leaves_of below = subst (λ k. index * k < last) power_of (subst (λ k. index * power < k) leaves_of below)

-- what is known of a node where bytes are told
pub record IsKnown (order : Order) (m : BlockState) (node : Root) : Type 0 where
  pub consistent : IsConsistent m
  pub works : IsWorking order m node

-- a pointer below the size that is there leads to a block of the working tree
pub stands_works : (order : Order) (m : BlockState) (node : Root) (l index p : ℕ) → IsKnown order m node → StandsAt (block_map order m) node l index p → p ≢ absent
    → index * per_block m.holdings.size ^ l < leaves_below (block_map order m) node → IsTrue (m.holdings.works p)
stands_works order m node l index p known at there below = known.works (record { level = l; index = index; block = p }) (stands_met (block_map order m) node l index p at there below)

-- the first leaf below a pointer that isn't followed isn't present
pub lead_lacks : (order : Order) (m : BlockState) (node : Root) (l index p lead : ℕ) → IsKnown order m node → StandsAt (block_map order m) node l index p → (Leads m p → lead ≡ p) → lead ≡ absent
    → is_in (present_of (block_map order m) node) (index * per_block m.holdings.size ^ l) ≡ false
lead_lacks order m node l index p lead known at same none =
    let t : BlockMap = block_map order m in
    elim (cases_lt (index * per_block m.holdings.size ^ l) (leaves_below t node)) [
      | inr past ↦ past_lacks t node (index * per_block m.holdings.size ^ l) past
      | inl below ↦ elim (cases_eq p absent) [
        | inl is ↦ absent_lacks t node l index p (words_positive m.holdings.size known.consistent.size) at is
        | inr there ↦ absurd (there (sym (same (λ _. stands_works order m node l index p known at there below)) ∙ none))
      ]
    ]

-- the pointer that is followed is the one that stands there
pub lead_same : (order : Order) (m : BlockState) (node : Root) (l index p lead : ℕ) → IsKnown order m node → StandsAt (block_map order m) node l index p → (Leads m p → lead ≡ p) → lead ≢ absent
    → index * per_block m.holdings.size ^ l < leaves_below (block_map order m) node → StandsAt (block_map order m) node l index lead
lead_same order m node l index p lead known at same there below =
    subst (λ q. StandsAt (block_map order m) node l index q) (sym (same (λ is. stands_works order m node l index p known at is below))) at

-- the pointers that are read below it stand at their positions
pub words_stand : (order : Order) (m : BlockState) (node : Root) (l index lead w next : ℕ) → IsKnown order m node → l ≢ 0 → StandsAt (block_map order m) node l index lead → lead ≢ absent
    → index * per_block m.holdings.size ^ l < leaves_below (block_map order m) node → w < per_block m.holdings.size → next ≡ word (block_map order m) lead w
    → StandsAt (block_map order m) node (l - 1) (index * per_block m.holdings.size + w) next
words_stand order m node l index lead w next known above at there below low is =
    subst (λ q. StandsAt (block_map order m) node (l - 1) (index * per_block m.holdings.size + w) q) (sym is)
    (stands_below (block_map order m) node l index lead w above at there below (works_below m lead known.consistent (stands_works order m node l index lead known at there below)) low)

-- what lacks among the leaves below one word lacks first of all
pub lack_ends : (xs : List ℕ) (a b c d : ℕ) (hole : Option ℕ) → is_some hole ≡ true → HasEach xs a b → IsLeastLack xs b c hole → IsLeastLack xs a d hole
lack_ends xs a b c d None some each lack = absurd (cc)
lack_ends xs a b c d (Some i) some each lack = lack_found xs a b c d i each lack

-- where none does, all so far are present
pub lack_goes_on : (xs : List ℕ) (a b c : ℕ) (hole : Option ℕ) → is_some hole ≡ false → HasEach xs a b → IsLeastLack xs b c hole → HasEach xs a c
lack_goes_on xs a b c None none each lack = each_join xs a b c each lack
lack_goes_on xs a b c (Some i) none each lack = absurd (cc)

-- what lacks below one word is said of the same node after a call that keeps the blocks as well
pub lack_kept : (order : Order) (old mid : BlockState) (node : Root) (l index words w : ℕ) (hole : Option ℕ) → mid ≡ old → words ≡ per_block old.holdings.size
    → IsLeastLack (present_of (block_map order mid) node) ((index * words + w) * per_block mid.holdings.size ^ l) ((index * words + w + 1) * per_block mid.holdings.size ^ l) hole
    → IsLeastLack (present_of (block_map order old) node) ((index * per_block old.holdings.size + w) * per_block old.holdings.size ^ l) ((index * per_block old.holdings.size + w + 1) * per_block old.holdings.size ^ l) hole
lack_kept order old mid node l index words w hole kept same lack =
    let at_old : IsLeastLack (present_of (block_map order old) node) ((index * words + w) * per_block old.holdings.size ^ l) ((index * words + w + 1) * per_block old.holdings.size ^ l) hole =
    subst (λ x. IsLeastLack (present_of (block_map order x) node) ((index * words + w) * per_block x.holdings.size ^ l) ((index * words + w + 1) * per_block x.holdings.size ^ l) hole) kept lack in
    subst (λ k. IsLeastLack (present_of (block_map order old) node) ((index * k + w) * per_block old.holdings.size ^ l) ((index * k + w + 1) * per_block old.holdings.size ^ l) hole) same at_old

-- and it lies below the block with the word
pub below_ends : (size now level index words w : ℕ) (hole : Option ℕ) → now ≡ size → words ≡ per_block size → level ≢ 0 → w < per_block size
    → IfSome hole (λ leaf. leaf < (index * words + w + 1) * per_block now ^ (level - 1)) → IfSome hole (λ leaf. leaf < (index + 1) * per_block size ^ level)
below_ends size now level index words w None size_is words_is above low below = tt
below_ends size now level index words w (Some leaf) size_is words_is above low below =
    let at : leaf < (index * per_block size + w + 1) * per_block size ^ (level - 1) = subst (λ k. leaf < (index * k + w + 1) * per_block size ^ (level - 1)) words_is (subst (λ b. leaf < (index * words + w + 1) * per_block b ^ (level - 1)) size_is below) in
    omega (arith, at, word_span (per_block size) level index w above low)

-- a pointer stands where it stood after such a call
pub stand_kept : (order : Order) (old mid : BlockState) (node : Root) (l index words w next : ℕ) → mid ≡ old → words ≡ per_block old.holdings.size
    → StandsAt (block_map order old) node l (index * per_block old.holdings.size + w) next → StandsAt (block_map order mid) node l (index * words + w) next
stand_kept order old mid node l index words w next kept same at =
    subst (λ x. StandsAt (block_map order x) node l (index * words + w) next) (sym kept) (subst (λ k. StandsAt (block_map order old) node l (index * k + w) next) (sym same) at)
