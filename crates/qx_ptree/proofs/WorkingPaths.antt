-- The path to a leaf below a node's size leads to blocks that the working tree holds.
use Rattle.std.proofs.Common.{◌≡◌, ◌≢◌, ℕ, zero, suc, ◌+◌, ◌*◌, ◌-◌, ◌^◌, ◌/◌, ◌%◌, ◌<◌, Bool, true, false, List, [], ◌∷◌, length, refl, sym, ◌∙◌, ap, subst, arith}
use Rattle.std.specs.Prelude.{◌||◌, ◌==◌, nat_lt, nat_le, if◌then◌else◌, Contains, slice_index_or, Option, Result, IfOk, IsTrue}
use Rattle.std.proofs.Math.Nat.{mod-lt}
use Rattle.std.proofs.Math.Numerals.{sub-one}
use Rattle.std.proofs.lemmas.List.{get_or_default}
use Rattle.std.proofs.lemmas.Result.{IfOk-weaker}
use Rattle.std.proofs.lemmas.Bool.{ne_eqb, lt-ltb, lt-leb}
use Rattle.qx_fields.specs.declared.order.Order.{Order}
use Rattle.qx_fields.specs.Number.{field}
use Rattle.qx_geom.specs.declared.root.Root.{Root}
use Rattle.qx_geom.specs.Lists.{parts_below}
use Rattle.qx_geom.specs.Pointer.{absent, ceil_div, per_block}
use Rattle.qx_geom.proofs.Members.{Contains-cons, Contains-head, Contains-parts}
use Rattle.qx_nodes.specs.BlockMap.{BlockMap, word}
use Rattle.qx_nodes.specs.Leaves.{leaf_under, leaves_below}
use Rattle.qx_nodes.specs.Visits.{Visit, visits_under}
use Rattle.qx_nodes.proofs.LeafPaths.{begins_before, by_one, way_down}
use Rattle.qx_blocks.specs.BlockState.{BlockState, IsConsistent}
use Rattle.qx_blocks.specs.Calls.{Keeps}
use Rattle.qx_ptree.specs.Trees.{HasLevels, IsWorking, PathLeads, block_map, leaf_at}
use Rattle.qx_ptree.proofs.PointerCounts.{words_positive}
use Rattle.qx_ptree.proofs.ReadyPaths.{top_below}

-- a block of the working tree is one of the blocks
pub works_below : (m : BlockState) (b : ℕ) → IsConsistent m → IsTrue (m.holdings.works b) → b < m.holdings.count
works_below m b s w = s.numbers b (s.works_held b w)

-- each pointer that is met leads to a block of the working tree
abbrev AllWork : BlockState → List Visit → Type 0
AllWork m vs = (v : Visit) → Contains vs v → IsTrue (m.holdings.works v.block)

-- a pointer to a block that is met, whatever the tests say
block_works : (m : BlockState) (a z c : Bool) (v : Visit) (xs : List Visit) → a ≡ false → z ≡ false → (IsTrue (m.holdings.works v.block) → c ≡ true)
    → AllWork m (if a || z then [] else v ∷ (if c then xs else [])) → IsTrue (m.holdings.works v.block) × AllWork m xs
block_works m true z c v xs there low leads all = absurd (cc)
block_works m false true c v xs there low leads all = absurd (cc)
block_works m false false true v xs there low leads all = (all v (Contains-head v xs), λ w h. all w (Contains-cons v w xs h))
block_works m false false false v xs there low leads all = let w : IsTrue (m.holdings.works v.block) = all v (Contains-head v []) in absurd (cc (leads w))

-- a pointer to a leaf that is met, whatever the tests say
leaf_works : (m : BlockState) (a z : Bool) (v : Visit) → a ≡ false → z ≡ false → AllWork m (if a || z then [] else v ∷ []) → IsTrue (m.holdings.works v.block)
leaf_works m true z v there low all = absurd (cc)
leaf_works m false true v there low all = absurd (cc)
leaf_works m false false v there low all = all v (Contains-head v [])

-- where what is met below a pointer works, the path to a leaf does
path_leads : (order : Order) (m : BlockState) (last l p i : ℕ) → IsConsistent m → i < last
    → AllWork m (visits_under (block_map order m) last l (i / per_block m.holdings.size ^ l) p) → PathLeads order m l p i
path_leads order m last zero p i s below all =
    λ there.
    leaf_works m (p == absent) (nat_le last (i / per_block m.holdings.size ^ zero)) (record { level = zero; index = i / per_block m.holdings.size ^ zero; block = p }) (ne_eqb p absent there)
    (lt-leb _ _ (subst (λ k. k < last) (sym (by_one i (per_block m.holdings.size))) below)) all
path_leads order m last (suc l) p i s below all =
    let P : ℕ = per_block m.holdings.size in
    let t : BlockMap = block_map order m in
    let w : ℕ = i / P ^ l % P in
    let part : ℕ → List Visit = λ k. visits_under t last l (i / P ^ suc l * P + k) (word t p k) in
    let here : p ≢ absent → IsTrue (m.holdings.works p) × AllWork m (parts_below P part) = λ there.
    block_works m (p == absent) (nat_le last (i / P ^ suc l * P ^ suc l)) (nat_lt p m.holdings.count) (record { level = suc l; index = i / P ^ suc l; block = p }) (parts_below P part)
    (ne_eqb p absent there) (lt-leb _ _ (omega (arith, begins_before i (suc l) P))) (λ works. lt-ltb _ _ (works_below m p s works)) all in (
      λ there. (here there).0,
      λ there. path_leads order m last l (word t p w) i s below
          (λ v c. (here there).1 v (Contains-parts P part w v (mod-lt (i / P ^ l) (words_positive m.holdings.size s.size))
          (subst (λ k. Contains (visits_under t last l k (word t p w)) v) (sym (way_down i l P)) c))),
    )

-- the path from a node's pointers to a leaf below its size leads to blocks of the working tree
pub node_leads : (order : Order) (m : BlockState) (node : Root) (i : ℕ) → IsConsistent m → HasLevels m.holdings.size node → i < ceil_div node.size m.holdings.size → IsWorking order m node
    → PathLeads order m node.levels (slice_index_or node.pointers (i / per_block m.holdings.size ^ node.levels) absent) i
node_leads order m node i s levels below works =
    let t : BlockMap = block_map order m in
    let j : ℕ = i / per_block m.holdings.size ^ node.levels in
    path_leads order m (leaves_below t node) node.levels (slice_index_or node.pointers j absent) i s below
    (λ v c. works v (Contains-parts 16 (λ j. visits_under t (leaves_below t node) node.levels j (slice_index_or node.pointers j absent)) j v (top_below m node i s levels below) c))

-- ---- one step down

-- the path from the next pointer on
pub path_next : (order : Order) (m : BlockState) (l p i : ℕ) → l ≢ 0 → PathLeads order m l p i → p ≢ absent
    → PathLeads order m (l - 1) (word (block_map order m) p (i / per_block m.holdings.size ^ (l - 1) % per_block m.holdings.size)) i
path_next order m zero p i above leads there = absurd (above refl)
path_next order m (suc l) p i above leads there = rw sub-one (leads.1 there)

-- a leaf below a pointer, by the next pointer
pub leaf_next : (t : BlockMap) (l p i : ℕ) → l ≢ 0 → p ≢ absent → p < t.count → leaf_under t l p i ≡ leaf_under t (l - 1) (word t p (i / per_block t.size ^ (l - 1) % per_block t.size)) i
leaf_next t zero p i above there low = absurd (above refl)
leaf_next t (suc l) p i above there low = rw (sub-one, ne_eqb p absent there, lt-ltb p t.count low) refl

-- ---- over blocks that may stop telling

-- the word that is read on the way down
pub read_word : (order : Order) (m : BlockState) (level p i next n k power : ℕ) (bytes : List ℕ) → n ≡ m.holdings.size → k ≡ level → power ≡ (n / 4) ^ (k - 1) → bytes ≡ m.bytes p
    → next ≡ field order 4 bytes (4 * (i / power % (n / 4))) → next ≡ word (block_map order m) p (i / per_block m.holdings.size ^ (level - 1) % per_block m.holdings.size)
read_word order m level p i next n k power bytes size k_is power_is bytes_is next_is =
    let power_of : power ≡ per_block m.holdings.size ^ (level - 1) = power_is ∙ (λ j. (size j / 4) ^ (k_is j - 1)) in
    next_is ∙ (λ j. field order 4 (bytes_is j) (4 * (i / power_of j % (size j / 4))))

-- the path goes on after a call that keeps the blocks
pub path_after : (order : Order) (old mid : BlockState) (level p i next : ℕ) → Keeps old mid → level ≢ 0 → p ≢ absent
    → (IsTrue mid.tells → next ≡ word (block_map order old) p (i / per_block old.holdings.size ^ (level - 1) % per_block old.holdings.size))
    → (IsTrue old.tells → PathLeads order old level p i) → IsTrue mid.tells → PathLeads order mid (level - 1) next i
path_after order old mid level p i next keeps above there is leads told =
    let same : mid ≡ old = keeps.told told in
    subst (λ x. PathLeads order x (level - 1) next i) (sym same)
    (subst (λ q. PathLeads order old (level - 1) q i) (sym (is told)) (path_next order old level p i above (leads (subst (λ x. IsTrue x.tells) same told)) there))

-- what is found from the next pointer on is what is found from this one on
pub found_after : {E : Type 0} (order : Order) (old mid new : BlockState) (level p i next : ℕ) (result : Result (Option ℕ) E) → Keeps old mid → Keeps mid new → level ≢ 0 → p ≢ absent → p < old.holdings.count
    → (IsTrue mid.tells → next ≡ word (block_map order old) p (i / per_block old.holdings.size ^ (level - 1) % per_block old.holdings.size))
    → IfOk result (λ found. IsTrue new.tells → leaf_at found ≡ leaf_under (block_map order mid) (level - 1) next i)
    → IfOk result (λ found. IsTrue new.tells → leaf_at found ≡ leaf_under (block_map order old) level p i)
found_after order old mid new level p i next result first later above there low is below =
    IfOk-weaker result (λ found. IsTrue new.tells → leaf_at found ≡ leaf_under (block_map order mid) (level - 1) next i) (λ found. IsTrue new.tells → leaf_at found ≡ leaf_under (block_map order old) level p i)
    (λ found h told.
    let mid_told : IsTrue mid.tells = subst (λ x. IsTrue x.tells) (later.told told) told in
    h told ∙ ap (λ x. leaf_under (block_map order x) (level - 1) next i) (first.told mid_told)
    ∙ ap (λ q. leaf_under (block_map order old) (level - 1) q i) (is mid_told) ∙ sym (leaf_next (block_map order old) level p i above there low))
    below

-- ---- the node's own pointers

-- the pointer that is read first
pub first_pointer : (m : BlockState) (node : Root) (i n k power : ℕ) → IsConsistent m → HasLevels m.holdings.size node → i < ceil_div node.size m.holdings.size → length node.pointers ≡ 16
    → n ≡ m.holdings.size → k ≡ node.levels → power ≡ (n / 4) ^ k
    → slice_index_or node.pointers (i / power) 0 ≡ slice_index_or node.pointers (i / per_block m.holdings.size ^ node.levels) absent
first_pointer m node i n k power s levels below long size k_is power_is =
    let power_of : power ≡ per_block m.holdings.size ^ node.levels = power_is ∙ (λ j. (size j / 4) ^ k_is j) in
    ap (λ q. slice_index_or node.pointers (i / q) 0) power_of
    ∙ get_or_default node.pointers (i / per_block m.holdings.size ^ node.levels) 0 absent (omega (arith, top_below m node i s levels below, long))
