-- Paths to leaves whose blocks are all ready.
use Rattle.std.proofs.Common.{◌≡◌, ℕ, zero, suc, ◌+◌, ◌-◌, ◌*◌, ◌/◌, ◌%◌, ◌^◌, ◌<◌, ◌≤◌, inl, inr, length, refl, sym, ◌∙◌, ap, subst, arith}
use Rattle.std.specs.Prelude.{◌==◌, nat_lt, if◌then◌else◌, IsTrue, slice_index_or}
use Rattle.std.proofs.Math.Nat.{div-div-eq-div-mul, div-lt_iff_lt-mul, pow-suc, pow-le-pow_left, pow-le-pow_right}
use Rattle.std.proofs.lemmas.Bool.{le-ltb, lt-ltb, ne_eqb}
use Rattle.std.proofs.lemmas.List.{get_or_default}
use Rattle.qx_fields.specs.declared.order.Order.{Order}
use Rattle.qx_geom.specs.declared.root.Root.{Root}
use Rattle.qx_geom.specs.Pointer.{absent, ceil_div, per_block, reach}
use Rattle.qx_geom.proofs.LevelCounts.{ceil_div-le}
use Rattle.qx_nodes.specs.BlockMap.{BlockMap, word}
use Rattle.qx_nodes.specs.Leaves.{Block, Damage, Hole, Leaf, followed, leaf_under}
use Rattle.qx_nodes.proofs.ContentLocality.{pow_above}
use Rattle.qx_nodes.proofs.LeafPaths.{by_one}
use Rattle.qx_blocks.specs.BlockState.{BlockState, IsConsistent}
use Rattle.qx_ptree.specs.Altered.{IsReadyLeaf}
use Rattle.qx_ptree.specs.Trees.{HasLevels, IsReadyPath, block_map, pointer_at, pointer_from}
use Rattle.qx_ptree.proofs.TakenBlocks.{ready_held}

-- ---- numbers

-- how many pointers a block has, at least and at most
pub pointer_bounds : (m : BlockState) → IsConsistent m → (128 ≤ per_block m.holdings.size) × (per_block m.holdings.size ≤ 1024)
pointer_bounds m k = elim k.size [
  | inl is ↦ rw is (omega arith, omega arith)
  | inr more ↦ elim more [
    | inl is ↦ rw is (omega arith, omega arith)
    | inr more ↦ elim more [ inl is ↦ rw is (omega arith, omega arith) | inr is ↦ rw is (omega arith, omega arith) ]
  ]
]

-- powers of it are above 0
pub power_above : (m : BlockState) (l : ℕ) → IsConsistent m → 0 < per_block m.holdings.size ^ l
power_above m l k = pow_above (per_block m.holdings.size) l (omega (arith, (pointer_bounds m k).0))

-- and fit numbers of 64 bits for as many levels as there are
pub power_fits : (m : BlockState) (l : ℕ) → IsConsistent m → l ≤ 5 → per_block m.holdings.size ^ l < 2 ^ 64
power_fits m l k few =
    let base : per_block m.holdings.size ^ l ≤ 1024 ^ l = pow-le-pow_left (pointer_bounds m k).1 l in
    let power : 1024 ^ l ≤ 1024 ^ 5 = pow-le-pow_right (omega arith) few in
    omega arith

-- a leaf below the size lies below one of the node's pointers
pub top_below : (m : BlockState) (node : Root) (i : ℕ) → IsConsistent m → HasLevels m.holdings.size node → i < ceil_div node.size m.holdings.size → i / per_block m.holdings.size ^ node.levels < 16
top_below m node i k has below =
    let bounds = pointer_bounds m k in
    let size : 0 < m.holdings.size = omega (arith, bounds.0) in
    let leaves : ceil_div node.size m.holdings.size ≤ 16 * per_block m.holdings.size ^ node.levels = ceil_div-le node.size m.holdings.size (reach m.holdings.size node.levels) size has.reached in
    (div-lt_iff_lt-mul (power_above m node.levels k)).1 (omega arith)

-- ---- what a ready pointer leads to

-- a ready block is one of the volume's
pub ready_below_count : (m : BlockState) (b : ℕ) → IsConsistent m → IsTrue (m.holdings.ready b) → b < m.holdings.count
ready_below_count m b k ready = k.numbers b (ready_held m b k ready)

-- and its number isn't the absent pointer
pub ready_present : (m : BlockState) (b : ℕ) → IsConsistent m → IsTrue (m.holdings.ready b) → b ≡ absent → ⊥
ready_present m b k ready e = omega (arith, ready_below_count m b k ready, k.count)

-- a pointer to it is followed
pub followed_ready : (order : Order) (m : BlockState) (p : ℕ) (next : ℕ → Leaf) → IsConsistent m → IsTrue (m.holdings.ready p) → followed (block_map order m) p next ≡ next p
followed_ready order m p next k ready =
    ap (λ t. if t then Hole else if nat_lt p m.holdings.count then next p else Damage) (ne_eqb p absent (ready_present m p k ready))
    ∙ ap (λ t. if t then next p else Damage) (lt-ltb p m.holdings.count (ready_below_count m p k ready))

-- ---- below a pointer

-- the word of a pointer block on the path, so many levels above the leaves
abbrev pub word_on : Order → BlockState → ℕ → ℕ → ℕ → ℕ
word_on order m l p i = word (block_map order m) p (i / per_block m.holdings.size ^ l % per_block m.holdings.size)

-- the first block of a ready path is ready, and so is the path below it
pub path_below : (order : Order) (m : BlockState) (l p i : ℕ) → (l ≡ 0 → ⊥) → IsReadyPath order m l p i → IsTrue (m.holdings.ready p) × IsReadyPath order m (l - 1) (word_on order m (l - 1) p i) i
path_below order m zero p i some path = absurd (some refl)
path_below order m (suc l) p i some path =
    let e : suc l - 1 ≡ l = omega arith in
    subst (λ n. IsTrue (m.holdings.ready p) × IsReadyPath order m n (word_on order m n p i) i) (sym e) path

-- the leaf is the one below the word
pub leaf_under-ready : (order : Order) (m : BlockState) (l p i : ℕ) → IsConsistent m → (l ≡ 0 → ⊥) → IsTrue (m.holdings.ready p)
    → leaf_under (block_map order m) l p i ≡ leaf_under (block_map order m) (l - 1) (word_on order m (l - 1) p i) i
leaf_under-ready order m zero p i k some ready = absurd (some refl)
leaf_under-ready order m (suc l) p i k some ready =
    let e : suc l - 1 ≡ l = omega arith in
    subst (λ n. leaf_under (block_map order m) (suc l) p i ≡ leaf_under (block_map order m) n (word_on order m n p i) i) (sym e)
    (followed_ready order m p (λ b. leaf_under (block_map order m) l (word_on order m l b i) i) k ready)

-- ---- from the node's own pointers

-- a pointer by its level is one by its depth
pub pointer_at-depth : (m : BlockMap) (node : Root) (k d j : ℕ) → d + k ≡ node.levels → pointer_at m node k j ≡ pointer_from m node d j
pointer_at-depth m node k d j sum =
    let depth : node.levels - k ≡ d = omega arith in
    ap (λ t. if t then absent else pointer_from m node (node.levels - k) j) (le-ltb node.levels k (omega arith)) ∙ ap (λ x. pointer_from m node x j) depth

-- the block above a leaf's block
pub index_over : (P l i : ℕ) → i / P ^ l / P ≡ i / P ^ suc l
index_over P l i = div-div-eq-div-mul i (P ^ l) P ∙ ap (λ q. i / q) (sym (pow-suc P l))

-- the pointer a level below is the word on the path
pub pointer_from-below : (order : Order) (m : BlockState) (node : Root) (d l i : ℕ) → IsConsistent m → IsTrue (m.holdings.ready (pointer_from (block_map order m) node d (i / per_block m.holdings.size ^ suc l)))
    → pointer_from (block_map order m) node (suc d) (i / per_block m.holdings.size ^ l) ≡ word_on order m l (pointer_from (block_map order m) node d (i / per_block m.holdings.size ^ suc l)) i
pointer_from-below order m node d l i k ready =
    let P = per_block m.holdings.size in
    let t = block_map order m in
    ap (λ q. if pointer_from t node d q == absent then absent else word t (pointer_from t node d q) (i / P ^ l % P)) (index_over P l i)
    ∙ ap (λ b. if b then absent else word t (pointer_from t node d (i / P ^ suc l)) (i / P ^ l % P)) (ne_eqb _ _ (ready_present m (pointer_from t node d (i / P ^ suc l)) k ready))

-- the path below a pointer of a ready leaf is ready
pub ready_path : (order : Order) (m : BlockState) (node : Root) (l d i : ℕ) → IsConsistent m → d + l ≡ node.levels → IsReadyLeaf order m node i
    → IsReadyPath order m l (pointer_from (block_map order m) node d (i / per_block m.holdings.size ^ l)) i
ready_path order m node zero d i k sum ready =
    subst (λ p. IsTrue (m.holdings.ready p)) (pointer_at-depth (block_map order m) node 0 d (i / per_block m.holdings.size ^ zero) sum) (ready 0 (omega arith))
ready_path order m node (suc l) d i k sum ready =
    let P = per_block m.holdings.size in
    let t = block_map order m in
    let here : IsTrue (m.holdings.ready (pointer_from t node d (i / P ^ suc l)))
    = subst (λ p. IsTrue (m.holdings.ready p)) (pointer_at-depth t node (suc l) d (i / P ^ suc l) sum) (ready (suc l) (omega arith)) in
    (here, subst (λ p. IsReadyPath order m l p i) (pointer_from-below order m node d l i k here) (ready_path order m node l (suc d) i k (omega arith) ready))

-- the leaf below it is the node's pointer to the leaf
pub leaf_at_end : (order : Order) (m : BlockState) (node : Root) (l d i : ℕ) → IsConsistent m → d + l ≡ node.levels → IsReadyLeaf order m node i
    → leaf_under (block_map order m) l (pointer_from (block_map order m) node d (i / per_block m.holdings.size ^ l)) i ≡ Block (pointer_at (block_map order m) node 0 i)
leaf_at_end order m node zero d i k sum ready =
    let P = per_block m.holdings.size in
    let t = block_map order m in
    followed_ready order m (pointer_from t node d (i / P ^ zero)) (λ b. Block b) k (ready_path order m node zero d i k sum ready)
    ∙ ap Block (ap (pointer_from t node d) (by_one i P) ∙ sym (pointer_at-depth t node 0 d i sum))
leaf_at_end order m node (suc l) d i k sum ready =
    let P = per_block m.holdings.size in
    let t = block_map order m in
    let path = ready_path order m node (suc l) d i k sum ready in
    followed_ready order m (pointer_from t node d (i / P ^ suc l)) (λ b. leaf_under t l (word_on order m l b i) i) k path.0
    ∙ ap (λ p. leaf_under t l p i) (sym (pointer_from-below order m node d l i k path.0))
    ∙ leaf_at_end order m node l (suc d) i k (omega arith) ready

-- ---- as the code has them

-- the path from one of the node's pointers is ready
pub top_path : (order : Order) (m : BlockState) (node : Root) (i top : ℕ) → IsConsistent m → HasLevels m.holdings.size node → length node.pointers ≡ 16 → i < ceil_div node.size m.holdings.size
    → top ≡ i / per_block m.holdings.size ^ node.levels → IsReadyLeaf order m node i → IsReadyPath order m node.levels (slice_index_or node.pointers top 0) i
top_path order m node i top k has sixteen below is ready =
    let within : i / per_block m.holdings.size ^ node.levels < length node.pointers = omega (arith, top_below m node i k has below) in
    rw is (subst (λ p. IsReadyPath order m node.levels p i) (get_or_default node.pointers (i / per_block m.holdings.size ^ node.levels) absent 0 within) (ready_path order m node node.levels 0 i k (omega arith) ready))

-- and the block that it ends at is the node's pointer to the leaf
pub top_end : (order : Order) (m : BlockState) (node : Root) (i top b : ℕ) → IsConsistent m → HasLevels m.holdings.size node → length node.pointers ≡ 16 → i < ceil_div node.size m.holdings.size
    → top ≡ i / per_block m.holdings.size ^ node.levels → IsReadyLeaf order m node i
    → leaf_under (block_map order m) node.levels (slice_index_or node.pointers top 0) i ≡ Block b → pointer_at (block_map order m) node 0 i ≡ b
top_end order m node i top b k has sixteen below is ready found =
    let within : i / per_block m.holdings.size ^ node.levels < length node.pointers = omega (arith, top_below m node i k has below) in
    let same : slice_index_or node.pointers top 0 ≡ pointer_from (block_map order m) node 0 (i / per_block m.holdings.size ^ node.levels)
    = ap (λ j. slice_index_or node.pointers j 0) is ∙ get_or_default node.pointers (i / per_block m.holdings.size ^ node.levels) 0 absent within in
    let end : Block (pointer_at (block_map order m) node 0 i) ≡ Block b = sym (leaf_at_end order m node node.levels 0 i k (omega arith) ready) ∙ ap (λ p. leaf_under (block_map order m) node.levels p i) (sym same) ∙ found in
    cc end
