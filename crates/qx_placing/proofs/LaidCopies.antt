-- A copy whose nodes lie over the blocks, and whose inodes and contents show a tree, stands for it.
use Rattle.std.proofs.Common.{◌≡◌, ◌≢◌, ℕ, zero, suc, ◌+◌, ◌*◌, ◌/◌, ◌%◌, ◌<◌, ◌≤◌, inl, inr, List, length, refl, sym, ◌∙◌, ap, subst, arith}
use Rattle.std.specs.Prelude.{false, not, ◌&&◌, ◌==◌, Some, Contains, drop, filter, map}
use Rattle.std.specs.List.{range_with_len}
use Rattle.std.proofs.Math.Nat.{mul-div_cancel}
use Rattle.std.proofs.lemmas.Bool.{cases_eq, eq-eqb, le-leb}
use Rattle.std.proofs.lemmas.List.{length-map}
use Rattle.std.proofs.lemmas.List.FromFn.{length-range_with_len}
use Rattle.std.proofs.lemmas.Nat.{div-add-mod'}
use Rattle.qx_fields.specs.declared.order.Order.{Order}
use Rattle.qx_geom.specs.declared.root.Root.{Root}
use Rattle.qx_geom.specs.Lists.{Distinct}
use Rattle.qx_geom.specs.Pointer.{ceil_div}
use Rattle.qx_geom.proofs.LevelCounts.{part_below}
use Rattle.qx_nodes.specs.NodeContents.{IsSameContent, NodeContent}
use Rattle.qx_nodes.specs.Visits.{Visit, is_leaf, present_of, visits_of}
use Rattle.qx_nodes.proofs.DistinctPositions.{node_distinct}
use Rattle.qx_records.specs.declared.inode.Inode.{Inode}
use Rattle.qx_blocks.specs.BlockState.{BlockState}
use Rattle.qx_ptree.specs.Trees.{IsToldNode, block_map}
use Rattle.qx_ptree.proofs.NodePositions.{told_whole}
use Rattle.qx_batch.specs.Nodes.{AreLaid, Nodes}
use Rattle.qx_batch.proofs.DistinctLists.{Contains-filter, Distinct-filter, image-Distinct, length_within}
use Rattle.qx_model.specs.Rooted.{IsRooted}
use Rattle.qx_model.specs.Tree.{Tree}
use Rattle.qx_model.specs.Whole.{AreUsed, IsWhole}
use Rattle.qx_model.proofs.ListMembers.{Contains-range, map-Contains}
use Rattle.qx_view.specs.Sound.{are_zero, has_tail}
use Rattle.qx_copies.specs.Copies.{BlockCopy, contents_of, inode_at, node_in}
use Rattle.qx_copies.specs.Shown.{Shows}
use Rattle.qx_copies.specs.Standing.{AreBounded, IsOwnCopy, IsOwnInode, Represents}
use Rattle.qx_placing.specs.PlannedEdits.{HasNodesOf}
use Rattle.qx_placing.specs.Resized.{has_tail_in}

module _ (order : Order) (n : BlockState) (d : BlockCopy) (after : Nodes) (laid : AreLaid order n after) (has : HasNodesOf d after) where
  told : (o : ℕ) (x : Root) → node_in d o ≡ Some x → IsToldNode order n x
  told o x at = laid.node o x (has.own o x at)

  -- no block stands twice
  once : (o q : ℕ) (a b : Root) (u v : Visit) → node_in d o ≡ Some a → node_in d q ≡ Some b → Contains (visits_of (block_map order n) a) u → Contains (visits_of (block_map order n) b) v → u.block ≡ v.block → (o ≡ q) × (u ≡ v)
  once o q a b u v at to met there same = elim (cases_eq o q) [
    | inl one ↦
        let both : Some b ≡ Some a = sym to ∙ ap (node_in d) (sym one) ∙ at in
        let node : b ≡ a = cc in
        (one, (told o a at).regular.apart u v met (subst (λ x. Contains (visits_of (block_map order n) x) v) node there) same)
    | inr two ↦ absurd (laid.apart o q a b (has.own o a at) (has.own q b to) two u v met there same)
  ]

  -- it stands for the tree
  pub laid_stands : (t : Tree) → AreBounded (block_map order n) (node_in d) → d.longfile.size ≤ n.holdings.count * n.holdings.size → IsRooted t → Shows order n.holdings.size d.inodes (contents_of (block_map order n) d) t → Represents (block_map order n) d t
  laid_stands t bounded low rooted shows = record {
    bounded = bounded;
    longfile_fits = λ i. bounded.levels 0 d.longfile refl i && le-leb d.longfile.size (n.holdings.count * n.holdings.size) low i;
    undamaged = record {
      blocks = λ o x v at met. let is = told o x at in is.consistent.numbers v.block (is.consistent.works_held v.block (is.works v met));
      once = once;
    };
    rooted = rooted;
    shows = shows;
  }

  -- laid out as this project does
  pub laid_own : (t : Tree) → IsWhole n.holdings.size t → AreUsed t → ((k : ℕ) (i : Inode) → inode_at d.inodes k ≡ Some i → IsOwnInode i) → ((k : ℕ) (x : Root) → node_in d (suc k) ≡ Some x → has_tail (block_map order n) x ≡ false) → IsOwnCopy (block_map order n) d t
  laid_own t whole used inodes tails = record {
    whole = whole;
    used = used;
    inodes = inodes;
    nodes = λ o x at. (told o x at).regular.plain;
    tails = tails;
  }

-- ---- leaves and tails

-- a node has no more leaves than there are blocks
pub leaves_few : (order : Order) (m : BlockState) (x : Root) → IsToldNode order m x → length (present_of (block_map order m) x) ≤ m.holdings.count
leaves_few order m x is =
    let vs : List Visit = visits_of (block_map order m) x in
    let blocks : List ℕ = map (λ (v : Visit). v.block) (filter is_leaf vs) in
    let all : List ℕ = range_with_len 0 m.holdings.count in
    let once : Distinct blocks = image-Distinct (λ (v : Visit). v.block) (filter is_leaf vs) (Distinct-filter is_leaf vs (node_distinct (block_map order m) x (told_whole order m x is).words))
    (λ u v a b same. is.regular.apart u v (Contains-filter is_leaf vs u a).0 (Contains-filter is_leaf vs v b).0 same) in
    let within : length blocks ≤ length all = length_within blocks all once (λ b c.
    let a = map-Contains (λ (v : Visit). v.block) (filter is_leaf vs) b c in
    let met = (Contains-filter is_leaf vs a.0 a.1).0 in
    let low : a.0.block < m.holdings.count = is.consistent.numbers a.0.block (is.consistent.works_held a.0.block (is.works a.0 met)) in
    Contains-range 0 m.holdings.count b (omega arith) (omega (arith, subst (λ y. y < m.holdings.count) a.2 low))) in
    omega (arith, within, length-map (filter is_leaf vs) (λ (v : Visit). v.block), length-map (filter is_leaf vs) (λ (v : Visit). v.index), length-range_with_len 0 m.holdings.count)

-- what isn't 0 is above it
positive : (n : ℕ) → n ≢ 0 → 0 < n
positive zero some = absurd (some refl)
positive (suc n) some = omega arith

-- contents that are the same have the same tail
pub tail_same : (blocksize : ℕ) (a b : NodeContent) → 0 < blocksize → IsSameContent blocksize a b → has_tail_in blocksize b ≡ has_tail_in blocksize a
tail_same blocksize a b pos same =
    (λ i. not (same.size i % blocksize == 0) && not (are_zero (drop (same.size i % blocksize) (b.leaves (same.size i / blocksize)))))
    ∙ elim (cases_eq (a.size % blocksize) 0) [
      | inl whole ↦ at_end whole
      | inr part ↦ ap (λ xs. not (a.size % blocksize == 0) && not (are_zero (drop (a.size % blocksize) xs))) (same.leaves (a.size / blocksize) (last_low part))
    ]
  where
    at_end : a.size % blocksize ≡ 0
        → (not (a.size % blocksize == 0) && not (are_zero (drop (a.size % blocksize) (b.leaves (a.size / blocksize))))) ≡ (not (a.size % blocksize == 0) && not (are_zero (drop (a.size % blocksize) (a.leaves (a.size / blocksize)))))
    at_end whole = ap (λ z. not z && not (are_zero (drop (a.size % blocksize) (b.leaves (a.size / blocksize))))) (eq-eqb (a.size % blocksize) 0 whole) ∙ sym (ap (λ z. not z && not (are_zero (drop (a.size % blocksize) (a.leaves (a.size / blocksize))))) (eq-eqb (a.size % blocksize) 0 whole))

    last_low : a.size % blocksize ≢ 0 → a.size / blocksize < ceil_div a.size blocksize
    last_low part =
        let q : ℕ = a.size / blocksize in
        let whole : q * blocksize + a.size % blocksize ≡ a.size = div-add-mod' a.size blocksize in
        let more : 0 < a.size % blocksize = positive (a.size % blocksize) part in
        let low : q * blocksize < a.size = omega (arith, whole, more) in
        subst (λ k. k < ceil_div a.size blocksize) (mul-div_cancel q pos) (part_below (q * blocksize) a.size blocksize pos low)
