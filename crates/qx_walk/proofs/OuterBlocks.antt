-- The blocks that nodes outside the halves meet, by the blocks that were met.
use Rattle.std.proofs.Common.{◌≡◌, ◌⊎◌, inl, inr, ℕ, zero, suc, ◌+◌, ◌≤◌, ◌<◌, List, [], ◌∷◌, ◌++◌, length, refl, ap, sym, ◌∙◌, subst, arith, append-nil}
use Rattle.std.specs.Prelude.{Bool, true, false, ◌&&◌, ◌||◌, not, cond, if◌then◌else◌, Option, None, Some, Contains, filter, flat_map, map, sum_by}
use Rattle.std.specs.List.{range_with_len}
use Rattle.std.proofs.lemmas.List.{ext_get_or, map-append}
use Rattle.std.proofs.lemmas.List.FromFn.{get_or-map-range_with_len, length-map-range_with_len}
use Rattle.std.proofs.lemmas.List.Sums.{sum_by-cons}
use Rattle.std.proofs.Math.Bool.{or-true}
use Rattle.qx_blockset.specs.Members.{Members, count_of, limit_of}
use Rattle.qx_geom.specs.declared.system.SystemTree.{SystemTree}
use Rattle.qx_geom.specs.declared.system.SystemTree.TheVariants as trees
use Rattle.qx_geom.proofs.ImagesAndFilters.{Contains-in, in_Contains, Contains-image}
use Rattle.qx_geom.proofs.Members.{in_cases, in_head, in_left, in_right, in_tail, is_in-append}
use Rattle.qx_geom.proofs.Truths.{and_left, and_right, not_so, not_true, or_left, or_right, true_or_false}
use Rattle.qx_geom.specs.Layout.{first_block}
use Rattle.qx_geom.specs.Lists.{all_differ, is_in}
use Rattle.qx_geom.specs.declared.area.Which.{Which}
use Rattle.qx_geom.specs.declared.geometry.Geometry.{Geometry}
use Rattle.qx_geom.specs.declared.root.Root.{Root}
use Rattle.qx_nodes.specs.BlockMap.{BlockMap}
use Rattle.qx_nodes.specs.Content.{HasSize}
use Rattle.qx_nodes.specs.Visits.{Visit, visits_of}
use Rattle.qx_records.specs.InodeRecord.{kind_of}
use Rattle.qx_records.specs.declared.kind.Kind.TheVariants as kinds
use Rattle.qx_records.specs.declared.kind.Kind.{Kind}
use Rattle.qx_super.specs.Superblock.{Superblock}
use Rattle.qx_view.proofs.ActiveHalf.{IsGeometryOf, half_is_trees, root_in_half, root_meets, root_of_half}
use Rattle.qx_view.proofs.AlikeLists.{members_map}
use Rattle.qx_view.proofs.ApartPositions.{block_at, met_all, placed, placed_kind, placed_taken, tree_is}
use Rattle.qx_view.proofs.CountedLinks.{sum_map, sum_members}
use Rattle.qx_view.proofs.MetBlocks.{met_held}
use Rattle.qx_view.proofs.TestOrder.{met_once}
use Rattle.qx_view.proofs.TreeFound.{tree_found}
use Rattle.qx_view.proofs.TreeFromTests.{kind_known}
use Rattle.qx_view.specs.Images.{Roots, main_roots}
use Rattle.qx_model.specs.Owners.{OfFurther, OfInode, OfInodes, OfLongfile, Owner}
use Rattle.qx_view.specs.Reading.{IsHeld, IsTreeOf}
use Rattle.qx_view.specs.Sound.{is_laid_out, is_special_inode, is_special_kind, outer_blocks}
use Rattle.qx_view.specs.Usage.{met_blocks}
use Rattle.qx_view.specs.Walk.{Taken, finding_of, inode_mode, inode_root, taken_of, tests_of, walked_inodes}
use Rattle.qx_view.proofs.TestsFromTree.{differ-append}
use Rattle.qx_pointers.specs.Marks.{Marks}

-- ---- lists of numbers

-- numbers that differ, in the first of two lists
differ_left : (xs ys : List ℕ) → all_differ (xs ++ ys) ≡ true → all_differ xs ≡ true
differ_left [] ys d = refl
differ_left (x ∷ xs) ys d =
    let out : is_in (xs ++ ys) x ≡ false = not_true (is_in (xs ++ ys) x) (and_left (not (is_in (xs ++ ys) x)) (all_differ (xs ++ ys)) d) in
    let here : is_in xs x ≡ false = or_left (is_in xs x) (is_in ys x) (sym (is_in-append xs ys x) ∙ out) in
    λ i. not (here i) && differ_left xs ys (and_right (not (is_in (xs ++ ys) x)) (all_differ (xs ++ ys)) d) i

-- in the second
differ_right : (xs ys : List ℕ) → all_differ (xs ++ ys) ≡ true → all_differ ys ≡ true
differ_right [] ys d = d
differ_right (x ∷ xs) ys d = differ_right xs ys (and_right (not (is_in (xs ++ ys) x)) (all_differ (xs ++ ys)) d)

-- and no number is in both
differ_apart : (xs ys : List ℕ) (b : ℕ) → all_differ (xs ++ ys) ≡ true → is_in xs b ≡ true → is_in ys b ≡ false
differ_apart [] ys b d h = absurd (cc)
differ_apart (x ∷ xs) ys b d h = elim (in_cases x b xs h) [
  | inl is ↦ let out : is_in (xs ++ ys) x ≡ false = not_true (is_in (xs ++ ys) x) (and_left (not (is_in (xs ++ ys) x)) (all_differ (xs ++ ys)) d) in
      subst (λ z. is_in ys z ≡ false) is (or_right (is_in xs x) (is_in ys x) (sym (is_in-append xs ys x) ∙ out))
  | inr there ↦ differ_apart xs ys b (and_right (not (is_in (xs ++ ys) x)) (all_differ (xs ++ ys)) d) there
]

-- how long lists end to end are
length_join : {A : Type 0} (xs ys : List A) → length (xs ++ ys) ≡ length xs + length ys
length_join [] ys = omega arith
length_join (x ∷ xs) ys = omega (arith, length_join xs ys)

-- a sum of ones is a length
sum_ones : (xs : List ℕ) → sum_by (λ x. 1) xs ≡ length xs
sum_ones [] = refl
sum_ones (x ∷ xs) = omega (arith, sum_by-cons (λ x. 1) x xs, sum_ones xs)

-- numbers of a range that differ are as many as the numbers of the range that are among them
counted_in : (xs : List ℕ) (a n : ℕ) → all_differ xs ≡ true → ((b : ℕ) → is_in xs b ≡ true → (a ≤ b) × (b < a + n)) → sum_by (λ k. if is_in xs k then 1 else 0) (range_with_len a n) ≡ length xs
counted_in xs a n d within = sum_members (λ x. 1) xs a n d (λ w c. within w (in_Contains xs w c)) ∙ sum_ones xs

-- where they are all of the range, they are as many as its numbers
whole_range : (xs : List ℕ) (a n : ℕ) → ((b : ℕ) → a ≤ b → b < a + n → is_in xs b ≡ true) → sum_by (λ k. if is_in xs k then 1 else 0) (range_with_len a n) ≡ n
whole_range xs a zero all = refl
whole_range xs a (suc n) all =
    let here : is_in xs a ≡ true = all a (omega arith) (omega arith) in
    let one : ◌≡◌ {A = ℕ} (if is_in xs a then 1 else 0) 1 = ap (λ t. if t then 1 else 0) here in
    omega (arith, sum_by-cons (λ k. if is_in xs k then 1 else 0) a (range_with_len (a + 1) n), one, whole_range xs (a + 1) n (λ b low high. all b (omega arith) (omega arith)))

-- numbers that differ and are those of a range are as many
pub range_length : (xs : List ℕ) (a n : ℕ) → all_differ xs ≡ true → ((b : ℕ) → is_in xs b ≡ true → (a ≤ b) × (b < a + n)) → ((b : ℕ) → a ≤ b → b < a + n → is_in xs b ≡ true) → length xs ≡ n
range_length xs a n d within all = sym (counted_in xs a n d within) ∙ whole_range xs a n all

-- a set counts the numbers that it has
pub count_marked : (set : Members) (xs : List ℕ) → Marks set xs → all_differ xs ≡ true → ((b : ℕ) → is_in xs b ≡ true → b < limit_of set) → count_of set ≡ length xs
count_marked set xs marks d below =
    let same : set ≡ map (is_in xs) (range_with_len 0 (length set)) = ext_get_or false set (map (is_in xs) (range_with_len 0 (length set))) (sym (length-map-range_with_len (is_in xs) 0 (length set)))
    (λ b low. marks.each b low ∙ sym (get_or-map-range_with_len (is_in xs) 0 (length set) b b false low (omega arith))) in
    ap count_of same ∙ sum_map (λ t. if t then 1 else 0) (is_in xs) (range_with_len 0 (length set)) ∙ counted_in xs 0 (length set) d (λ b h. (omega arith, omega (arith, below b h)))

-- ---- the blocks that were met, node by node

-- the blocks that a node meets
abbrev pub blocks_of : BlockMap → Root → List ℕ
blocks_of m node = map (λ v. v.block) (visits_of m node)

-- those of its positions
placed_blocks : (m : BlockMap) (o : Owner) (node : Root) → map block_at (placed m o node) ≡ blocks_of m node
placed_blocks m o node = go (visits_of m node)
  where
    go : (vs : List Visit) → map block_at (map (λ v. (o, v)) vs) ≡ map (λ v. v.block) vs
    go [] = refl
    go (v ∷ vs) = ap (λ z. v.block ∷ z) (go vs)

-- the blocks of inodes' nodes, but for specials
abbrev user_blocks_of : BlockMap → Roots → List ℕ → List ℕ
user_blocks_of m r ns = flat_map (blocks_of m) (map (inode_root m r) (filter (λ n. not (is_special_inode m r n)) ns))

-- those of inodes that have a kind
taken_blocks : (m : BlockMap) (r : Roots) (ts : List Taken) → ((n : ℕ) → is_in (map (λ t. t.inode) ts) n ≡ true → (k : Kind) × (kind_of (inode_mode m r n) ≡ Some k))
    → map block_at (flat_map (placed_taken m r) ts) ≡ user_blocks_of m r (map (λ t. t.inode) ts)
taken_blocks m r [] known = refl
taken_blocks m r (t ∷ ts) known =
    map-append block_at (placed_taken m r t) (flat_map (placed_taken m r) ts)
    ∙ go (kind_of (inode_mode m r t.inode)) (known t.inode (in_head t.inode (map (λ t. t.inode) ts))) (taken_blocks m r ts (λ n h. known n (in_tail t.inode n (map (λ t. t.inode) ts) h)))
  where
    others : List ℕ
    others = filter (λ n. not (is_special_inode m r n)) (map (λ t. t.inode) ts)

    go : (o : Option Kind) → (k : Kind) × (o ≡ Some k) → map block_at (flat_map (placed_taken m r) ts) ≡ user_blocks_of m r (map (λ t. t.inode) ts)
        → map block_at (placed_kind m r t.inode o) ++ map block_at (flat_map (placed_taken m r) ts) ≡ flat_map (blocks_of m) (map (inode_root m r) (cond (not (is_special_kind o)) (t.inode ∷ others) others))
    go None some rest = absurd (let e : None ≡ Some some.0 = some.1 in cc)
    go (Some kinds.Special) some rest = rest
    go (Some kinds.Directory) some rest = λ i. placed_blocks m (OfInode t.inode) (inode_root m r t.inode) i ++ rest i
    go (Some kinds.File) some rest = λ i. placed_blocks m (OfInode t.inode) (inode_root m r t.inode) i ++ rest i
    go (Some kinds.Link) some rest = λ i. placed_blocks m (OfInode t.inode) (inode_root m r t.inode) i ++ rest i

module _ (m : BlockMap) (s : Superblock) (room : HasSize m) (none : finding_of m (main_roots s) ≡ None) where
  abbrev r : Roots
  r = main_roots s

  -- the blocks of the Inode tree, of the Longfile, of the bitmap and of the reached inodes
  abbrev inode_blocks : List ℕ
  inode_blocks = blocks_of m s.inode

  abbrev long_blocks : List ℕ
  long_blocks = blocks_of m s.longfile

  abbrev bitmap_blocks : List ℕ
  bitmap_blocks = blocks_of m s.bitmap

  abbrev reached_blocks : List ℕ
  reached_blocks = user_blocks_of m r (walked_inodes m r)

  -- they are all that was met
  met_parts : met_blocks m r ≡ ((inode_blocks ++ long_blocks) ++ bitmap_blocks) ++ reached_blocks
  met_parts =
      met_all m r
      ∙ map-append block_at ((placed m OfInodes s.inode ++ placed m OfLongfile s.longfile) ++ (placed m (OfFurther 0) s.bitmap ++ [])) (flat_map (placed_taken m r) (taken_of m r))
      ∙ (λ i. front i ++ taken_blocks m r (taken_of m r) (λ n h. kind_known m r room none n h) i)
    where
      front : map block_at ((placed m OfInodes s.inode ++ placed m OfLongfile s.longfile) ++ (placed m (OfFurther 0) s.bitmap ++ [])) ≡ (inode_blocks ++ long_blocks) ++ bitmap_blocks
      front =
          map-append block_at (placed m OfInodes s.inode ++ placed m OfLongfile s.longfile) (placed m (OfFurther 0) s.bitmap ++ [])
          ∙ (λ i. map-append block_at (placed m OfInodes s.inode) (placed m OfLongfile s.longfile) i ++ (map-append block_at (placed m (OfFurther 0) s.bitmap) [] ∙ append-nil (map block_at (placed m (OfFurther 0) s.bitmap))) i)
          ∙ (λ i. (placed_blocks m OfInodes s.inode i ++ placed_blocks m OfLongfile s.longfile i) ++ placed_blocks m (OfFurther 0) s.bitmap i)

  -- no block was met twice
  pub met_differ : all_differ (met_blocks m r) ≡ true
  met_differ = (met_once [] (tests_of m r) none).once

  -- each is a block's number
  pub met_counted : (b : ℕ) → is_in (met_blocks m r) b ≡ true → b < m.count
  met_counted b h =
      let is : IsTreeOf m r (tree_found m r) = tree_is m r room none in
      let held : IsHeld m r (tree_found m r) b = (met_held m r (tree_found m r) b room is).0 (Contains-in (met_blocks m r) b h) in
      by_held held is
    where
      by_held : IsHeld m r (tree_found m r) b → IsTreeOf m r (tree_found m r) → b < m.count
      by_held (o, v, at, e) is = subst (λ z. z < m.count) e (is.undamaged o v at)

  -- a block that was met is one of a system tree, or an outer block
  met_is : (b : ℕ) → is_in (met_blocks m r) b ≡ ((is_in inode_blocks b || is_in bitmap_blocks b) || is_in (outer_blocks m r) b)
  met_is b =
      ap (λ xs. is_in xs b) met_parts
      ∙ is_in-append ((inode_blocks ++ long_blocks) ++ bitmap_blocks) reached_blocks b
      ∙ ap (λ t. t || is_in reached_blocks b) (is_in-append (inode_blocks ++ long_blocks) bitmap_blocks b ∙ ap (λ t. t || is_in bitmap_blocks b) (is_in-append inode_blocks long_blocks b))
      ∙ swap (is_in inode_blocks b) (is_in long_blocks b) (is_in bitmap_blocks b) (is_in reached_blocks b)
      ∙ ap (λ t. (is_in inode_blocks b || is_in bitmap_blocks b) || t) (sym (is_in-append long_blocks reached_blocks b))
    where
      swap : (p q t u : Bool) → (((p || q) || t) || u) ≡ ((p || t) || (q || u))
      swap true q t u = refl
      swap false true true u = refl
      swap false true false u = refl
      swap false false t u = refl

  -- the parts differ
  parts_differ : all_differ (((inode_blocks ++ long_blocks) ++ bitmap_blocks) ++ reached_blocks) ≡ true
  parts_differ = subst (λ xs. all_differ xs ≡ true) met_parts met_differ

  front_differ : all_differ ((inode_blocks ++ long_blocks) ++ bitmap_blocks) ≡ true
  front_differ = differ_left ((inode_blocks ++ long_blocks) ++ bitmap_blocks) reached_blocks parts_differ

  first_differ : all_differ (inode_blocks ++ long_blocks) ≡ true
  first_differ = differ_left (inode_blocks ++ long_blocks) bitmap_blocks front_differ

  -- no block of a system tree is an outer block
  system_not_outer : (b : ℕ) → (is_in inode_blocks b || is_in bitmap_blocks b) ≡ true → is_in (outer_blocks m r) b ≡ false
  system_not_outer b h =
      is_in-append long_blocks reached_blocks b
      ∙ go (is_in inode_blocks b) (is_in bitmap_blocks b) refl refl h
    where
      rest : is_in ((inode_blocks ++ long_blocks) ++ bitmap_blocks) b ≡ true → is_in reached_blocks b ≡ false
      rest t = differ_apart ((inode_blocks ++ long_blocks) ++ bitmap_blocks) reached_blocks b parts_differ t

      go : (p q : Bool) → is_in inode_blocks b ≡ p → is_in bitmap_blocks b ≡ q → (p || q) ≡ true → (is_in long_blocks b || is_in reached_blocks b) ≡ false
      go true q e f h =
          let long : is_in long_blocks b ≡ false = differ_apart inode_blocks long_blocks b first_differ e in
          let reached : is_in reached_blocks b ≡ false = rest (in_left (inode_blocks ++ long_blocks) bitmap_blocks b (in_left inode_blocks long_blocks b e)) in
          λ i. long i || reached i
      go false true e f h =
          let long : is_in long_blocks b ≡ false = not_so (is_in long_blocks b) (λ t. true_or_false (is_in bitmap_blocks b) f (differ_apart (inode_blocks ++ long_blocks) bitmap_blocks b front_differ (in_right inode_blocks long_blocks b t))) in
          let reached : is_in reached_blocks b ≡ false = rest (in_right (inode_blocks ++ long_blocks) bitmap_blocks b f) in
          λ i. long i || reached i
      go false false e f h = absurd (cc)

  -- the lengths of the parts
  met_length : length (met_blocks m r) ≡ length (outer_blocks m r) + length (inode_blocks ++ bitmap_blocks)
  met_length =
      let whole : length (met_blocks m r) ≡ length (((inode_blocks ++ long_blocks) ++ bitmap_blocks) ++ reached_blocks) = ap (λ (xs : List ℕ). length xs) met_parts in
      let outer : length (outer_blocks m r) ≡ length long_blocks + length reached_blocks = length_join long_blocks reached_blocks in
      omega (arith, whole, outer, length_join ((inode_blocks ++ long_blocks) ++ bitmap_blocks) reached_blocks, length_join (inode_blocks ++ long_blocks) bitmap_blocks, length_join inode_blocks long_blocks, length_join inode_blocks bitmap_blocks)

  module _ (g : Geometry) (which : Which) (of : IsGeometryOf s g) (size : m.size ≡ s.blocksize) (count : m.count ≡ s.num_blocks) (right : is_laid_out m s g which ≡ true) where
    -- a block of a system tree lies in the active half
    system_in_half : (b : ℕ) → (is_in inode_blocks b || is_in bitmap_blocks b) ≡ true → (first_block g which ≤ b) × (b < first_block g which + g.half)
    system_in_half b h = go (is_in inode_blocks b) (is_in bitmap_blocks b) refl refl h
      where
        at : (tree : SystemTree) → is_in (blocks_of m (root_of_half s tree)) b ≡ true → (first_block g which ≤ b) × (b < first_block g which + g.half)
        at tree t =
            let v : (v : Visit) × Contains (visits_of m (root_of_half s tree)) v × (v.block ≡ b) = Contains-image (λ v. v.block) (visits_of m (root_of_half s tree)) b (Contains-in (blocks_of m (root_of_half s tree)) b t) in
            subst (λ z. (first_block g which ≤ z) × (z < first_block g which + g.half)) v.2 (root_in_half m s g which of size count right tree v.0 v.1)

        go : (p q : Bool) → is_in inode_blocks b ≡ p → is_in bitmap_blocks b ≡ q → (p || q) ≡ true → (first_block g which ≤ b) × (b < first_block g which + g.half)
        go true q e f h = at trees.Inodes e
        go false true e f h = at trees.Bitmap f
        go false false e f h = absurd (cc)

    -- and each block of the active half is one of a system tree
    half_in_system : (b : ℕ) → first_block g which ≤ b → b < first_block g which + g.half → (is_in inode_blocks b || is_in bitmap_blocks b) ≡ true
    half_in_system b low high =
        let tree = half_is_trees m s g which of size count right b low high in
        by_tree tree.0 (root_meets m s g which of size count right tree.0 b tree.1)
      where
        at : (tree : SystemTree) → (v : Visit) × Contains (visits_of m (root_of_half s tree)) v × (v.block ≡ b) → is_in (blocks_of m (root_of_half s tree)) b ≡ true
        at tree v = in_Contains (blocks_of m (root_of_half s tree)) b (subst (λ z. Contains (blocks_of m (root_of_half s tree)) z) v.2 (members_map (λ v. v.block) (visits_of m (root_of_half s tree)) v.0 v.1))

        by_tree : (tree : SystemTree) → (v : Visit) × Contains (visits_of m (root_of_half s tree)) v × (v.block ≡ b) → (is_in inode_blocks b || is_in bitmap_blocks b) ≡ true
        by_tree trees.Bitmap v = ap (λ t. is_in inode_blocks b || t) (at trees.Bitmap v) ∙ or-true (is_in inode_blocks b)
        by_tree trees.Inodes v = ap (λ t. t || is_in bitmap_blocks b) (at trees.Inodes v)

    -- outside the active half those met are the outer blocks
    pub outer_outside : (b : ℕ) → (b < first_block g which) ⊎ (first_block g which + g.half ≤ b) → is_in (outer_blocks m r) b ≡ is_in (met_blocks m r) b
    outer_outside b out =
        let none_here : (is_in inode_blocks b || is_in bitmap_blocks b) ≡ false = not_so (is_in inode_blocks b || is_in bitmap_blocks b) (λ t. let h = system_in_half b t in elim out [ inl low ↦ omega (arith, h.0, low) | inr high ↦ omega (arith, h.1, high) ]) in
        sym (met_is b ∙ ap (λ t. t || is_in (outer_blocks m r) b) none_here)

    -- inside it there is none
    pub outer_inside : (b : ℕ) → first_block g which ≤ b → b < first_block g which + g.half → is_in (outer_blocks m r) b ≡ false
    outer_inside b low high = system_not_outer b (half_in_system b low high)

    -- the active half's blocks were met beside the outer ones
    pub outer_length : length (met_blocks m r) ≡ length (outer_blocks m r) + g.half
    outer_length = met_length ∙ ap (λ n. length (outer_blocks m r) + n) (range_length (inode_blocks ++ bitmap_blocks) (first_block g which) g.half differ
        (λ b h. system_in_half b (sym (is_in-append inode_blocks bitmap_blocks b) ∙ h))
        (λ b low high. is_in-append inode_blocks bitmap_blocks b ∙ half_in_system b low high))
      where
        apart : (b : ℕ) → is_in inode_blocks b ≡ true → is_in bitmap_blocks b ≡ false
        apart b h = differ_apart (inode_blocks ++ long_blocks) bitmap_blocks b front_differ (in_left inode_blocks long_blocks b h)

        differ : all_differ (inode_blocks ++ bitmap_blocks) ≡ true
        differ = differ-append inode_blocks bitmap_blocks (differ_left inode_blocks long_blocks first_differ) (differ_right (inode_blocks ++ long_blocks) bitmap_blocks front_differ) apart
