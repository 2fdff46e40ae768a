-- The active half of a sound image: it is held, and no other block of a half is.
use Rattle.std.proofs.Common.{◌≡◌, ◌⊎◌, inl, inr, ℕ, zero, suc, ◌+◌, ◌*◌, ◌^◌, ◌≤◌, ◌<◌, List, ◌∷◌, length, refl, ap, sym, ◌∙◌, subst, arith}
use Rattle.std.specs.Prelude.{Bool, true, false, Option, Some, None, Result, Ok, Err, Contains, nat_le, bytes_eq, ◌&&◌, ◌==◌, if◌then◌else◌}
use Rattle.std.specs.List.{list_all}
use Rattle.std.proofs.lemmas.Bool.{eqb-true, leb-true, cases_lt}
use Rattle.std.proofs.lemmas.Slice.Eq.{bytes_eq-Decides}
use Rattle.std.proofs.lemmas.Option.{same_Some}
use Rattle.qx_geom.specs.declared.system.SystemTree.{SystemTree}
use Rattle.qx_geom.specs.declared.system.SystemTree.TheVariants as trees
use Rattle.qx_geom.proofs.BlockSizes.{block_size-bounds}
use Rattle.qx_geom.proofs.LevelCounts.{level_count-leaves, tree_blocks-is}
use Rattle.qx_geom.proofs.Truths.{and_left, and_right}
use Rattle.qx_geom.proofs.VolumeNumbers.{IsGeometry-keeps, IsGeometry-of, VolumeNumbers, first_block-le, geometry_of-numbers, tree-below, tree-within, tree_leaves-le}
use Rattle.qx_geom.specs.Layout.{IsGeometry, IsPointerBlock, first_block, geometry_of, is_block_size, level_count, levels_for, numbers_of, system_root_of, system_tree, tree_base, tree_blocks, tree_leaves, tree_size}
use Rattle.qx_geom.specs.Pointer.{ceil_div}
use Rattle.qx_geom.specs.declared.area.Which.TheVariants.{First, Second}
use Rattle.qx_geom.specs.declared.area.Which.{Which}
use Rattle.qx_geom.specs.declared.geometry.GeomFault.{GeomFault}
use Rattle.qx_geom.specs.declared.geometry.Geometry.{Geometry}
use Rattle.qx_geom.specs.declared.root.Root.{Root}
use Rattle.qx_model.specs.Tree.{Tree}
use Rattle.qx_nodes.specs.BlockMap.{BlockMap}
use Rattle.qx_nodes.specs.Content.{HasSize}
use Rattle.qx_nodes.proofs.MetLeaves.{node_leaf_found}
use Rattle.qx_nodes.specs.Leaves.{Block, leaf_of, leaves_below}
use Rattle.qx_nodes.specs.Visits.{Visit, visits_of}
use Rattle.qx_super.specs.Active.{active_area, active_super}
use Rattle.qx_super.specs.Superblock.{Superblock}
use Rattle.qx_super.specs.declared.choice.Pick.TheVariants as picks
use Rattle.qx_view.specs.declared.reasons.Reason.TheVariants as reasons
use Rattle.qx_view.specs.declared.reasons.Reason.{Reason}
use Rattle.qx_view.proofs.AlikeLists.{member_passes}
use Rattle.qx_view.proofs.RoomForPointers.{tree_sized}
use Rattle.qx_view.proofs.OuterNodes.{inode_outer, longfile_outer, outer_has}
use Rattle.qx_view.proofs.SystemTrees.{IsInTree, met_in_tree, met_of_level, tree_met}
use Rattle.qx_view.specs.Images.{image_blocks, main_roots}
use Rattle.qx_model.specs.Owners.{OfFurther, OfInode, OfInodes, OfLongfile, Owner}
use Rattle.qx_view.specs.Reading.{HasNode, IsHeld, IsTreeOf}
use Rattle.qx_view.specs.Sound.{IsSound, first_some, geometry_if, has_system_trees, is_laid_out, is_same_root, is_system_tree, is_written_by, outer_blocks, reason_at, reason_of, reason_with, reasons_in, written_geometry}
use Rattle.qx_view.specs.Walk.{walked_inodes}

-- ---- the geometry

-- a superblock's geometry on a device of this length
pub record IsGeometryOf (s : Superblock) (g : Geometry) : Type 0 where
  pub volume : IsGeometry g
  pub size : s.blocksize ≡ g.blocksize
  pub count : s.num_blocks ≡ g.num_blocks
  pub leaves : (tree : SystemTree) → ceil_div (tree_size g tree) g.blocksize ≡ tree_leaves g tree

-- the leaves of both trees are those of their sizes
leaves_of_size : (len each inodes : ℕ) (tree : SystemTree) → ceil_div (tree_size (numbers_of len each inodes) tree) each ≡ tree_leaves (numbers_of len each inodes) tree
leaves_of_size len each inodes trees.Bitmap = refl
leaves_of_size len each inodes trees.Inodes = refl

-- the geometry with which an image's reasons are asked
pub written_is : (s : Superblock) (len : ℕ) (g : Geometry) → written_geometry s len ≡ Some g → IsGeometryOf s g
written_is s len g e = by_result (geometry_of len s.blocksize s.num_inodes) refl e
  where
    made : geometry_of len s.blocksize s.num_inodes ≡ Ok g → is_written_by s g ≡ true → IsGeometryOf s g
    made ok written =
        let numbers : numbers_of len s.blocksize s.num_inodes ≡ g = geometry_of-numbers len s.blocksize s.num_inodes g ok in
        record {
          volume = IsGeometry-of len s.blocksize s.num_inodes g ok;
          size = ap (λ (x : Geometry). x.blocksize) numbers;
          count = sym (eqb-true g.num_blocks s.num_blocks (and_left (g.num_blocks == s.num_blocks) _ written));
          leaves = subst (λ (x : Geometry). (tree : SystemTree) → ceil_div (tree_size x tree) x.blocksize ≡ tree_leaves x tree) numbers (leaves_of_size len s.blocksize s.num_inodes);
        }

    by_test : (h : Geometry) (b : Bool) → is_written_by s h ≡ b → geometry_of len s.blocksize s.num_inodes ≡ Ok h → (if b then Some h else None) ≡ Some g → IsGeometryOf s g
    by_test h true written ok e = let same : h ≡ g = cc in made (ok ∙ ap (λ (x : Geometry). Ok x) same) (subst (λ x. is_written_by s x ≡ true) same written)
    by_test h false written ok e = absurd (cc)

    by_result : (x : Result Geometry GeomFault) → geometry_of len s.blocksize s.num_inodes ≡ x → geometry_if s x ≡ Some g → IsGeometryOf s g
    by_result (Err fault) ok e = absurd (cc)
    by_result (Ok h) ok e = by_test h (is_written_by s h) refl ok e

-- ---- no reason

-- the first of what is nothing is nothing
first_none : {A : Type 0} (o : Option A) (os : List (Option A)) → first_some (o ∷ os) ≡ None → o ≡ None
first_none None os e = refl
first_none (Some x) os e = absurd (cc)

-- a reason that doesn't apply has no number to which it does
pub reason_none : (reason : Reason) (o : Option ℕ) → reason_at reason o ≡ None → o ≡ None
reason_none reason None e = refl
reason_none reason (Some at) e = absurd (cc)

-- a test is passed where its reason doesn't apply
test_passed : (reason : Reason) (b : Bool) → reason_at reason (if b then None else Some 0) ≡ None → b ≡ true
test_passed reason true e = refl
test_passed reason false e = absurd (cc)

-- where no reason applies, the halves are as they must be, and the nodes outside meet no block of them
pub halves_right : (m : BlockMap) (s : Superblock) (g : Geometry) (which : Which) → first_some (reasons_in m s g which (main_roots s) (outer_blocks m (main_roots s)) (walked_inodes m (main_roots s))) ≡ None
    → (is_laid_out m s g which ≡ true) × (list_all (λ b. nat_le (2 * g.half) b) (outer_blocks m (main_roots s)) ≡ true)
halves_right m s g which none =
    let both : (is_laid_out m s g which && list_all (λ b. nat_le (2 * g.half) b) (outer_blocks m (main_roots s))) ≡ true = test_passed reasons.Halves _ (first_none _ _ none) in
    (and_left (is_laid_out m s g which) _ both, and_right (is_laid_out m s g which) _ both)

-- ---- the trees of a half

-- two root nodes that the test calls the same are one
same_root : (a b : Root) → is_same_root a b ≡ true → a ≡ b
same_root a b e =
    let rest : ((a.levels == b.levels) && bytes_eq a.pointers b.pointers) ≡ true = and_right (a.size == b.size) _ e in
    let size : a.size ≡ b.size = eqb-true a.size b.size (and_left (a.size == b.size) _ e) in
    let levels : a.levels ≡ b.levels = eqb-true a.levels b.levels (and_left (a.levels == b.levels) _ rest) in
    let pointers : a.pointers ≡ b.pointers = (bytes_eq-Decides a.pointers b.pointers).0 (and_right (a.levels == b.levels) _ rest) in
    λ i. record { size = size i; pointers = pointers i; levels = levels i }

-- a node is the root of a tree of this half, whose words are right
record IsHalfTree (m : BlockMap) (g : Geometry) (which : Which) (tree : SystemTree) (node : Root) : Type 0 where
  root : node ≡ system_tree m.size (tree_base g which tree) (tree_leaves g tree) (tree_size g tree)
  words : is_system_tree m (tree_base g which tree) (tree_leaves g tree) ≡ true

-- the root node of a superblock that its half must have
abbrev pub root_of_half : Superblock → SystemTree → Root
root_of_half s trees.Bitmap = s.bitmap
root_of_half s trees.Inodes = s.inode

module _ (m : BlockMap) (s : Superblock) (g : Geometry) (which : Which) (of : IsGeometryOf s g) (size : m.size ≡ s.blocksize) (count : m.count ≡ s.num_blocks) (right : is_laid_out m s g which ≡ true) where
  -- the blocks have the geometry's size
  each : m.size ≡ g.blocksize
  each = size ∙ of.size

  -- which is a permitted one
  sized : is_block_size m.size ≡ true
  sized = ap is_block_size each ∙ (IsGeometry-keeps g of.volume).block_size

  -- both trees of the active half are as they must be
  half_tree : (tree : SystemTree) → IsHalfTree m g which tree (root_of_half s tree)
  unfolding system_root_of
  half_tree tree = record { root = by_root tree; words = by_words tree (of_half which) }
    where
      rest : (is_same_root s.inode (system_root_of g which trees.Inodes) && (has_system_trees m g First && has_system_trees m g Second)) ≡ true
      rest = and_right (is_same_root s.bitmap (system_root_of g which trees.Bitmap)) _ right

      of_half : (w : Which) → has_system_trees m g w ≡ true
      of_half First = and_left (has_system_trees m g First) _ (and_right (is_same_root s.inode (system_root_of g which trees.Inodes)) _ rest)
      of_half Second = and_right (has_system_trees m g First) _ (and_right (is_same_root s.inode (system_root_of g which trees.Inodes)) _ rest)

      by_words : (tree : SystemTree) → has_system_trees m g which ≡ true → is_system_tree m (tree_base g which tree) (tree_leaves g tree) ≡ true
      by_words trees.Bitmap half = and_left (is_system_tree m (tree_base g which trees.Bitmap) (tree_leaves g trees.Bitmap)) _ half
      by_words trees.Inodes half = and_right (is_system_tree m (tree_base g which trees.Bitmap) (tree_leaves g trees.Bitmap)) _ half

      by_root : (tree : SystemTree) → root_of_half s tree ≡ system_tree m.size (tree_base g which tree) (tree_leaves g tree) (tree_size g tree)
      by_root trees.Bitmap = same_root s.bitmap (system_root_of g which trees.Bitmap) (and_left (is_same_root s.bitmap (system_root_of g which trees.Bitmap)) _ right) ∙ ap (λ z. system_tree z (tree_base g which trees.Bitmap) (tree_leaves g trees.Bitmap) (tree_size g trees.Bitmap)) (sym each)
      by_root trees.Inodes = same_root s.inode (system_root_of g which trees.Inodes) (and_left (is_same_root s.inode (system_root_of g which trees.Inodes)) _ rest) ∙ ap (λ z. system_tree z (tree_base g which trees.Inodes) (tree_leaves g trees.Inodes) (tree_size g trees.Inodes)) (sym each)

  -- the bitmap has the geometry's leaves
  pub bitmap_leaves_are : leaves_below m s.bitmap ≡ g.bitmap_leaves
  bitmap_leaves_are = ap (λ node. leaves_below m node) (half_tree trees.Bitmap).root ∙ ap (λ z. ceil_div (tree_size g trees.Bitmap) z) each ∙ of.leaves trees.Bitmap

  -- leaf i of the bitmap is the block that stands i behind the half's first
  pub bitmap_leaf : (i : ℕ) → i < g.bitmap_leaves → leaf_of m s.bitmap i ≡ Block (first_block g which + i)
  bitmap_leaf i low =
      let laid : IsHalfTree m g which trees.Bitmap s.bitmap = half_tree trees.Bitmap in
      let numbers : VolumeNumbers g = IsGeometry-keeps g of.volume in
      let bounds = block_size-bounds m.size sized in
      let all : tree_base g which trees.Bitmap + tree_blocks m.size g.bitmap_leaves ≤ first_block g which + g.half = subst (λ z. tree_base g which trees.Bitmap + tree_blocks z g.bitmap_leaves ≤ first_block g which + g.half) (sym each) (tree-within g which trees.Bitmap of.volume) in
      let below : tree_base g which trees.Bitmap + tree_blocks m.size g.bitmap_leaves ≤ 2 ^ 28 = subst (λ z. tree_base g which trees.Bitmap + tree_blocks z g.bitmap_leaves ≤ 2 ^ 28) (sym each) (tree-below g which trees.Bitmap of.volume) in
      let counted : tree_base g which trees.Bitmap + tree_blocks m.size g.bitmap_leaves ≤ m.count = omega (arith, all, first_block-le g which, numbers.room, count, of.count) in
      let there : i < level_count m.size g.bitmap_leaves 0 = omega (arith, low, level_count-leaves m.size g.bitmap_leaves sized) in
      let few : g.bitmap_leaves ≤ tree_blocks m.size g.bitmap_leaves = omega (arith, tree_blocks-is m.size g.bitmap_leaves sized) in
      let met : Contains (visits_of m (system_tree m.size (tree_base g which trees.Bitmap) g.bitmap_leaves (tree_size g trees.Bitmap))) (record { level = 0; index = i; block = first_block g which + 0 + i })
      = met_of_level m (tree_base g which trees.Bitmap) g.bitmap_leaves (tree_size g trees.Bitmap) sized laid.words (tree_leaves-le g trees.Bitmap of.volume) below counted
      (ap (λ z. ceil_div (tree_size g trees.Bitmap) z) each ∙ of.leaves trees.Bitmap) (levels_for m.size g.bitmap_leaves) 0 i (omega arith) there in
      subst (λ node. leaf_of m node i ≡ Block (first_block g which + i)) (sym laid.root)
      (node_leaf_found m (system_tree m.size (tree_base g which trees.Bitmap) g.bitmap_leaves (tree_size g trees.Bitmap)) (record { level = 0; index = i; block = first_block g which + 0 + i }) (omega (arith, bounds.pointers_from)) met refl (omega (arith, low, few, counted))
      ∙ ap (λ b. Block b) (let e : first_block g which + 0 + i ≡ first_block g which + i = omega arith in e))

  -- the blocks of a tree of the half lie in the half
  tree_in_half : (tree : SystemTree) (b : ℕ) → IsInTree m.size (tree_base g which tree) (tree_leaves g tree) b → (first_block g which ≤ b) × (b < first_block g which + g.half)
  tree_in_half tree b inside = (omega (arith, start tree, inside.from), omega (arith, inside.to, subst (λ z. tree_base g which tree + tree_blocks z (tree_leaves g tree) ≤ first_block g which + g.half) (sym each) (tree-within g which tree of.volume)))
    where
      start : (tree : SystemTree) → first_block g which ≤ tree_base g which tree
      start trees.Bitmap = omega arith
      start trees.Inodes = omega arith

  -- what its root node meets lies in the half
  pub root_in_half : (tree : SystemTree) (v : Visit) → Contains (visits_of m (root_of_half s tree)) v → (first_block g which ≤ v.block) × (v.block < first_block g which + g.half)
  root_in_half tree v c =
      let laid : IsHalfTree m g which tree (root_of_half s tree) = half_tree tree in
      tree_in_half tree v.block (met_in_tree m (tree_base g which tree) (tree_leaves g tree) sized laid.words (tree_size g tree) v (subst (λ node. Contains (visits_of m node) v) laid.root c))

  -- and its root node meets each block of the tree
  pub root_meets : (tree : SystemTree) (b : ℕ) → IsInTree m.size (tree_base g which tree) (tree_leaves g tree) b → (v : Visit) × Contains (visits_of m (root_of_half s tree)) v × (v.block ≡ b)
  root_meets tree b inside =
      let laid : IsHalfTree m g which tree (root_of_half s tree) = half_tree tree in
      let numbers : VolumeNumbers g = IsGeometry-keeps g of.volume in
      let low : tree_base g which tree + tree_blocks m.size (tree_leaves g tree) ≤ 2 ^ 28 = subst (λ z. tree_base g which tree + tree_blocks z (tree_leaves g tree) ≤ 2 ^ 28) (sym each) (tree-below g which tree of.volume) in
      let within : tree_base g which tree + tree_blocks m.size (tree_leaves g tree) ≤ first_block g which + g.half = subst (λ z. tree_base g which tree + tree_blocks z (tree_leaves g tree) ≤ first_block g which + g.half) (sym each) (tree-within g which tree of.volume) in
      let met = tree_met m (tree_base g which tree) (tree_leaves g tree) (tree_size g tree) sized laid.words (tree_leaves-le g tree of.volume) low
      (omega (arith, within, first_block-le g which, numbers.room, count, of.count))
      (ap (λ z. ceil_div (tree_size g tree) z) each ∙ of.leaves tree) b inside in
      (met.0, subst (λ node. Contains (visits_of m node) met.0) (sym laid.root) met.1, met.2)

  -- a block of the half is one of its bitmap's tree, or of its inodes'
  pub half_is_trees : (b : ℕ) → first_block g which ≤ b → b < first_block g which + g.half → (tree : SystemTree) × IsInTree m.size (tree_base g which tree) (tree_leaves g tree) b
  half_is_trees b from to =
      let numbers : VolumeNumbers g = IsGeometry-keeps g of.volume in
      let blocks : (n : ℕ) → tree_blocks m.size n ≡ tree_blocks g.blocksize n = λ n. ap (λ z. tree_blocks z n) each in
      elim (cases_lt b (first_block g which + g.bitmap_leaves + g.bitmap_pointers)) [
        | inl low ↦ (trees.Bitmap, record { from = from; to = omega (arith, low, blocks g.bitmap_leaves, numbers.bitmap_blocks) })
        | inr high ↦ (trees.Inodes, record { from = high; to = omega (arith, to, blocks g.inode_leaves, numbers.inode_blocks, numbers.parts) })
      ]

  -- the half is held
  pub half_held : (t : Tree) (b : ℕ) → first_block g which ≤ b → b < first_block g which + g.half → IsHeld m (main_roots s) t b
  half_held t b from to = let at = half_is_trees b from to in by_tree at.0 (root_meets at.0 b at.1)
    where
      by_tree : (tree : SystemTree) → (v : Visit) × Contains (visits_of m (root_of_half s tree)) v × (v.block ≡ b) → IsHeld m (main_roots s) t b
      by_tree trees.Bitmap met = (OfFurther 0, met.0, (s.bitmap, refl, met.1), met.2)
      by_tree trees.Inodes met = (OfInodes, met.0, (s.inode, refl, met.1), met.2)

  -- and so are its pointer blocks
  pub pointer_held : (t : Tree) (tree : SystemTree) (b : ℕ) → IsPointerBlock g which tree b → IsHeld m (main_roots s) t b
  pointer_held t tree b p = by_tree tree p
    where
      numbers : VolumeNumbers g
      numbers = IsGeometry-keeps g of.volume

      by_tree : (tree : SystemTree) → IsPointerBlock g which tree b → IsHeld m (main_roots s) t b
      by_tree trees.Bitmap p = half_held t b (omega (arith, p.from)) (omega (arith, p.to, numbers.parts))
      by_tree trees.Inodes p = half_held t b (omega (arith, p.from)) (omega (arith, p.to, numbers.parts))

  -- what is held lies in the half, or outside both
  pub held_apart : (t : Tree) → HasSize m → IsTreeOf m (main_roots s) t → list_all (λ b. nat_le (2 * g.half) b) (outer_blocks m (main_roots s)) ≡ true
      → (b : ℕ) → IsHeld m (main_roots s) t b → ((first_block g which ≤ b) × (b < first_block g which + g.half)) ⊎ (2 * g.half ≤ b)
  held_apart t room is outside b (o, v, (node, has, met), same) =
      subst (λ x. ((first_block g which ≤ x) × (x < first_block g which + g.half)) ⊎ (2 * g.half ≤ x)) same (by_owner o node has met)
    where
      outer : (b : ℕ) → Contains (outer_blocks m (main_roots s)) b → ((first_block g which ≤ b) × (b < first_block g which + g.half)) ⊎ (2 * g.half ≤ b)
      outer b among = inr (leb-true (2 * g.half) b (member_passes (λ b. nat_le (2 * g.half) b) (outer_blocks m (main_roots s)) b outside among))

      by_owner : (o : Owner) (node : Root) → HasNode m (main_roots s) t o node → Contains (visits_of m node) v → ((first_block g which ≤ v.block) × (v.block < first_block g which + g.half)) ⊎ (2 * g.half ≤ v.block)
      by_owner OfInodes node has met = inl (root_in_half trees.Inodes v (subst (λ x. Contains (visits_of m x) v) has met))
      by_owner OfLongfile node has met = outer v.block (outer_has m (main_roots s) t room is s.longfile v (longfile_outer m (main_roots s) t room is) (subst (λ x. Contains (visits_of m x) v) has met))
      by_owner (OfFurther zero) node has met = let one : s.bitmap ≡ node = same_Some s.bitmap node has in inl (root_in_half trees.Bitmap v (subst (λ x. Contains (visits_of m x) v) (sym one) met))
      by_owner (OfFurther (suc k)) node has met = absurd (cc)
      by_owner (OfInode n) node (e, at, some, root) met = outer v.block (outer_has m (main_roots s) t room is _ v (inode_outer m (main_roots s) t room is n e at some) (subst (λ x. Contains (visits_of m x) v) root met))

-- ---- sound images

-- what a sound image is, by its active area, its superblock and its geometry
pub record SoundParts (img : List ℕ) (t : Tree) (which : Which) (s : Superblock) (g : Geometry) : Type 0 where
  pub size : HasSize (image_blocks img s)
  pub tree : IsTreeOf (image_blocks img s) (main_roots s) t
  pub geometry : IsGeometryOf s g
  pub none : first_some (reasons_in (image_blocks img s) s g which (main_roots s) (outer_blocks (image_blocks img s) (main_roots s)) (walked_inodes (image_blocks img s) (main_roots s))) ≡ None

-- each sound image has them
pub sound_parts : (img : List ℕ) (t : Tree) (which : Which) (s : Superblock) (g : Geometry) → IsSound img t → active_area img ≡ picks.Active which → active_super img ≡ Some s → written_geometry s (length img) ≡ Some g → SoundParts img t which s g
sound_parts img t which s g sound active names written =
    let area : sound.area ≡ which = (let e : picks.Active sound.area ≡ picks.Active which = sym sound.active ∙ active in cc) in
    let same : sound.superblock ≡ s = same_Some sound.superblock s (sym sound.names ∙ names) in
    let no_reason : reason_of (image_blocks img s) s which (length img) ≡ None = subst (λ x. reason_of (image_blocks img x) x which (length img) ≡ None) same (subst (λ w. reason_of (image_blocks img sound.superblock) sound.superblock w (length img) ≡ None) area sound.no_reason) in
    let tree : IsTreeOf (image_blocks img s) (main_roots s) t = subst (λ x. IsTreeOf (image_blocks img x) (main_roots x) t) same sound.tree in
    record {
      size = tree_sized (image_blocks img s) (main_roots s) t tree;
      tree = tree;
      geometry = written_is s (length img) g written;
      none = sym (ap (λ o. reason_with (image_blocks img s) s which o) written) ∙ no_reason;
    }

-- the active half of a sound image is held
pub active_half_held : (img : List ℕ) (t : Tree) (which : Which) (s : Superblock) (g : Geometry) (b : ℕ) → IsSound img t → active_area img ≡ picks.Active which → active_super img ≡ Some s → written_geometry s (length img) ≡ Some g
    → first_block g which ≤ b → b < first_block g which + g.half → IsHeld (image_blocks img s) (main_roots s) t b
active_half_held img t which s g b sound active names written from to =
    let p : SoundParts img t which s g = sound_parts img t which s g sound active names written in
    half_held (image_blocks img s) s g which p.geometry refl refl (halves_right (image_blocks img s) s g which p.none).0 t b from to

-- and what is held lies in it, or outside both halves
pub held_or_outside : (img : List ℕ) (t : Tree) (which : Which) (s : Superblock) (g : Geometry) (b : ℕ) → IsSound img t → active_area img ≡ picks.Active which → active_super img ≡ Some s → written_geometry s (length img) ≡ Some g
    → IsHeld (image_blocks img s) (main_roots s) t b → ((first_block g which ≤ b) × (b < first_block g which + g.half)) ⊎ (2 * g.half ≤ b)
held_or_outside img t which s g b sound active names written held =
    let p : SoundParts img t which s g = sound_parts img t which s g sound active names written in
    let right = halves_right (image_blocks img s) s g which p.none in
    held_apart (image_blocks img s) s g which p.geometry refl refl right.0 t p.size p.tree right.1 b held
