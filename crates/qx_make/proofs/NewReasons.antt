-- No reason applies to a new volume.
use Rattle.std.proofs.Common.{◌≡◌, ℕ, zero, suc, ◌+◌, ◌-◌, ◌*◌, ◌/◌, ◌%◌, ◌≤◌, ◌<◌, ◌^◌, List, [], ◌∷◌, Bool, true, false, refl, ap, ◌∙◌, arith, length, drop, Some, None}
use Rattle.std.specs.Prelude.{◌==◌, ◌&&◌, ◌||◌, not, nat_eq, nat_le, nat_lt, map, filter, if◌then◌else◌}
use Rattle.std.specs.List.{find, list_all, list_any, range_with_len}
use Rattle.std.proofs.Math.Nat.{div_self, mod_self, zero-mod}
use Rattle.std.proofs.lemmas.Nat.{div_below}
use Rattle.std.proofs.lemmas.Bool.{and_from, and_right, cond-false, eq-eqb, le-leb, ne_eqb, or_from}
use Rattle.std.proofs.lemmas.Slice.Eq.{bytes_eq-Decides}
use Rattle.qx_fields.specs.declared.order.Order.{Order}
use Rattle.qx_fields.specs.declared.order.Order.TheVariants.{Little, Big}
use Rattle.qx_geom.specs.declared.system.SystemTree.TheVariants as trees
use Rattle.qx_geom.specs.declared.area.Which.{Which}
use Rattle.qx_geom.specs.declared.area.Which.TheVariants.{First, Second}
use Rattle.qx_geom.specs.declared.geometry.Geometry.{Geometry}
use Rattle.qx_geom.specs.declared.root.Root.{Root}
use Rattle.qx_geom.specs.Layout.{levels_for, system_root_of}
use Rattle.qx_geom.specs.Lists.{first_below, is_in}
use Rattle.qx_geom.specs.Pointer.{absent, ceil_div, per_block}
use Rattle.qx_geom.proofs.BlockSizes.{BlockSizeBounds, block_size-bounds, power_pos}
use Rattle.qx_geom.proofs.LeastLevels.{levels_for-le}
use Rattle.qx_geom.proofs.VolumeNumbers.{IsGeometry-keeps}
use Rattle.qx_nodes.specs.BlockMap.{BlockMap}
use Rattle.qx_nodes.specs.Leaves.{leaves_below}
use Rattle.qx_nodes.specs.Visits.{Visit, is_leaf, present_of}
use Rattle.qx_nodes.proofs.LeafPaths.{by_one}
use Rattle.qx_records.specs.declared.inode.Inode.{Inode}
use Rattle.qx_records.specs.WrittenInode.{inode_bytes as bytes_of_inode}
use Rattle.qx_view.specs.Images.{Roots, inode_bytes, inode_of, inode_places, raw_of}
use Rattle.qx_view.specs.Walk.{inode_root, is_directory_inode}
use Rattle.qx_nodes.specs.ForeignNodes.{has_bare_block, has_leaf_below, has_strays, is_foreign_node}
use Rattle.qx_view.specs.Sound.{are_zero, bad_long_name, bit_differs, fails_dots, fails_inodes, fails_nodes, is_foreign_directory, has_system_trees, is_same_root, is_short, is_special_inode, is_written_inode, must_be_set}
use Rattle.qx_make.specs.Blocks.{is_top, top_block, top_inode}
use Rattle.qx_system.specs.SystemBytes.{is_taken}
use Rattle.qx_make.specs.NewVolume.{empty_root, new_roots}
use Rattle.qx_system.proofs.TakenBits.{bit_of}
use Rattle.qx_make.proofs.NewBitmap.{new_bit}
use Rattle.qx_make.proofs.NewBlocks.{NewBlocks, blocks}
use Rattle.qx_make.proofs.NewDirectory.{ceil_one, raw_first, raw_second, top_node, top_visits}
use Rattle.qx_make.proofs.NewInodes.{other_is_zero, top_inode_is, top_is}
use Rattle.qx_make.proofs.NewTrees.{places_are}
use Rattle.qx_make.proofs.NewWalk.{is_directory, is_no_special, root_is}
use Rattle.qx_make.proofs.NewWords.{system_tree_right}

-- ---- tests that no number passes

-- among numbers that fail a test none passes
from_none : (p : ℕ → Bool) (at n : ℕ) → ((k : ℕ) → at ≤ k → k < at + n → p k ≡ false) → find p (range_with_len at n) ≡ None
from_none p at zero each = refl
from_none p at (suc n) each = cond-false (p at) (Some at) (find p (range_with_len (at + 1) n)) (each at (omega arith) (omega arith)) ∙ from_none p (at + 1) n (λ k low high. each k (omega arith) (omega arith))

-- and among those below a bound
pub first_none : (p : ℕ → Bool) (n : ℕ) → ((k : ℕ) → k < n → p k ≡ false) → first_below p n ≡ None
first_none p n each = from_none p 0 n (λ k low high. each k (omega arith))

-- no other number is in the list of one
pub not_one : (k : ℕ) → (1 ≡ k → ⊥) → is_in (1 ∷ []) k ≡ false
not_one k other = or_from (nat_eq 1 k) false (ne_eqb 1 k other) refl

-- a root node is the same as itself
same_root : (a : Root) → is_same_root a a ≡ true
same_root a = and_from (a.size == a.size) _ (eq-eqb a.size a.size refl) (and_from (a.levels == a.levels) _ (eq-eqb a.levels a.levels refl) ((bytes_eq-Decides a.pointers a.pointers).1 refl))

-- with one block alone among the held ones
one_held : (b t : ℕ) (c : Bool) → (nat_lt b t || ((nat_eq t b || false) || c)) ≡ (nat_lt b t || (nat_eq t b || c))
one_held b t c = ap (λ x. nat_lt b t || (x || c)) (or_false (nat_eq t b))
  where
    or_false : (x : Bool) → (x || false) ≡ x
    or_false true = refl
    or_false false = refl

-- behind the named fields of the root directory's inode come zeros
unnamed_zero : (order : Order) (size block moment : ℕ) → are_zero (drop 102 (bytes_of_inode order (top_inode size block moment))) ≡ true
unfolding bytes_of_inode
unnamed_zero Little size block moment = refl
unnamed_zero Big size block moment = refl

module _ (v : NewBlocks) where
  -- the volume's numbers
  abbrev g : Geometry
  g = v.geometry

  -- its blocks
  abbrev m : BlockMap
  m = blocks v

  -- the bounds of its block size
  bounds : BlockSizeBounds g.blocksize
  bounds = block_size-bounds g.blocksize (IsGeometry-keeps g v.whole).block_size

  -- so few leaves need no level
  no_levels : (n : ℕ) → n ≤ 16 → levels_for g.blocksize n ≡ 0
  no_levels n few =
      let one : 0 < per_block g.blocksize ^ 0 = power_pos g.blocksize 0 (IsGeometry-keeps g v.whole).block_size in
      let least : levels_for g.blocksize n ≤ 0 = levels_for-le g.blocksize n 0 (omega arith) in
      omega arith

  -- a block is one leaf
  one_leaf_fills : ceil_div g.blocksize g.blocksize ≡ 1
  one_leaf_fills = let b = bounds in ceil_one g.blocksize (omega arith)

  -- ---- nodes

  -- the Longfile is written as this project does
  longfile_ours : is_foreign_node m empty_root ≡ false
  longfile_ours =
      let b = bounds in
      let few : leaves_below m empty_root ≤ 16 = omega (arith, div_below (0 + g.blocksize - 1) g.blocksize 1 (omega arith) (omega arith)) in
      or_from (not (0 == levels_for g.blocksize (leaves_below m empty_root))) _ (ap (λ l. not (0 == l)) (no_levels (leaves_below m empty_root) few)) refl

  -- no pointer of the directory's node lies past its size
  no_strays : has_strays m (top_node v) ≡ false
  no_strays =
      let past : nat_le (ceil_div g.blocksize g.blocksize) 0 ≡ false = ap (λ k. nat_le k 0) one_leaf_fills in
      let test : (not (top_block g == absent) && nat_le (ceil_div g.blocksize g.blocksize) 0) ≡ false = and_right (not (top_block g == absent)) _ past in
      ap (λ b. b || false) test

  -- no pointer block is bare
  no_bare : has_bare_block m (top_node v) ≡ false
  no_bare =
      ap (λ vs. list_any (λ u. not (has_leaf_below m vs u)) vs) (top_visits v)
      ∙ ap (λ q. not ((q == 0) || false) || false) (by_one 0 (per_block g.blocksize))

  -- so the directory's node is written as this project does
  top_ours : is_foreign_node m (top_node v) ≡ false
  top_ours = or_from (not (0 == levels_for g.blocksize (leaves_below m (top_node v)))) _ (ap (λ l. not (0 == l)) (no_levels (leaves_below m (top_node v)) (omega (arith, one_leaf_fills)))) (or_from (has_strays m (top_node v)) _ no_strays no_bare)

  -- and the directory has no hole
  directory_ours : is_foreign_directory m (top_node v) ≡ false
  directory_ours =
      let b = bounds in
      let whole : (not (g.blocksize % g.blocksize == 0)) ≡ false = ap (λ k. not (k == 0)) (mod_self g.blocksize) in
      let present : length (present_of m (top_node v)) ≡ 1 = ap (λ vs. length (map (λ (u : Visit). u.index) (filter is_leaf vs))) (top_visits v) in
      let count : g.blocksize / g.blocksize ≡ 1 = div_self (omega arith) in
      or_from (g.blocksize == 0) _ (ne_eqb g.blocksize 0 (λ e. omega arith))
      (or_from (not (g.blocksize % g.blocksize == 0)) _ whole (ap (λ k. not (k == g.blocksize / g.blocksize)) present ∙ ap (λ k. not (1 == k)) count))

  module _ (which : Which) where
    -- where its tree begins
    abbrev r : Roots
    r = new_roots g which

    -- its Bitmap root node
    abbrev bitmap : Root
    bitmap = system_root_of g which trees.Bitmap

    -- ---- the halves

    -- both halves are as they must be
    halves : (other : Which) → has_system_trees m g other ≡ true
    halves other = and_from _ _ (system_tree_right v other trees.Bitmap) (system_tree_right v other trees.Inodes)

    -- the root nodes are the half's, and both halves are as they must be
    pub roots_and_halves : (is_same_root bitmap bitmap && (is_same_root r.inodes r.inodes && (has_system_trees m g First && has_system_trees m g Second))) ≡ true
    roots_and_halves = and_from _ _ (same_root bitmap) (and_from _ _ (same_root r.inodes) (and_from _ _ (halves First) (halves Second)))

    -- the directory's block lies behind them
    pub behind_halves : list_all (λ b. nat_le (2 * g.half) b) (top_block g ∷ []) ≡ true
    behind_halves = and_from _ _ (le-leb (2 * g.half) (top_block g) (omega arith)) refl

    -- ---- the bitmap

    -- each bit is as it must be
    pub bits_agree : (b : ℕ) → b < g.bitmap_leaves * g.blocksize * 8 → bit_differs m bitmap g (top_block g ∷ []) b ≡ false
    bits_agree b low =
        ap (λ x. not (x == bit_of (must_be_set m g (top_block g ∷ []) b))) (new_bit v which b low)
        ∙ ap (λ x. not (bit_of (is_taken g (is_top g) b) == bit_of x)) (one_held b (top_block g) (nat_le g.num_blocks b))
        ∙ ap not (eq-eqb (bit_of (is_taken g (is_top g) b)) (bit_of (is_taken g (is_top g) b)) refl)

    -- ---- nodes and records

    -- no node fails
    pub nodes_pass : (k : ℕ) → fails_nodes m r (1 ∷ []) k ≡ false
    nodes_pass zero = longfile_ours
    nodes_pass (suc zero) =
        and_right (not (is_special_inode m r 1)) _
        (ap (λ node. is_foreign_node m node || (is_directory_inode m r 1 && is_foreign_directory m node)) (root_is v which)
        ∙ or_from (is_foreign_node m (top_node v)) _ top_ours (and_right (is_directory_inode m r 1) _ directory_ours))
    nodes_pass (suc (suc k)) = ap (λ b. b && (not (is_special_inode m r (suc (suc k))) && (is_foreign_node m (inode_root m r (suc (suc k))) || (is_directory_inode m r (suc (suc k)) && is_foreign_directory m (inode_root m r (suc (suc k))))))) (not_one (suc (suc k)) (λ e. omega (arith, e)))

    -- the directory begins with its two rows
    pub dots_pass : (k : ℕ) → fails_dots m r (1 ∷ []) k ≡ false
    dots_pass zero = refl
    dots_pass (suc zero) =
        ap (λ node. is_directory_inode m r 1 && not (is_short (raw_of m node 0) (46 ∷ []) && is_short (raw_of m node 1) (46 ∷ 46 ∷ []))) (root_is v which)
        ∙ ap (λ x. is_directory_inode m r 1 && not (is_short x (46 ∷ []) && is_short (raw_of m (top_node v) 1) (46 ∷ 46 ∷ []))) (raw_first v)
        ∙ ap (λ x. is_directory_inode m r 1 && not (is_short x (46 ∷ 46 ∷ []))) (raw_second v)
        ∙ and_right (is_directory_inode m r 1) false refl
    dots_pass (suc (suc k)) = ap (λ b. b && (is_directory_inode m r (suc (suc k)) && not (is_short (raw_of m (inode_root m r (suc (suc k))) 0) (46 ∷ []) && is_short (raw_of m (inode_root m r (suc (suc k))) 1) (46 ∷ 46 ∷ [])))) (not_one (suc (suc k)) (λ e. omega (arith, e)))

    -- ---- inodes

    -- the root directory's inode is as this project writes it
    top_written : is_written_inode m r 1 ≡ true
    top_written =
        let status : ((inode_of m r.inodes 1).status == (if is_directory_inode m r 1 then 1 else 3)) ≡ true = ap (λ (i : Inode). i.status == (if is_directory_inode m r 1 then 1 else 3)) (top_inode_is v which) ∙ ap (λ b. 1 == (if b then 1 else 3)) (is_directory v which) in
        let ext_mode : ((inode_of m r.inodes 1).ext_mode == 0) ≡ true = ap (λ (i : Inode). i.ext_mode == 0) (top_inode_is v which) in
        let unnamed : are_zero (drop 102 (inode_bytes m r.inodes 1)) ≡ true = ap (λ (l : List ℕ). are_zero (drop 102 l)) (top_is v which) ∙ unnamed_zero v.order g.blocksize (top_block g) v.moment in
        and_from _ _ (ap not (is_no_special v which)) (and_from _ _ status (and_from _ _ ext_mode unnamed))

    -- and the others are zeros
    pub inodes_pass : (k : ℕ) → k < inode_places r + 1 → fails_inodes m r (1 ∷ []) k ≡ false
    inodes_pass zero low = refl
    inodes_pass (suc zero) low = ap not top_written
    inodes_pass (suc (suc k)) low =
        cond-false (is_in (1 ∷ []) (suc (suc k))) (not (is_written_inode m r (suc (suc k)))) (not (are_zero (inode_bytes m r.inodes (suc (suc k))))) (not_one (suc (suc k)) (λ e. omega (arith, e)))
        ∙ ap not (other_is_zero v which (suc k) (omega arith) (omega (arith, low, places_are v which)))

    -- ---- long names

    -- there are none
    pub no_long_names : bad_long_name m r (1 ∷ []) ≡ None
    no_long_names = cond-false (not (0 % g.blocksize == 0)) (Some 0) None (ap (λ k. not (k == 0)) (zero-mod g.blocksize))
