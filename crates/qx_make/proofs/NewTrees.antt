-- A new volume has the empty tree.
use Rattle.std.proofs.Common.{◌≡◌, ℕ, ◌+◌, ◌-◌, ◌*◌, ◌/◌, ◌^◌, ◌≤◌, ◌<◌, refl, ap, sym, ◌∙◌, subst, arith}
use Rattle.std.specs.Prelude.{IsTrue, nat_lt, map, filter}
use Rattle.std.proofs.Math.Nat.{div-eq_of_lt, lt-div-mul-add, mul-div_cancel, mul-le-mul_right, pow-zero}
use Rattle.std.proofs.lemmas.Bool.{and_from, cond-true, le-leb, lt-ltb}
use Rattle.qx_geom.specs.declared.system.SystemTree.{SystemTree}
use Rattle.qx_geom.specs.declared.system.SystemTree.TheVariants as trees
use Rattle.qx_geom.specs.declared.area.Which.{Which}
use Rattle.qx_geom.specs.declared.geometry.Geometry.{Geometry}
use Rattle.qx_geom.specs.Layout.{levels_for, system_root_of, tree_leaves, tree_size}
use Rattle.qx_geom.specs.Lists.{each_below}
use Rattle.qx_geom.specs.Pointer.{ceil_div, per_block, reach}
use Rattle.qx_geom.proofs.BlockSizes.{BlockSizeBounds, block_size-bounds, reach-two}
use Rattle.qx_geom.proofs.LeastLevels.{levels_for-reach, levels_for-two}
use Rattle.qx_geom.proofs.LevelCounts.{tree_blocks-is}
use Rattle.qx_geom.proofs.VolumeNumbers.{IsGeometry-keeps, VolumeNumbers, tree_leaves-le}
use Rattle.qx_nodes.specs.BlockMap.{BlockMap}
use Rattle.qx_nodes.specs.Content.{levels_fit, root_fits}
use Rattle.qx_nodes.specs.Leaves.{leaves_below}
use Rattle.qx_nodes.specs.NodeContents.{node_content}
use Rattle.qx_nodes.specs.Visits.{is_leaf}
use Rattle.qx_records.specs.declared.inode.Inode.{Inode}
use Rattle.qx_records.specs.declared.kind.Kind.TheVariants as kinds
use Rattle.qx_records.specs.InodeRecord.{kind_of}
use Rattle.qx_model.specs.EmptyTree.{empty_tree}
use Rattle.qx_model.specs.Tree.{Entry}
use Rattle.qx_nodes.specs.LongNames.{long_name}
use Rattle.qx_view.specs.Images.{Roots, inode_of, inode_places}
use Rattle.qx_view.specs.Entries.{HasContent, IsEntryOf}
use Rattle.qx_view.specs.Reading.{IsEntry, IsTreeOf, reader_of}
use Rattle.qx_make.specs.Blocks.{top_block, top_inode}
use Rattle.qx_make.specs.NewVolume.{empty_root, new_roots}
use Rattle.qx_make.proofs.EmptyTrees.{empty_places, empty_rooted, only_entry, root_entry}
use Rattle.qx_make.proofs.NewBlocks.{NewBlocks, blocks, inodes_from, leaves_filled}
use Rattle.qx_make.proofs.NewDirectory.{slots_are, top_node, top_visits}
use Rattle.qx_make.proofs.NewInodes.{top_inode_is}
use Rattle.qx_make.proofs.NewLeaves.{tree-counted}
use Rattle.qx_make.proofs.NewPositions.{new_apart, new_tree, new_undamaged}

-- a size lies within the parts that it fills
size_within : (a b : ℕ) → 0 < b → a ≤ ceil_div a b * b
size_within a b pos = let less : a + b - 1 < (a + b - 1) / b * b + b = lt-div-mul-add {a = a + b - 1} {b = b} pos in omega arith

module _ (v : NewBlocks) where
  -- the volume's numbers
  abbrev g : Geometry
  g = v.geometry

  -- its blocks
  abbrev m : BlockMap
  m = blocks v

  -- what is known of the numbers
  numbers : VolumeNumbers g
  numbers = IsGeometry-keeps g v.whole

  -- the bounds of its block size
  bounds : BlockSizeBounds g.blocksize
  bounds = block_size-bounds g.blocksize (numbers).block_size

  -- a node of one block is within the bounds
  pub top_fits : IsTrue (levels_fit m (top_node v))
  top_fits =
      let b = bounds in
      let one : reach g.blocksize 0 ≡ 16 * 1 = ap (λ p. 16 * p) (pow-zero (per_block g.blocksize)) in
      let more : reach g.blocksize 0 * g.blocksize ≡ 16 * g.blocksize = ap (λ p. p * g.blocksize) one in
      and_from _ _ (le-leb 0 5 (omega arith)) (and_from _ _ (le-leb g.blocksize (reach g.blocksize 0 * g.blocksize) (omega arith)) (le-leb g.blocksize (2 ^ 48) (omega arith)))

  -- so is a node of nothing
  empty_fits : IsTrue (root_fits m empty_root)
  empty_fits = and_from _ _ (and_from _ _ (le-leb 0 5 (omega arith)) (and_from _ _ (le-leb 0 (reach g.blocksize 0 * g.blocksize) (omega arith)) (le-leb 0 (2 ^ 48) (omega arith)))) (le-leb 0 (g.num_blocks * g.blocksize) (omega arith))

  -- and the root node of a system tree
  pub system_fits : (which : Which) (tree : SystemTree) → IsTrue (root_fits m (system_root_of g which tree))
  unfolding system_root_of
  system_fits which tree =
      let n = numbers in let b = bounds in
      let size : ℕ = tree_size g tree in
      let leaves : ℕ = tree_leaves g tree in
      let levels : ℕ = levels_for g.blocksize leaves in
      let few : leaves ≤ 2 ^ 18 = tree_leaves-le g tree v.whole in
      let filled : ceil_div size g.blocksize ≡ leaves = leaves_filled g tree v.whole in
      let within : size ≤ leaves * g.blocksize = subst (λ k. size ≤ k * g.blocksize) filled (size_within size g.blocksize (omega arith)) in
      let reached : leaves ≤ reach g.blocksize levels = levels_for-reach g.blocksize leaves 2 (omega arith) (reach-two g.blocksize leaves n.block_size few) in
      let up : levels ≤ 2 = levels_for-two g.blocksize leaves n.block_size few in
      let by_reach : leaves * g.blocksize ≤ reach g.blocksize levels * g.blocksize = mul-le-mul_right g.blocksize reached in
      let by_few : leaves * g.blocksize ≤ 2 ^ 18 * g.blocksize = mul-le-mul_right g.blocksize few in
      let counted : leaves ≤ g.num_blocks = omega (arith, tree-counted v which tree, tree_blocks-is g.blocksize leaves n.block_size) in
      let by_count : leaves * g.blocksize ≤ g.num_blocks * g.blocksize = mul-le-mul_right g.blocksize counted in
      and_from _ _ (and_from _ _ (le-leb levels 5 (omega arith)) (and_from _ _ (le-leb size (reach g.blocksize levels * g.blocksize) (omega arith)) (le-leb size (2 ^ 48) (omega arith)))) (le-leb size (g.num_blocks * g.blocksize) (omega arith))

  -- the Inode tree has a place for each inode
  pub places_are : (which : Which) → inode_places (new_roots g which) ≡ g.num_inodes
  unfolding system_root_of
  places_are which =
      let n = numbers in
      let count : g.num_inodes * 128 / 128 ≡ g.num_inodes = mul-div_cancel g.num_inodes (omega arith) in
      cond-true (nat_lt (g.num_inodes * 128 / 128) (2 ^ 32)) (g.num_inodes * 128 / 128) (2 ^ 32 - 1) (lt-ltb (g.num_inodes * 128 / 128) (2 ^ 32) (omega arith)) ∙ count

  module _ (which : Which) where
    -- where its tree begins
    abbrev r : Roots
    r = new_roots g which

    -- the directory's entry
    abbrev entry : Entry
    entry = root_entry g.blocksize g.num_inodes v.moment

    -- has its node's content
    top_holds : HasContent (reader_of m empty_root) (node_content m (top_node v)) kinds.Directory entry
    top_holds = record {
      size = refl;
      present = ap (λ vs. map (λ u. u.index) (filter is_leaf vs)) (sym (top_visits v));
      body = slots_are v;
    }

    -- it is the entry of inode 1
    top_entry : IsEntry m r 1 entry
    unfolding kind_of
    top_entry =
        let is : inode_of m r.inodes 1 ≡ top_inode g.blocksize (top_block g) v.moment = top_inode_is v which in
        record {
          there = le-leb 1 (inode_places r) (omega (arith, places_are which, inodes_from g v.whole));
          positive = omega arith;
          levels = λ own. subst (λ (i : Inode). IsTrue (levels_fit m i.root)) (sym is) top_fits;
          is = subst (λ (i : Inode). IsEntryOf (reader_of m empty_root) i (node_content m i.root) entry) (sym is)
              (record { attr = refl; kind = kinds.Directory; kind_is = refl; holds = top_holds });
        }

    -- what begins at the roots is the empty tree
    pub new_tree_is : IsTreeOf m r (new_tree v)
    unfolding empty_tree
    new_tree_is =
        let n = numbers in let b = bounds in
        let none : leaves_below m empty_root ≡ 0 = div-eq_of_lt (omega arith) in
        record {
          inodes_fit = system_fits which trees.Inodes;
          longfile_fits = empty_fits;
          further_fit = and_from _ _ (system_fits which trees.Bitmap) refl;
          rooted = empty_rooted g.blocksize g.num_inodes v.moment;
          places = empty_places g.blocksize g.num_inodes v.moment (omega (arith, inodes_from g v.whole)) ∙ sym (places_are which);
          each = λ k e is.
              let only = only_entry g.blocksize g.num_inodes v.moment k e is in
              subst (λ x. IsEntry m r x e) (sym only.0) (subst (λ x. IsEntry m r 1 x) (sym only.1) top_entry);
          undamaged = new_undamaged v which;
          apart = new_apart v which;
          long_size = refl;
          long_names = ap (λ k. each_below k (λ i. long_name m empty_root i)) (sym none);
          long_present = refl;
        }
