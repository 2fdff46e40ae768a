-- The leaves of a new volume's system trees.
use Rattle.std.proofs.Common.{◌≡◌, ℕ, ◌+◌, ◌≤◌, ◌<◌, ap, sym, ◌∙◌, subst, arith}
use Rattle.std.specs.Prelude.{Contains}
use Rattle.qx_geom.specs.declared.system.SystemTree.{SystemTree}
use Rattle.qx_geom.specs.declared.system.SystemTree.TheVariants as trees
use Rattle.qx_geom.specs.declared.area.Which.{Which}
use Rattle.qx_geom.specs.declared.geometry.Geometry.{Geometry}
use Rattle.qx_geom.specs.Layout.{IsTreeBlock, level_count, system_root_of, tree_base, tree_blocks, tree_leaves, tree_size}
use Rattle.qx_geom.proofs.BlockSizes.{block_size-bounds}
use Rattle.qx_geom.proofs.LevelCounts.{level_count-leaves, tree_blocks-is}
use Rattle.qx_geom.proofs.VolumeNumbers.{IsGeometry-keeps, VolumeNumbers, first_block-le, tree-below, tree-within, tree_leaves-le}
use Rattle.qx_nodes.specs.BlockMap.{BlockMap}
use Rattle.qx_nodes.specs.Content.{bytes_at_leaf, leaf_bytes}
use Rattle.qx_nodes.specs.Leaves.{Block, leaf_of}
use Rattle.qx_nodes.specs.Visits.{Visit, visits_of}
use Rattle.qx_nodes.proofs.MetLeaves.{node_leaf_found}
use Rattle.qx_view.proofs.SystemTrees.{IsInTree, tree_met}
use Rattle.qx_make.specs.Blocks.{inode_leaf_bytes, is_top}
use Rattle.qx_system.specs.SystemBytes.{bitmap_leaf_bytes}
use Rattle.qx_make.proofs.NewBlocks.{NewBlocks, bitmap_bytes, blocks, inode_leaf, leaves_filled}
use Rattle.qx_make.proofs.NewVisits.{StandsInTree, one_place, system_met}
use Rattle.qx_make.proofs.NewWords.{system_tree_right}

module _ (v : NewBlocks) (which : Which) where
  -- the volume's numbers
  abbrev g : Geometry
  g = v.geometry

  -- its blocks
  abbrev m : BlockMap
  m = blocks v

  -- what is known of the numbers
  numbers : VolumeNumbers g
  numbers = IsGeometry-keeps g v.whole

  -- a tree's blocks are blocks
  pub tree-counted : (tree : SystemTree) → tree_base g which tree + tree_blocks g.blocksize (tree_leaves g tree) ≤ g.num_blocks
  tree-counted tree = let n = numbers in omega (arith, tree-within g which tree v.whole, first_block-le g which)

  -- the place of a leaf
  leaf_place : (tree : SystemTree) (i : ℕ) → i < tree_leaves g tree → IsTreeBlock g which tree 0 i (tree_base g which tree + i)
  leaf_place tree i low = record {
    level_there = omega arith;
    index_there = let same : level_count g.blocksize (tree_leaves g tree) 0 ≡ tree_leaves g tree = level_count-leaves g.blocksize (tree_leaves g tree) (numbers).block_size in omega (arith, same, low);
    place = omega arith;
  }

  -- leaf i of a tree is the block that stands i behind the tree's first
  pub system_leaf : (tree : SystemTree) (i : ℕ) → i < tree_leaves g tree → leaf_of m (system_root_of g which tree) i ≡ Block (tree_base g which tree + i)
  unfolding system_root_of
  system_leaf tree i low =
      let n = numbers in
      let bounds = block_size-bounds g.blocksize n.block_size in
      let base : ℕ = tree_base g which tree in
      let leaves : ℕ = tree_leaves g tree in
      let inside : IsInTree g.blocksize base leaves (base + i) = record { from = omega arith; to = omega (arith, low, tree_blocks-is g.blocksize leaves n.block_size) } in
      let met : (u : Visit) × Contains (visits_of m (system_root_of g which tree)) u × (u.block ≡ base + i)
      = tree_met m base leaves (tree_size g tree) n.block_size (system_tree_right v which tree) (tree_leaves-le g tree v.whole) (tree-below g which tree v.whole) (tree-counted tree) (leaves_filled g tree v.whole) (base + i) inside in
      let u : Visit = met.0 in
      let at : StandsInTree v which tree u = system_met v which tree u met.1 in
      let same : (u.level ≡ 0) × (u.index ≡ i) = one_place v which tree u.level 0 u.index i (base + i) (subst (λ b. IsTreeBlock g which tree u.level u.index b) met.2 at) (leaf_place tree i low) in
      let small : u.block < g.num_blocks = omega (arith, met.2, inside.to, tree-counted tree) in
      let found : leaf_of m (system_root_of g which tree) u.index ≡ Block u.block = node_leaf_found m (system_root_of g which tree) u (omega (arith, bounds.pointers_from)) met.1 same.0 small in
      ap (λ k. leaf_of m (system_root_of g which tree) k) (sym same.1) ∙ found ∙ ap (λ b. Block b) met.2

  -- the bytes of a leaf of the bitmap
  pub bitmap_leaf_is : (i : ℕ) → i < g.bitmap_leaves → leaf_bytes m (system_root_of g which trees.Bitmap) i ≡ bitmap_leaf_bytes g (is_top g) i
  bitmap_leaf_is i low = ap (λ x. bytes_at_leaf m x) (system_leaf trees.Bitmap i low) ∙ bitmap_bytes v which i low

  -- and of the Inode tree
  pub inode_leaf_is : (i : ℕ) → i < g.inode_leaves → leaf_bytes m (system_root_of g which trees.Inodes) i ≡ inode_leaf_bytes g v.order v.moment i
  inode_leaf_is i low = ap (λ x. bytes_at_leaf m x) (system_leaf trees.Inodes i low) ∙ inode_leaf v which i low
