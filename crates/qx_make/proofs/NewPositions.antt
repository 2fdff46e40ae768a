-- Where the blocks of a new volume's tree stand: in the two trees of a half, and behind both halves.
use Rattle.std.proofs.Common.{◌≡◌, ℕ, inl, inr, zero, suc, ◌+◌, ◌≤◌, ◌<◌, [], ◌∷◌, refl, ap, sym, ◌∙◌, subst, arith, Some}
use Rattle.std.specs.Prelude.{Contains, slice_get}
use Rattle.qx_geom.specs.declared.system.SystemTree.{SystemTree}
use Rattle.qx_geom.specs.declared.system.SystemTree.TheVariants as trees
use Rattle.qx_geom.specs.declared.area.Which.{Which}
use Rattle.qx_geom.specs.declared.geometry.Geometry.{Geometry}
use Rattle.qx_geom.specs.declared.root.Root.{Root}
use Rattle.qx_geom.specs.Layout.{IsTreeBlock, system_root_of, tree_base, tree_blocks, tree_leaves}
use Rattle.qx_geom.proofs.LevelCounts.{level-within}
use Rattle.qx_geom.proofs.Members.{Contains-cases}
use Rattle.qx_geom.proofs.VolumeNumbers.{IsGeometry-keeps, first_block-le, tree-within}
use Rattle.qx_nodes.specs.BlockMap.{BlockMap}
use Rattle.qx_nodes.specs.Visits.{Visit, visits_of}
use Rattle.qx_model.specs.EmptyTree.{empty_tree}
use Rattle.qx_model.specs.Tree.{Tree}
use Rattle.qx_view.specs.Images.{Roots, inode_of}
use Rattle.qx_model.specs.Owners.{OfFurther, OfInode, OfInodes, OfLongfile, Owner}
use Rattle.qx_view.specs.Reading.{IsApart, IsUndamaged, StandsAt}
use Rattle.qx_make.specs.Blocks.{top_block}
use Rattle.qx_make.specs.NewVolume.{empty_root, new_roots}
use Rattle.qx_make.proofs.EmptyTrees.{only_entry}
use Rattle.qx_make.proofs.NewBlocks.{NewBlocks, blocks}
use Rattle.qx_make.proofs.NewDirectory.{top_low, top_node, top_visits}
use Rattle.qx_make.proofs.NewInodes.{top_inode_is}
use Rattle.qx_make.proofs.NewVisits.{StandsInTree, one_place, system_met}

-- the tree whose blocks a new volume has
abbrev pub new_tree : NewBlocks → Tree
new_tree v = empty_tree v.geometry.blocksize v.geometry.num_inodes v.moment

-- the directory's one leaf
abbrev pub top_visit : Geometry → Visit
top_visit g = record { level = 0; index = 0; block = top_block g }

module _ (v : NewBlocks) (which : Which) where
  -- the volume's numbers
  abbrev g : Geometry
  g = v.geometry

  -- its blocks
  abbrev m : BlockMap
  m = blocks v

  -- where its tree begins
  abbrev r : Roots
  r = new_roots g which

  -- where a block of an owner's node stands
  data Stands : Owner → Visit → Type 0 where
    -- a block of the Inode tree
    InInodes : {u : Visit} → StandsInTree v which trees.Inodes u → Stands OfInodes u
    -- of the Bitmap tree
    InBitmap : {u : Visit} → StandsInTree v which trees.Bitmap u → Stands (OfFurther 0) u
    -- or the directory's
    InTop : Stands (OfInode 1) (top_visit g)

  -- a further root node is the Bitmap's
  one_further : (k : ℕ) (node : Root) → slice_get r.further k ≡ Some node → (k ≡ 0) × (node ≡ system_root_of g which trees.Bitmap)
  one_further zero node e = (refl, cc)
  one_further (suc k) node e = absurd (cc)

  -- each block of the tree stands at one of those
  stands : (o : Owner) (u : Visit) → StandsAt m r (new_tree v) o u → Stands o u
  stands OfInodes u (node, is, met) = InInodes (system_met v which trees.Inodes u (subst (λ x. Contains (visits_of m x) u) is met))
  stands OfLongfile u (node, is, met) = let none : Contains (visits_of m empty_root) u = subst (λ x. Contains (visits_of m x) u) is met in absurd (omega (arith, none.1))
  stands (OfFurther k) u (node, is, met) =
      let one : (k ≡ 0) × (node ≡ system_root_of g which trees.Bitmap) = one_further k node is in
      subst (λ j. Stands (OfFurther j) u) (sym one.0) (InBitmap (system_met v which trees.Bitmap u (subst (λ x. Contains (visits_of m x) u) one.1 met)))
  stands (OfInode n) u (node, has, met) =
      let only = only_entry g.blocksize g.num_inodes v.moment n has.0 has.1 in
      let is : node ≡ top_node v = has.3 ∙ ap (λ k. (inode_of m r.inodes k).root) only.0 ∙ ap (λ i. i.root) (top_inode_is v which) in
      let there : Contains (top_visit g ∷ []) u = subst (λ l. Contains l u) (top_visits v) (subst (λ x. Contains (visits_of m x) u) is met) in
      elim (Contains-cases (top_visit g) u [] there) [
        | inl here ↦ subst (λ x. Stands (OfInode n) x) here (subst (λ k. Stands (OfInode k) (top_visit g)) (sym only.0) InTop)
        | inr none ↦ absurd (omega (arith, none.1))
      ]

  -- a block of a tree stands among the tree's blocks
  in_tree : (tree : SystemTree) (u : Visit) → StandsInTree v which tree u → (tree_base g which tree ≤ u.block) × (u.block < tree_base g which tree + tree_blocks g.blocksize (tree_leaves g tree))
  in_tree tree u s = (omega (arith, s.place), omega (arith, s.place, s.index_there, level-within g.blocksize (tree_leaves g tree) (IsGeometry-keeps g v.whole).block_size u.level s.level_there))

  -- equal blocks of a tree stand at one position
  same_visit : (tree : SystemTree) (a b : Visit) → StandsInTree v which tree a → StandsInTree v which tree b → a.block ≡ b.block → a ≡ b
  same_visit tree a b s t e =
      let one : (a.level ≡ b.level) × (a.index ≡ b.index) = one_place v which tree a.level b.level a.index b.index b.block (subst (λ x. IsTreeBlock g which tree a.level a.index x) e s) t in
      λ i. record { level = one.0 i; index = one.1 i; block = e i }

  -- the Bitmap tree comes before the Inode tree
  bitmap_before : (u : Visit) → StandsInTree v which trees.Bitmap u → u.block < tree_base g which trees.Inodes
  bitmap_before u s = let n = IsGeometry-keeps g v.whole in omega (arith, (in_tree trees.Bitmap u s).1)

  -- what stands in a tree comes before the directory's block
  before_top : (tree : SystemTree) (u : Visit) → StandsInTree v which tree u → u.block < top_block g
  before_top tree u s = omega (arith, (in_tree tree u s).1, tree-within g which tree v.whole, first_block-le g which)

  -- they are blocks of the volume
  block_low : (o : Owner) (u : Visit) → Stands o u → u.block < g.num_blocks
  block_low o u (InInodes s) = omega (arith, before_top trees.Inodes u s, top_low v)
  block_low o u (InBitmap s) = omega (arith, before_top trees.Bitmap u s, top_low v)
  block_low o u InTop = top_low v

  -- and none stands at two positions
  one_position : (o p : Owner) (a b : Visit) → Stands o a → Stands p b → a.block ≡ b.block → (o ≡ p) × (a ≡ b)
  one_position o p a b (InInodes s) (InInodes t) e = (refl, same_visit trees.Inodes a b s t e)
  one_position o p a b (InInodes s) (InBitmap t) e = absurd (omega (arith, (in_tree trees.Inodes a s).0, bitmap_before b t, e))
  one_position o p a b (InInodes s) InTop e = absurd (omega (arith, before_top trees.Inodes a s, e))
  one_position o p a b (InBitmap s) (InInodes t) e = absurd (omega (arith, (in_tree trees.Inodes b t).0, bitmap_before a s, e))
  one_position o p a b (InBitmap s) (InBitmap t) e = (refl, same_visit trees.Bitmap a b s t e)
  one_position o p a b (InBitmap s) InTop e = absurd (omega (arith, before_top trees.Bitmap a s, e))
  one_position o p a b InTop (InInodes t) e = absurd (omega (arith, before_top trees.Inodes b t, e))
  one_position o p a b InTop (InBitmap t) e = absurd (omega (arith, before_top trees.Bitmap b t, e))
  one_position o p a b InTop InTop e = (refl, refl)

  -- so no pointer of the tree is damaged
  pub new_undamaged : IsUndamaged m r (new_tree v)
  new_undamaged o u s = block_low o u (stands o u s)

  -- and no block stands at two positions
  pub new_apart : IsApart m r (new_tree v)
  new_apart o p a b s t e = one_position o p a b (stands o a s) (stands p b t) e
