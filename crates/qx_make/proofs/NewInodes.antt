-- The inodes of a new volume: the root directory's, and zeros.
use Rattle.std.proofs.Common.{◌≡◌, ℕ, inl, inr, zero, suc, ◌+◌, ◌-◌, ◌*◌, ◌/◌, ◌%◌, ◌≤◌, ◌<◌, ◌^◌, List, [], ◌∷◌, ◌++◌, true, refl, ap, sym, ◌∙◌, arith, lit<, length, take, drop}
use Rattle.std.specs.Prelude.{All, replicate, slice_range, ◌==◌}
use Rattle.std.proofs.Math.Nat.{zero-div, zero-mod, zero-mul}
use Rattle.std.proofs.lemmas.Nat.{div-add-mod'}
use Rattle.std.proofs.lemmas.Bool.{and_parts, and_from, cases_eq, cond-true, cond-false, eq-eqb, ne_eqb}
use Rattle.std.proofs.lemmas.List.Elements.{All-replicate}
use Rattle.std.proofs.lemmas.List.{take_at, drop_at, drop-drop, drop-replicate}
use Rattle.qx_fields.specs.declared.order.Order.{Order}
use Rattle.qx_geom.specs.declared.system.SystemTree.TheVariants as trees
use Rattle.qx_geom.specs.declared.area.Which.{Which}
use Rattle.qx_geom.specs.declared.geometry.Geometry.{Geometry}
use Rattle.qx_geom.specs.declared.root.Root.{Root}
use Rattle.qx_geom.specs.Layout.{system_root_of}
use Rattle.qx_geom.specs.Pointer.{absent}
use Rattle.qx_geom.proofs.BlockSizes.{BlockSizeBounds, block_size-bounds}
use Rattle.qx_geom.proofs.VolumeNumbers.{IsGeometry-keeps}
use Rattle.qx_geom.proofs.LevelCounts.{part_below}
use Rattle.qx_nodes.specs.BlockMap.{BlockMap}
use Rattle.qx_nodes.specs.Content.{leaf_bytes}
use Rattle.qx_records.specs.InodeRecord.{inode_in}
use Rattle.qx_records.specs.WrittenInode.{FitsInode, inode_bytes as bytes_of_inode}
use Rattle.qx_records.proofs.WrittenInodes.{inode_in-inode_bytes, length_inode_bytes}
use Rattle.qx_view.specs.Images.{inode_bytes, inode_of}
use Rattle.qx_view.specs.Sound.{are_zero}
use Rattle.qx_view.proofs.HoleRecords.{are_zero-replicate}
use Rattle.qx_make.specs.Blocks.{inode_leaf_bytes, top_block, top_inode}
use Rattle.qx_make.proofs.NewBlocks.{NewBlocks, blocks, inodes_from, leaves_filled}
use Rattle.qx_make.proofs.NewLeaves.{inode_leaf_is}

-- ---- the root directory's inode

-- its pointers fit
pointers_fit : (block : ℕ) → block < 2 ^ 32 → All (λ p. p < 2 ^ 32) (block ∷ replicate 15 absent)
pointers_fit block low zero d within = low
pointers_fit block low (suc k) d within = All-replicate (λ p. p < 2 ^ 32) 15 absent (lit< tt) k d (omega arith)

-- so do its other numbers
top_inode-fits : (size block moment : ℕ) → size < 2 ^ 64 → block < 2 ^ 32 → moment < 2 ^ 32 → FitsInode (top_inode size block moment)
top_inode-fits size block moment s b t = record {
  size = s;
  uid = lit< tt;
  gid = lit< tt;
  ftime = t;
  mtime = t;
  atime = t;
  ctime = t;
  mode = lit< tt;
  ext_mode = lit< tt;
  sixteen = refl;
  pointers = pointers_fit block b;
}

-- ---- zeros

-- the first of some zeros are zeros
are_zero-take : (n : ℕ) (xs : List ℕ) → are_zero xs ≡ true → are_zero (take n xs) ≡ true
are_zero-take zero xs e = refl
are_zero-take (suc n) [] e = refl
are_zero-take (suc n) (x ∷ xs) e = let both : ((x == 0) ≡ true) × (are_zero xs ≡ true) = and_parts (x == 0) (are_zero xs) e in and_from (x == 0) (are_zero (take n xs)) both.0 (are_zero-take n xs both.1)

-- behind the first bytes come zeros
pub drop_zeros : (xs : List ℕ) (n o count : ℕ) → length xs ≡ n → n ≤ o → drop o (xs ++ replicate count 0) ≡ replicate (count - (o - n)) 0
drop_zeros xs n o count long behind =
    let parts : o ≡ n + (o - n) = omega arith in
    ap (λ z. drop z (xs ++ replicate count 0)) parts ∙ sym (drop-drop (o - n) n (xs ++ replicate count 0)) ∙ ap (λ (l : List ℕ). drop (o - n) l) (drop_at xs (replicate count 0) n long) ∙ drop-replicate (o - n) count 0

-- behind inode 1 the leaves of the Inode tree are zeros
pub zero_behind : (g : Geometry) (order : Order) (moment i o : ℕ) → 128 ≤ i * g.blocksize + o → are_zero (drop o (inode_leaf_bytes g order moment i)) ≡ true
unfolding inode_leaf_bytes
zero_behind g order moment i o behind =
    let top : List ℕ = bytes_of_inode order (top_inode g.blocksize (top_block g) moment) in
    elim (cases_eq i 0) [
      | inl first ↦
          let none : i * g.blocksize ≡ 0 = ap (λ z. z * g.blocksize) first ∙ zero-mul g.blocksize in
          ap (λ (l : List ℕ). are_zero (drop o l)) (cond-true (i == 0) (top ++ replicate (g.blocksize - 128) 0) (replicate g.blocksize 0) (eq-eqb i 0 first))
          ∙ ap are_zero (drop_zeros top 128 o (g.blocksize - 128) (length_inode_bytes order (top_inode g.blocksize (top_block g) moment) refl) (omega (arith, none, behind)))
          ∙ are_zero-replicate (g.blocksize - 128 - (o - 128))
      | inr later ↦
          ap (λ (l : List ℕ). are_zero (drop o l)) (cond-false (i == 0) (top ++ replicate (g.blocksize - 128) 0) (replicate g.blocksize 0) (ne_eqb i 0 later))
          ∙ ap are_zero (drop-replicate o g.blocksize 0)
          ∙ are_zero-replicate (g.blocksize - o)
    ]

module _ (v : NewBlocks) (which : Which) where
  -- the volume's numbers
  abbrev g : Geometry
  g = v.geometry

  -- its blocks
  abbrev m : BlockMap
  m = blocks v

  -- its Inode root node
  abbrev inodes : Root
  inodes = system_root_of g which trees.Inodes

  -- the bounds of its block size
  bounds : BlockSizeBounds g.blocksize
  bounds = block_size-bounds g.blocksize (IsGeometry-keeps g v.whole).block_size

  -- the leaf of a byte below the Inode tree's size is one of the tree
  pub leaf_below : (k : ℕ) → k < g.num_inodes * 128 → k / g.blocksize < g.inode_leaves
  leaf_below k low = let b = bounds in let filled = leaves_filled g trees.Inodes v.whole in omega (arith, part_below k (g.num_inodes * 128) g.blocksize (omega arith) low)

  -- so is the first
  pub first_leaf : 0 < g.inode_leaves
  first_leaf = let many = inodes_from g v.whole in omega (arith, leaf_below 0 (omega arith), zero-div g.blocksize)

  -- the bytes of inode 1
  pub top_is : inode_bytes m inodes 1 ≡ bytes_of_inode v.order (top_inode g.blocksize (top_block g) v.moment)
  unfolding inode_leaf_bytes
  top_is =
      let top : List ℕ = bytes_of_inode v.order (top_inode g.blocksize (top_block g) v.moment) in
      ap (λ k. slice_range (leaf_bytes m inodes k) (0 % g.blocksize) (0 % g.blocksize + 128)) (zero-div g.blocksize)
      ∙ ap (λ k. slice_range (leaf_bytes m inodes 0) k (k + 128)) (zero-mod g.blocksize)
      ∙ ap (λ (l : List ℕ). slice_range l 0 (0 + 128)) (inode_leaf_is v which 0 first_leaf)
      ∙ take_at top (replicate (g.blocksize - 128) 0) 128 (length_inode_bytes v.order (top_inode g.blocksize (top_block g) v.moment) refl)

  -- inode 1 is the root directory's
  pub top_inode_is : inode_of m inodes 1 ≡ top_inode g.blocksize (top_block g) v.moment
  top_inode_is =
      let b = bounds in let n = IsGeometry-keeps g v.whole in let now = v.now in
      ap (λ (l : List ℕ). inode_in v.order l) top_is ∙ inode_in-inode_bytes v.order (top_inode g.blocksize (top_block g) v.moment) (top_inode-fits g.blocksize (top_block g) v.moment (omega arith) (omega arith) (omega arith))

  -- the other inodes are zeros
  pub other_is_zero : (k : ℕ) → 1 ≤ k → k < g.num_inodes → are_zero (inode_bytes m inodes (suc k)) ≡ true
  other_is_zero k above low =
      let b = bounds in
      let at : ℕ = (suc k - 1) * 128 in
      let here : at ≡ k * 128 = omega arith in
      let whole : at / g.blocksize * g.blocksize + at % g.blocksize ≡ at = div-add-mod' at g.blocksize in
      ap (λ (l : List ℕ). are_zero (slice_range l (at % g.blocksize) (at % g.blocksize + 128))) (inode_leaf_is v which (at / g.blocksize) (leaf_below at (omega arith)))
      ∙ are_zero-take (at % g.blocksize + 128 - at % g.blocksize) (drop (at % g.blocksize) (inode_leaf_bytes g v.order v.moment (at / g.blocksize)))
      (zero_behind g v.order v.moment (at / g.blocksize) (at % g.blocksize) (omega (arith, whole, here, above)))
