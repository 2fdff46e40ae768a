-- A new volume is sound: no reason applies, nothing stands behind a node's size, and the counts are right.
use Rattle.std.proofs.Common.{◌≡◌, ℕ, inl, inr, zero, suc, ◌+◌, ◌-◌, ◌*◌, ◌/◌, ◌%◌, ◌<◌, List, [], ◌∷◌, true, false, refl, ap, ◌∙◌, arith, length, drop, Option, Some, None, Ok}
use Rattle.std.specs.Prelude.{◌==◌, ◌&&◌, not, nat_le, if◌then◌else◌}
use Rattle.std.specs.List.{list_all}
use Rattle.std.proofs.Math.Nat.{mod_self, mul-div_cancel}
use Rattle.std.proofs.lemmas.Nat.{div-add-mod'}
use Rattle.std.proofs.lemmas.Bool.{and_from, and_left, and_right, cases_eq, cond-true, eq-eqb}
use Rattle.qx_geom.specs.declared.system.SystemTree.TheVariants as trees
use Rattle.qx_geom.specs.declared.area.Which.{Which}
use Rattle.qx_geom.specs.declared.area.Which.TheVariants.{First, Second}
use Rattle.qx_geom.specs.declared.geometry.Geometry.{Geometry}
use Rattle.qx_geom.specs.declared.root.Root.{Root}
use Rattle.qx_geom.specs.Layout.{geometry_of, system_root_of, user_blocks}
use Rattle.qx_geom.specs.Lists.{first_below}
use Rattle.qx_geom.proofs.BlockSizes.{block_size-bounds}
use Rattle.qx_geom.proofs.VolumeNumbers.{IsGeometry-keeps}
use Rattle.qx_nodes.specs.BlockMap.{BlockMap}
use Rattle.qx_super.specs.Superblock.{Superblock}
use Rattle.qx_view.specs.declared.reasons.Reason.TheVariants as reasons
use Rattle.qx_view.specs.Images.{Roots, inode_places}
use Rattle.qx_view.specs.Walk.{inode_root}
use Rattle.qx_view.specs.Sound.{are_counts_right, are_zero, bad_long_name, bit_differs, fails_dots, fails_inodes, fails_nodes, fails_tail, first_some, geometry_if, has_tail, has_system_trees, is_same_root, is_special_inode, is_written_by, last_finding, last_with, outer_blocks, reason_at, reason_of, reason_with, reasons_in, tail_finding, written_geometry}
use Rattle.qx_make.specs.Blocks.{top_block}
use Rattle.qx_make.specs.NewVolume.{made_superblock, new_roots}
use Rattle.qx_make.proofs.NewBlocks.{NewBlocks, blocks, inodes_from}
use Rattle.qx_make.proofs.NewInodes.{leaf_below, zero_behind}
use Rattle.qx_make.proofs.NewLeaves.{inode_leaf_is}
use Rattle.qx_make.proofs.NewReasons.{behind_halves, bits_agree, dots_pass, first_none, inodes_pass, no_long_names, nodes_pass, not_one, roots_and_halves}
use Rattle.qx_make.proofs.NewWalk.{outer_is, root_is, walked_is}

module _ (v : NewBlocks) (which : Which) where
  -- the volume's numbers
  abbrev g : Geometry
  g = v.geometry

  -- its blocks
  abbrev m : BlockMap
  m = blocks v

  -- where its tree begins
  abbrev r : Roots
  r = new_roots g which

  -- its Bitmap root node
  abbrev bitmap : Root
  bitmap = system_root_of g which trees.Bitmap

  -- how many bits the bitmap's leaves have
  abbrev bits : ℕ
  bits = g.bitmap_leaves * g.blocksize * 8

  -- ---- tails

  -- behind the Inode tree's size come zeros
  no_inode_tail : has_tail m r.inodes ≡ false
  unfolding system_root_of
  no_inode_tail =
      let b = block_size-bounds g.blocksize (IsGeometry-keeps g v.whole).block_size in
      let size : ℕ = g.num_inodes * 128 in
      let leaf : ℕ = size / g.blocksize in
      let whole : leaf * g.blocksize + size % g.blocksize ≡ size = div-add-mod' size g.blocksize in
      elim (cases_eq (size % g.blocksize) 0) [
        | inl none ↦ and_left (not (size % g.blocksize == 0)) _ (ap (λ k. not (k == 0)) none)
        | inr some ↦
            let same : leaf * g.blocksize / g.blocksize ≡ leaf = mul-div_cancel leaf (omega arith) in
            let below : leaf < g.inode_leaves = omega (arith, leaf_below v which (leaf * g.blocksize) (omega arith), same) in
            and_right (not (size % g.blocksize == 0)) _
            (ap (λ (l : List ℕ). not (are_zero (drop (size % g.blocksize) l))) (inode_leaf_is v which leaf below)
            ∙ ap not (zero_behind g v.order v.moment leaf (size % g.blocksize) (omega (arith, whole, inodes_from g v.whole))))
      ]

  -- and the directory fills its block
  no_tail : (k : ℕ) → fails_tail m r (1 ∷ []) k ≡ false
  no_tail zero = no_inode_tail
  no_tail (suc zero) =
      and_right (not (is_special_inode m r 1)) _ (ap (λ node. has_tail m node) (root_is v which) ∙ and_left (not (g.blocksize % g.blocksize == 0)) _ (ap (λ k. not (k == 0)) (mod_self g.blocksize)))
  no_tail (suc (suc k)) = ap (λ b. b && (not (is_special_inode m r (suc (suc k))) && has_tail m (inode_root m r (suc (suc k))))) (not_one (suc (suc k)) (λ e. omega (arith, e)))

  module _ (serial : ℕ) where
    abbrev s : Superblock
    s = made_superblock g v.order v.moment serial which

    -- the superblock says the numbers of its geometry
    written_is : (len : ℕ) → geometry_of len g.blocksize g.num_inodes ≡ Ok g → written_geometry s len ≡ Some g
    written_is len e = ap (λ o. geometry_if s o) e ∙ cond-true (is_written_by s g) (Some g) None (and_from (g.num_blocks == g.num_blocks) _ (eq-eqb g.num_blocks g.num_blocks refl) refl)

    -- ---- reasons

    -- the least number, for a reason that names none
    abbrev least : Option ℕ
    least = Some 0

    -- the halves are as they must be, and the directory's block lies behind them
    halves_ours : (if (is_same_root bitmap bitmap && (is_same_root r.inodes r.inodes && (has_system_trees m g First && has_system_trees m g Second))) && list_all (λ b. nat_le (2 * g.half) b) (outer_blocks m r) then None else least) ≡ None
    halves_ours =
        cond-true _ None least (and_from _ _ (roots_and_halves v which) (ap (λ l. list_all (λ b. nat_le (2 * g.half) b) l) (outer_is v which) ∙ behind_halves v which))

    -- and so are the bits
    bits_ours : first_below (bit_differs m bitmap g (outer_blocks m r)) bits ≡ None
    bits_ours = ap (λ l. first_below (bit_differs m bitmap g l) bits) (outer_is v which) ∙ first_none (bit_differs m bitmap g (top_block g ∷ [])) bits (bits_agree v which)

    -- no reason applies
    pub new_reason : (len : ℕ) → geometry_of len g.blocksize g.num_inodes ≡ Ok g → reason_of m s which len ≡ None
    new_reason len e =
        let places : ℕ = inode_places r + 1 in
        let nodes : first_below (fails_nodes m r (1 ∷ [])) places ≡ None = first_none _ places (λ k low. nodes_pass v which k) in
        let dots : first_below (fails_dots m r (1 ∷ [])) places ≡ None = first_none _ places (λ k low. dots_pass v which k) in
        let inodes : first_below (fails_inodes m r (1 ∷ [])) places ≡ None = first_none _ places (λ k low. inodes_pass v which k low) in
        let names : bad_long_name m r (1 ∷ []) ≡ None = no_long_names v which in
        ap (λ o. reason_with m s which o) (written_is len e)
        ∙ ap (λ reached. first_some (reasons_in m s g which r (outer_blocks m r) reached)) (walked_is v which)
        ∙ (λ i. first_some (reason_at reasons.Halves (halves_ours i) ∷ reason_at reasons.Bitmap (bits_ours i) ∷ reason_at reasons.Nodes (nodes i) ∷ reason_at reasons.Dots (dots i) ∷ reason_at reasons.Inodes (inodes i) ∷ reason_at reasons.LongNames (names i) ∷ []))

    -- ---- counts

    -- the free blocks and inodes are counted right
    counts_right : are_counts_right m s g r (1 ∷ []) ≡ true
    counts_right =
        let n = IsGeometry-keeps g v.whole in
        let blocks_free : user_blocks g - 1 + length (outer_blocks m r) ≡ user_blocks g = ap (λ (l : List ℕ). user_blocks g - 1 + length l) (outer_is v which) ∙ (let e : user_blocks g - 1 + 1 ≡ user_blocks g = omega arith in e) in
        let inodes_free : g.num_inodes - 1 + 1 ≡ g.num_inodes = omega (arith, inodes_from g v.whole) in
        and_from _ _ (eq-eqb _ _ blocks_free) (eq-eqb _ _ inodes_free)

    -- nothing is found last
    pub new_last : (len : ℕ) → geometry_of len g.blocksize g.num_inodes ≡ Ok g → last_finding m s len ≡ None
    new_last len e =
        let places : ℕ = inode_places r + 1 in
        ap (λ o. last_with m s o) (written_is len e)
        ∙ ap (λ reached. tail_finding (first_below (fails_tail m r reached) places) (are_counts_right m s g r reached)) (walked_is v which)
        ∙ ap (λ o. tail_finding o (are_counts_right m s g r (1 ∷ []))) (first_none (fails_tail m r (1 ∷ [])) places (λ k low. no_tail k))
        ∙ ap (λ b. tail_finding None b) counts_right
