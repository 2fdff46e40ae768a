-- The walk of a new volume comes to inode 1 alone, and outside the halves it meets the directory's block alone.
use Rattle.std.proofs.Common.{◌≡◌, ℕ, inl, inr, zero, suc, ◌/◌, ◌<◌, List, [], ◌∷◌, ◌++◌, true, false, refl, ap, ◌∙◌, None, add-one}
use Rattle.std.specs.Prelude.{map, filter, filter_map, flat_map, not, cond}
use Rattle.std.proofs.lemmas.Bool.{cond-true}
use Rattle.qx_geom.specs.declared.area.Which.{Which}
use Rattle.qx_geom.specs.declared.geometry.Geometry.{Geometry}
use Rattle.qx_geom.specs.declared.root.Root.{Root}
use Rattle.qx_geom.specs.Lists.{each_below}
use Rattle.qx_nodes.specs.BlockMap.{BlockMap}
use Rattle.qx_nodes.specs.Visits.{Visit, visits_of}
use Rattle.qx_records.specs.declared.inode.Inode.{Inode}
use Rattle.qx_records.specs.InodeRecord.{kind_of}
use Rattle.qx_view.specs.Images.{Roots, inode_places, raw_of}
use Rattle.qx_view.specs.Walk.{Taken, inode_root, is_directory_inode, is_directory_kind, listed_after, new_ones, taken_from, named_inode, named_inodes, walked_inodes}
use Rattle.qx_view.specs.Sound.{is_special_inode, is_special_kind, outer_blocks}
use Rattle.qx_view.proofs.AlikeLists.{below_members}
use Rattle.qx_make.specs.Blocks.{top_block}
use Rattle.qx_make.specs.NewVolume.{empty_root, new_roots}
use Rattle.qx_make.proofs.NewBlocks.{NewBlocks, blocks}
use Rattle.qx_make.proofs.NewDirectory.{none_named, raw_cases, top_node, top_visits}
use Rattle.qx_make.proofs.NewInodes.{top_inode_is}

-- nothing is taken from an empty list
none_taken : (m : BlockMap) (r : Roots) (fuel : ℕ) (listed : List ℕ) → taken_from m r fuel [] listed ≡ []
none_taken m r zero listed = refl
none_taken m r (suc fuel) listed = refl

module _ (v : NewBlocks) (which : Which) where
  -- the volume's numbers
  abbrev g : Geometry
  g = v.geometry

  -- its blocks
  abbrev m : BlockMap
  m = blocks v

  -- where its tree begins
  abbrev r : Roots
  r = new_roots g which

  -- inode 1's node
  pub root_is : inode_root m r 1 ≡ top_node v
  root_is = ap (λ (i : Inode). i.root) (top_inode_is v which)

  -- it is a directory
  pub is_directory : is_directory_inode m r 1 ≡ true
  unfolding kind_of
  is_directory = ap (λ (i : Inode). is_directory_kind (kind_of i.mode)) (top_inode_is v which)

  -- and no special
  pub is_no_special : is_special_inode m r 1 ≡ false
  unfolding kind_of
  is_no_special = ap (λ (i : Inode). is_special_kind (kind_of i.mode)) (top_inode_is v which)

  -- no record of it names an inode
  no_named_inode : (k : ℕ) → k < g.blocksize / 32 → named_inode m empty_root (raw_of m (top_node v) k) ≡ None
  no_named_inode k low = elim (raw_cases v k low) [
    | inl dot ↦ ap (λ x. named_inode m empty_root x) dot
    | inr other ↦ elim other [ inl dots ↦ ap (λ x. named_inode m empty_root x) dots | inr unused ↦ ap (λ x. named_inode m empty_root x) unused ]
  ]

  -- so none is named
  none_named_by : named_inodes m r 1 ≡ []
  none_named_by =
      cond-true _ _ _ is_directory
      ∙ ap (λ (node : Root). filter_map (λ k. named_inode m empty_root (raw_of m node k)) (each_below (node.size / 32) (λ k. k))) root_is
      ∙ none_named (λ k. named_inode m empty_root (raw_of m (top_node v) k)) (each_below (g.blocksize / 32) (λ k. k)) (λ k c. no_named_inode k (below_members (g.blocksize / 32) k c))

  -- and inode 1 is walked alone
  pub walked_is : walked_inodes m r ≡ 1 ∷ []
  walked_is =
      let rest : List ℕ → List Taken = λ named. taken_from m r (inode_places r) ([] ++ map (λ n. (n, 1)) (new_ones named (1 ∷ []))) (listed_after named (1 ∷ [])) in
      ap (λ fuel. map (λ (t : Taken). t.inode) (taken_from m r fuel ((1, 1) ∷ []) (1 ∷ []))) (add-one (inode_places r))
      ∙ ap (λ named. 1 ∷ map (λ (t : Taken). t.inode) (rest named)) none_named_by
      ∙ ap (λ ts. 1 ∷ map (λ (t : Taken). t.inode) ts) (none_taken m r (inode_places r) (1 ∷ []))

  -- the blocks outside the halves
  pub outer_is : outer_blocks m r ≡ top_block g ∷ []
  outer_is =
      let met : List Root → List ℕ = λ nodes. flat_map (λ node. map (λ (u : Visit). u.block) (visits_of m node)) (empty_root ∷ nodes) in
      ap (λ walked. met (map (inode_root m r) (filter (λ n. not (is_special_inode m r n)) walked))) walked_is
      ∙ ap (λ b. met (map (inode_root m r) (cond (not b) (1 ∷ []) []))) is_no_special
      ∙ ap (λ node. met (node ∷ [])) root_is
      ∙ ap (λ vs. map (λ (u : Visit). u.block) vs ++ []) (top_visits v)
