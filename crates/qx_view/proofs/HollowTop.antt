-- A volume whose top directory has no present leaf: the walk comes to inode 1 alone, and no record is tested.
use Rattle.std.proofs.Common.{◌≡◌, ℕ, zero, suc, ◌+◌, ◌/◌, ◌%◌, List, [], ◌∷◌, ◌++◌, refl, ap, ◌∙◌, arith}
use Rattle.std.specs.Prelude.{IsTrue, Some, filter_map, flat_map, map, if◌then◌else◌}
use Rattle.qx_geom.specs.Lists.{each_below}
use Rattle.qx_nodes.specs.BlockMap.{BlockMap}
use Rattle.qx_nodes.specs.Content.{HasSize, levels_fit}
use Rattle.qx_nodes.specs.Visits.{present_of}
use Rattle.qx_records.specs.InodeRecord.{kind_of}
use Rattle.qx_records.specs.declared.kind.Kind.TheVariants as kinds
use Rattle.qx_view.proofs.HoleRecords.{given_by_present, tests_by_present}
use Rattle.qx_view.specs.Images.{Roots, inode_places, leaf_records, raw_of}
use Rattle.qx_view.specs.Walk.{Taken, finding_of, first_failing, inode_mode, inode_root, inode_tests, is_directory_kind, kind_tests, listed_after, named_inode, named_inodes, new_ones, node_tests, records_tests, root_tests, taken_from, taken_of, top_tests, walked_inodes}

-- inode 1, as it is taken first
abbrev pub first_taken : Taken
first_taken = record { inode = 1; parent = 1; listed = 1 ∷ [] }

module _ (m : BlockMap) (r : Roots) (size : HasSize m) (whole : m.size % 32 ≡ 0) (kind : kind_of (inode_mode m r 1) ≡ Some kinds.Directory) (fit : IsTrue (levels_fit m (inode_root m r 1))) (none : present_of m (inode_root m r 1) ≡ []) where
  -- it names no inode
  names_none : named_inodes m r 1 ≡ []
  names_none =
      ap (λ o. if is_directory_kind o then filter_map (λ k. named_inode m r.longfile (raw_of m (inode_root m r 1) k)) (each_below ((inode_root m r 1).size / 32) (λ k. k)) else []) kind
      ∙ given_by_present m (inode_root m r 1) size whole fit (named_inode m r.longfile) refl
      ∙ ap (λ is. filter_map (λ k. named_inode m r.longfile (raw_of m (inode_root m r 1) k)) (flat_map (leaf_records m (inode_root m r 1)) is)) none

  -- nothing is taken from no list
  none_taken : (fuel : ℕ) (listed : List ℕ) → taken_from m r fuel [] listed ≡ []
  none_taken zero listed = refl
  none_taken (suc fuel) listed = refl

  -- it is taken alone
  taken_alone : taken_of m r ≡ first_taken ∷ []
  taken_alone =
      ap (λ fuel. taken_from m r fuel ((1, 1) ∷ []) (1 ∷ [])) (let more : inode_places r + 1 ≡ suc (inode_places r) = omega arith in more)
      ∙ ap (λ ns. first_taken ∷ taken_from m r (inode_places r) (map (λ n. (n, 1)) (new_ones ns (1 ∷ []))) (listed_after ns (1 ∷ []))) names_none
      ∙ ap (λ ts. first_taken ∷ ts) (none_taken (inode_places r) (1 ∷ []))

  -- so the walk comes to it alone
  pub walked_alone : walked_inodes m r ≡ 1 ∷ []
  walked_alone = ap (map (λ (t : Taken). t.inode)) taken_alone

  -- its tests are those of its node
  tests_alone : inode_tests m r first_taken ≡ node_tests m 1 (inode_root m r 1) (levels_fit m (inode_root m r 1)) ++ []
  tests_alone =
      ap (kind_tests m r first_taken (inode_root m r 1)) kind
      ∙ ap (λ ts. node_tests m 1 (inode_root m r 1) (levels_fit m (inode_root m r 1)) ++ ts)
      (tests_by_present m (inode_root m r 1) size whole fit r 1 1 [] (1 ∷ [])
      ∙ ap (λ is. records_tests m r 1 1 (inode_root m r 1) [] (1 ∷ []) (flat_map (leaf_records m (inode_root m r 1)) is)) none)

  -- the finding is that of all tests but for its records
  pub finding_alone : finding_of m r ≡ first_failing [] (root_tests m r.inodes ++ root_tests m r.longfile ++ flat_map (root_tests m) r.further ++ top_tests m r ++ (node_tests m 1 (inode_root m r 1) (levels_fit m (inode_root m r 1)) ++ [] ++ []))
  finding_alone =
      ap (λ ts. first_failing [] (root_tests m r.inodes ++ root_tests m r.longfile ++ flat_map (root_tests m) r.further ++ top_tests m r ++ flat_map (inode_tests m r) ts)) taken_alone
      ∙ ap (λ ts. first_failing [] (root_tests m r.inodes ++ root_tests m r.longfile ++ flat_map (root_tests m) r.further ++ top_tests m r ++ (ts ++ []))) tests_alone
