-- The words of a new volume's pointer blocks lead to the blocks of the level below.
use Rattle.std.proofs.Common.{◌≡◌, ℕ, suc, ◌+◌, ◌-◌, ◌*◌, ◌≤◌, ◌<◌, ◌^◌, List, true, refl, ap, ◌∙◌, arith}
use Rattle.std.specs.Prelude.{◌==◌, nat_lt}
use Rattle.std.specs.List.{list_all}
use Rattle.std.proofs.lemmas.Bool.{cond-true, cond_both, eq-eqb, lt-ltb, ltb-true}
use Rattle.qx_fields.specs.Number.{field}
use Rattle.qx_geom.specs.declared.system.SystemTree.{SystemTree}
use Rattle.qx_geom.specs.declared.area.Which.{Which}
use Rattle.qx_geom.specs.declared.geometry.Geometry.{Geometry}
use Rattle.qx_geom.specs.Layout.{IsTreeBlock, below_level, is_block_size, level_count, levels_for, system_pointer, system_word_of, tree_base, tree_leaves}
use Rattle.qx_geom.specs.Lists.{each_below}
use Rattle.qx_geom.specs.Pointer.{absent, per_block}
use Rattle.qx_geom.proofs.LevelCounts.{level-within}
use Rattle.qx_geom.proofs.SystemBlocks.{IsPointerBlock-above, system_word_of-is}
use Rattle.qx_geom.proofs.VolumeNumbers.{IsGeometry-keeps, tree-below}
use Rattle.qx_geom.proofs.Members.{all_below}
use Rattle.qx_nodes.specs.BlockMap.{word}
use Rattle.qx_view.specs.Sound.{has_system_words, is_system_tree}
use Rattle.qx_system.specs.SystemBytes.{pointer_block_bytes}
use Rattle.qx_make.proofs.NewBlocks.{NewBlocks, blocks, pointer_bytes}
use Rattle.qx_make.proofs.NumbersInRows.{field_digits}

module _ (v : NewBlocks) (which : Which) (tree : SystemTree) where
  -- the volume's numbers
  abbrev g : Geometry
  g = v.geometry

  -- where the tree begins
  abbrev base : ℕ
  base = tree_base g which tree

  -- how many leaves it has
  abbrev n : ℕ
  n = tree_leaves g tree

  -- the block size is one of the four
  sized : is_block_size g.blocksize ≡ true
  sized = (IsGeometry-keeps g v.whole).block_size

  -- a pointer of the tree is a number of 32 bits
  pointer_small : (level index : ℕ) → level ≤ levels_for g.blocksize n → system_pointer g.blocksize base n level index < 2 ^ 32
  pointer_small level index up =
      cond_both (nat_lt index (level_count g.blocksize n level)) (base + below_level g.blocksize n level + index) absent (λ x. x < 2 ^ 32)
      (λ t. omega (arith, ltb-true index (level_count g.blocksize n level) t, level-within g.blocksize n sized level up, tree-below g which tree v.whole)) (λ t. omega arith)

  -- a word of a pointer block leads a level below
  pub word_is : (level index b w : ℕ) → 1 ≤ level → IsTreeBlock g which tree level index b → w < per_block g.blocksize → word (blocks v) b w ≡ system_pointer g.blocksize base n (level - 1) (index * per_block g.blocksize + w)
  unfolding pointer_block_bytes
  word_is level index b w above t low =
      let leads : system_word_of g which tree b w ≡ system_pointer g.blocksize base n (level - 1) (index * per_block g.blocksize + w) = system_word_of-is g which tree v.whole level index b w above t in
      let small : system_pointer g.blocksize base n (level - 1) (index * per_block g.blocksize + w) < 2 ^ 32 = pointer_small (level - 1) (index * per_block g.blocksize + w) (omega (arith, t.level_there)) in
      ap (λ (l : List ℕ). field v.order 4 l (4 * w)) (pointer_bytes v which tree b (IsPointerBlock-above g which tree v.whole level index b above t))
      ∙ field_digits v.order 4 (λ w. system_word_of g which tree b w) (per_block g.blocksize) w low (omega (arith, leads, small))
      ∙ leads

  -- the block of a level and an index
  pub tree_block : (level index : ℕ) → level ≤ levels_for g.blocksize n → index < level_count g.blocksize n level → IsTreeBlock g which tree level index (base + below_level g.blocksize n level + index)
  tree_block level index up within = record { level_there = up; index_there = within; place = refl }

  -- its pointer
  pub pointer_is : (level index : ℕ) → index < level_count g.blocksize n level → system_pointer g.blocksize base n level index ≡ base + below_level g.blocksize n level + index
  pointer_is level index within = cond-true _ _ _ (lt-ltb index (level_count g.blocksize n level) within)

  -- the word of a pointer block that is named by its own pointer
  word_leads : (k j w : ℕ) → k < levels_for g.blocksize n → j < level_count g.blocksize n (suc k) → w < per_block g.blocksize
      → word (blocks v) (system_pointer g.blocksize base n (suc k) j) w ≡ system_pointer g.blocksize base n k (j * per_block g.blocksize + w)
  word_leads k j w up within low =
      let back : suc k - 1 ≡ k = omega arith in
      ap (λ b. word (blocks v) b w) (pointer_is (suc k) j within)
      ∙ word_is (suc k) j (base + below_level g.blocksize n (suc k) + j) w (omega arith) (tree_block (suc k) j (omega arith) within) low
      ∙ ap (λ l. system_pointer g.blocksize base n l (j * per_block g.blocksize + w)) back

  -- so the tree is as the layout says
  pub system_tree_right : is_system_tree (blocks v) base n ≡ true
  system_tree_right =
      all_below (λ k. list_all (λ j. has_system_words (blocks v) base n k j) (each_below (level_count g.blocksize n (suc k)) (λ j. j))) (levels_for g.blocksize n)
      (λ k up. all_below (λ j. has_system_words (blocks v) base n k j) (level_count g.blocksize n (suc k))
      (λ j within. all_below (λ w. word (blocks v) (system_pointer g.blocksize base n (suc k) j) w == system_pointer g.blocksize base n k (j * per_block g.blocksize + w)) (per_block g.blocksize)
      (λ w low. eq-eqb _ _ (word_leads k j w up within low))))
