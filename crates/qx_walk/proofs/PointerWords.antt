-- The words of the pointer blocks of a half, block by block and level by level.
use Rattle.std.proofs.Common.{◌≡◌, ℕ, zero, suc, ◌+◌, ◌*◌, ◌-◌, ◌≤◌, ◌<◌, refl, ap, sym, ◌∙◌, subst, arith}
use Rattle.std.specs.Prelude.{Bool, true, false, ◌==◌}
use Rattle.std.specs.List.{list_all}
use Rattle.std.proofs.lemmas.Bool.{cond-true, lt-ltb}
use Rattle.qx_fields.specs.Number.{field}
use Rattle.qx_geom.specs.declared.system.SystemTree.{SystemTree}
use Rattle.qx_geom.proofs.SystemBlocks.{IsPointerBlock-above, IsTreeBlock-pointer, system_word_of-is, tree_block-below}
use Rattle.qx_geom.proofs.Truths.{not_so, true_or_false}
use Rattle.qx_geom.proofs.VolumeNumbers.{IsGeometry-keeps, first_block-le}
use Rattle.qx_geom.specs.Layout.{IsGeometry, IsPointerBlock, IsTreeBlock, below_level, level_count, levels_for, system_pointer, system_word_of, tree_base, tree_leaves}
use Rattle.qx_geom.specs.Lists.{each_below}
use Rattle.qx_geom.specs.Pointer.{per_block}
use Rattle.qx_geom.specs.declared.area.Which.{Which}
use Rattle.qx_geom.specs.declared.geometry.Geometry.{Geometry}
use Rattle.qx_geom.proofs.Members.{all_below}
use Rattle.qx_nodes.specs.BlockMap.{BlockMap, word}
use Rattle.qx_view.proofs.AlikeLists.{all_alike, below_all}
use Rattle.qx_view.specs.Sound.{has_system_words, is_system_tree}
use Rattle.qx_walk.specs.Layouts.{are_words_of}

-- where one below a bound doesn't pass, not all do
pub not_below : (p : ℕ → Bool) (n k : ℕ) → k < n → p k ≡ false → list_all p (each_below n (λ j. j)) ≡ false
not_below p n k low wrong = not_so (list_all p (each_below n (λ j. j))) (λ all. true_or_false (p k) (below_all p n k all low) wrong)

-- a pointer block is a block of the volume
pub pointer_counted : (g : Geometry) (which : Which) (tree : SystemTree) (b : ℕ) → IsGeometry g → IsPointerBlock g which tree b → b < g.num_blocks
pointer_counted g which tree b volume p =
    let at = IsTreeBlock-pointer g which tree volume b p in
    omega (arith, tree_block-below g which tree volume at.0 at.1 b at.3, first_block-le g which, (IsGeometry-keeps g volume).room)

module _ (m : BlockMap) (g : Geometry) (volume : IsGeometry g) (each : m.size ≡ g.blocksize) (which : Which) (tree : SystemTree) where
  abbrev base : ℕ
  base = tree_base g which tree

  abbrev n : ℕ
  n = tree_leaves g tree

  -- the words of the block at a level and an index
  words_same : (k j b : ℕ) → IsTreeBlock g which tree (suc k) j b → are_words_of g which tree b m.order (m.bytes b) ≡ has_system_words m base n k j
  words_same k j b t =
      let pointer : b ≡ system_pointer g.blocksize base n (suc k) j = t.place ∙ sym (cond-true _ _ _ (lt-ltb j (level_count g.blocksize n (suc k)) t.index_there)) in
      let back : suc k - 1 ≡ k = omega arith in
      all_alike (λ w. field m.order 4 (m.bytes b) (4 * w) == system_word_of g which tree b w) (λ w. word m (system_pointer g.blocksize base n (suc k) j) w == system_pointer g.blocksize base n k (j * per_block g.blocksize + w)) (each_below (per_block g.blocksize) (λ w. w))
      (λ w c.
      let leads : system_word_of g which tree b w ≡ system_pointer g.blocksize base n k (j * per_block g.blocksize + w) =
      system_word_of-is g which tree volume (suc k) j b w (omega arith) t ∙ ap (λ l. system_pointer g.blocksize base n l (j * per_block g.blocksize + w)) back in
      λ i. field m.order 4 (m.bytes (pointer i)) (4 * w) == leads i)
      ∙ ap (λ z. list_all (λ w. word m (system_pointer z base n (suc k) j) w == system_pointer z base n k (j * per_block z + w)) (each_below (per_block z) (λ w. w))) (sym each)

  -- where each pointer block has its words, the tree is as it must be
  pub right_words : ((b : ℕ) → IsPointerBlock g which tree b → are_words_of g which tree b m.order (m.bytes b) ≡ true) → is_system_tree m base n ≡ true
  right_words all =
      all_below (λ k. list_all (λ j. has_system_words m base n k j) (each_below (level_count m.size n (suc k)) (λ j. j))) (levels_for m.size n) (λ k low.
      all_below (λ j. has_system_words m base n k j) (level_count m.size n (suc k)) (λ j there.
      let b : ℕ = base + below_level g.blocksize n (suc k) + j in
      let t : IsTreeBlock g which tree (suc k) j (base + below_level g.blocksize n (suc k) + j) = record {
        level_there = subst (λ z. suc k ≤ levels_for z n) each low;
        index_there = subst (λ z. j < level_count z n (suc k)) each there;
        place = refl;
      } in
      sym (words_same k j b t) ∙ all b (IsPointerBlock-above g which tree volume (suc k) j b (omega arith) t)))

  -- where one hasn't, it isn't
  pub wrong_words : (b : ℕ) → IsPointerBlock g which tree b → are_words_of g which tree b m.order (m.bytes b) ≡ false → is_system_tree m base n ≡ false
  wrong_words b p wrong = let at = IsTreeBlock-pointer g which tree volume b p in by_level at.0 at.1 at.2 at.3
    where
      by_level : (level index : ℕ) → 1 ≤ level → IsTreeBlock g which tree level index b → is_system_tree m base n ≡ false
      by_level zero index up t = absurd (omega arith)
      by_level (suc k) index up t = not_so (is_system_tree m base n) (λ all.
          let level : list_all (λ j. has_system_words m base n k j) (each_below (level_count m.size n (suc k)) (λ j. j)) ≡ true =
          below_all (λ k. list_all (λ j. has_system_words m base n k j) (each_below (level_count m.size n (suc k)) (λ j. j))) (levels_for m.size n) k all (subst (λ z. suc k ≤ levels_for z n) (sym each) t.level_there) in
          let block : has_system_words m base n k index ≡ true = below_all (λ j. has_system_words m base n k j) (level_count m.size n (suc k)) index level (subst (λ z. index < level_count z n (suc k)) (sym each) t.index_there) in
          true_or_false (are_words_of g which tree b m.order (m.bytes b)) (words_same k index b t ∙ block) wrong)
