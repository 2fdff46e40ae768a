-- The blocks of the system trees, by level and index.
use Rattle.std.proofs.Common.{◌≡◌, ℕ, zero, suc, ◌+◌, ◌-◌, ◌*◌, ◌/◌, ◌<◌, ◌≤◌, Bool, true, ◌==◌, eqb-true, ⊎_elim, ap, sym, ◌∙◌, arith, refl}
use Rattle.std.proofs.Math.Nat.{mul-div_cancel, mul_assoc}
use Rattle.std.proofs.lemmas.Bool.{or_cases, cases_eq, cases_lt}
use Rattle.qx_geom.specs.declared.area.Which.{Which}
use Rattle.qx_geom.specs.declared.area.Which.TheVariants.{Second}
use Rattle.qx_geom.specs.declared.geometry.Geometry.{Geometry}
use Rattle.qx_geom.specs.declared.system.SystemTree.{SystemTree}
use Rattle.qx_geom.specs.declared.tree.PointerPlace.{PointerPlace}
use Rattle.qx_geom.specs.Layout.{IsGeometry, IsPointerBlock, IsTreeBlock, area_place, below_level, first_block, is_block_size, level_count, levels_for, pointer_place, system_pointer, system_word_of, word_at, tree_base, tree_blocks, tree_leaves}
use Rattle.qx_geom.specs.Pointer.{per_block}
use Rattle.qx_geom.proofs.BlockSizes.{block_size-bounds}
use Rattle.qx_geom.proofs.LeastLevels.{levels_for-two}
use Rattle.qx_geom.proofs.LevelCounts.{below_level-more, level-within, level_count-leaves, pointer_place-is, tree_blocks-is}
use Rattle.qx_geom.proofs.VolumeNumbers.{IsGeometry-keeps, tree_pointers-is, tree_leaves-le, tree-within}

-- ---- the second area

-- blocks fill 4096 bytes
parts_at : (b n m : ℕ) → n * m ≡ 4096 → (b == n) ≡ true → (k : ℕ) × (k * b ≡ 4096)
parts_at b n m e t = let same : b ≡ n = eqb-true b n t in (m, omega (arith, ap (λ (x : ℕ). m * x) same))

block_size-parts : (b : ℕ) → is_block_size b ≡ true → (k : ℕ) × (k * b ≡ 4096)
block_size-parts b t =
    ⊎_elim (λ t'. ⊎_elim (λ t''. ⊎_elim (parts_at b 512 8 refl) (parts_at b 1024 4 refl) (or_cases _ _ t'')) (parts_at b 2048 2 refl) (or_cases _ _ t')) (parts_at b 4096 1 refl) (or_cases _ _ t)

-- so the blocks fill all bytes between the areas, and the second is the last 4096 bytes
pub area_place-second : (g : Geometry) → IsGeometry g → area_place g Second + 0x1000 ≡ g.len4
area_place-second g e =
    let v = IsGeometry-keeps g e in let bounds = block_size-bounds g.blocksize v.block_size in
    let b = g.blocksize in let parts = block_size-parts b v.block_size in
    let r = g.len4 / 4096 - 4 in
    let len : g.len4 - 0x4000 ≡ r * 4096 = omega (arith, v.whole, v.long) in
    let all : r * parts.0 * b ≡ r * 4096 = mul_assoc r parts.0 b ∙ ap (λ (x : ℕ). r * x) parts.1 in
    let blocks : g.num_blocks ≡ r * parts.0 = v.blocks ∙ ap (λ (x : ℕ). (x - 0x4000) / b) v.whole ∙ ap (λ (x : ℕ). x / b) (len ∙ sym all) ∙ mul-div_cancel (r * parts.0) {n = b} (omega arith) in
    let filled : g.num_blocks * b ≡ r * 4096 = ap (λ (x : ℕ). x * b) blocks ∙ all in
    omega (arith, v.long)

-- ---- the trees

-- each of the first blocks is of a level
pub level_of : (b n k x : ℕ) → x < below_level b n k → (level : ℕ) × (level < k) × (below_level b n level ≤ x) × (x < below_level b n level + level_count b n level)
level_of b n zero x less = absurd (omega arith)
level_of b n (suc k) x less =
    ⊎_elim (λ lower. let found = level_of b n k x lower in (found.0, omega (arith, found.1), found.2, found.3)) (λ here. (k, omega arith, here, less)) (cases_lt x (below_level b n k))

module _ (g : Geometry) (which : Which) (tree : SystemTree) (e : IsGeometry g) where
  abbrev n : ℕ
  n = tree_leaves g tree

  abbrev base : ℕ
  base = tree_base g which tree

  sized : is_block_size g.blocksize ≡ true
  sized = (IsGeometry-keeps g e).block_size

  -- the levels above the leaves come behind them
  below_level-above : (level : ℕ) → 1 ≤ level → n ≤ below_level g.blocksize n level
  below_level-above level above = omega (arith, below_level-more g.blocksize n sized 1 level above, level_count-leaves g.blocksize n sized)

  -- a block above the leaves is a pointer block
  pub IsPointerBlock-above : (level index block : ℕ) → 1 ≤ level → IsTreeBlock g which tree level index block → IsPointerBlock g which tree block
  IsPointerBlock-above level index block above t = record {
    from = omega (arith, t.place, below_level-above level above);
    to = omega (arith, t.place, t.index_there, level-within g.blocksize n sized level t.level_there, tree_blocks-is g.blocksize n sized, tree_pointers-is g tree e);
  }

  -- and each pointer block is one of those
  pub IsTreeBlock-pointer : (block : ℕ) → IsPointerBlock g which tree block → (level : ℕ) × (index : ℕ) × (1 ≤ level) × IsTreeBlock g which tree level index block
  unfolding tree_blocks
  IsTreeBlock-pointer block p =
      let b = g.blocksize in
      let all = tree_blocks-is b n sized in let pointers = tree_pointers-is g tree e in
      let found = level_of b n (suc (levels_for b n)) (block - base) (omega (arith, p.from, p.to)) in
      let above : 1 ≤ found.0 = ⊎_elim (λ low. let none : level_count b n found.0 ≡ level_count b n 0 = ap (λ (k : ℕ). level_count b n k) low in
      let first : below_level b n found.0 ≡ 0 = ap (λ (k : ℕ). below_level b n k) low in
      absurd (omega (arith, p.from, found.3, level_count-leaves b n sized))) (λ apart. omega arith) (cases_eq found.0 0) in
      (found.0, block - base - below_level b n found.0, above, record { level_there = omega (arith, found.1); index_there = omega (arith, found.2, found.3); place = omega (arith, found.2, p.from) })

  -- a block of a tree lies in the half
  pub tree_block-below : (level index block : ℕ) → IsTreeBlock g which tree level index block → block < first_block g which + g.half
  tree_block-below level index block t = omega (arith, t.place, t.index_there, level-within g.blocksize n sized level t.level_there, tree-within g which tree e)

  -- what a pointer block's words point to
  pub system_word_of-is : (level index block word : ℕ) → 1 ≤ level → IsTreeBlock g which tree level index block → system_word_of g which tree block word ≡ system_pointer g.blocksize base n (level - 1) (index * per_block g.blocksize + word)
  unfolding system_word_of
  system_word_of-is level index block word above t =
      let few = levels_for-two g.blocksize n sized (tree_leaves-le g tree e) in
      let found : pointer_place g.blocksize n 1 (block - (base + n)) 5 ≡ record { level = level; index = index }
      = pointer_place-is g.blocksize n sized level index (block - (base + n)) above (omega (arith, t.level_there)) t.index_there (omega (arith, t.place, below_level-above level above)) in
      ap (λ (at : PointerPlace). word_at g.blocksize base n at word) found
