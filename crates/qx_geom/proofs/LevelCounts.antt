-- How many blocks the levels of a tree have.
use Rattle.std.proofs.Common.{◌≡◌, ℕ, zero, suc, ◌+◌, ◌-◌, ◌*◌, ◌/◌, ◌%◌, ◌^◌, ◌<◌, ◌≤◌, min, true, ⊎_elim, arith, sym, ◌∙◌, ap, refl, add-one}
use Rattle.std.proofs.Math.Nat.{div-eq_of_lt-le, div-lt_iff_lt-mul, le-div_iff_mul-le, div-one, mul-le-mul_left, mul-le-mul_right, le-mul_of_pos_right, pow-zero, pow-succ', add-mul, div-mul-le_self, one-mul}
use Rattle.std.proofs.lemmas.Grind.{div_ceil_times}
use Rattle.std.proofs.lemmas.Bool.{cases_eq, cond-true, cond-false, lt-ltb, le-ltb}
use Rattle.std.proofs.lemmas.Nat.{le-div}
use Rattle.qx_geom.proofs.BlockSizes.{power_pos}
use Rattle.qx_geom.specs.Layout.{is_block_size, level_count, below_level, levels_for, tree_blocks, pointer_blocks, pointer_place}
use Rattle.qx_geom.specs.Pointer.{ceil_div, per_block}

-- the quotient rounded up, as the code's division gives it
pub ceil_div-is : (n p : ℕ) → 0 < p → n / p + min 1 (n % p) ≡ ceil_div n p
ceil_div-is n p some =
    let bounds = div_ceil_times n p some in
    sym (div-eq_of_lt-le {k = n / p + min 1 (n % p)} p {m = n + p - 1} (omega arith) (omega arith))

-- it is at most a number that, times the divisor, is enough
pub ceil_div-le : (n p m : ℕ) → 0 < p → n ≤ m * p → ceil_div n p ≤ m
ceil_div-le n p m some enough = let below : (n + p - 1) / p < m + 1 = (div-lt_iff_lt-mul some).1 (omega arith) in omega arith

-- a place below the rounded quotient stands in a part that begins below the number
pub ceil_div-below : (n p j : ℕ) → 0 < p → j < ceil_div n p → j * p < n
ceil_div-below n p j some less =
    let whole : (j + 1) * p ≤ n + p - 1 = (le-div_iff_mul-le some).0 (omega arith) in
    omega arith

-- and a place below the number stands in a part below the rounded quotient
pub part_below : (k a b : ℕ) → 0 < b → k < a → k / b < ceil_div a b
part_below k a b pos below =
    let more : (k / b + 1) * b ≤ a + b - 1 = rw (add-mul (k / b) 1 b, one-mul b) (omega (arith, div-mul-le_self k b)) in
    omega (arith, le-div (k / b + 1) (a + b - 1) b pos more)

module _ (b n : ℕ) (sized : is_block_size b ≡ true) where
  -- the leaves are level 0
  pub level_count-leaves : level_count b n 0 ≡ n
  level_count-leaves = ap (λ (p : ℕ). ceil_div n p) (pow-zero (per_block b)) ∙ div-one (n + 1 - 1) ∙ (let e : n + 1 - 1 ≡ n = omega arith in e)

  -- no level has more blocks than there are leaves
  pub level_count-le : (k : ℕ) → level_count b n k ≤ n
  level_count-le k = ceil_div-le n (per_block b ^ k) n (power_pos b k sized) (le-mul_of_pos_right n (power_pos b k sized))

  -- so k levels have at most m times as many, where k is m at most
  pub below_level-le : (k m : ℕ) → k ≤ m → below_level b n k ≤ m * n
  below_level-le zero m low = omega arith
  below_level-le (suc k) m low =
      let less = below_level-le k k (omega arith) in let few = level_count-le k in
      let more : suc k * n ≤ m * n = mul-le-mul_right n low in
      omega arith

  -- one level more
  pub below_level-next : (k : ℕ) → below_level b n (k + 1) ≡ below_level b n k + level_count b n k
  below_level-next k = ap (λ (m : ℕ). below_level b n m) (add-one k)

  -- the levels below a higher one have all of the blocks below a lower one
  pub below_level-more : (i k : ℕ) → i ≤ k → below_level b n i ≤ below_level b n k
  below_level-more i zero low = let e : i ≡ 0 = omega arith in let same : below_level b n i ≡ below_level b n 0 = cc in omega arith
  below_level-more i (suc k) low =
      ⊎_elim (λ e. let same : below_level b n i ≡ below_level b n (suc k) = cc in omega arith)
      (λ apart. let less = below_level-more i k (omega arith) in omega arith) (cases_eq i (suc k))

  -- the first block to which a pointer block points
  pub index-within : (j k : ℕ) → 0 < k → j < level_count b n k → j * per_block b < n
  index-within j zero high less = absurd (omega arith)
  index-within j (suc k) high less =
      let below : j * per_block b ^ suc k < n = ceil_div-below n (per_block b ^ suc k) j (power_pos b (suc k) sized) less in
      let lower : 0 < per_block b ^ k = power_pos b k sized in
      let power : per_block b ≤ per_block b ^ suc k = rw pow-succ' (le-mul_of_pos_right (per_block b) lower) in
      let more : j * per_block b ≤ j * per_block b ^ suc k = mul-le-mul_left j power in
      omega arith

  -- the blocks of a level are some of the tree's
  pub level-within : (k : ℕ) → k ≤ levels_for b n → below_level b n k + level_count b n k ≤ tree_blocks b n
  unfolding tree_blocks
  level-within k low = below_level-more (suc k) (suc (levels_for b n)) (omega arith)

  -- a tree's blocks are its leaves and its pointer blocks
  pub tree_blocks-is : tree_blocks b n ≡ n + pointer_blocks b n
  unfolding pointer_blocks
  tree_blocks-is = omega (arith, level-within 0 (omega arith), level_count-leaves)

  -- where there are pointer blocks, there is a level of them
  pub levels_for-some : 0 < pointer_blocks b n → 1 ≤ levels_for b n
  unfolding tree_blocks
  levels_for-some some =
      ⊎_elim (λ none. let e : tree_blocks b n ≡ below_level b n 1 = ap (λ (l : ℕ). below_level b n (suc l)) none in absurd (omega (arith, tree_blocks-is, level_count-leaves))) (λ apart. omega arith)
      (cases_eq (levels_for b n) 0)

  -- the blocks below the last level, and that level's
  tree_blocks-last : tree_blocks b n ≡ below_level b n (levels_for b n) + level_count b n (levels_for b n)
  unfolding tree_blocks
  tree_blocks-last = refl

  -- the place that is found for a pointer block, from a level on
  place_from : (level index : ℕ) → index < level_count b n level → (more k j : ℕ) → k ≤ level → level < k + more → j + below_level b n k ≡ below_level b n level + index
      → pointer_place b n k j more ≡ record { level = level; index = index }
  unfolding pointer_place
  place_from level index within zero k j low high same = absurd (omega arith)
  place_from level index within (suc more) k j low high same =
      ⊎_elim
      (λ e. let lower : below_level b n k ≡ below_level b n level = cc in let here : j ≡ index = omega arith in
      let count : level_count b n k ≡ level_count b n level = cc in
      cond-true _ _ _ (lt-ltb j (level_count b n k) (omega arith)) ∙ cc)
      (λ apart. let next = below_level-next k in let less = below_level-more (k + 1) level (omega arith) in
      cond-false _ _ _ (le-ltb j (level_count b n k) (omega arith)) ∙ place_from level index within more (k + 1) (j - level_count b n k) (omega arith) (omega arith) (omega arith))
      (cases_eq k level)

  -- the pointer block of a level and an index is found there
  pub pointer_place-is : (level index behind : ℕ) → 1 ≤ level → level ≤ 5 → index < level_count b n level → behind + n ≡ below_level b n level + index
      → pointer_place b n 1 behind 5 ≡ record { level = level; index = index }
  pointer_place-is level index behind low high within same =
      let first : below_level b n 1 ≡ n = omega (arith, level_count-leaves) in
      place_from level index within 5 1 behind low (omega arith) (omega arith)

  -- behind all of the lower levels' pointer blocks stand the last level's
  pub level_count-last : (index behind : ℕ) → behind < pointer_blocks b n → behind + n ≡ below_level b n (levels_for b n) + index → index < level_count b n (levels_for b n)
  level_count-last index behind within same = omega (arith, tree_blocks-is, tree_blocks-last)

  -- and a pointer block of the last level is found there
  pub pointer_place-last : (index behind : ℕ) → levels_for b n ≤ 5 → behind < pointer_blocks b n → behind + n ≡ below_level b n (levels_for b n) + index
      → pointer_place b n 1 behind 5 ≡ record { level = levels_for b n; index = index }
  pointer_place-last index behind few within same =
      pointer_place-is (levels_for b n) index behind (levels_for-some (omega arith)) few (level_count-last index behind within same) same
