-- The least levels that reach so many leaves.
use Rattle.std.proofs.Common.{◌≡◌, ℕ, zero, suc, ◌+◌, ◌^◌, ◌<◌, ◌≤◌, true, leb, ⊎_elim, arith, leb-true, leb-false}
use Rattle.std.proofs.lemmas.Bool.{cond_both, cases_eq, cases_lt}
use Rattle.qx_geom.specs.Layout.{is_block_size, levels_from, levels_for}
use Rattle.qx_geom.specs.Pointer.{reach}
use Rattle.qx_geom.proofs.BlockSizes.{reach-two}

module _ (b n : ℕ) where
  -- the levels that are found reach the leaves, where some among the tried do
  levels_from-reach : (m more l : ℕ) → n ≤ reach b m → l ≤ m → m < l + more → n ≤ reach b (levels_from b n l more)
  levels_from-reach m zero l enough low high = absurd (omega arith)
  levels_from-reach m (suc more) l enough low high =
      cond_both (leb n (reach b l)) l (levels_from b n (l + 1) more) (λ x. n ≤ reach b x) (leb-true _ _)
      (λ t. ⊎_elim (λ e. absurd (let e' : reach b l ≡ reach b m = cc in omega (arith, leb-false _ _ t)))
      (λ apart. levels_from-reach m more (l + 1) enough (omega arith) (omega arith)) (cases_eq l m))

  -- fewer than those don't
  levels_from-below : (more l k : ℕ) → l ≤ k → k < levels_from b n l more → reach b k < n
  levels_from-below zero l k low high = absurd (omega arith)
  levels_from-below (suc more) l k low high =
      cond_both (leb n (reach b l)) l (levels_from b n (l + 1) more) (λ x. k < x → reach b k < n) (λ t less. absurd (omega arith))
      (λ t less. ⊎_elim (λ e. let e' : reach b l ≡ reach b k = cc in omega (arith, leb-false _ _ t))
      (λ apart. levels_from-below more (l + 1) k (omega arith) less) (cases_eq l k)) high

  -- the levels of so many leaves reach them, where 5 do
  pub levels_for-reach : (m : ℕ) → m ≤ 5 → n ≤ reach b m → n ≤ reach b (levels_for b n)
  unfolding levels_for
  levels_for-reach m few enough = levels_from-reach m 6 0 enough (omega arith) (omega arith)

  -- and are the least
  pub levels_for-least : (k : ℕ) → k < levels_for b n → reach b k < n
  unfolding levels_for
  levels_for-least k less = levels_from-below 6 0 k (omega arith) less

  -- so they are at most any that do
  pub levels_for-le : (m : ℕ) → n ≤ reach b m → levels_for b n ≤ m
  levels_for-le m enough = ⊎_elim (λ less. absurd (omega (arith, levels_for-least m less))) (λ at_most. at_most) (cases_lt m (levels_for b n))

  -- and are those that do where none fewer do
  pub levels_for-is : (m : ℕ) → m ≤ 5 → n ≤ reach b m → ((k : ℕ) → k < m → reach b k < n) → levels_for b n ≡ m
  levels_for-is m few enough least =
      ⊎_elim (λ less. absurd (omega (arith, least (levels_for b n) less, levels_for-reach m few enough))) (λ at_least. omega (arith, levels_for-le m enough)) (cases_lt (levels_for b n) m)

  -- no more levels are found than are tried
  levels_from-le : (more l : ℕ) → levels_from b n l more ≤ l + more
  levels_from-le zero l = omega arith
  levels_from-le (suc more) l =
      cond_both (leb n (reach b l)) l (levels_from b n (l + 1) more) (λ x. x ≤ l + suc more) (λ t. omega arith) (λ t. let less = levels_from-le more (l + 1) in omega arith)

  -- which are six at most
  pub levels_for-six : levels_for b n ≤ 6
  unfolding levels_for
  levels_for-six = levels_from-le 6 0

-- the leaves of a half are reached by two levels
pub levels_for-two : (b n : ℕ) → is_block_size b ≡ true → n ≤ 2 ^ 18 → levels_for b n ≤ 2
levels_for-two b n sized few = levels_for-le b n 2 (reach-two b n sized few)
