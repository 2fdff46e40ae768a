-- A block has whole words.
use Rattle.std.proofs.Common.{◌≡◌, ℕ, ◌*◌, ◌/◌, true, ◌==◌, eqb-true, ⊎_elim, arith}
use Rattle.std.proofs.lemmas.Bool.{or_cases}
use Rattle.qx_geom.specs.Layout.{is_block_size}

-- at one of the sizes
words_at : (b m : ℕ) → (b == 4 * m) ≡ true → 4 * (b / 4) ≡ b
words_at b m t = let e : b ≡ 4 * m = eqb-true b (4 * m) t in omega arith

-- a block has whole words
pub block_size-words : (b : ℕ) → is_block_size b ≡ true → 4 * (b / 4) ≡ b
block_size-words b t =
    ⊎_elim (λ t'. ⊎_elim (λ t''. ⊎_elim (words_at b 128) (words_at b 256) (or_cases _ _ t'')) (words_at b 512) (or_cases _ _ t')) (words_at b 1024) (or_cases _ _ t)
