-- The blocks of a row and those below them: a block's words, and a row that grows block by block.
use Rattle.std.proofs.Common.{◌≡◌, ℕ, suc, ◌+◌, ◌*◌, ◌-◌, ◌^◌, ◌/◌, ◌%◌, ◌<◌, ◌≤◌, ◌⊎◌, inl, inr, sym, ◌∙◌, ap, arith}
use Rattle.std.proofs.Math.Nat.{div-div-eq-div-mul, mod-lt, pow-suc}
use Rattle.std.proofs.lemmas.Bool.{cases_lt}
use Rattle.std.proofs.lemmas.Nat.{div-add-mod', div-mul-add}
use Rattle.qx_nodes.proofs.LeafPaths.{by_one}
use Rattle.qx_ptree.specs.Building.{LiesUnder, Row, one_block}

-- ---- one block

-- the block above
pub under_index : (P level index k j : ℕ) → LiesUnder P (one_block level index) k j → j / P ^ (level - k) ≡ index
under_index P level index k j u = omega (arith, u.from, u.to)

-- and what has it lies under it
pub index_under : (P level index k j : ℕ) → k ≤ level → j / P ^ (level - k) ≡ index → LiesUnder P (one_block level index) k j
index_under P level index k j h is = record { level = h; from = omega (arith, is); to = omega (arith, is) }

-- on its own level that is the block itself
pub under_own : (P level index k j : ℕ) → LiesUnder P (one_block level index) k j → level ≤ k → (k ≡ level) × (j ≡ index)
under_own P level index k j u h =
    let same : k ≡ level = omega (arith, u.level, h) in
    let none : level - k ≡ 0 = omega arith in
    (same, sym (ap (λ d. j / P ^ d) none ∙ by_one j P) ∙ under_index P level index k j u)

-- it lies under itself
pub own_under : (P level index : ℕ) → LiesUnder P (one_block level index) level index
own_under P level index =
    let none : level - level ≡ 0 = omega arith in
    index_under P level index level index (omega arith) (ap (λ d. index / P ^ d) none ∙ by_one index P)

-- ---- a row

-- the index of the row's block above
pub row_own : (P : ℕ) (row : Row) (j : ℕ) → row.first ≤ j → j < row.first + row.count → LiesUnder P row row.level j
row_own P row j from to =
    let none : row.level - row.level ≡ 0 = omega arith in
    let same : j / P ^ (row.level - row.level) ≡ j = ap (λ d. j / P ^ d) none ∙ by_one j P in
    record { level = omega arith; from = omega (arith, same); to = omega (arith, same) }

-- none lies under a row of no blocks
pub none_under : (P : ℕ) (row : Row) (k j : ℕ) → row.count ≡ 0 → LiesUnder P row k j → ⊥
none_under P row k j none u = omega (arith, u.from, u.to)

-- a row of one block more
pub row_more : (P level first count k j : ℕ) → LiesUnder P (record { level = level; first = first; count = count + 1 }) k j
    → LiesUnder P (record { level = level; first = first; count = count }) k j ⊎ LiesUnder P (one_block level (first + count)) k j
row_more P level first count k j u = elim (cases_lt (j / P ^ (level - k)) (first + count)) [
  | inl before ↦ inl (record { level = u.level; from = u.from; to = before })
  | inr last ↦ inr (record { level = u.level; from = last; to = omega (arith, u.to) })
]

-- has the blocks before
pub row_before : (P level first count k j : ℕ) → LiesUnder P (record { level = level; first = first; count = count }) k j → LiesUnder P (record { level = level; first = first; count = count + 1 }) k j
row_before P level first count k j u = record { level = u.level; from = u.from; to = omega (arith, u.to) }

-- and the last
pub row_last : (P level first count k j : ℕ) → LiesUnder P (one_block level (first + count)) k j → LiesUnder P (record { level = level; first = first; count = count + 1 }) k j
row_last P level first count k j u = record { level = u.level; from = omega (arith, u.from); to = omega (arith, u.to) }

-- ---- a block and those to which its words lead

-- how far a block stands below a level more
pub far_up : (l k : ℕ) → k ≤ l → suc l - k ≡ suc (l - k)
far_up l k h = omega arith

-- the index a level higher
pub up_index : (P d j : ℕ) → j / P ^ suc d ≡ j / P ^ d / P
up_index P d j = ap (λ q. j / q) (pow-suc P d) ∙ sym (div-div-eq-div-mul j (P ^ d) P)

-- below a block lie those below its words
pub under_words : (P l index k j : ℕ) → 0 < P → k ≤ l → LiesUnder P (one_block (suc l) index) k j → LiesUnder P (record { level = l; first = index * P; count = P }) k j
under_words P l index k j pos h u =
    let x : ℕ = j / P ^ (l - k) in
    let up : x / P ≡ index = sym (up_index P (l - k) j) ∙ ap (λ d. j / P ^ d) (sym (far_up l k h)) ∙ under_index P (suc l) index k j u in
    let whole : index * P + x % P ≡ x = ap (λ q. q * P + x % P) (sym up) ∙ div-add-mod' x P in
    let small : x % P < P = mod-lt x pos in
    record { level = h; from = omega (arith, whole); to = omega (arith, whole, small) }

-- and what lies below its words lies below it
pub words_under : (P l index k j : ℕ) → LiesUnder P (record { level = l; first = index * P; count = P }) k j → LiesUnder P (one_block (suc l) index) k j
words_under P l index k j u =
    let x : ℕ = j / P ^ (l - k) in
    let v : ℕ = x - index * P in
    let whole : index * P + v ≡ x = omega (arith, u.from) in
    let low : v < P = omega (arith, u.from, u.to) in
    let up : x / P ≡ index = ap (λ y. y / P) (sym whole) ∙ div-mul-add index P v low in
    index_under P (suc l) index k j (omega (arith, u.level)) (ap (λ d. j / P ^ d) (far_up l k u.level) ∙ up_index P (l - k) j ∙ up)
