-- How many blocks a part has that is all there.
use Rattle.std.proofs.Common.{◌≡◌, ℕ, zero, suc, ◌+◌, ◌*◌, ◌^◌, ◌<◌, ◌≤◌, refl, sym, ◌∙◌, ap, subst, add-one, arith, pow-suc, lit<}
use Rattle.std.proofs.Math.Nat.{mul-le-mul_right, mul_assoc, mul_comm, pow-le-pow_left, pow-le-pow_right, pow-zero}
use Rattle.std.proofs.Math.Numerals.{suc-eq-add-one}
use Rattle.qx_ptree.specs.Parts.{full_below}

-- a level more fits 64 bits by far
pub full-fits : (words blocks k : ℕ) → words ≤ 1024 → k < 5 → blocks + 1 ≤ 2 * words ^ k → blocks * words + 2 ≤ 2 ^ 60
full-fits words blocks k low below few =
    let base : words ^ k ≤ 1024 ^ k = pow-le-pow_left low k in
    let most : 1024 ^ k ≤ 1024 ^ 4 = pow-le-pow_right {n = 1024} (lit< tt) {i = k} {j = 4} (omega arith) in
    let small : blocks ≤ 2199023255552 = omega arith in
    let one : blocks * words ≤ 2199023255552 * words = mul-le-mul_right words small in
    omega arith

-- the blocks of a level more
pub full-more : (words blocks k : ℕ) → blocks ≡ full_below words k → blocks * words + 1 ≡ full_below words (k + 1)
full-more words blocks k same = ap (λ x. x + 1) (mul_comm blocks words ∙ ap (λ x. words * x) same) ∙ sym (ap (full_below words) (add-one k))

-- they stay few
pub full-few : (words blocks k : ℕ) → 128 ≤ words → blocks + 1 ≤ 2 * words ^ k → blocks * words + 1 + 1 ≤ 2 * words ^ (k + 1)
full-few words blocks k some few =
    let times : (blocks + 1) * words ≤ 2 * words ^ k * words = mul-le-mul_right words few in
    let power : words ^ (k + 1) ≡ words ^ k * words = ap (λ j. words ^ j) (add-one k) ∙ pow-suc words k in
    let same : 2 * words ^ k * words ≡ 2 * (words ^ k * words) = mul_assoc 2 (words ^ k) words in
    omega arith

-- a part that is all there has fewer than two blocks for each leaf
pub full-few_all : (words l : ℕ) → 128 ≤ words → full_below words l + 1 ≤ 2 * words ^ l
full-few_all words zero some = rw pow-zero (omega arith)
full-few_all words (suc l) some =
    subst (λ k. full_below words k + 1 ≤ 2 * words ^ k) (sym (suc-eq-add-one l))
    (subst (λ x. x + 1 ≤ 2 * words ^ (l + 1)) (full-more words (full_below words l) l refl) (full-few words (full_below words l) l some (full-few_all words l some)))
