-- Bounds on positions, and on how many blocks their parts take.
use Rattle.std.proofs.Common.{◌≡◌, ℕ, zero, suc, ◌+◌, ◌-◌, ◌*◌, ◌^◌, ◌<◌, ◌≤◌, refl, sym, ◌∙◌, ap, subst, arith, pow-suc, lit<}
use Rattle.std.specs.Prelude.{Bool}
use Rattle.std.proofs.Math.Nat.{mul-le-mul_left, mul-le-mul_right, mul_assoc, mul_comm, one-le-pow, pow-le-pow_left, pow-le-pow_right}
use Rattle.std.proofs.Math.Numerals.{sub-one}
use Rattle.qx_geom.specs.Pointer.{per_block}
use Rattle.qx_blocks.specs.BlockState.{IsBlockSize}
use Rattle.qx_ptree.specs.declared.change.Fate.{Fate}
use Rattle.qx_ptree.specs.declared.change.Fate.TheVariants.{Stays, Written, Goes}
use Rattle.qx_ptree.specs.Parts.{leaf_part}
use Rattle.qx_ptree.specs.Plans.{InReach}
use Rattle.qx_ptree.proofs.PointerCounts.{words_bounds}

-- ---- block sizes

-- a level's power, by the one below
power-down : (P level : ℕ) → 0 < level → P ^ level ≡ P ^ (level - 1) * P
power-down P zero above = absurd (omega arith)
power-down P (suc l) above = rw (sub-one, pow-suc P l) refl

-- the leaves below a block are some
pub power-some : (b level : ℕ) → IsBlockSize b → 1 ≤ per_block b ^ level
power-some b level sized = let bounds = words_bounds b sized in one-le-pow level (per_block b) (omega arith)

-- and up to 5 levels above the leaves they are few
pub power-few : (b level : ℕ) → IsBlockSize b → level ≤ 5 → per_block b ^ level ≤ 2 ^ 50
power-few b level sized low =
    let bounds = words_bounds b sized in
    let base : per_block b ^ level ≤ 1024 ^ level = pow-le-pow_left bounds.1 level in
    let most : 1024 ^ level ≤ 1024 ^ 5 = pow-le-pow_right {n = 1024} (lit< tt) {i = level} {j = 5} low in
    omega arith

-- ---- positions

-- the block of a word below a block is in reach
pub child-reach : (b level index words w : ℕ) → 0 < level → InReach b level index → words ≡ per_block b → w < words → InReach b (level - 1) (index * words + w)
child-reach b level index words w above r same low =
    let P : ℕ = per_block b in
    let K : ℕ = P ^ (level - 1) in
    let room : (index + 1) * (K * P) ≤ 2 ^ 54 = subst (λ x. (index + 1) * x ≤ 2 ^ 54) (power-down P level above) r.leaves in
    let first : index * words + w + 1 ≤ (index + 1) * words = omega arith in
    let times : (index * words + w + 1) * K ≤ (index + 1) * words * K = mul-le-mul_right K first in
    let turned : (index + 1) * words * K ≡ (index + 1) * (K * words) = mul_assoc (index + 1) words K ∙ ap (λ x. (index + 1) * x) (mul_comm words K) in
    let at : (index + 1) * (K * words) ≡ (index + 1) * (K * P) = ap (λ x. (index + 1) * (K * x)) same in
    record { most = omega (arith, r.most); leaves = omega arith }

-- and its number fits
pub child-fits : (b level index words : ℕ) → IsBlockSize b → 0 < level → InReach b level index → words ≡ per_block b → index * words + words ≤ 2 ^ 54
child-fits b level index words sized above r same =
    let P : ℕ = per_block b in
    let K : ℕ = P ^ (level - 1) in
    let room : (index + 1) * (K * P) ≤ 2 ^ 54 = subst (λ x. (index + 1) * x ≤ 2 ^ 54) (power-down P level above) r.leaves in
    let one : 1 * P ≤ K * P = mul-le-mul_right P (power-some b (level - 1) sized) in
    let times : (index + 1) * (1 * P) ≤ (index + 1) * (K * P) = mul-le-mul_left (index + 1) one in
    let plain : (index + 1) * P ≤ 2 ^ 54 = omega arith in
    subst (λ k. index * k + k ≤ 2 ^ 54) (sym same) (omega arith)

-- the blocks to which a node's own pointers lead are in reach
pub top-reach : (b level j : ℕ) → IsBlockSize b → level ≤ 5 → j < 16 → InReach b level j
top-reach b level j sized low first =
    let few : per_block b ^ level ≤ 2 ^ 50 = power-few b level sized low in
    let times : (j + 1) * per_block b ^ level ≤ 16 * per_block b ^ level = mul-le-mul_right (per_block b ^ level) (omega arith) in
    record { most = low; leaves = omega arith }

-- ---- how many blocks are taken

-- and one that isn't written takes none
pub unwritten-none : (f : Fate) (had private : Bool) → (f ≡ Written → ⊥) → (leaf_part f had private).need ≡ 0
unwritten-none Stays had private un = refl
unwritten-none Written had private un = absurd (un refl)
unwritten-none Goes had private un = refl

-- one part more, where each takes fewer than 2 for each leaf
pub few-more : (w need child K : ℕ) → need + w ≤ w * (2 * K) → child + 1 ≤ 2 * K → need + child + (w + 1) ≤ (w + 1) * (2 * K)
few-more w need child K few one = omega (arith, few, one)

-- the parts below all words of a block, and the block's own
pub few-all : (b level need w own : ℕ) → IsBlockSize b → 0 < level → need + w ≤ w * (2 * per_block b ^ (level - 1)) → w ≡ per_block b → own ≤ 1 → need + own + 1 ≤ 2 * per_block b ^ level
few-all b level need w own sized above few all one =
    let P : ℕ = per_block b in
    let K : ℕ = P ^ (level - 1) in
    let few_P : need + P ≤ P * (2 * K) = subst (λ k. need + k ≤ k * (2 * K)) all few in
    let power : P ^ level ≡ K * P = power-down P level above in
    let same : P * (2 * K) ≡ 2 * (K * P) = mul_comm P (2 * K) ∙ mul_assoc 2 K P in
    omega (arith, (words_bounds b sized).0)

-- so many fit
pub level-fits : (b level : ℕ) → IsBlockSize b → level ≤ 5 → 2 * per_block b ^ level ≤ 2 ^ 51
level-fits b level sized low = omega (arith, power-few b level sized low)

-- the sums over some words fit
pub few-fits : (b level need w child : ℕ) → IsBlockSize b → 0 < level → level ≤ 5 → need + w ≤ w * (2 * per_block b ^ (level - 1)) → w < per_block b → child + 1 ≤ 2 * per_block b ^ (level - 1) → need + child < 2 ^ 64
few-fits b level need w child sized above most few low one =
    let P : ℕ = per_block b in
    let K : ℕ = P ^ (level - 1) in
    let more : need + child + (w + 1) ≤ (w + 1) * (2 * K) = few-more w need child K few one in
    let up : (w + 1) * (2 * K) ≤ P * (2 * K) = mul-le-mul_right (2 * K) (omega arith) in
    let same : P * (2 * K) ≡ 2 * (K * P) = mul_comm P (2 * K) ∙ mul_assoc 2 K P in
    let power : P ^ level ≡ K * P = power-down P level above in
    omega (arith, power-few b level sized most)

-- and so do those over some of a node's own pointers
pub top-fits : (b level need j child : ℕ) → IsBlockSize b → level ≤ 5 → need + j ≤ j * (2 * per_block b ^ level) → j < 16 → child + 1 ≤ 2 * per_block b ^ level → need + child < 2 ^ 64
top-fits b level need j child sized most few low one =
    let K : ℕ = per_block b ^ level in
    let more : need + child + (j + 1) ≤ (j + 1) * (2 * K) = few-more j need child K few one in
    let up : (j + 1) * (2 * K) ≤ 16 * (2 * K) = mul-le-mul_right (2 * K) (omega arith) in
    omega (arith, power-few b level sized most)

-- over all of them there are few blocks
pub top-few : (b level need j : ℕ) → IsBlockSize b → level ≤ 5 → need + j ≤ j * (2 * per_block b ^ level) → j ≤ 16 → need ≤ 2 ^ 55
top-few b level need j sized most few low =
    let K : ℕ = per_block b ^ level in
    let up : j * (2 * K) ≤ 16 * (2 * K) = mul-le-mul_right (2 * K) low in
    omega (arith, power-few b level sized most)
