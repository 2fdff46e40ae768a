-- How many leaves the pointers of a level reach.
use Rattle.std.proofs.Common.{◌≡◌, ◌≢◌, ℕ, zero, suc, ◌+◌, ◌-◌, ◌*◌, ◌/◌, ◌^◌, ◌<◌, ◌≤◌, true, refl, sym, ◌∙◌, ap, subst, arith}
use Rattle.std.proofs.Math.Nat.{le-mul_of_pos_right, mul-div_cancel, mul_comm, one-le-pow, pow-le-pow_left, pow-le-pow_right, pow-suc}
use Rattle.qx_geom.proofs.BlockSizes.{block_size-bounds}
use Rattle.qx_geom.specs.Layout.{is_block_size}
use Rattle.qx_geom.specs.Pointer.{per_block}

-- five levels reach 2^50 leaves at most
pub span_few : (b k : ℕ) → is_block_size b ≡ true → k ≤ 5 → per_block b ^ k ≤ 2 ^ 50
span_few b k t few =
    let bounds = block_size-bounds b t in
    let base : per_block b ^ k ≤ 1024 ^ k = pow-le-pow_left bounds.pointers_to k in
    let power : 1024 ^ k ≤ 1024 ^ 5 = pow-le-pow_right (omega arith) few in
    omega arith

-- the same of numbers that are known by equations
pub span_bound : (b k x y : ℕ) → is_block_size b ≡ true → k ≤ 5 → x ≡ per_block b → y ≡ k → x ^ y ≤ 2 ^ 50
span_bound b k x y t few e f = subst (λ z. z ^ y ≤ 2 ^ 50) (sym e) (subst (λ z. per_block b ^ z ≤ 2 ^ 50) (sym f) (span_few b k t few))

-- a pointer reaches a leaf at least
pub span_pos : (b k s : ℕ) → is_block_size b ≡ true → s ≡ per_block b ^ k → 0 < s
span_pos b k s t e = let bounds = block_size-bounds b t in let pos : 0 < per_block b ^ k = one-le-pow k (per_block b) (omega arith) in omega (arith, e, pos)

-- so many pointers of a level are fewer than the leaves that they reach
pub reached_few : (a span bound : ℕ) → 0 < span → a * span ≤ bound → a ≤ bound
reached_few a span bound pos few = let less : a ≤ a * span = le-mul_of_pos_right a pos in omega (arith, less, few)

-- the pointers of a block, which are one level lower
pub record Lower (b level index reached count : ℕ) : Type 0 where
  pub span : reached / count ≡ per_block b ^ (level - 1)
  pub room : (index * count + count) * (reached / count) ≤ 2 ^ 54
  pub first : index * count ≤ 2 ^ 54
  pub whole : count * (reached / count) ≡ reached

-- they reach what the block reaches
pub lower : (b level index s count : ℕ) → is_block_size b ≡ true → level ≢ 0 → count ≡ per_block b → s ≡ per_block b ^ level → (index + 1) * s ≤ 2 ^ 54 → Lower b level index s count
lower b zero index s count t some many reach room = absurd (some refl)
lower b (suc l) index s count t some many reach room =
    let bounds = block_size-bounds b t in
    let P : ℕ = per_block b in
    let pos : 0 < P = omega (arith, bounds.pointers_from) in
    let low : ℕ = P ^ l in
    let low_pos : 0 < low = one-le-pow l P pos in
    let whole : s ≡ low * P = reach ∙ pow-suc P l in
    let part : s / count ≡ low = (λ i. whole i / many i) ∙ mul-div_cancel low pos in
    let all : (index * P + P) * low ≡ (index + 1) * s = rearranged index P low ∙ sym (ap (λ z. (index + 1) * z) whole) in
    let reaches : (index * count + count) * (s / count) ≡ (index + 1) * s = (λ i. (index * many i + many i) * part i) ∙ all in
    let few : index * P + P ≤ (index * P + P) * low = le-mul_of_pos_right (index * P + P) low_pos in
    record {
      span = part ∙ ap (λ k. P ^ k) (omega arith);
      room = omega (arith, reaches, room);
      first = omega (arith, few, all, room, ap (λ z. index * z) many);
      whole = (λ i. many i * part i) ∙ mul_comm P low ∙ sym whole;
    }
  where
    rearranged : (i p q : ℕ) → (i * p + p) * q ≡ (i + 1) * (q * p)
    rearranged i p q = grind arith
