-- Numbers of one width as bytes, end to end.
use Rattle.std.proofs.Common.{◌≡◌, ℕ, zero, suc, ◌+◌, ◌-◌, ◌*◌, ◌<◌, ◌^◌, List, [], ◌++◌, append-nil, take, drop, ap, sym, ◌∙◌, arith}
use Rattle.std.specs.Prelude.{flat_map}
use Rattle.std.specs.List.{range_with_len}
use Rattle.std.proofs.Math.Nat.{mul-suc}
use Rattle.std.proofs.lemmas.List.{take_at, drop_at, drop-drop}
use Rattle.qx_fields.specs.declared.order.Order.{Order}
use Rattle.qx_fields.specs.Number.{digits, field, number}
use Rattle.qx_fields.proofs.Fields.{length_digits, number_digits}

-- the digits of the numbers that f gives for so many from a place on
abbrev pub digits_from : Order → ℕ → (ℕ → ℕ) → ℕ → ℕ → List ℕ
digits_from order n f from count = flat_map (λ w. digits order n (f w)) (range_with_len from count)

-- behind the first numbers comes the next
drop_digits : (order : Order) (n : ℕ) (f : ℕ → ℕ) (k from count : ℕ) → k < count → (rest : List ℕ) × (drop (n * k) (digits_from order n f from count) ≡ digits order n (f (from + k)) ++ rest)
drop_digits order n f k from zero low = absurd (omega arith)
drop_digits order n f zero from (suc count) low =
    let none : n * zero ≡ 0 = omega arith in
    let same : from ≡ from + zero = omega arith in
    (digits_from order n f (from + 1) count, ap (λ z. drop z (digits_from order n f from (suc count))) none ∙ ap (λ z. digits order n (f z) ++ digits_from order n f (from + 1) count) same)
drop_digits order n f (suc k) from (suc count) low =
    let behind : (rest : List ℕ) × (drop (n * k) (digits_from order n f (from + 1) count) ≡ digits order n (f (from + 1 + k)) ++ rest) = drop_digits order n f k (from + 1) count (omega arith) in
    let parts : n * suc k ≡ n + n * k = omega (arith, mul-suc n k) in
    let same : from + 1 + k ≡ from + suc k = omega arith in (
      behind.0,
      ap (λ z. drop z (digits_from order n f from (suc count))) parts
          ∙ sym (drop-drop (n * k) n (digits_from order n f from (suc count)))
          ∙ ap (λ (l : List ℕ). drop (n * k) l) (drop_at (digits order n (f from)) (digits_from order n f (from + 1) count) n (length_digits order n (f from)))
          ∙ behind.1
          ∙ ap (λ z. digits order n (f z) ++ behind.0) same,
    )

-- number k stands at its place
pub field_digits : (order : Order) (n : ℕ) (f : ℕ → ℕ) (count k : ℕ) → k < count → f k < 256 ^ n → field order n (digits_from order n f 0 count) (n * k) ≡ f k
unfolding field
field_digits order n f count k low small =
    let behind : (rest : List ℕ) × (drop (n * k) (digits_from order n f 0 count) ≡ digits order n (f (0 + k)) ++ rest) = drop_digits order n f k 0 count low in
    let same : 0 + k ≡ k = omega arith in
    let long : n ≡ n * k + n - n * k = omega arith in
    ap (λ (l : List ℕ). number order n (take (n * k + n - n * k) l)) (behind.1 ∙ ap (λ z. digits order n (f z) ++ behind.0) same)
    ∙ ap (λ (l : List ℕ). number order n l) (take_at (digits order n (f k)) behind.0 (n * k + n - n * k) (length_digits order n (f k) ∙ long) ∙ sym (append-nil (digits order n (f k))))
    ∙ number_digits order n (f k) [] small
