-- A set of block numbers below a limit, seen as a list with a truth for each number.
use Rattle.std.specs.Prelude.{◌≡◌, ℕ, ◌≤◌, ◌<◌, Bool, true, false, ◌||◌, List, length, map, count_by, slice_index_or}
use Rattle.std.specs.List.{range_with_len}

-- the numbers below the limit, each with whether it is in the set
abbrev pub Members : Type 0
Members = List Bool

-- whether the number is in the set
abbrev pub has : Members → ℕ → Bool
has s b = slice_index_or s b false

-- the number is in the set
abbrev pub Has : Members → ℕ → Type 0
Has s b = has s b ≡ true

-- the number below which the members lie
abbrev pub limit_of : Members → ℕ
limit_of s = length s

-- how many members there are
abbrev pub count_of : Members → ℕ
count_of s = count_by (λ in_set. in_set) s

-- each number from `from` up to `to` is in the set
pub record HasAll (s : Members) (from to : ℕ) : Type 0 where
  pub each : (b : ℕ) → from ≤ b → b < to → Has s b

-- the numbers that are in one of two sets with one limit, or in both
abbrev pub union_of : Members → Members → Members
union_of s t = map (λ b. has s b || has t b) (range_with_len 0 (limit_of s))
