-- The first place that a set lacks.
use Rattle.std.specs.Prelude.{◌≡◌, ℕ, false, not, Option, find}
use Rattle.std.specs.List.{range_with_len}
use Rattle.qx_blockset.specs.Members.{Members, has, limit_of, HasAll}

-- the first place that is not in the set
abbrev pub first_absent_in : Members → Option ℕ
first_absent_in s = find (λ place. not (has s place)) (range_with_len 0 (limit_of s))

-- all places from `from` up to this one are in the set, and this one isn't, as the limit never is
pub record IsFirstFrom (s : Members) (from place : ℕ) : Type 0 where
  pub behind : HasAll s from place
  pub absent : has s place ≡ false
