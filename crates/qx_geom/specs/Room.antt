-- How much there is room for: the greatest file, and whether a change fits into what is free. Both bounds are this project's own.
use Rattle.std.specs.Prelude.{ℕ, ◌+◌, ◌^◌, Bool, ◌||◌, ◌==◌, nat_le, if◌then◌else◌}

-- the greatest end of a file, in bytes
abbrev pub greatest_end : ℕ
greatest_end = 2 ^ 48

-- so many free blocks stay for changes that remove something
abbrev pub reserve : ℕ
reserve = 16

-- a change that takes so many blocks fits into so many free ones: it takes none, or leaves the reserve, which one that removes something may take as well
abbrev pub fits : Bool → ℕ → ℕ → Bool
fits is_removing need free = need == 0 || (if is_removing then nat_le need free else nat_le (need + reserve) free)
