-- How a set of block numbers lies in words of 64 bits.
use Rattle.std.specs.Prelude.{◌≡◌, ℕ, ◌+◌, ◌/◌, ◌%◌, ◌≤◌, Bool, false, List, length, map, slice_index, ◌==◌}
use Rattle.std.specs.List.{range_with_len}
use Rattle.std.specs.Int.{bit_at}
use Rattle.qx_blockset.specs.Members.{Members, count_of}
use Rattle.qx_blockset.specs.declared.set.BlockSet.TheInside.{Inside}

-- number b has bit b % 64 of word b / 64
abbrev pub in_words : List ℕ → ℕ → Bool
in_words words b = bit_at (slice_index words (b / 64)) (b % 64) == 1

-- the numbers below a limit, as their bits say
abbrev pub members : List ℕ → ℕ → Members
members words limit = map (in_words words) (range_with_len 0 limit)

-- the members that the fields stand for
abbrev pub members_in : Inside → Members
members_in a = members a.words.items a.limit

-- there is a bit for each number, no other bit is set, and the count is that of the members
pub record IsCounted (a : Inside) : Type 0 where
  pub words : length a.words.items ≡ (a.limit + 63) / 64
  pub clean : (b : ℕ) → a.limit ≤ b → in_words a.words.items b ≡ false
  pub counted : a.count ≡ count_of (members_in a)
