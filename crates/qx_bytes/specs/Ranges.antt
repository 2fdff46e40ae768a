-- Bytes at a place of a list.
use Rattle.std.specs.Prelude.{ℕ, ◌+◌, List, length}
use Rattle.std.specs.List.{replace_range}

-- the bytes with others in the place of as many, from a place on
abbrev pub put_at : List ℕ → ℕ → List ℕ → List ℕ
put_at bytes at others = replace_range bytes at (at + length others) others
