-- Bytes in the place of others, as many as those.
use Rattle.std.specs.Prelude.{ℕ, List, ◌++◌, drop, length, take}

-- as many bytes as the old ones: the new, cut or filled up from the old
abbrev pub refit : List ℕ → List ℕ → List ℕ
refit old new = take (length old) (new ++ drop (length new) old)
