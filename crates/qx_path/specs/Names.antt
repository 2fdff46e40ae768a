-- The names between the slashes of a path.
use Rattle.std.specs.Prelude.{◌≡◌, ℕ, ◌++◌, Bool, false, not, List, [], ◌∷◌, length, filter, ◌==◌}
use Rattle.std.specs.List.{position_or_len, slice_split}

-- no element
abbrev pub is_empty : List ℕ → Bool
is_empty bytes = length bytes == 0

-- the byte is a slash
abbrev pub is_slash : ℕ → Bool
is_slash byte = byte == 47

-- the bytes begin with a slash
abbrev pub begins_with_slash : List ℕ → Bool
begins_with_slash [] = false
begins_with_slash (byte ∷ bytes) = is_slash byte

-- the last byte, where there is one, is no slash
abbrev pub EndsNoSlash : List ℕ → Type 0
EndsNoSlash bytes = (front : List ℕ) → ¬ (bytes ≡ front ++ 47 ∷ [])

-- the pieces between slashes that aren't empty
abbrev pub names_in : List ℕ → List (List ℕ)
names_in bytes = filter (λ piece. not (is_empty piece)) (slice_split is_slash bytes)

-- how many bytes stand before the first slash
abbrev pub first_length : List ℕ → ℕ
first_length bytes = position_or_len is_slash bytes
