-- The first name of bytes, and what follows it.
use Rattle.std.proofs.Common.{◌≡◌, ℕ, suc, ◌+◌, ◌≤◌, true, false, not, cond, List, [], ◌∷◌, length, take, drop, filter, refl, ap, ◌∙◌, inl, inr, arith, position}
use Rattle.std.specs.Prelude.{unwrap_or}
use Rattle.std.specs.List.{slice_split, onto_first}
use Rattle.std.proofs.lemmas.Bool.{cases_lt, lt-ltb, le-ltb}
use Rattle.qx_path.specs.Names.{first_length, is_empty, is_slash, names_in}

-- the pieces behind a first one that ends where these bytes begin
abbrev pub pieces_behind : List ℕ → List (List ℕ)
pieces_behind [] = []
pieces_behind (byte ∷ bytes) = slice_split is_slash bytes

-- the first piece ends before the first slash
pub pieces-first : (bytes : List ℕ) → slice_split is_slash bytes ≡ take (first_length bytes) bytes ∷ pieces_behind (drop (first_length bytes) bytes)
pieces-first [] = refl
pieces-first (byte ∷ bytes) =
    elim (is_slash byte) as (λ t. cond t ([] ∷ slice_split is_slash bytes) (onto_first byte (slice_split is_slash bytes)) ≡ take (cond (not t) (1 + first_length bytes) 0) (byte ∷ bytes) ∷ pieces_behind (drop (cond (not t) (1 + first_length bytes) 0) (byte ∷ bytes))) [
      | true ↦ refl
      | false ↦ let more : 1 + first_length bytes ≡ suc (first_length bytes) = omega arith in
          rw more (ap (onto_first byte) (pieces-first bytes))
    ]

-- what stands before the first slash is at most all
pub first_length-within : (bytes : List ℕ) → first_length bytes ≤ length bytes
first_length-within [] = omega arith
first_length-within (byte ∷ bytes) =
    elim (is_slash byte) as (λ t. cond (not t) (1 + first_length bytes) 0 ≤ suc (length bytes)) [
      | true ↦ omega arith
      | false ↦ omega (arith, first_length-within bytes)
    ]

-- the first slash, or else the end, is where the first piece ends
pub first_length-position : (bytes : List ℕ) → unwrap_or (position is_slash bytes) (length bytes) ≡ first_length bytes
first_length-position bytes = elim (cases_lt (first_length bytes) (length bytes)) [
  | inl low ↦ rw (lt-ltb _ _ low) refl
  | inr high ↦ rw (le-ltb _ _ high) (omega (arith, first_length-within bytes))
]

-- the names behind the first piece
names-behind : (bytes : List ℕ) → filter (λ piece. not (is_empty piece)) (pieces_behind (drop (first_length bytes) bytes)) ≡ names_in (drop (first_length bytes) bytes)
names-behind [] = refl
names-behind (byte ∷ bytes) =
    elim (is_slash byte) as (λ t. is_slash byte ≡ t → filter (λ piece. not (is_empty piece)) (pieces_behind (drop (cond (not t) (1 + first_length bytes) 0) (byte ∷ bytes))) ≡ names_in (drop (cond (not t) (1 + first_length bytes) 0) (byte ∷ bytes))) [
      | true ↦ λ slash. rw slash refl
      | false ↦ λ _. let more : 1 + first_length bytes ≡ suc (first_length bytes) = omega arith in rw more (names-behind bytes)
    ] refl

-- a first piece that isn't empty is the first name
pub names-first : (bytes : List ℕ) → is_empty (take (first_length bytes) bytes) ≡ false → names_in bytes ≡ take (first_length bytes) bytes ∷ names_in (drop (first_length bytes) bytes)
names-first bytes some =
    ap (filter (λ piece. not (is_empty piece))) (pieces-first bytes)
    ∙ rw some (ap (λ names. take (first_length bytes) bytes ∷ names) (names-behind bytes))
