-- What every name of a path is.
use Rattle.std.proofs.Common.{◌≡◌, ℕ, zero, suc, ◌<◌, Bool, true, false, not, ◌||◌, cond, if◌then◌else◌, List, [], ◌∷◌, length, filter, Option, None, Some, IfSome, Ok, Err, nat_lt, nat_le, ◌==◌, refl, arith, Bor}
use Rattle.std.specs.List.{last_or, list_all, list_any, onto_first, slice_split}
use Rattle.std.specs.Option.{option_copied}
use Rattle.std.proofs.lemmas.Bool.{lt-ltb, le-leb, ltb-false, and_parts, or_parts}
use Rattle.qx_path.specs.declared.fault.PathFault.TheVariants.{Empty, TooLong, NameTooLong, ZeroByte}
use Rattle.qx_path.specs.Names.{is_empty, is_slash, names_in}
use Rattle.qx_path.specs.PathParts.{PathParts, is_name, parts_of, path_of}

-- the byte may stand in a name
abbrev is_plain : ℕ → Bool
is_plain byte = not ((byte == 0) || is_slash byte)

-- a plain byte in front of plain pieces
plain-onto_first : (byte : ℕ) (pieces : List (List ℕ)) → is_plain byte ≡ true → list_all (list_all is_plain) pieces ≡ true → list_all (list_all is_plain) (onto_first byte pieces) ≡ true
plain-onto_first byte [] plain all = rw plain refl
plain-onto_first byte (piece ∷ pieces) plain all = rw plain all

-- the pieces of bytes without a 0 are plain
plain-pieces : (bytes : List ℕ) → list_any (λ byte. byte == 0) bytes ≡ false → list_all (list_all is_plain) (slice_split is_slash bytes) ≡ true
plain-pieces [] no_zero = refl
plain-pieces (byte ∷ bytes) no_zero =
    let parts = or_parts (byte == 0) (list_any (λ b. b == 0) bytes) no_zero in
    elim (is_slash byte) as (λ t. is_slash byte ≡ t → list_all (list_all is_plain) (cond t ([] ∷ slice_split is_slash bytes) (onto_first byte (slice_split is_slash bytes))) ≡ true) [
      | true ↦ λ _. plain-pieces bytes parts.1
      | false ↦ λ other. plain-onto_first byte (slice_split is_slash bytes) (rw (parts.0, other) refl) (plain-pieces bytes parts.1)
    ] refl

-- a plain piece that is neither empty nor too long is a name
name-of_piece : (piece : List ℕ) → is_empty piece ≡ false → nat_lt 510 (length piece) ≡ false → list_all is_plain piece ≡ true → is_name piece ≡ true
name-of_piece piece some short plain =
    let first : nat_lt 0 (length piece) ≡ true = lt-ltb 0 (length piece) (positive (length piece) some) in
    let few : nat_le (length piece) 510 ≡ true = le-leb (length piece) 510 (ltb-false 510 (length piece) short) in
    rw (first, few) plain where
      positive : (n : ℕ) → (n == 0) ≡ false → 0 < n
      positive zero h = absurd (cc)
      positive (suc n) h = omega arith

-- so the pieces that aren't empty are names, where none is too long
names-of_pieces : (pieces : List (List ℕ)) → list_all (list_all is_plain) pieces ≡ true
    → list_any (λ name. nat_lt 510 (length name)) (filter (λ piece. not (is_empty piece)) pieces) ≡ false
    → list_all is_name (filter (λ piece. not (is_empty piece)) pieces) ≡ true
names-of_pieces [] plain short = refl
names-of_pieces (piece ∷ pieces) plain short =
    let parts = and_parts (list_all is_plain piece) (list_all (list_all is_plain) pieces) plain in
    let names : List (List ℕ) = filter (λ piece. not (is_empty piece)) pieces in
    elim (is_empty piece) as (λ t. is_empty piece ≡ t → list_any (λ name. nat_lt 510 (length name)) (cond (not t) (piece ∷ names) names) ≡ false → list_all is_name (cond (not t) (piece ∷ names) names) ≡ true) [
      | true ↦ λ _ rest. names-of_pieces pieces parts.1 rest
      | false ↦ λ some rest.
          let short_parts = or_parts (nat_lt 510 (length piece)) (list_any (λ name. nat_lt 510 (length name)) names) rest in
          rw (name-of_piece piece some short_parts.0 parts.0) (names-of_pieces pieces parts.1 short_parts.1)
    ] refl short

-- where the tests of a path all pass, there is no byte 0 and no long name
tests-passed : (a b c d : Bool) (p q : PathParts) → (if a then Err Empty else if b then Err TooLong else if c then Err ZeroByte else if d then Err NameTooLong else Ok p) ≡ Ok q → (c ≡ false) × (d ≡ false)
tests-passed true b c d p q h = absurd (cc)
tests-passed false true c d p q h = absurd (cc)
tests-passed false false true d p q h = absurd (cc)
tests-passed false false false true p q h = absurd (cc)
tests-passed false false false false p q h = (refl, refl)

-- the names of a path are names
pub names-of_path : (bytes : List ℕ) → path_of bytes ≡ Ok (parts_of bytes) → list_all is_name (names_in bytes) ≡ true
names-of_path bytes read =
    let passed = tests-passed (is_empty bytes) (nat_lt 1023 (length bytes)) (list_any (λ byte. byte == 0) bytes) (list_any (λ name. nat_lt 510 (length name)) (names_in bytes)) (parts_of bytes) (parts_of bytes) read in
    names-of_pieces (slice_split is_slash bytes) (plain-pieces bytes passed.0) passed.1

-- the last of names is one
pub name-last_or : (o : Option (List ℕ)) (names : List (List ℕ)) → IfSome o (λ name. is_name name ≡ true) → list_all is_name names ≡ true → IfSome (last_or o names) (λ name. is_name name ≡ true)
name-last_or o [] some all = some
name-last_or o (name ∷ names) some all = let parts = and_parts (is_name name) (list_all is_name names) all in name-last_or (Some name) names parts.0 parts.1

-- what holds of a lent name holds of what is lent
pub name-copied : (o : Option (Bor (List ℕ))) → IfSome (option_copied o) (λ name. is_name name ≡ true) → IfSome o (λ name. is_name name.now ≡ true)
name-copied None h = tt
name-copied (Some name) h = h
