-- Pointers that were read into the first part of an array.
use Rattle.std.proofs.Common.{◌≡◌, ℕ, ◌+◌, ◌-◌, ◌≤◌, List, ◌++◌, take, drop, length, length-drop, sym, ◌∙◌, ap, subst, arith}
use Rattle.std.specs.Prelude.{slice_index}
use Rattle.std.proofs.lemmas.List.{drop-append-le, get_or-drop}
use Rattle.std.proofs.Math.Seq.{take-append_seam, take-length}

-- the part is what was read
pub part_read : (words : ℕ) (into rest : List ℕ) → length into ≡ words → take (words - 0) (into ++ rest) ≡ into
part_read words into rest long =
    let all : words - 0 ≡ length into = omega (arith, long) in
    ap (λ n. take n (into ++ rest)) all ∙ take-append_seam into rest

-- so a fact of it is one of what was read
pub of_part : (Q : List ℕ → Type 0) (words : ℕ) (into rest : List ℕ) → length into ≡ words → Q into → Q (take (words - 0) (into ++ rest))
of_part Q words into rest long h = subst Q (sym (part_read words into rest long)) h

-- and the other way
pub part_of_read : (Q : List ℕ → Type 0) (words : ℕ) (into rest : List ℕ) → length into ≡ words → Q (take (words - 0) (into ++ rest)) → Q into
part_of_read Q words into rest long h = subst Q (part_read words into rest long) h

-- a later part of it
pub later_part : (from words : ℕ) (into rest : List ℕ) → length into ≡ words → from ≤ words → take (words - from) (drop from (into ++ rest)) ≡ drop from into
later_part from words into rest long low =
    let all : words - from ≡ length (drop from into) = omega (arith, long, length-drop from into) in
    ap (λ xs. take (words - from) xs) (drop-append-le from into rest (omega (arith, long))) ∙ ap (λ n. take n (drop from into ++ rest)) all ∙ take-append_seam (drop from into) rest

-- a fact of the later part is one of what was read there
pub of_later : (Q : List ℕ → Type 0) (from words : ℕ) (into rest : List ℕ) → length into ≡ words → from ≤ words → Q (drop from into) → Q (take (words - from) (drop from (into ++ rest)))
of_later Q from words into rest long low h = subst Q (sym (later_part from words into rest long low)) h

-- and the other way
pub later_of : (Q : List ℕ → Type 0) (from words : ℕ) (into rest : List ℕ) → length into ≡ words → from ≤ words → Q (take (words - from) (drop from (into ++ rest))) → Q (drop from into)
later_of Q from words into rest long low h = subst Q (later_part from words into rest long low) h

-- what stands there
pub later_at : (from : ℕ) (into : List ℕ) (w : ℕ) → slice_index (drop from into) w ≡ slice_index into (from + w)
later_at from into w = get_or-drop from into w 0

-- all of a node's own pointers but the first
pub own_later : (xs : List ℕ) → length xs ≡ 16 → take 15 (drop 1 xs) ≡ drop 1 xs
own_later xs long =
    let all : 15 ≡ length (drop 1 xs) = omega (arith, long, length-drop 1 xs) in
    ap (λ n. take n (drop 1 xs)) all ∙ take-length (drop 1 xs)

-- which are 15
pub own_count : (xs : List ℕ) → length xs ≡ 16 → length (take 15 (drop 1 xs)) ≡ 15
own_count xs long = ap length (own_later xs long) ∙ omega (arith, long, length-drop 1 xs)
