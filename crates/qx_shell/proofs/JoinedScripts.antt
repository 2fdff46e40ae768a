-- A newline parts the lines of a script.
use Rattle.std.proofs.Common.{◌≡◌, ℕ, ◌<◌, List, [], ◌∷◌, ◌++◌, length, refl, ap, ◌∙◌, arith}
use Rattle.std.specs.Prelude.{Bool, true, false, cond, filter, not, ◌==◌}
use Rattle.std.specs.List.{onto_first, slice_split}
use Rattle.std.proofs.lemmas.List.Elements.{filter-append}
use Rattle.std.proofs.lemmas.List.Splits.{length-slice_split}
use Rattle.qx_words.specs.Lines.{lines_of}
use Rattle.qx_shell.specs.Occasions.{but_last, ended_lines_of}

-- a byte joins the first piece
onto-append : (c : ℕ) (parts more : List (List ℕ)) → 0 < length parts → onto_first c (parts ++ more) ≡ onto_first c parts ++ more
onto-append c [] more h = absurd (omega arith)
onto-append c (part ∷ parts) more h = refl

pieces_some : (xs : List ℕ) → 0 < length (slice_split (λ c. c == 10) xs)
pieces_some xs = let long = length-slice_split (λ c. c == 10) xs in omega arith

-- pieces before a newline, then those behind it
pieces-append : (xs ys : List ℕ) → slice_split (λ c. c == 10) (xs ++ 10 ∷ ys) ≡ slice_split (λ c. c == 10) xs ++ slice_split (λ c. c == 10) ys
pieces-append [] ys = refl
pieces-append (x ∷ xs) ys = go (x == 10) (pieces-append xs ys)
  where
    P : List ℕ → List (List ℕ)
    P zs = slice_split (λ c. c == 10) zs

    go : (b : Bool) → P (xs ++ 10 ∷ ys) ≡ P xs ++ P ys → cond b ([] ∷ P (xs ++ 10 ∷ ys)) (onto_first x (P (xs ++ 10 ∷ ys))) ≡ cond b ([] ∷ P xs) (onto_first x (P xs)) ++ P ys
    go true later = ap (λ parts. [] ∷ parts) later
    go false later = ap (onto_first x) later ∙ onto-append x (P xs) (P ys) (pieces_some xs)

but_last-append : {A : Type 0} (xs ys : List A) → 0 < length ys → but_last (xs ++ ys) ≡ xs ++ but_last ys
but_last-append [] ys h = refl
but_last-append (x ∷ []) [] h = absurd (omega arith)
but_last-append (x ∷ []) (y ∷ ys) h = refl
but_last-append (x ∷ z ∷ xs) ys h = ap (λ zs. x ∷ zs) (but_last-append (z ∷ xs) ys h)

is_line : List ℕ → Bool
is_line l = not (length l == 0)

-- so with all lines
pub lines-joined : (xs ys : List ℕ) → lines_of (xs ++ 10 ∷ ys) ≡ lines_of xs ++ lines_of ys
unfolding is_line
lines-joined xs ys = ap (filter is_line) (pieces-append xs ys) ∙ filter-append is_line (slice_split (λ c. c == 10) xs) (slice_split (λ c. c == 10) ys)

-- and with those that a newline ends
pub ended-joined : (xs ys : List ℕ) → ended_lines_of (xs ++ 10 ∷ ys) ≡ lines_of xs ++ ended_lines_of ys
unfolding is_line
ended-joined xs ys =
    ap (λ parts. filter is_line (but_last parts)) (pieces-append xs ys)
    ∙ ap (filter is_line) (but_last-append (slice_split (λ c. c == 10) xs) (slice_split (λ c. c == 10) ys) (pieces_some ys))
    ∙ filter-append is_line (slice_split (λ c. c == 10) xs) (but_last (slice_split (λ c. c == 10) ys))
