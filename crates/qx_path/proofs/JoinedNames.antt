-- The names of bytes that a slash joins.
use Rattle.std.proofs.Common.{◌≡◌, ℕ, zero, suc, ◌+◌, ◌-◌, ◌<◌, ◌≤◌, Bool, true, false, not, cond, List, [], ◌∷◌, ◌++◌, length, take, filter, All, refl, sym, ◌∙◌, ap, arith, append-nil}
use Rattle.std.specs.Prelude.{slice_index}
use Rattle.std.specs.List.{onto_first, slice_split}
use Rattle.std.proofs.lemmas.List.{append_assoc, get_or-append-add, length-append}
use Rattle.std.proofs.lemmas.Bool.{ne_eqb}
use Rattle.std.proofs.lemmas.List.Elements.{All-cons, All-nil, filter-append}
use Rattle.std.proofs.lemmas.List.Splits.{slice_split_none}
use Rattle.std.proofs.Math.Seq.{take-append_seam}
use Rattle.qx_path.specs.Names.{EndsNoSlash, is_empty, is_slash, names_in}
use Rattle.qx_path.proofs.FirstNames.{pieces-first}

-- a byte goes to the first of pieces that aren't none
onto_first-append : (byte : ℕ) (piece : List ℕ) (pieces xs ys : List (List ℕ)) → xs ≡ piece ∷ pieces → onto_first byte (xs ++ ys) ≡ onto_first byte xs ++ ys
onto_first-append byte piece pieces xs ys is = rw is refl

-- the pieces of both, cut at the slash
pieces-joined : (a b : List ℕ) → slice_split is_slash (a ++ 47 ∷ b) ≡ slice_split is_slash a ++ slice_split is_slash b
pieces-joined [] b = refl
pieces-joined (byte ∷ a) b =
    elim (is_slash byte) as (λ t. cond t ([] ∷ slice_split is_slash (a ++ 47 ∷ b)) (onto_first byte (slice_split is_slash (a ++ 47 ∷ b))) ≡ cond t ([] ∷ slice_split is_slash a) (onto_first byte (slice_split is_slash a)) ++ slice_split is_slash b) [
      | true ↦ ap (λ (xs : List (List ℕ)). [] ∷ xs) (pieces-joined a b)
      | false ↦ ap (onto_first byte) (pieces-joined a b) ∙ onto_first-append byte _ _ (slice_split is_slash a) (slice_split is_slash b) (pieces-first a)
    ]

-- and the names
pub names-joined : (a b : List ℕ) → names_in (a ++ 47 ∷ b) ≡ names_in a ++ names_in b
names-joined a b =
    ap (filter (λ piece. not (is_empty piece))) (pieces-joined a b)
    ∙ filter-append (λ piece. not (is_empty piece)) (slice_split is_slash a) (slice_split is_slash b)

-- a slash at the end adds none
pub names-slash_behind : (a : List ℕ) → names_in (a ++ 47 ∷ []) ≡ names_in a
names-slash_behind a = names-joined a [] ∙ append-nil (names_in a)

-- bytes without a slash are one name, or none
names-plain : (piece : List ℕ) → All (λ b. is_slash b ≡ false) piece → names_in piece ≡ cond (is_empty piece) [] (piece ∷ [])
names-plain piece plain = ap (filter (λ p. not (is_empty p))) (slice_split_none is_slash piece plain) ∙ by (is_empty piece)
  where
    by : (t : Bool) → cond (not t) (piece ∷ []) [] ≡ cond t [] (piece ∷ [])
    by true = refl
    by false = refl

-- before the last slash are all names but the last, where a name stands behind it
pub names-before : (front piece : List ℕ) → All (λ b. is_slash b ≡ false) piece → is_empty piece ≡ false → take (length (names_in (front ++ 47 ∷ piece)) - 1) (names_in (front ++ 47 ∷ piece)) ≡ names_in front
names-before front piece plain some =
    ap (λ (l : List (List ℕ)). take (length l - 1) l) (names-joined front piece ∙ ap (λ (l : List (List ℕ)). names_in front ++ l) (names-plain piece plain ∙ ap (λ t. cond t [] (piece ∷ [])) some))
    ∙ but_last (names_in front)
  where
    but_last : (xs : List (List ℕ)) → take (length (xs ++ piece ∷ []) - 1) (xs ++ piece ∷ []) ≡ xs
    but_last xs = ap (λ n. take n (xs ++ piece ∷ [])) (let e : length (xs ++ piece ∷ []) - 1 ≡ length xs = omega (arith, length-append xs (piece ∷ [])) in e) ∙ take-append_seam xs (piece ∷ [])

-- and none where there is no slash
pub names-before_none : (piece : List ℕ) → All (λ b. is_slash b ≡ false) piece → take (length (names_in piece) - 1) (names_in piece) ≡ []
names-before_none piece plain = ap (λ (l : List (List ℕ)). take (length l - 1) l) (names-plain piece plain) ∙ by (is_empty piece)
  where
    by : (t : Bool) → take (length (cond t [] (piece ∷ [])) - 1) (cond t [] (piece ∷ [])) ≡ []
    by true = refl
    by false = refl

-- behind these bytes come none but those of the last name
pub record Ends (front bytes : List ℕ) : Type 0 where
  pub piece : List ℕ
  pub is : bytes ≡ front ++ piece
  pub plain : All (λ b. is_slash b ≡ false) piece

-- all are before the end
pub ends-here : (bytes : List ℕ) → Ends bytes bytes
ends-here bytes = record { piece = []; is = sym (append-nil bytes); plain = All-nil (λ b. is_slash b ≡ false) }

-- bytes up to their last one, and that
cut-at : (bytes : List ℕ) (n : ℕ) → length bytes ≡ suc n → bytes ≡ take n bytes ++ slice_index bytes n ∷ []
cut-at [] n is = absurd (omega (arith, is))
cut-at (byte ∷ []) zero is = refl
cut-at (byte ∷ next ∷ bytes) zero is = absurd (omega (arith, is))
cut-at (byte ∷ bytes) (suc n) is = ap (λ (l : List ℕ). byte ∷ l) (cut-at bytes n (omega (arith, is)))

pub last-cut : (bytes : List ℕ) → 1 ≤ length bytes → bytes ≡ take (length bytes - 1) bytes ++ slice_index bytes (length bytes - 1) ∷ []
last-cut bytes some = cut-at bytes (length bytes - 1) (omega (arith, some))

-- a byte that is no slash belongs to the last name
pub ends-earlier : (front bytes : List ℕ) → 1 ≤ length front → (slice_index front (length front - 1) ≡ 47 → ⊥) → Ends front bytes → Ends (take (length front - 1) front) bytes
ends-earlier front bytes some other e = record {
  piece = slice_index front (length front - 1) ∷ e.piece;
  is = e.is ∙ ap (λ (l : List ℕ). l ++ e.piece) (last-cut front some) ∙ append_assoc (take (length front - 1) front) (slice_index front (length front - 1) ∷ []) e.piece;
  plain = All-cons (λ b. is_slash b ≡ false) (slice_index front (length front - 1)) e.piece (ne_eqb (slice_index front (length front - 1)) 47 other) e.plain;
}

-- at the last slash all names but the last are found
pub ends-at_slash : (front bytes : List ℕ) → 1 ≤ length front → slice_index front (length front - 1) ≡ 47 → EndsNoSlash bytes → Ends front bytes → names_in (take (length front - 1) front) ≡ take (length (names_in bytes) - 1) (names_in bytes)
ends-at_slash front bytes some slash last e =
    let before : List ℕ = take (length front - 1) front in
    let is : bytes ≡ before ++ 47 ∷ e.piece = e.is ∙ ap (λ (l : List ℕ). l ++ e.piece) (last-cut front some ∙ ap (λ n. before ++ n ∷ []) slash) ∙ append_assoc before (47 ∷ []) e.piece in
    sym (ap (λ (l : List ℕ). take (length (names_in l) - 1) (names_in l)) is ∙ names-before before e.piece e.plain (filled e.piece is))
  where
    filled : (piece : List ℕ) → bytes ≡ take (length front - 1) front ++ 47 ∷ piece → is_empty piece ≡ false
    filled [] is = absurd (last (take (length front - 1) front) is)
    filled (byte ∷ piece) is = ne_eqb (length (byte ∷ piece)) 0 (λ h. absurd (omega (arith, h)))

-- and none where there is no slash
pub ends-nowhere : (front bytes : List ℕ) → length front < 1 → Ends front bytes → names_in front ≡ take (length (names_in bytes) - 1) (names_in bytes)
ends-nowhere [] bytes none e = sym (ap (λ (l : List ℕ). take (length (names_in l) - 1) (names_in l)) e.is ∙ names-before_none e.piece e.plain)
ends-nowhere (byte ∷ front) bytes none e = absurd (omega (arith, none))

-- a slash at the end goes
pub names-shorter : (front : List ℕ) → 1 ≤ length front → slice_index front (length front - 1) ≡ 47 → names_in (take (length front - 1) front) ≡ names_in front
names-shorter front some slash = sym (ap (λ (l : List ℕ). names_in l) (last-cut front some ∙ ap (λ n. take (length front - 1) front ++ n ∷ []) slash) ∙ names-slash_behind (take (length front - 1) front))

-- bytes with another byte at their end, or none, end in no slash
pub no_slash-other : (front : List ℕ) → (slice_index front (length front - 1) ≡ 47 → ⊥) → EndsNoSlash front
no_slash-other front other before is = other (ap (λ (l : List ℕ). slice_index l (length l - 1)) is ∙ ap (λ n. slice_index (before ++ 47 ∷ []) n) (let e : length (before ++ 47 ∷ []) - 1 ≡ length before + 0 = omega (arith, length-append before (47 ∷ [])) in e) ∙ get_or-append-add before (47 ∷ []) 0 0)

pub no_slash-none : (front : List ℕ) → length front < 1 → EndsNoSlash front
no_slash-none front none before is = absurd (omega (arith, none, ap (λ (l : List ℕ). length l) is, length-append before (47 ∷ [])))
