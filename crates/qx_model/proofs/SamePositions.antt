-- When two positions are one, and where one stands in a list.
use Rattle.std.proofs.Common.{◌≡◌, ℕ, ◌<◌, inl, inr, List, length, refl, sym, ap, ◌∙◌, subst, arith, get_or}
use Rattle.std.specs.Prelude.{Bool, true, false, ◌&&◌, Some, None, Contains, ◌==◌, cond, nat_lt, slice_get}
use Rattle.std.specs.List.{position_or_len}
use Rattle.std.proofs.lemmas.Bool.{cases_lt, eqb-true, eq-eqb, lt-ltb, ltb-true}
use Rattle.std.proofs.lemmas.List.Sums.{fails_before_first, passes_at_first}
use Rattle.std.proofs.lemmas.Option.{slice_get-get_or}
use Rattle.qx_geom.proofs.Truths.{and_left, and_right, true_or_false}
use Rattle.qx_model.specs.Owners.{OfFurther, OfInode, OfInodes, OfLongfile, Owner, is_same_owner}
use Rattle.qx_model.specs.TreePositions.{Position, is_same_position}
use Rattle.qx_model.specs.TreeTouch.{rank_in}

-- ---- owners

-- owners that the test calls one are one
pub same_owner-true : (o p : Owner) → is_same_owner o p ≡ true → o ≡ p
same_owner-true OfInodes OfInodes h = refl
same_owner-true OfLongfile OfLongfile h = refl
same_owner-true (OfFurther k) (OfFurther j) h = ap (λ n. OfFurther n) (eqb-true k j h)
same_owner-true (OfInode n) (OfInode m) h = ap (λ n. OfInode n) (eqb-true n m h)
same_owner-true OfInodes OfLongfile h = absurd (cc)
same_owner-true OfInodes (OfFurther j) h = absurd (cc)
same_owner-true OfInodes (OfInode m) h = absurd (cc)
same_owner-true OfLongfile OfInodes h = absurd (cc)
same_owner-true OfLongfile (OfFurther j) h = absurd (cc)
same_owner-true OfLongfile (OfInode m) h = absurd (cc)
same_owner-true (OfFurther k) OfInodes h = absurd (cc)
same_owner-true (OfFurther k) OfLongfile h = absurd (cc)
same_owner-true (OfFurther k) (OfInode m) h = absurd (cc)
same_owner-true (OfInode n) OfInodes h = absurd (cc)
same_owner-true (OfInode n) OfLongfile h = absurd (cc)
same_owner-true (OfInode n) (OfFurther j) h = absurd (cc)

-- an owner is itself
pub same_owner-itself : (o : Owner) → is_same_owner o o ≡ true
same_owner-itself OfInodes = refl
same_owner-itself OfLongfile = refl
same_owner-itself (OfFurther k) = eq-eqb k k refl
same_owner-itself (OfInode n) = eq-eqb n n refl

-- ---- positions

-- positions that the test calls one are one
pub same_position-true : (p q : Position) → is_same_position p q ≡ true → p ≡ q
same_position-true p q h =
    let rest = and_right (is_same_owner p.owner q.owner) (p.level == q.level && p.index == q.index) h in
    let o = same_owner-true p.owner q.owner (and_left (is_same_owner p.owner q.owner) (p.level == q.level && p.index == q.index) h) in
    let l = eqb-true p.level q.level (and_left (p.level == q.level) (p.index == q.index) rest) in
    let n = eqb-true p.index q.index (and_right (p.level == q.level) (p.index == q.index) rest) in
    λ i. record { owner = o i; level = l i; index = n i }

-- a position is itself
pub same_position-itself : (p : Position) → is_same_position p p ≡ true
same_position-itself p = λ i. same_owner-itself p.owner i && (eq-eqb p.level p.level refl i && eq-eqb p.index p.index refl i)

-- ---- ranks

-- what the test finds first, or nothing
found_at : (xs : List Position) (p : Position) (k : ℕ) → rank_in xs p ≡ Some k → (position_or_len (is_same_position p) xs ≡ k) × (k < length xs)
found_at xs p k h = go (nat_lt (position_or_len (is_same_position p) xs) (length xs)) refl h
  where
    go : (b : Bool) → nat_lt (position_or_len (is_same_position p) xs) (length xs) ≡ b → cond b (Some (position_or_len (is_same_position p) xs)) None ≡ Some k
        → (position_or_len (is_same_position p) xs ≡ k) × (k < length xs)
    go true e h =
        let is : position_or_len (is_same_position p) xs ≡ k = cc in
        (is, subst (λ n. n < length xs) is (ltb-true (position_or_len (is_same_position p) xs) (length xs) e))
    go false e h = absurd (cc)

-- a rank is below the length
pub rank_in-lt : (xs : List Position) (p : Position) (k : ℕ) → rank_in xs p ≡ Some k → k < length xs
rank_in-lt xs p k h = (found_at xs p k h).1

-- the rank is where it stands
pub rank_in-get : (xs : List Position) (p : Position) (k : ℕ) → rank_in xs p ≡ Some k → slice_get xs k ≡ Some p
rank_in-get xs p k h =
    let f = found_at xs p k h in
    let n = position_or_len (is_same_position p) xs in
    let below : n < length xs = subst (λ m. m < length xs) (sym f.0) f.1 in
    let one : p ≡ get_or xs n p = same_position-true p (get_or xs n p) (passes_at_first (is_same_position p) xs p below) in
    ap (slice_get xs) (sym f.0) ∙ slice_get-get_or xs n p below ∙ ap (λ q. Some q) (sym one)

-- one rank, one position
pub rank_in-injective : (xs : List Position) (p q : Position) (k : ℕ) → rank_in xs p ≡ Some k → rank_in xs q ≡ Some k → p ≡ q
rank_in-injective xs p q k h i = let same : Some p ≡ Some q = sym (rank_in-get xs p k h) ∙ rank_in-get xs q k i in cc

-- what stands in a list has a rank
pub rank_in-member : (xs : List Position) (p : Position) → Contains xs p → rank_in xs p ≡ None → ⊥
rank_in-member xs p (k, below, is) h = elim (cases_lt k (position_or_len (is_same_position p) xs)) [
  | inl before ↦
      let fails : is_same_position p (get_or xs k p) ≡ false = fails_before_first (is_same_position p) xs k p before in
      let passes : is_same_position p (get_or xs k p) ≡ true = ap (is_same_position p) is ∙ same_position-itself p in
      true_or_false (is_same_position p (get_or xs k p)) passes fails
  | inr behind ↦
      let found : nat_lt (position_or_len (is_same_position p) xs) (length xs) ≡ true = lt-ltb (position_or_len (is_same_position p) xs) (length xs) (omega arith) in
      let some : rank_in xs p ≡ Some (position_or_len (is_same_position p) xs) = ap (λ b. cond b (Some (position_or_len (is_same_position p) xs)) None) found in
      absurd (cc)
]
