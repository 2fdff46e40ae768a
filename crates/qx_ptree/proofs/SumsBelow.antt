-- Sums over the numbers below a bound, and whether one of them passes a test.
use Rattle.std.proofs.Common.{◌≡◌, ℕ, zero, suc, ◌+◌, ◌*◌, ◌/◌, ◌%◌, ◌<◌, inl, inr, List, [], ◌∷◌, refl, sym, ◌∙◌, ap, subst, add-one, arith}
use Rattle.std.specs.Prelude.{Bool, true, false, ◌||◌, ◌==◌, if◌then◌else◌, count_by, length, sum_by}
use Rattle.std.specs.List.{list_any, range_with_len}
use Rattle.std.proofs.lemmas.Bool.{cases_eq, cases_lt, eq-eqb, ne_eqb}
use Rattle.std.proofs.lemmas.List.Sums.{sum_by-cons}
use Rattle.std.proofs.lemmas.Nat.{div-add-mod', div-mul-add, mod_below}
use Rattle.qx_geom.proofs.Members.{in_head, in_tail}
use Rattle.qx_geom.specs.Lists.{is_in}
use Rattle.qx_geom.proofs.Truths.{or_left, or_right}

-- the sum of what f gives for each number below n
unfoldable pub sum_up_to : ℕ → (ℕ → ℕ) → ℕ
sum_up_to zero f = 0
sum_up_to (suc n) f = sum_up_to n f + f n

-- a number below n passes the test
unfoldable pub any_up_to : ℕ → (ℕ → Bool) → Bool
any_up_to zero test = false
any_up_to (suc n) test = any_up_to n test || test n

-- 1 where it is so, else 0
abbrev pub one_if : Bool → ℕ
one_if b = if b then 1 else 0

-- ---- sums

-- no number at first
pub sum_up_to-begins : (f : ℕ → ℕ) → sum_up_to 0 f ≡ 0
unfolding sum_up_to
sum_up_to-begins f = refl

-- one number more
pub sum_up_to-more : (n : ℕ) (f : ℕ → ℕ) → sum_up_to (n + 1) f ≡ sum_up_to n f + f n
unfolding sum_up_to
sum_up_to-more n f = ap (λ k. sum_up_to k f) (add-one n)

-- functions that are alike below the bound
pub sum_up_to-alike : (n : ℕ) (f g : ℕ → ℕ) → ((k : ℕ) → k < n → f k ≡ g k) → sum_up_to n f ≡ sum_up_to n g
unfolding sum_up_to
sum_up_to-alike zero f g same = refl
sum_up_to-alike (suc n) f g same = λ i. sum_up_to-alike n f g (λ k h. same k (omega arith)) i + same n (omega arith) i

-- nothing but 0
pub sum_up_to-none : (n : ℕ) → sum_up_to n (λ k. 0) ≡ 0
unfolding sum_up_to
sum_up_to-none zero = refl
sum_up_to-none (suc n) = omega (arith, sum_up_to-none n)

-- two sums at once
pub sum_up_to-plus : (n : ℕ) (f g : ℕ → ℕ) → sum_up_to n (λ k. f k + g k) ≡ sum_up_to n f + sum_up_to n g
unfolding sum_up_to
sum_up_to-plus zero f g = refl
sum_up_to-plus (suc n) f g = omega (arith, sum_up_to-plus n f g)

-- a sum of sums in the other order
pub sum_up_to-turned : (m n : ℕ) (f : ℕ → ℕ → ℕ) → sum_up_to m (λ i. sum_up_to n (λ j. f i j)) ≡ sum_up_to n (λ j. sum_up_to m (λ i. f i j))
unfolding sum_up_to
sum_up_to-turned zero n f = sym (sum_up_to-none n)
sum_up_to-turned (suc m) n f = ap (λ a. a + sum_up_to n (λ j. f m j)) (sum_up_to-turned m n f) ∙ sym (sum_up_to-plus n (λ j. sum_up_to m (λ i. f i j)) (λ j. f m j))

-- the first number by itself
sum_up_to-first : (n : ℕ) (f : ℕ → ℕ) → sum_up_to (suc n) f ≡ f 0 + sum_up_to n (λ k. f (k + 1))
unfolding sum_up_to
sum_up_to-first zero f = omega arith
sum_up_to-first (suc n) f =
    let next : f (suc n) ≡ f (n + 1) = ap f (sym (add-one n)) in
    omega (arith, sum_up_to-first n f)

-- the sum over a list of neighbouring numbers
pub sum_from : (f : ℕ → ℕ) (a n : ℕ) → sum_by f (range_with_len a n) ≡ sum_up_to n (λ k. f (a + k))
unfolding sum_up_to
sum_from f a zero = refl
sum_from f a (suc n) =
    sum_by-cons f a (range_with_len (a + 1) n)
    ∙ ap (λ x. f a + x) (sum_from f (a + 1) n ∙ sum_up_to-alike n (λ k. f (a + 1 + k)) (λ k. f (a + (k + 1))) (λ k h. ap f (let e : a + 1 + k ≡ a + (k + 1) = omega arith in e)))
    ∙ ap (λ x. x + sum_up_to n (λ k. f (a + (k + 1)))) (ap f (let e : a ≡ a + 0 = omega arith in e))
    ∙ sym (sum_up_to-first n (λ k. f (a + k)))

-- and over the list of the numbers below n
pub sum_by-below : (f : ℕ → ℕ) (n : ℕ) → sum_by f (range_with_len 0 n) ≡ sum_up_to n f
sum_by-below f n = sum_from f 0 n ∙ sum_up_to-alike n (λ k. f (0 + k)) f (λ k h. ap f (let e : 0 + k ≡ k = omega arith in e))

-- ---- tests

-- one number more
pub any_up_to-more : (n : ℕ) (test : ℕ → Bool) → any_up_to (n + 1) test ≡ (any_up_to n test || test n)
unfolding any_up_to
any_up_to-more n test = ap (λ k. any_up_to k test) (add-one n)

-- tests that are alike below the bound
pub any_up_to-alike : (n : ℕ) (f g : ℕ → Bool) → ((k : ℕ) → k < n → f k ≡ g k) → any_up_to n f ≡ any_up_to n g
unfolding any_up_to
any_up_to-alike zero f g same = refl
any_up_to-alike (suc n) f g same = λ i. any_up_to-alike n f g (λ k h. same k (omega arith)) i || same n (omega arith) i

-- no number passes
pub any_up_to-none : (n : ℕ) → any_up_to n (λ k. false) ≡ false
unfolding any_up_to
any_up_to-none zero = refl
any_up_to-none (suc n) = ap (λ b. b || false) (any_up_to-none n)

-- where none below the bound passes, this one doesn't
pub any_up_to-at : (n : ℕ) (test : ℕ → Bool) (k : ℕ) → any_up_to n test ≡ false → k < n → test k ≡ false
unfolding any_up_to
any_up_to-at zero test k none low = absurd (omega arith)
any_up_to-at (suc n) test k none low = elim (cases_lt k n) [
  | inl before ↦ any_up_to-at n test k (or_left (any_up_to n test) (test n) none) before
  | inr up ↦ subst (λ j. test j ≡ false) (let e : n ≡ k = omega arith in e) (or_right (any_up_to n test) (test n) none)
]

-- one of two tests
pub any_up_to-or : (n : ℕ) (f g : ℕ → Bool) → any_up_to n (λ k. f k || g k) ≡ (any_up_to n f || any_up_to n g)
unfolding any_up_to
any_up_to-or zero f g = refl
any_up_to-or (suc n) f g = ap (λ b. b || (f n || g n)) (any_up_to-or n f g) ∙ turned (any_up_to n f) (any_up_to n g) (f n) (g n)
  where
    turned : (a b c d : Bool) → ((a || b) || (c || d)) ≡ ((a || c) || (b || d))
    turned true b c d = refl
    turned false true true d = refl
    turned false true false d = refl
    turned false false c d = refl

-- ---- one number among neighbours

-- none of the neighbours is the number
none_is : (n base y : ℕ) → ((w : ℕ) → w < n → y ≡ base + w → ⊥) → (sum_up_to n (λ w. one_if (y == base + w)) ≡ 0) × (any_up_to n (λ w. y == base + w) ≡ false)
none_is n base y apart = (
  sum_up_to-alike n (λ w. one_if (y == base + w)) (λ w. 0) (λ w h. ap one_if (ne_eqb y (base + w) (apart w h))) ∙ sum_up_to-none n,
  any_up_to-alike n (λ w. y == base + w) (λ w. false) (λ w h. ne_eqb y (base + w) (apart w h)) ∙ any_up_to-none n,
)

-- one of them is
one_is : (n base y w : ℕ) → y ≡ base + w → w < n → (sum_up_to n (λ w. one_if (y == base + w)) ≡ 1) × (any_up_to n (λ w. y == base + w) ≡ true)
unfolding sum_up_to any_up_to
one_is zero base y w is low = absurd (omega arith)
one_is (suc n) base y w is low = elim (cases_lt w n) [
  | inl before ↦
      let more = one_is n base y w is before in
      let apart : (y == base + n) ≡ false = ne_eqb y (base + n) (λ e. omega arith) in
      (ap (λ a. a + one_if (y == base + n)) more.0 ∙ ap (λ b. 1 + one_if b) apart, ap (λ a. a || (y == base + n)) more.1)
  | inr last ↦
      let before = none_is n base y (λ v h e. omega arith) in
      let here : (y == base + n) ≡ true = eq-eqb y (base + n) (omega arith) in
      (ap (λ a. a + one_if (y == base + n)) before.0 ∙ ap (λ b. 0 + one_if b) here, ap (λ a. a || (y == base + n)) before.1 ∙ here)
]

-- the numbers of a row are those with its quotient
pub row_is : (n j y : ℕ) → 0 < n → (sum_up_to n (λ w. one_if (y == j * n + w)) ≡ one_if (y / n == j)) × (any_up_to n (λ w. y == j * n + w) ≡ (y / n == j))
row_is n j y some = elim (cases_eq (y / n) j) [
  | inl is ↦
      let here = one_is n (j * n) y (y % n) (sym (div-add-mod' y n) ∙ ap (λ q. q * n + y % n) is) (mod_below y n some) in
      let e : (y / n == j) ≡ true = eq-eqb (y / n) j is in
      (here.0 ∙ ap one_if (sym e), here.1 ∙ sym e)
  | inr apart ↦
      let none = none_is n (j * n) y (λ w low is. apart (ap (λ x. x / n) is ∙ div-mul-add j n w low)) in
      let e : (y / n == j) ≡ false = ne_eqb (y / n) j apart in
      (none.0 ∙ ap one_if (sym e), none.1 ∙ sym e)
]

-- ---- lists that are parted by what a function gives

-- how many are of one of the parts
pub count_parts : (f g : ℕ → ℕ) (n j : ℕ) (xs : List ℕ) → 0 < n → ((x : ℕ) → f x / n ≡ g x) → sum_up_to n (λ w. count_by (λ x. f x == j * n + w) xs) ≡ count_by (λ x. g x == j) xs
count_parts f g n j [] some same = sum_up_to-none n
count_parts f g n j (x ∷ xs) some same =
    sum_up_to-alike n (λ w. count_by (λ x. f x == j * n + w) (x ∷ xs)) (λ w. one_if (f x == j * n + w) + count_by (λ x. f x == j * n + w) xs) (λ w h. sum_by-cons (λ x. one_if (f x == j * n + w)) x xs)
    ∙ sum_up_to-plus n (λ w. one_if (f x == j * n + w)) (λ w. count_by (λ x. f x == j * n + w) xs)
    ∙ (λ i. ((row_is n j (f x) some).0 ∙ ap (λ q. one_if (q == j)) (same x)) i + count_parts f g n j xs some same i)
    ∙ sym (sum_by-cons (λ x. one_if (g x == j)) x xs)

-- whether there is one of one of the parts
pub any_parts : (f g : ℕ → ℕ) (n j : ℕ) (xs : List ℕ) → 0 < n → ((x : ℕ) → f x / n ≡ g x) → list_any (λ x. g x == j) xs ≡ any_up_to n (λ w. list_any (λ x. f x == j * n + w) xs)
any_parts f g n j [] some same = sym (any_up_to-none n)
any_parts f g n j (x ∷ xs) some same =
    (λ i. (ap (λ q. q == j) (sym (same x)) ∙ sym (row_is n j (f x) some).1) i || any_parts f g n j xs some same i)
    ∙ sym (any_up_to-or n (λ w. f x == j * n + w) (λ w. list_any (λ x. f x == j * n + w) xs))

-- all of them, where each is of one of the parts
pub count_all : (f : ℕ → ℕ) (n : ℕ) (xs : List ℕ) → ((x : ℕ) → is_in xs x ≡ true → f x < n) → sum_up_to n (λ j. count_by (λ x. f x == j) xs) ≡ length xs
count_all f n [] low = sum_up_to-none n
count_all f n (x ∷ xs) low =
    sum_up_to-alike n (λ j. count_by (λ x. f x == j) (x ∷ xs)) (λ j. one_if (f x == j) + count_by (λ x. f x == j) xs) (λ j h. sum_by-cons (λ x. one_if (f x == j)) x xs)
    ∙ sum_up_to-plus n (λ j. one_if (f x == j)) (λ j. count_by (λ x. f x == j) xs)
    ∙ (λ i. one i + count_all f n xs (λ y m. low y (in_tail x y xs m)) i)
    ∙ (let e : 1 + length xs ≡ suc (length xs) = omega arith in e)
  where
    one : sum_up_to n (λ j. one_if (f x == j)) ≡ 1
    one =
        sum_up_to-alike n (λ j. one_if (f x == j)) (λ j. one_if (f x == 0 + j)) (λ j h. ap (λ k. one_if (f x == k)) (let e : j ≡ 0 + j = omega arith in e))
        ∙ (one_is n 0 (f x) (f x) (omega arith) (low x (in_head x xs))).0
