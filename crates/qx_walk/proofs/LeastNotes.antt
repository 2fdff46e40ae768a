-- The least number that passes a test, once one more may pass it.
use Rattle.std.proofs.Common.{◌≡◌, ◌≢◌, ℕ, zero, suc, ◌+◌, ◌<◌, ◌≤◌, inl, inr, refl, sym, ap, subst, arith}
use Rattle.std.specs.Prelude.{Bool, true, false, ◌||◌, Option, Some, None, if◌then◌else◌}
use Rattle.std.specs.List.{find, range_with_len}
use Rattle.std.proofs.lemmas.Bool.{cases_eq}
use Rattle.qx_geom.specs.Lists.{first_below}
use Rattle.qx_walk.specs.Trees.{note_if, sooner}

-- what is found lies in the range
found_from : (test : ℕ → Bool) (a len k : ℕ) → find test (range_with_len a len) ≡ Some k → a ≤ k
found_from test a zero k e = absurd (cc)
found_from test a (suc len) k e = go (test a) e (found_from test (a + 1) len k)
  where
    go : (b : Bool) → (if b then Some a else find test (range_with_len (a + 1) len)) ≡ Some k → (find test (range_with_len (a + 1) len) ≡ Some k → a + 1 ≤ k) → a ≤ k
    go true h more = let is : a ≡ k = cc in omega (arith, is)
    go false h more = omega (arith, more h)

-- tests that agree on the range find the same
found_alike : (f g : ℕ → Bool) (a len : ℕ) → ((k : ℕ) → a ≤ k → g k ≡ f k) → find g (range_with_len a len) ≡ find f (range_with_len a len)
found_alike f g a zero same = refl
found_alike f g a (suc len) same = go (g a) (f a) (same a (omega arith)) (found_alike f g (a + 1) len (λ k h. same k (omega (arith, h))))
  where
    go : (x y : Bool) → x ≡ y → find g (range_with_len (a + 1) len) ≡ find f (range_with_len (a + 1) len) → (if x then Some a else find g (range_with_len (a + 1) len)) ≡ (if y then Some a else find f (range_with_len (a + 1) len))
    go true true e h = refl
    go false false e h = h
    go true false e h = absurd (cc)
    go false true e h = absurd (cc)

-- a number below all that may be found
sooner_first : (o : Option ℕ) (n : ℕ) → ((k : ℕ) → o ≡ Some k → n ≤ k) → sooner o n ≡ Some n
sooner_first None n low = refl
sooner_first (Some k) n low = ap (λ z. Some z) (omega (arith, low k refl))

-- with one more number that may pass
first_more_from : (f g : ℕ → Bool) (p : Bool) (n a len : ℕ) → a ≤ n → n < a + len → ((k : ℕ) → k ≢ n → g k ≡ f k) → g n ≡ (f n || p) → find g (range_with_len a len) ≡ note_if p n (find f (range_with_len a len))
first_more_from f g p n a zero low high same here = absurd (omega (arith, low, high))
first_more_from f g p n a (suc len) low high same here = elim (cases_eq a n) [
  | inl is ↦ at_n is
  | inr isnt ↦ before isnt (first_more_from f g p n (a + 1) len (omega (arith, low, isnt)) (omega (arith, high)) same here)
]
  where
    rest_f : Option ℕ
    rest_f = find f (range_with_len (a + 1) len)

    rest_g : Option ℕ
    rest_g = find g (range_with_len (a + 1) len)

    later : (k : ℕ) → a + 1 ≤ k → a ≡ n → k ≢ n
    later k h is same = omega (arith, h, is, same)

    at_n : a ≡ n → find g (range_with_len a (suc len)) ≡ note_if p n (find f (range_with_len a (suc len)))
    at_n is = subst (λ z. find g (range_with_len a (suc len)) ≡ note_if p z (find f (range_with_len a (suc len)))) is
        (go (f a) p (g a) (subst (λ z. g z ≡ (f z || p)) (sym is) here) (found_alike f g (a + 1) len (λ k h. same k (later k h is))))
      where
        go : (x q y : Bool) → y ≡ (x || q) → rest_g ≡ rest_f → (if y then Some a else rest_g) ≡ note_if q a (if x then Some a else rest_f)
        go true true true e h = ap (λ z. Some z) (omega arith)
        go true false true e h = refl
        go false true true e h = sym (sooner_first rest_f a (λ k found. omega (arith, found_from f (a + 1) len k found)))
        go false false false e h = h
        go true true false e h = absurd (cc)
        go true false false e h = absurd (cc)
        go false true false e h = absurd (cc)
        go false false true e h = absurd (cc)

    before : a ≢ n → rest_g ≡ note_if p n rest_f → find g (range_with_len a (suc len)) ≡ note_if p n (find f (range_with_len a (suc len)))
    before isnt rest = go p (f a) (g a) (same a isnt) rest
      where
        go : (q x y : Bool) → y ≡ x → rest_g ≡ note_if q n rest_f → (if y then Some a else rest_g) ≡ note_if q n (if x then Some a else rest_f)
        go true true true e h = ap (λ z. Some z) (omega (arith, low))
        go false true true e h = refl
        go true false false e h = h
        go false false false e h = h
        go q true false e h = absurd (cc)
        go q false true e h = absurd (cc)

pub first_more : (f g : ℕ → Bool) (p : Bool) (n bound : ℕ) → n < bound → ((k : ℕ) → k ≢ n → g k ≡ f k) → g n ≡ (f n || p) → first_below g bound ≡ note_if p n (first_below f bound)
first_more f g p n bound below same here = first_more_from f g p n 0 bound (omega arith) (omega (arith, below)) same here
