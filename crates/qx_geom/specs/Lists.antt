-- Words on lists and on the numbers below a bound.
use Rattle.std.specs.Prelude.{ℕ, zero, suc, Bool, true, not, ◌&&◌, List, [], ◌∷◌, ◌++◌, map, Option, nat_eq, Contains, ◌<◌}
use Rattle.std.specs.List.{find, list_any, range_with_len}

-- f at each number below n, in order
abbrev pub each_below : {A : Type 0} → ℕ → (ℕ → A) → List A
each_below n f = map f (range_with_len 0 n)

-- the parts that f gives for each number below n, end to end
abbrev pub parts_below : {A : Type 0} → ℕ → (ℕ → List A) → List A
parts_below zero f = []
parts_below (suc n) f = parts_below n f ++ f n

-- x is in the list
abbrev pub is_in : List ℕ → ℕ → Bool
is_in xs x = list_any (λ y. nat_eq y x) xs

-- no number stands at two places of the list
abbrev pub all_differ : List ℕ → Bool
all_differ [] = true
all_differ (x ∷ xs) = not (is_in xs x) && all_differ xs

-- the least number below n that passes the test
abbrev pub first_below : (ℕ → Bool) → ℕ → Option ℕ
first_below test n = find test (range_with_len 0 n)

-- no element stands at two places of the list
abbrev pub Distinct : {A : Type 0} → List A → Type 0
Distinct [] = Unit {0}
Distinct (x ∷ xs) = (Contains xs x → ⊥) × Distinct xs

-- each element is above all before it
abbrev pub IsAscending : List ℕ → Type 0
IsAscending [] = Unit {0}
IsAscending (x ∷ xs) = ((y : ℕ) → Contains xs y → x < y) × IsAscending xs
