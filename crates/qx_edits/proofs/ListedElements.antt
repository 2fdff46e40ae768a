-- Lists that are what a function gives, by their elements.
use Rattle.std.proofs.Common.{◌≡◌, ℕ, zero, suc, ◌<◌, List, [], ◌∷◌, length, refl, sym, ◌∙◌, ap, arith}
use Rattle.std.specs.Prelude.{map, Some, slice_get}
use Rattle.std.proofs.lemmas.List.FromFn.{get_or-map-range_with_len, length-map-range_with_len}
use Rattle.std.proofs.lemmas.Option.{slice_get-get_or}
use Rattle.qx_geom.specs.Lists.{each_below}

-- lists with the same elements are the same
same_elements : {A : Type 0} (xs ys : List A) → length xs ≡ length ys → ((k : ℕ) → k < length xs → slice_get xs k ≡ slice_get ys k) → xs ≡ ys
same_elements [] [] long same = refl
same_elements [] (y ∷ ys) long same = absurd (omega (arith, long))
same_elements (x ∷ xs) [] long same = absurd (omega (arith, long))
same_elements (x ∷ xs) (y ∷ ys) long same =
    let first : Some x ≡ Some y = same 0 (omega arith) in
    let is : x ≡ y = cc in
    (λ i. is i ∷ same_elements xs ys (omega (arith, long)) (λ k low. same (suc k) (omega (arith, low))) i)

-- an element of what a function gives
pub given_at : {A : Type 0} (n : ℕ) (f : ℕ → A) (k : ℕ) → k < n → slice_get (each_below n f) k ≡ Some (f k)
given_at n f k low =
    slice_get-get_or (each_below n f) k (f k) (let long = length-map-range_with_len f 0 n in omega (arith, low, long))
    ∙ ap (λ x. Some x) (get_or-map-range_with_len f 0 n k k (f k) low (omega arith))

-- a list of these elements is what the function gives
pub listed_by : {A : Type 0} (n : ℕ) (f : ℕ → A) (xs : List A) → length xs ≡ n → ((k : ℕ) → k < n → slice_get xs k ≡ Some (f k)) → xs ≡ each_below n f
listed_by n f xs long each =
    same_elements xs (each_below n f) (long ∙ sym (length-map-range_with_len f 0 n)) (λ k low.
    let below : k < n = omega (arith, low, long) in each k below ∙ sym (given_at n f k below))

-- each of a list's elements as one that is there
pub each_there : {A : Type 0} (xs : List A) (k : ℕ) (x : A) → slice_get xs k ≡ Some x → slice_get (map (λ a. Some a) xs) k ≡ Some (Some x)
each_there [] zero x h = absurd (cc)
each_there [] (suc k) x h = absurd (cc)
each_there (y ∷ ys) zero x h = ap (λ o. Some o) h
each_there (y ∷ ys) (suc k) x h = each_there ys k x h

pub all_there : {A : Type 0} (xs : List A) → length (map (λ a. Some a) xs) ≡ length xs
all_there [] = refl
all_there (x ∷ xs) = ap suc (all_there xs)
