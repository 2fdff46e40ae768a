-- Parts of known lengths, one after another, and a slice that is filled with them from its front.
use Rattle.std.proofs.Common.{◌≡◌, ℕ, zero, suc, ◌+◌, ◌*◌, ◌≤◌, List, [], ◌∷◌, ◌++◌, length, take, drop, ap, sym, ◌∙◌, arith, append-nil, append_assoc, length-append}
use Rattle.std.specs.List.{flat_map, range_with_len, replace_range}
use Rattle.std.proofs.lemmas.Grind.{flat_map-append}
use Rattle.std.proofs.lemmas.List.{length-take-le, take_at}

-- a range with one more number
pub range_more : (n a : ℕ) → range_with_len a (suc n) ≡ range_with_len a n ++ (a + n) ∷ []
range_more zero a = ap (λ (x : ℕ). x ∷ []) (let e : a ≡ a + 0 = omega arith in e)
range_more (suc n) a = ap (λ (xs : List ℕ). a ∷ xs) (range_more n (a + 1) ∙ ap (λ (x : ℕ). range_with_len (a + 1) n ++ x ∷ []) (let e : a + 1 + n ≡ a + suc n = omega arith in e))

-- and its parts
pub parts_more : (f : ℕ → List ℕ) (a n : ℕ) → flat_map f (range_with_len a (n + 1)) ≡ flat_map f (range_with_len a n) ++ f (a + n)
parts_more f a n =
    ap (λ (k : ℕ). flat_map f (range_with_len a k)) (let e : n + 1 ≡ suc n = omega arith in e)
    ∙ ap (λ (xs : List ℕ). flat_map f xs) (range_more n a)
    ∙ flat_map-append f (range_with_len a n) ((a + n) ∷ [])
    ∙ ap (λ (xs : List ℕ). flat_map f (range_with_len a n) ++ xs) (append-nil (f (a + n)))

-- parts of one length
pub length-parts : (f : ℕ → List ℕ) (size : ℕ) → ((k : ℕ) → length (f k) ≡ size) → (n a : ℕ) → length (flat_map f (range_with_len a n)) ≡ n * size
length-parts f size each zero a = let none : 0 ≡ 0 * size = omega arith in none
length-parts f size each (suc n) a = omega (arith, length-append (f a) (flat_map f (range_with_len (a + 1) n)), each a, length-parts f size each n (a + 1))

-- bytes that are put at a place stand behind those before it
pub take_put : (bytes others : List ℕ) (at n : ℕ) → at ≤ length bytes → length others ≡ n → take (at + n) (replace_range bytes at (at + n) others) ≡ take at bytes ++ others
take_put bytes others at n room long =
    let front = take at bytes ++ others in
    let count : length front ≡ at + n = omega (arith, length-append (take at bytes) others, length-take-le at bytes room) in
    take_at front (drop (at + n) bytes) (at + n) count

-- so does a part that was lent and came back
pub take_part : (bytes part rest : List ℕ) (at n : ℕ) → at ≤ length bytes → length part ≡ n → take (at + n) (take at bytes ++ (part ++ rest)) ≡ take at bytes ++ part
take_part bytes part rest at n room long =
    let front = take at bytes ++ part in
    let count : length front ≡ at + n = omega (arith, length-append (take at bytes) part, length-take-le at bytes room) in
    ap (λ (l : List ℕ). take (at + n) l) (sym (append_assoc (take at bytes) part rest)) ∙ take_at front rest (at + n) count
