-- Blocks that are put one piece after another: what stands there after each.
use Rattle.std.proofs.Common.{◌≡◌, ℕ, zero, suc, ◌+◌, ◌-◌, ◌*◌, ◌≤◌, List, ◌++◌, length, take, drop, refl, ap, sym, ◌∙◌, arith, append_assoc, length-append}
use Rattle.std.specs.List.{flat_map, range_with_len}
use Rattle.std.specs.Prelude.{slice_range}
use Rattle.std.proofs.lemmas.List.{drop-drop, drop_at, length-take-le, take_at}
use Rattle.qx_outside.specs.Ranges.{put_at}
use Rattle.qx_system.proofs.PartsInOrder.{length-parts, take_put}

-- what stands behind bytes that were put
drop_put : (bytes others : List ℕ) (at : ℕ) → at ≤ length bytes → drop (at + length others) (put_at bytes at others) ≡ drop (at + length others) bytes
drop_put bytes others at room =
    let front = take at bytes ++ others in
    let count : length front ≡ at + length others = omega (arith, length-append (take at bytes) others, length-take-le at bytes room) in
    drop_at front (drop (at + length others) bytes) (at + length others) count

-- bytes that are put behind others are put with them
pub put_next : (bytes first second : List ℕ) (at : ℕ) → at ≤ length bytes → put_at (put_at bytes at first) (at + length first) second ≡ put_at bytes at (first ++ second)
put_next bytes first second at room =
    let n : ℕ = length first in
    let m : ℕ = length second in
    let with_first = put_at bytes at first in
    let front : take (at + n) with_first ≡ take at bytes ++ first = take_put bytes first at n room refl in
    let behind : drop (at + n + m) with_first ≡ drop (at + length (first ++ second)) bytes =
    sym (drop-drop m (at + n) with_first) ∙ ap (λ (l : List ℕ). drop m l) (drop_put bytes first at room) ∙ drop-drop m (at + n) bytes
    ∙ ap (λ (i : ℕ). drop i bytes) (let e : at + n + m ≡ at + length (first ++ second) = omega (arith, length-append first second) in e) in
    ap (λ (l : List ℕ). l ++ second ++ drop (at + n + m) with_first) front
    ∙ ap (λ (l : List ℕ). take at bytes ++ first ++ second ++ l) behind
    ∙ ap (λ (l : List ℕ). l ++ drop (at + length (first ++ second)) bytes) (append_assoc (take at bytes) first second)

-- the parts of a range in two
pub parts_split : (f : ℕ → List ℕ) (a n m : ℕ) → flat_map f (range_with_len a (n + m)) ≡ flat_map f (range_with_len a n) ++ flat_map f (range_with_len (a + n) m)
parts_split f a zero m =
    ap (λ (k : ℕ). flat_map f (range_with_len a k)) (let e : 0 + m ≡ m = omega arith in e) ∙ ap (λ (x : ℕ). flat_map f (range_with_len x m)) (let e : a ≡ a + 0 = omega arith in e)
parts_split f a (suc n) m =
    ap (λ (k : ℕ). flat_map f (range_with_len a k)) (let e : suc n + m ≡ suc (n + m) = omega arith in e)
    ∙ ap (λ (l : List ℕ). f a ++ l) (parts_split f (a + 1) n m)
    ∙ sym (append_assoc (f a) (flat_map f (range_with_len (a + 1) n)) (flat_map f (range_with_len (a + 1 + n) m)))
    ∙ ap (λ (x : ℕ). f a ++ flat_map f (range_with_len (a + 1) n) ++ flat_map f (range_with_len x m)) (let e : a + 1 + n ≡ a + suc n = omega arith in e)

-- the parts of a range are a range of all parts
pub parts_within : (f : ℕ → List ℕ) (size : ℕ) → ((k : ℕ) → length (f k) ≡ size) → (n m all : ℕ) → n + m ≤ all
    → flat_map f (range_with_len n m) ≡ slice_range (flat_map f (range_with_len 0 all)) (n * size) (n * size + length (flat_map f (range_with_len n m)))
parts_within f size each n m all within =
    let before = flat_map f (range_with_len 0 n) in
    let here = flat_map f (range_with_len n m) in
    let behind = flat_map f (range_with_len (n + m) (all - (n + m))) in
    let whole : flat_map f (range_with_len 0 all) ≡ before ++ (here ++ behind) =
    ap (λ (k : ℕ). flat_map f (range_with_len 0 k)) (let e : all ≡ n + (all - n) = omega arith in e)
    ∙ parts_split f 0 n (all - n)
    ∙ ap (λ (l : List ℕ). before ++ l) (ap (λ (x : ℕ). flat_map f (range_with_len x (all - n))) (let e : 0 + n ≡ n = omega arith in e)
    ∙ ap (λ (k : ℕ). flat_map f (range_with_len n k)) (let e : all - n ≡ m + (all - (n + m)) = omega arith in e)
    ∙ parts_split f n m (all - (n + m))) in
    let count : length before ≡ n * size = length-parts f size each n 0 in
    sym (ap (λ (l : List ℕ). slice_range l (n * size) (n * size + length here)) whole
    ∙ ap (λ (l : List ℕ). take (n * size + length here - n * size) l) (drop_at before (here ++ behind) (n * size) count)
    ∙ take_at here behind (n * size + length here - n * size) (omega arith))
