-- Free blocks, counted by those that are taken.
use Rattle.std.proofs.Common.{◌≡◌, ℕ, zero, suc, ◌+◌, ◌-◌, ◌<◌, ◌≤◌, inl, inr, Bool, true, false, cond, not, List, [], ◌∷◌, length, map, refl, sym, ◌∙◌, ap, arith}
use Rattle.std.specs.Prelude.{count_by}
use Rattle.std.specs.List.{range_with_len}
use Rattle.std.proofs.lemmas.Bool.{cases_lt}
use Rattle.std.proofs.lemmas.List.{ext_get_or}
use Rattle.std.proofs.lemmas.List.Sums.{sum_by-cons}
use Rattle.std.proofs.lemmas.List.FromFn.{length-map-range_with_len, get_or-map-range_with_len}
use Rattle.qx_blockset.specs.Members.{Members, has, count_of, limit_of}
use Rattle.qx_alloc.specs.declared.space.Space.TheInside.{Inside}
use Rattle.qx_alloc.specs.SpaceState.{is_held, free_in}
use Rattle.qx_alloc.specs.SpaceView.{space_in, IsInOrder}

-- how many of the numbers from a on, n of them, pass
abbrev count_from : (ℕ → Bool) → ℕ → ℕ → ℕ
count_from p a n = count_by p (range_with_len a n)

-- a truth and its opposite count as one
one_of_two : (t : Bool) → cond {A = ℕ} t 1 0 + cond {A = ℕ} (not t) 1 0 ≡ 1
one_of_two true = refl
one_of_two false = refl

-- the first number, and those behind it
count-more : (p : ℕ → Bool) (a n : ℕ) → count_from p a (suc n) ≡ cond (p a) 1 0 + count_from p (a + 1) n
count-more p a n = sum_by-cons (λ b. cond (p b) 1 0) a (range_with_len (a + 1) n)

-- each number passes or doesn't
count-split : (p : ℕ → Bool) (a n : ℕ) → count_from p a n + count_from (λ b. not (p b)) a n ≡ n
count-split p a zero = refl
count-split p a (suc n) = omega (arith, count-split p (a + 1) n, one_of_two (p a), count-more p a n, count-more (λ b. not (p b)) a n)

-- tests that agree on the numbers count alike
pub count-same : (p q : ℕ → Bool) (a n : ℕ) → ((b : ℕ) → a ≤ b → b < a + n → p b ≡ q b) → count_from p a n ≡ count_from q a n
count-same p q a zero same = refl
count-same p q a (suc n) same =
    let first : cond {A = ℕ} (p a) 1 0 ≡ cond {A = ℕ} (q a) 1 0 = ap (λ t. cond t 1 0) (same a (omega arith) (omega arith)) in
    omega (arith, first, count-more p a n, count-more q a n, count-same p q (a + 1) n (λ b low high. same b (omega arith) (omega arith)))

-- where no number passes, none is counted
pub count-nowhere : (p : ℕ → Bool) (a n : ℕ) → ((b : ℕ) → a ≤ b → b < a + n → p b ≡ false) → count_from p a n ≡ 0
count-nowhere p a zero none = refl
count-nowhere p a (suc n) none =
    let first : cond {A = ℕ} (p a) 1 0 ≡ 0 = ap (λ t. cond t 1 0) (none a (omega arith) (omega arith)) in
    omega (arith, first, count-more p a n, count-nowhere p (a + 1) n (λ b low high. none b (omega arith) (omega arith)))

-- the numbers of two runs, one behind the other
count-behind : (p : ℕ → Bool) (a n m : ℕ) → count_from p a (n + m) ≡ count_from p a n + count_from p (a + n) m
count-behind p a zero m =
    let start : a + 0 ≡ a = omega arith in
    let sum : 0 + m ≡ m = omega arith in
    let moved : count_from p (a + 0) m ≡ count_from p a m = ap (λ k. count_from p k m) start in
    ap (count_from p a) sum ∙ omega (arith, moved)
count-behind p a (suc n) m =
    let start : a + 1 + n ≡ a + suc n = omega arith in
    let sum : suc n + m ≡ suc (n + m) = omega arith in
    let rest : count_from p (a + 1) (n + m) ≡ count_from p (a + 1) n + count_from p (a + 1 + n) m = count-behind p (a + 1) n m in
    let moved : count_from p (a + 1 + n) m ≡ count_from p (a + suc n) m = ap (λ k. count_from p k m) start in
    ap (count_from p a) sum ∙ omega (arith, rest, moved, count-more p a n, count-more p a (n + m))

-- truths that come from numbers, counted by the numbers
count-map : (p : ℕ → Bool) (ks : List ℕ) → count_of (map p ks) ≡ count_by p ks
count-map p [] = refl
count-map p (k ∷ ks) = omega (arith, count-map p ks, sum_by-cons (λ t. cond t 1 0) (p k) (map p ks), sum_by-cons (λ j. cond (p j) 1 0) k ks)

-- a set is counted by its numbers
count-members : (s : Members) → count_of s ≡ count_from (has s) 0 (limit_of s)
count-members s =
    ap count_of (ext_get_or false s (map (has s) (range_with_len 0 (length s))) (sym (length-map-range_with_len (has s) 0 (length s)))
    (λ q low. sym (get_or-map-range_with_len (has s) 0 (length s) q q false low (omega arith))))
    ∙ count-map (has s) (range_with_len 0 (length s))

-- where none of the numbers below one is in the set, those in it and the others from there on are all from there on
pub count-from : (s : Members) (first : ℕ) → ((b : ℕ) → b < first → has s b ≡ false) → count_of s + count_from (λ b. not (has s b)) first (limit_of s - first) ≡ limit_of s - first
count-from s first none = elim (cases_lt (length s) first) [
  | inl short ↦
      let nothing : count_from (has s) 0 (length s) ≡ 0 = count-nowhere (has s) 0 (length s) (λ b low high. none b (omega arith)) in
      let no_more : length s - first ≡ 0 = omega arith in
      omega (arith, count-members s, nothing, ap (λ n. count_from (λ b. not (has s b)) first n) no_more)
  | inr long ↦
      let nothing : count_from (has s) 0 first ≡ 0 = count-nowhere (has s) 0 first (λ b low high. none b (omega arith)) in
      let whole : length s ≡ first + (length s - first) = omega arith in
      let parts : count_from (has s) 0 (length s) ≡ count_from (has s) 0 first + count_from (has s) (0 + first) (length s - first)
      = ap (count_from (has s) 0) whole ∙ count-behind (has s) 0 first (length s - first) in
      let start : 0 + first ≡ first = omega arith in
      let moved : count_from (has s) (0 + first) (length s - first) ≡ count_from (has s) first (length s - first) = ap (λ k. count_from (has s) k (length s - first)) start in
      omega (arith, count-members s, nothing, parts, moved, count-split (has s) first (length s - first))
]

-- the free blocks and those that are taken are all user blocks
pub count-free : (a : Inside) → IsInOrder a → count_of a.taken + free_in (space_in a) ≡ limit_of a.working - a.first_user
count-free a order =
    let users : ℕ = limit_of a.working - a.first_user in
    let free : free_in (space_in a) ≡ count_from (λ b. not (has a.taken b)) a.first_user users
    = count-same (λ b. not (is_held (space_in a) b)) (λ b. not (has a.taken b)) a.first_user users (λ b low high. ap not (sym (order.taken_held b))) in
    let counted : count_of a.taken + count_from (λ b. not (has a.taken b)) a.first_user (limit_of a.taken - a.first_user) ≡ limit_of a.taken - a.first_user
    = count-from a.taken a.first_user order.users in
    let long : limit_of a.taken - a.first_user ≡ users = ap (λ n. n - a.first_user) order.taken_long in
    omega (arith, free, counted, long, ap (count_from (λ b. not (has a.taken b)) a.first_user) long)

-- where the union has all user blocks, no block is free
pub none-free : (a : Inside) → IsInOrder a → ((b : ℕ) → a.first_user ≤ b → b < limit_of a.taken → has a.taken b ≡ true) → free_in (space_in a) ≡ 0
none-free a order all =
    count-nowhere (λ b. not (is_held (space_in a) b)) a.first_user (limit_of a.working - a.first_user)
    (λ b low high. ap not (sym (order.taken_held b) ∙ all b low (omega (arith, order.taken_long))))
