-- Sums over a tree's owners are sums over planned changes of their nodes, where nothing else gives anything.
use Rattle.std.proofs.Common.{◌≡◌, ℕ, zero, suc, ◌+◌, ◌≤◌, ◌<◌, ◌⊎◌, inl, inr, List, [], ◌∷◌, length, refl, sym, ◌∙◌, ap, subst, arith}
use Rattle.std.specs.Prelude.{true, false, ◌==◌, Option, Contains, if◌then◌else◌, map, sum_by}
use Rattle.std.specs.List.{range_with_len}
use Rattle.std.specs.Option.{option_flatten}
use Rattle.std.proofs.lemmas.Bool.{cases_eq, eq-eqb, ne_eqb}
use Rattle.std.proofs.lemmas.List.Sums.{sum_by-cons}
use Rattle.std.proofs.lemmas.Option.{slice_get_past}
use Rattle.qx_geom.specs.Lists.{Distinct, is_in}
use Rattle.qx_geom.specs.Positions.{shape_of}
use Rattle.qx_geom.proofs.Members.{Contains-cons, Contains-head, in_cases}
use Rattle.qx_geom.proofs.Truths.{not_so, true_or_false}
use Rattle.qx_batch.specs.declared.planned.Planned.{Planned}
use Rattle.qx_batch.specs.Nodes as nodes
use Rattle.qx_model.specs.Owners.{OfInode, OfLongfile, Owner}
use Rattle.qx_model.specs.Tree.{Entry, Tree}
use Rattle.qx_model.specs.TreePositions.{entry_shape, owners_of, shape_in}
use Rattle.qx_model.proofs.ListMembers.{Contains-map, range-Contains}
use Rattle.qx_placing.specs.PlannedEdits.{owner_of_number}

-- ---- sums

-- of what is alike
pub sum_same : {A : Type 0} (f g : A → ℕ) (xs : List A) → ((x : A) → Contains xs x → f x ≡ g x) → sum_by f xs ≡ sum_by g xs
sum_same f g [] same = refl
sum_same f g (x ∷ xs) same = sum_by-cons f x xs ∙ (λ i. same x (Contains-head x xs) i + sum_same f g xs (λ y c. same y (Contains-cons x y xs c)) i) ∙ sym (sum_by-cons g x xs)

-- of nothing
pub sum_zero : {A : Type 0} (f : A → ℕ) (xs : List A) → ((x : A) → Contains xs x → f x ≡ 0) → sum_by f xs ≡ 0
sum_zero f [] none = refl
sum_zero f (x ∷ xs) none = omega (arith, sum_by-cons f x xs, none x (Contains-head x xs), sum_zero f xs (λ y c. none y (Contains-cons x y xs c)))

-- over an image
pub sum_image : {A B : Type 0} (f : B → ℕ) (g : A → B) (xs : List A) → sum_by f (map g xs) ≡ sum_by (λ x. f (g x)) xs
sum_image f g [] = refl
sum_image f g (x ∷ xs) = sum_by-cons f (g x) (map g xs) ∙ (λ i. f (g x) + sum_image f g xs i) ∙ sym (sum_by-cons (λ x. f (g x)) x xs)

-- with another value at one number
put_at : (ℕ → ℕ) → ℕ → ℕ → ℕ → ℕ
put_at f o x k = if k == o then x else f k

put_here : (f : ℕ → ℕ) (o x k : ℕ) → k ≡ o → put_at f o x k ≡ x
unfolding put_at
put_here f o x k is = ap (λ b. if b then x else f k) (eq-eqb k o is)

put_other : (f : ℕ → ℕ) (o x k : ℕ) → ¬ (k ≡ o) → put_at f o x k ≡ f k
unfolding put_at
put_other f o x k differ = ap (λ b. if b then x else f k) (ne_eqb k o differ)

-- it adds that value, where the number comes once and gave nothing
sum_put : (f : ℕ → ℕ) (o x : ℕ) (xs : List ℕ) → Distinct xs → f o ≡ 0 → (is_in xs o ≡ true) ⊎ (x ≡ 0) → sum_by (put_at f o x) xs ≡ x + sum_by f xs
sum_put f o x [] d none (inl there) = absurd (cc)
sum_put f o x [] d none (inr nothing) = omega (arith, nothing)
sum_put f o x (y ∷ ys) d none there = elim (cases_eq y o) [
  | inl here ↦
      let rest : sum_by (put_at f o x) ys ≡ sum_by f ys = sum_same (put_at f o x) f ys (λ z c. put_other f o x z (λ is. d.0 (subst (λ w. Contains ys w) (is ∙ sym here) c))) in
      let gave : f y ≡ 0 = ap f here ∙ none in
      omega (arith, sum_by-cons (put_at f o x) y ys, sum_by-cons f y ys, put_here f o x y here, rest, gave)
  | inr other ↦
      let rest : sum_by (put_at f o x) ys ≡ x + sum_by f ys = sum_put f o x ys d.1 none (later there other) in
      omega (arith, sum_by-cons (put_at f o x) y ys, sum_by-cons f y ys, put_other f o x y other, rest)
]
  where
    later : (is_in (y ∷ ys) o ≡ true) ⊎ (x ≡ 0) → ¬ (y ≡ o) → (is_in ys o ≡ true) ⊎ (x ≡ 0)
    later (inl there) other = elim (in_cases y o ys there) [ inl is ↦ absurd (other is) | inr rest ↦ inl rest ]
    later (inr nothing) other = inr nothing

-- ---- planned changes

-- the number of a planned change is one of the numbers
owner_listed : (ps : List Planned) (p : Planned) → Contains ps p → Contains (nodes.owners_of ps) p.owner
owner_listed ps p c = Contains-map (λ (q : Planned). q.owner) ps p c

-- a sum over numbers is that over planned changes, where no other number gives anything and each change that gives something has its number there
pub sum_planned : (f : ℕ → ℕ) (h : Planned → ℕ) (xs : List ℕ) (ps : List Planned) → Distinct xs → Distinct (nodes.owners_of ps) → ((p : Planned) → Contains ps p → f p.owner ≡ h p)
    → ((p : Planned) → Contains ps p → (is_in xs p.owner ≡ true) ⊎ (h p ≡ 0)) → ((n : ℕ) → is_in (nodes.owners_of ps) n ≡ false → f n ≡ 0) → sum_by h ps ≡ sum_by f xs
sum_planned f h xs [] d once same there none = sym (sum_zero f xs (λ n c. none n refl))
sum_planned f h xs (p ∷ ps) d once same there none =
    let left : ℕ → ℕ = put_at f p.owner 0 in
    let rest : sum_by h ps ≡ sum_by left xs = sum_planned left h xs ps d once.1
    (λ q c. put_other f p.owner 0 q.owner (λ is. once.0 (subst (λ n. Contains (nodes.owners_of ps) n) is (owner_listed ps q c))) ∙ same q (Contains-cons p q ps c))
    (λ q c. there q (Contains-cons p q ps c))
    (λ n out. elim (cases_eq n p.owner) [
      | inl here ↦ put_here f p.owner 0 n here
      | inr other ↦ put_other f p.owner 0 n other ∙ none n (not_so (is_in (nodes.owners_of (p ∷ ps)) n) (λ t. elim (in_cases p.owner n (nodes.owners_of ps) t) [
        | inl is ↦ other (sym is)
        | inr later ↦ true_or_false (is_in (nodes.owners_of ps) n) later out
      ]))
    ]) in
    let whole : sum_by f xs ≡ sum_by (put_at left p.owner (h p)) xs = sum_same f (put_at left p.owner (h p)) xs (λ n c. elim (cases_eq n p.owner) [
      | inl here ↦ ap f here ∙ same p (Contains-head p ps) ∙ sym (put_here left p.owner (h p) n here)
      | inr other ↦ sym (put_other left p.owner (h p) n other ∙ put_other f p.owner 0 n other)
    ]) in
    let added : sum_by (put_at left p.owner (h p)) xs ≡ h p + sum_by left xs = sum_put left p.owner (h p) xs d (put_here f p.owner 0 p.owner refl) (there p (Contains-head p ps)) in
    omega (arith, sum_by-cons h p ps, rest, whole, added)

-- ---- owners

-- a number from 1 on is an inode's
pub inode_number : (n : ℕ) → 1 ≤ n → owner_of_number n ≡ OfInode n
inode_number zero some = absurd (omega (arith, some))
inode_number (suc k) some = refl

-- no number of a range comes twice
pub range_once : (a n : ℕ) → Distinct (range_with_len a n)
range_once a zero = tt
range_once a (suc n) = (λ c. let r = range-Contains (a + 1) n a c in omega (arith, r.0), range_once (a + 1) n)

-- a tree's owners are those of the numbers from 0 to that of its last inode
pub sum_owners : (f : Owner → ℕ) (t : Tree) → sum_by f (owners_of t) ≡ sum_by (λ n. f (owner_of_number n)) (range_with_len 0 (suc (length t.inodes)))
sum_owners f t =
    let inodes : List ℕ = range_with_len 1 (length t.inodes) in
    let rest : sum_by f (map (λ n. OfInode n) inodes) ≡ sum_by (λ n. f (owner_of_number n)) inodes =
    sum_image f (λ n. OfInode n) inodes ∙ sum_same (λ n. f (OfInode n)) (λ n. f (owner_of_number n)) inodes (λ n c. ap f (sym (inode_number n (range-Contains 1 (length t.inodes) n c).0))) in
    sum_by-cons f OfLongfile (map (λ n. OfInode n) inodes) ∙ ap (λ k. f OfLongfile + k) rest ∙ sym (sum_by-cons (λ n. f (owner_of_number n)) 0 inodes)

-- past the last one there is nothing
pub nothing_past : (blocksize : ℕ) (t : Tree) (n : ℕ) → length t.inodes < n → shape_in blocksize t (owner_of_number n) ≡ shape_of blocksize 0 []
nothing_past blocksize t zero past = absurd (omega (arith, past))
nothing_past blocksize t (suc k) past = ap (λ (o : Option (Option Entry)). entry_shape blocksize (option_flatten o)) (slice_get_past t.inodes k (omega (arith, past)))
