-- Lists without doubles that have the same members are as long, whatever these are; and what parts of lists leave of a test.
use Rattle.std.proofs.Common.{◌≡◌, suc, ◌≤◌, ◌⊎◌, inl, inr, List, [], ◌∷◌, ◌++◌, length, refl, sym, ◌∙◌, ap, subst, arith}
use Rattle.std.specs.Prelude.{Bool, true, false, cond, Contains, filter, flat_map, map}
use Rattle.std.proofs.lemmas.List.Elements.{filter-append}
use Rattle.qx_geom.specs.Lists.{Distinct}
use Rattle.qx_geom.proofs.DistinctElements.{Distinct-append}
use Rattle.qx_geom.proofs.Members.{Contains-cases, Contains-cons, Contains-head}
use Rattle.qx_model.proofs.ListMembers.{flat_map-Contains}

-- ---- lengths

-- a list without one of its members
record Without {A : Type 0} (ys : List A) (y : A) : Type 0 where
  pub rest : List A
  pub long : length ys ≡ suc (length rest)
  pub others : (z : A) → Contains ys z → (z ≡ y) ⊎ Contains rest z

without : {A : Type 0} (ys : List A) (y : A) → Contains ys y → Without ys y
without [] y c = absurd (omega (arith, c.1))
without (x ∷ ys) y c = elim (Contains-cases x y ys c) [
  | inl is ↦ record {
    rest = ys;
    long = refl;
    others = λ z h. elim (Contains-cases x z ys h) [ inl same ↦ inl (sym same ∙ is) | inr there ↦ inr there ];
  }
  | inr later ↦ let w : Without ys y = without ys y later in record {
    rest = x ∷ w.rest;
    long = ap suc w.long;
    others = λ z h. elim (Contains-cases x z ys h) [
      | inl same ↦ inr (subst (λ q. Contains (x ∷ w.rest) q) same (Contains-head x w.rest))
      | inr there ↦ elim (w.others z there) [ inl is ↦ inl is | inr rest ↦ inr (Contains-cons x z w.rest rest) ]
    ];
  }
]

-- what stands once and elsewhere too is no more than what stands there
length_within : {A : Type 0} (xs ys : List A) → Distinct xs → ((x : A) → Contains xs x → Contains ys x) → length xs ≤ length ys
length_within [] ys d within = omega arith
length_within (x ∷ xs) ys d within =
    let w : Without ys x = without ys x (within x (Contains-head x xs)) in
    let rest : length xs ≤ length w.rest = length_within xs w.rest d.1 (λ y c. elim (w.others y (within y (Contains-cons x y xs c))) [ inl is ↦ absurd (d.0 (subst (λ z. Contains xs z) is c)) | inr there ↦ there ]) in
    omega (arith, rest, w.long)

-- so what stands once in either is as much
pub length_alike : {A : Type 0} (xs ys : List A) → Distinct xs → Distinct ys → ((x : A) → Contains xs x → Contains ys x) → ((x : A) → Contains ys x → Contains xs x) → length xs ≡ length ys
length_alike xs ys d e to from = let most = length_within xs ys d to in let least = length_within ys xs e from in omega arith

-- ---- parts end to end

-- no element stands twice in parts of which no two have one in common
pub parts_once : {A B : Type 0} (f : A → List B) (xs : List A) → Distinct xs → ((x : A) → Contains xs x → Distinct (f x)) → ((x y : A) (b : B) → Contains xs x → Contains xs y → Contains (f x) b → Contains (f y) b → x ≡ y)
    → Distinct (flat_map f xs)
parts_once f [] d each apart = tt
parts_once f (x ∷ xs) d each apart =
    Distinct-append (f x) (flat_map f xs) (each x (Contains-head x xs)) (parts_once f xs d.1 (λ y c. each y (Contains-cons x y xs c)) (λ y z b c h. apart y z b (Contains-cons x y xs c) (Contains-cons x z xs h)))
    (λ b here there. let at = flat_map-Contains f xs b there in
    d.0 (subst (λ z. Contains xs z) (sym (apart x at.0 b (Contains-head x xs) (Contains-cons x at.0 xs at.1) here at.2)) at.1))

-- what passes in parts
pub filter_parts : {A B : Type 0} (test : B → Bool) (f : A → List B) (xs : List A) → filter test (flat_map f xs) ≡ flat_map (λ x. filter test (f x)) xs
filter_parts test f [] = refl
filter_parts test f (x ∷ xs) = filter-append test (f x) (flat_map f xs) ∙ ap (λ ys. filter test (f x) ++ ys) (filter_parts test f xs)

-- and in an image
pub filter_image : {A B : Type 0} (test : B → Bool) (f : A → B) (xs : List A) → filter test (map f xs) ≡ map f (filter (λ x. test (f x)) xs)
filter_image test f [] = refl
filter_image test f (x ∷ xs) = go (test (f x)) (filter_image test f xs)
  where
    go : (b : Bool) → filter test (map f xs) ≡ map f (filter (λ y. test (f y)) xs) → cond b (f x ∷ filter test (map f xs)) (filter test (map f xs)) ≡ map f (cond b (x ∷ filter (λ y. test (f y)) xs) (filter (λ y. test (f y)) xs))
    go true rest = ap (λ ys. f x ∷ ys) rest
    go false rest = rest
