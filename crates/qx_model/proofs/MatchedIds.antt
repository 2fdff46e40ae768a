-- Lists of numbers that are matched one to one: what stands in one stands in the other, and as many of them differ.
use Rattle.std.proofs.Common.{◌≡◌, ℕ, ◌+◌, List, [], ◌∷◌, ◌++◌, refl, sym, ◌∙◌}
use Rattle.std.specs.Prelude.{◌↔◌, Bool, ◌||◌, Contains, cond, count_by, map, nat_eq, if◌then◌else◌}
use Rattle.std.proofs.lemmas.Bool.{eq-eqb, eqb-true}
use Rattle.std.proofs.lemmas.List.Sums.{sum_by-cons}
use Rattle.qx_geom.specs.Lists.{is_in}
use Rattle.qx_geom.proofs.Members.{Contains-cons, Contains-head}
use Rattle.qx_geom.proofs.Truths.{same_truth}
use Rattle.qx_model.specs.Space.{different_count}

-- place by place, the numbers of two lists are related
pub data Matched (R : ℕ → ℕ → Type 0) : List ℕ → List ℕ → Type 0 where
  none : Matched R [] []
  more : {i j : ℕ} {xs ys : List ℕ} → R i j → Matched R xs ys → Matched R (i ∷ xs) (j ∷ ys)

module _ (R : ℕ → ℕ → Type 0) where
  pub matched_append : {xs ys vs ws : List ℕ} → Matched R xs ys → Matched R vs ws → Matched R (xs ++ vs) (ys ++ ws)
  matched_append none m = m
  matched_append (more r l) m = more r (matched_append l m)

  -- the images of a list under two functions that are related at its members
  pub matched_map : {A : Type 0} (f g : A → ℕ) (ps : List A) → ((p : A) → Contains ps p → R (f p) (g p)) → Matched R (map f ps) (map g ps)
  matched_map f g [] all = none
  matched_map f g (p ∷ ps) all = more (all p (Contains-head p ps)) (matched_map f g ps (λ q c. all q (Contains-cons p q ps c)))

  -- as many pass two tests that say the same of related numbers
  pub matched_count : (p q : ℕ → Bool) → ((i j : ℕ) → R i j → p i ≡ q j) → {xs ys : List ℕ} → Matched R xs ys → count_by p xs ≡ count_by q ys
  matched_count p q same none = refl
  matched_count p q same (more {i} {j} {xs} {ys} r m) =
      sum_by-cons (λ x. cond (p x) 1 0) i xs ∙ (λ t. cond (same i j r t) 1 0 + matched_count p q same m t) ∙ sym (sum_by-cons (λ x. cond (q x) 1 0) j ys)

  module _ (one : (i j k l : ℕ) → R i j → R k l → (i ≡ k) ↔ (j ≡ l)) where
    same_number : (i j k l : ℕ) → R i j → R k l → nat_eq i k ≡ nat_eq j l
    same_number i j k l r q =
        let both = one i j k l r q in
        same_truth (nat_eq i k) (nat_eq j l) (λ h. eq-eqb j l (both.0 (eqb-true i k h))) (λ h. eq-eqb i k (both.1 (eqb-true j l h)))

    -- related numbers stand in matched lists together
    pub matched_in : {xs ys : List ℕ} (i j : ℕ) → Matched R xs ys → R i j → is_in xs i ≡ is_in ys j
    matched_in i j none r = refl
    matched_in i j (more {i = k} {j = l} q m) r = λ t. same_number k l i j q r t || matched_in i j m r t

    -- and as many numbers of the lists differ
    pub matched_different : {xs ys : List ℕ} → Matched R xs ys → different_count xs ≡ different_count ys
    matched_different none = refl
    matched_different (more {i} {j} r m) = λ t. (if matched_in i j m r t then 0 else 1) + matched_different m t
