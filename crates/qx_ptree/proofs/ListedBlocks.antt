-- Functions of block numbers that differ at listed ones.
use Rattle.std.proofs.Common.{◌≡◌, ℕ, inl, inr, [], ◌∷◌, ◌++◌, List, sym, ◌∙◌, ap}
use Rattle.std.specs.Prelude.{Bool, true, false, ◌||◌, nat_eq, if◌then◌else◌}
use Rattle.std.proofs.Math.Bool.{or-false, or_assoc}
use Rattle.std.proofs.lemmas.Bool.{cases_eq, eq-eqb, ne_eqb, or_right, or_left}
use Rattle.qx_geom.specs.Lists.{Distinct, is_in}
use Rattle.qx_geom.proofs.Truths.{not_so, true_or_false}
use Rattle.qx_geom.proofs.ImagesAndFilters.{Contains-in}
use Rattle.qx_geom.proofs.Members.{is_in-append}
use Rattle.qx_blocks.specs.BlockState.{put}

-- a number that isn't in a list isn't one that is
pub differs : (bs : List ℕ) (b q : ℕ) → is_in bs b ≡ true → is_in bs q ≡ false → q ≡ b → ⊥
differs bs b q in' out e = true_or_false (is_in bs b) in' (ap (is_in bs) (sym e) ∙ out)

-- what is in no longer list is in no shorter one
pub out_within : (bs cs : List ℕ) (q : ℕ) → (is_in bs q ≡ true → is_in cs q ≡ true) → is_in cs q ≡ false → is_in bs q ≡ false
out_within bs cs q within out = not_so (is_in bs q) (λ t. true_or_false (is_in cs q) (within t) out)

-- one value differs, and not this one
pub put-other : {A : Type 0} (f : ℕ → A) (b q : ℕ) (x : A) → (q ≡ b → ⊥) → put f b x q ≡ f q
put-other f b q x ne = ap (λ t. if t then x else f q) (ne_eqb q b ne)

-- it differs here
pub put-at : {A : Type 0} (f : ℕ → A) (b q : ℕ) (x : A) → q ≡ b → put f b x q ≡ x
put-at f b q x is = ap (λ t. if t then x else f q) (eq-eqb q b is)

-- a test that one more number passes
pub put-or : (f : ℕ → Bool) (b q : ℕ) → put f b true q ≡ (f q || is_in (b ∷ []) q)
put-or f b q =
    elim (cases_eq q b) [
      | inl same ↦ put-at f b q true same ∙ sym (or_right (f q) (is_in (b ∷ []) q) (or_left (nat_eq b q) false (eq-eqb b q (sym same))))
      | inr other ↦ put-other f b q true other ∙ sym (or-false (f q)) ∙ ap (λ t. f q || (t || false)) (sym (ne_eqb b q (λ e. other (sym e))))
    ]

-- a test that these numbers pass and then those
pub more_pass : (x y z : Bool) (fs gs : List ℕ) (b : ℕ) → y ≡ (x || is_in fs b) → z ≡ (y || is_in gs b) → z ≡ (x || is_in (fs ++ gs) b)
more_pass x y z fs gs b e f = f ∙ ap (λ t. t || is_in gs b) e ∙ or_assoc x (is_in fs b) (is_in gs b) ∙ ap (λ t. x || t) (sym (is_in-append fs gs b))

-- the first of these numbers passes no longer
pub one_less : (f g : ℕ → Bool) (b : ℕ) (bs : List ℕ) (q : ℕ) → f b ≡ false → is_in bs b ≡ false → g q ≡ (f q || is_in (b ∷ bs) q) → put g b false q ≡ (f q || is_in bs q)
one_less f g b bs q before once is =
    elim (cases_eq q b) [
      | inl same ↦ put-at g b q false same ∙ sym (ap (λ t. f t || is_in bs t) same ∙ ap (λ t. t || is_in bs b) before ∙ once)
      | inr other ↦ put-other g b q false other ∙ is ∙ ap (λ t. f q || (t || is_in bs q)) (ne_eqb b q (λ e. other (sym e)))
    ]

-- the first of numbers that differ is none of the others
pub first_once : (b : ℕ) (bs : List ℕ) → Distinct (b ∷ bs) → is_in bs b ≡ false
first_once b bs d = not_so (is_in bs b) (λ t. d.0 (Contains-in bs b t))
