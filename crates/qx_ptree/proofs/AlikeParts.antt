-- The part below a block whose leaves all have one fate.
use Rattle.std.proofs.Common.{◌≡◌, ℕ, zero, suc, ◌+◌, ◌*◌, ◌^◌, ◌<◌, ◌≤◌, ◌⊎◌, inl, inr, refl, sym, ◌∙◌, ap, subst, arith, pow-suc}
use Rattle.std.specs.Prelude.{Bool, true, false}
use Rattle.std.proofs.Math.Nat.{add-mul, mul-le-mul_right, mul_assoc, mul_comm, one-mul, pow-zero}
use Rattle.std.proofs.Math.Numerals.{suc-eq-add-one}
use Rattle.std.proofs.Math.Bool.{or-true}
use Rattle.qx_geom.specs.Lists.{IsAscending}
use Rattle.qx_geom.specs.Pointer.{per_block}
use Rattle.qx_geom.specs.Positions.{Shape, has_position}
use Rattle.qx_ptree.specs.declared.change.Change.{Change}
use Rattle.qx_ptree.specs.declared.change.Fate.{Fate}
use Rattle.qx_ptree.specs.declared.change.Fate.TheVariants.{Stays, Written, Goes}
use Rattle.qx_ptree.specs.declared.part.Part.{Part}
use Rattle.qx_ptree.specs.Fates.{fate_of, leaves_after}
use Rattle.qx_ptree.specs.Parts.{full_below, has_below, leaf_part, own_need, part_of, with_block}
use Rattle.qx_ptree.proofs.LeafParts.{altered, new-ascends, new_shape, part-leaf}
use Rattle.qx_ptree.proofs.OwnPositions.{below-leaf, below-up, had-below, had-none}
use Rattle.qx_ptree.proofs.PartsOfBlocks.{part-up, parts-alike, parts-are}
use Rattle.qx_ptree.proofs.SumsBelow.{any_up_to, any_up_to-at, any_up_to-none, sum_up_to, sum_up_to-none}

-- each leaf below block j of a level has this fate
abbrev pub AllFare : ℕ → Change → Fate → ℕ → ℕ → Type 0
AllFare blocksize c f k j = (i : ℕ) → j * per_block blocksize ^ k ≤ i → i < (j + 1) * per_block blocksize ^ k → fate_of (leaves_after blocksize c) c i ≡ f

-- so have those below the blocks that it points to
pub fare-below : (blocksize : ℕ) (c : Change) (f : Fate) (k j w : ℕ) → w < per_block blocksize → AllFare blocksize c f (suc k) j → AllFare blocksize c f k (j * per_block blocksize + w)
fare-below blocksize c f k j w low all = λ i from to.
    let P : ℕ = per_block blocksize in
    let K : ℕ = P ^ k in
    let power : P ^ suc k ≡ K * P = pow-suc P k in
    let first : j * (K * P) ≤ (j * P + w) * K = subst (λ x. x ≤ (j * P + w) * K) (mul_assoc j P K ∙ ap (λ x. j * x) (mul_comm P K)) (mul-le-mul_right K (omega arith)) in
    let last : (j * P + w + 1) * K ≤ (j + 1) * (K * P) = subst (λ x. (j * P + w + 1) * K ≤ x) (mul_assoc (j + 1) P K ∙ ap (λ x. (j + 1) * x) (mul_comm P K)) (mul-le-mul_right K (omega arith)) in
    all i (subst (λ x. j * x ≤ i) (sym power) (omega arith)) (subst (λ x. i < (j + 1) * x) (sym power) (omega arith))

-- and the leaf itself
fare-leaf : (blocksize : ℕ) (c : Change) (f : Fate) (i : ℕ) → AllFare blocksize c f 0 i → fate_of (leaves_after blocksize c) c i ≡ f
fare-leaf blocksize c f i all = all i (rw pow-zero (omega arith)) (rw pow-zero (omega arith))

-- no block takes a fresh one where nothing below it changed, and it was there where something is present
none_needed : (had private present : Bool) → (present ≡ true → had ≡ true) → own_need had private false present ≡ 0
none_needed true private true was = refl
none_needed false private true was = let e : false ≡ true = was refl in absurd (cc)
none_needed had private false was = refl

-- a sum of a number so many times
sum_same : (n x : ℕ) → sum_up_to n (λ w. x) ≡ n * x
unfolding sum_up_to
sum_same zero x = omega arith
sum_same (suc n) x = ap (λ s. s + x) (sum_same n x) ∙ (let e : suc n * x ≡ n * x + x = ap (λ m. m * x) (suc-eq-add-one n) ∙ add-mul n 1 x ∙ ap (λ y. n * x + y) (one-mul x) in sym e)

-- some number passes a test that all pass
any_same : (n : ℕ) → 0 < n → any_up_to n (λ w. true) ≡ true
unfolding any_up_to
any_same zero positive = absurd (omega arith)
any_same (suc n) positive = or-true (any_up_to n (λ w. true))

module _ (blocksize : ℕ) (old : Shape) (c : Change) (private : ℕ → ℕ → Bool) (up : IsAscending old.present) (some : 0 < per_block blocksize) where
  -- the part below a block, a level up
  up-once : (k j : ℕ) → suc k ≤ (new_shape blocksize old c).levels → (f : ℕ → Part) → ((w : ℕ) → w < per_block blocksize → part_of (altered blocksize old c private) k (j * per_block blocksize + w) ≡ f w)
      → part_of (altered blocksize old c private) (suc k) j
      ≡ with_block (has_position blocksize old (suc k) j) (private (suc k) j) (record { need = sum_up_to (per_block blocksize) (λ w. (f w).need); changed = any_up_to (per_block blocksize) (λ w. (f w).changed); present = any_up_to (per_block blocksize) (λ w. (f w).present) })
  up-once k j le f same =
      part-up (altered blocksize old c private) k j (new-ascends blocksize old c up) some le
      ∙ ap (with_block (has_position blocksize old (suc k) j) (private (suc k) j)) (parts-alike (per_block blocksize) (λ w. part_of (altered blocksize old c private) k (j * per_block blocksize + w)) f same ∙ parts-are (per_block blocksize) f)

  -- all stay, so nothing changes
  alike-stays : (k j : ℕ) → k ≤ (new_shape blocksize old c).levels → (k ≤ old.levels) ⊎ (has_below blocksize old.present k j ≡ false) → AllFare blocksize c Stays k j
      → part_of (altered blocksize old c private) k j ≡ record { need = 0; changed = false; present = has_below blocksize old.present k j }
  alike-stays zero j le within all =
      part-leaf blocksize old c private j up ∙ (λ i. leaf_part (fare-leaf blocksize c Stays j all i) (sym (below-leaf blocksize old.present j) i) (private 0 j))
  alike-stays (suc k) j le within all =
      up-once k j le (λ w. record { need = 0; changed = false; present = has_below blocksize old.present k (j * per_block blocksize + w) })
      (λ w low. alike-stays k (j * per_block blocksize + w) (omega arith) (child w low within) (fare-below blocksize c Stays k j w low all))
      ∙ (λ i. with_block (has_position blocksize old (suc k) j) (private (suc k) j) (record { need = sum_up_to-none (per_block blocksize) i; changed = any_up_to-none (per_block blocksize) i; present = sym (below-up blocksize old.present k j some) i }))
      ∙ ap (λ n. record { need = 0 + n; changed = false; present = has_below blocksize old.present (suc k) j }) (none_needed (has_position blocksize old (suc k) j) (private (suc k) j) (has_below blocksize old.present (suc k) j) (was within))
    where
      child : (w : ℕ) → w < per_block blocksize → (suc k ≤ old.levels) ⊎ (has_below blocksize old.present (suc k) j ≡ false) → (k ≤ old.levels) ⊎ (has_below blocksize old.present k (j * per_block blocksize + w) ≡ false)
      child w low (inl under) = inl (omega arith)
      child w low (inr none) = inr (any_up_to-at (per_block blocksize) (λ w. has_below blocksize old.present k (j * per_block blocksize + w)) w (sym (below-up blocksize old.present k j some) ∙ none) low)

      was : (suc k ≤ old.levels) ⊎ (has_below blocksize old.present (suc k) j ≡ false) → has_below blocksize old.present (suc k) j ≡ true → has_position blocksize old (suc k) j ≡ true
      was (inl under) h = had-below blocksize old (suc k) j under ∙ h
      was (inr none) h = let e : true ≡ false = sym h ∙ none in absurd (cc)

  -- all go, so what was there changes and nothing is left
  alike-goes : (k j : ℕ) → k ≤ (new_shape blocksize old c).levels → AllFare blocksize c Goes k j
      → part_of (altered blocksize old c private) k j ≡ record { need = 0; changed = has_below blocksize old.present k j; present = false }
  alike-goes zero j le all =
      part-leaf blocksize old c private j up ∙ (λ i. leaf_part (fare-leaf blocksize c Goes j all i) (sym (below-leaf blocksize old.present j) i) (private 0 j))
  alike-goes (suc k) j le all =
      up-once k j le (λ w. record { need = 0; changed = has_below blocksize old.present k (j * per_block blocksize + w); present = false })
      (λ w low. alike-goes k (j * per_block blocksize + w) (omega arith) (fare-below blocksize c Goes k j w low all))
      ∙ (λ i. with_block (has_position blocksize old (suc k) j) (private (suc k) j) (record { need = sum_up_to-none (per_block blocksize) i; changed = sym (below-up blocksize old.present k j some) i; present = any_up_to-none (per_block blocksize) i }))

  -- all are written where there was nothing, so all is fresh
  pub part-written : (k j : ℕ) → k ≤ (new_shape blocksize old c).levels → has_below blocksize old.present k j ≡ false → AllFare blocksize c Written k j
      → part_of (altered blocksize old c private) k j ≡ record { need = full_below (per_block blocksize) k; changed = true; present = true }
  part-written zero j le none all =
      part-leaf blocksize old c private j up ∙ (λ i. leaf_part (fare-leaf blocksize c Written j all i) ((sym (below-leaf blocksize old.present j) ∙ none) i) (private 0 j))
  part-written (suc k) j le none all =
      up-once k j le (λ w. record { need = full_below (per_block blocksize) k; changed = true; present = true })
      (λ w low. part-written k (j * per_block blocksize + w) (omega arith)
      (any_up_to-at (per_block blocksize) (λ w. has_below blocksize old.present k (j * per_block blocksize + w)) w (sym (below-up blocksize old.present k j some) ∙ none) low) (fare-below blocksize c Written k j w low all))
      ∙ (λ i. with_block (had-none blocksize old (suc k) j none i) (private (suc k) j) (record { need = sum_same (per_block blocksize) (full_below (per_block blocksize) k) i; changed = any_same (per_block blocksize) some i; present = any_same (per_block blocksize) some i }))

  -- where none is written, it is as with a leaf that was there or not; above the node's old levels none was
  pub part-unwritten : (f : Fate) (k j : ℕ) (had p : Bool) → (f ≡ Written → ⊥) → k ≤ (new_shape blocksize old c).levels → (k ≤ old.levels) ⊎ (had ≡ false) → had ≡ has_below blocksize old.present k j → AllFare blocksize c f k j
      → part_of (altered blocksize old c private) k j ≡ leaf_part f had p
  part-unwritten Stays k j had p un le within is all =
      alike-stays k j le (subst (λ h. (k ≤ old.levels) ⊎ (h ≡ false)) is within) all ∙ ap (λ h. record { need = 0; changed = false; present = h }) (sym is)
  part-unwritten Written k j had p un le within is all = absurd (un refl)
  part-unwritten Goes k j had p un le within is all = alike-goes k j le all ∙ ap (λ h. record { need = 0; changed = h; present = false }) (sym is)
