-- What a node's change touches and takes depends on the written leaves and the private positions, however these are given.
use Rattle.std.proofs.Common.{◌≡◌, ℕ, ◌+◌, ◌≤◌, List, [], ◌++◌, length, refl, sym, ◌∙◌, ap, subst}
use Rattle.std.specs.Prelude.{Bool, true, false, not, ◌&&◌, ◌||◌, ◌==◌, filter, nat_lt, sum_by}
use Rattle.std.specs.List.{list_any, range_with_len}
use Rattle.std.proofs.lemmas.List.Folds.{list_any-append}
use Rattle.qx_geom.specs.Lists.{is_in}
use Rattle.qx_geom.specs.Positions.{HasPosition, Shape, at_level, has_position, index_above}
use Rattle.qx_geom.specs.Touch.{IsTouched, is_fresh, is_touched, leaves_without, lost_child, need_of, new_position, touched_child, written_leaf}
use Rattle.qx_geom.proofs.ImagesAndFilters.{any_image, image_any}
use Rattle.qx_geom.proofs.LeastTouch.{leaf_below, test_is_least}
use Rattle.qx_geom.proofs.Truths.{not_so, same_truth}

module _ (blocksize : ℕ) where
  -- a leaf of the one list is one of the other
  any_alike : (f : ℕ → ℕ) (j : ℕ) (xs ys : List ℕ) → ((i : ℕ) → is_in xs i ≡ is_in ys i) → list_any (λ i. f i == j) xs ≡ true → list_any (λ i. f i == j) ys ≡ true
  any_alike f j xs ys same h = let r : (i : ℕ) × (is_in xs i ≡ true) × (f i ≡ j) = image_any f j xs h in any_image f j ys r.0 (sym (same r.0) ∙ r.1) r.2

  -- so the same is touched
  touched_alike : (old new : Shape) (ws vs : List ℕ) (k j : ℕ) → ((i : ℕ) → is_in ws i ≡ is_in vs i) → is_touched blocksize old new ws k j ≡ is_touched blocksize old new vs k j
  touched_alike old new ws vs k j same =
      let f : ℕ → ℕ = index_above blocksize k in
      let rest : List ℕ = leaves_without new old ++ leaves_without old new in
      let first : list_any (λ i. f i == j) ws ≡ list_any (λ i. f i == j) vs
      = same_truth (list_any (λ i. f i == j) ws) (list_any (λ i. f i == j) vs) (any_alike f j ws vs same) (any_alike f j vs ws (λ i. sym (same i))) in
      ap (λ b. nat_lt old.levels k || b) (list_any-append (λ i. f i == j) ws rest ∙ ap (λ b. b || list_any (λ i. f i == j) rest) first ∙ sym (list_any-append (λ i. f i == j) vs rest))

  -- and the same takes a fresh block
  fresh_one : (old new : Shape) (ws vs : List ℕ) (p q : ℕ → ℕ → Bool) (k j : ℕ) → ((i : ℕ) → is_in ws i ≡ is_in vs i) → (HasPosition blocksize old k j → p k j ≡ q k j)
      → is_fresh blocksize old new ws p k j ≡ is_fresh blocksize old new vs q k j
  fresh_one old new ws vs p q k j same private = go (has_position blocksize old k j) refl
    where
      go : (b : Bool) → has_position blocksize old k j ≡ b → (not b || (is_touched blocksize old new ws k j && not (p k j))) ≡ (not b || (is_touched blocksize old new vs k j && not (q k j)))
      go true is = λ i. touched_alike old new ws vs k j same i && not (private is i)
      go false is = refl

  -- whatever the shapes are called
  pub fresh_alike : (old new was is : Shape) (ws vs : List ℕ) (p q : ℕ → ℕ → Bool) (k j : ℕ) → old ≡ was → new ≡ is → ((i : ℕ) → is_in ws i ≡ is_in vs i) → (HasPosition blocksize old k j → p k j ≡ q k j)
      → is_fresh blocksize old new ws p k j ≡ is_fresh blocksize was is vs q k j
  fresh_alike old new was is ws vs p q k j before after same private = fresh_one old new ws vs p q k j same private ∙ (λ i. is_fresh blocksize (before i) (after i) vs q k j)

  -- so as many are needed
  pub need_alike : (old new was is : Shape) (ws vs : List ℕ) (p q : ℕ → ℕ → Bool) → old ≡ was → new ≡ is → ((i : ℕ) → is_in ws i ≡ is_in vs i) → ((k j : ℕ) → HasPosition blocksize old k j → p k j ≡ q k j)
      → need_of blocksize old new ws p ≡ need_of blocksize was is vs q
  unfolding need_of
  need_alike old new was is ws vs p q before after same private =
      λ i. sum_by (λ k. length (filter (λ j. fresh_alike old new was is ws vs p q k j before after same (private k j) i) (at_level blocksize (after i) k))) (range_with_len 0 ((after i).levels + 1))

  -- ---- a node that stays

  -- nothing is touched where no leaf is written
  none_touched : (s : Shape) {k j : ℕ} → IsTouched blocksize s s [] k j → ⊥
  none_touched s (written_leaf h w) = cc
  none_touched s (new_position h n) = n h
  none_touched s (lost_child c h e was gone) = gone was
  none_touched s (touched_child c h e t) = none_touched s t

  -- so no position takes a fresh block
  pub none_fresh : (s : Shape) (p : ℕ → ℕ → Bool) (k j : ℕ) → HasPosition blocksize s k j → is_fresh blocksize s s [] p k j ≡ false
  none_fresh s p k j has =
      let still : is_touched blocksize s s [] k j ≡ false = not_so (is_touched blocksize s s [] k j) (λ t. none_touched s ((test_is_least blocksize s s [] (λ i w. absurd (cc)) k j has).1 t)) in
      λ i. not (has i) || (still i && not (p k j))

  -- ---- a node of nothing

  -- the shape of nothing has no position, whatever its levels
  pub no_position : (s : Shape) (k j : ℕ) → s.present ≡ [] → HasPosition blocksize s k j → ⊥
  no_position s k j none has =
      let l : (k ≤ s.levels) × ((i : ℕ) × (is_in s.present i ≡ true) × (index_above blocksize k i ≡ j)) = leaf_below blocksize s k j has in
      let there : is_in [] l.1.0 ≡ true = subst (λ xs. is_in xs l.1.0 ≡ true) none l.1.1 in
      cc
