-- The test of touched positions decides the least set that the rules give.
use Rattle.std.proofs.Common.{◌≡◌, ℕ, zero, suc, ◌<◌, ◌≤◌, ◌/◌, ◌^◌, ◌⊎◌, ◌↔◌, inl, inr, List, [], ◌++◌, refl, sym, ap, ◌∙◌, subst, arith}
use Rattle.std.specs.Prelude.{Bool, true, false, not, ◌&&◌, ◌||◌, ◌==◌, if◌then◌else◌, map, nat_le, nat_lt}
use Rattle.std.specs.List.{list_any}
use Rattle.std.proofs.Math.Nat.{div-div-eq-div-mul, pow-suc, pow-zero, div-one}
use Rattle.std.proofs.lemmas.Bool.{leb-true, leb-false, le-leb, ltb-true, lt-ltb}
use Rattle.qx_geom.proofs.ImagesAndFilters.{any_image, each_once_from, each_once_in, filter_in, image_any, image_in, in_filter, in_image}
use Rattle.qx_geom.proofs.Members.{in_append_cases, in_left, in_right}
use Rattle.qx_geom.proofs.Truths.{and_left, and_right, not_so, not_true, true_or_false}
use Rattle.qx_geom.specs.Lists.{is_in}
use Rattle.qx_geom.specs.Pointer.{per_block}
use Rattle.qx_geom.specs.Positions.{HasPosition, Shape, at_level, each_once, has_position, index_above}
use Rattle.qx_geom.specs.Touch.{IsTouched, changed_leaves, fresh_at, is_fresh, is_touched, leaves_without, lost_child, new_position, touched_child, written_leaf}

-- ---- positions by leaves

-- the index a level higher
pub above_next : (blocksize k i : ℕ) → index_above blocksize k i / per_block blocksize ≡ index_above blocksize (suc k) i
above_next blocksize k i = div-div-eq-div-mul i (per_block blocksize ^ k) (per_block blocksize) ∙ ap (λ (n : ℕ). i / n) (sym (pow-suc (per_block blocksize) k))

-- a leaf is its own index at level 0
pub above_leaf : (blocksize i : ℕ) → index_above blocksize 0 i ≡ i
above_leaf blocksize i = ap (λ (n : ℕ). i / n) (pow-zero (per_block blocksize)) ∙ div-one i

-- a position has a present leaf below it
pub leaf_below : (blocksize : ℕ) (s : Shape) (k j : ℕ) → HasPosition blocksize s k j → (k ≤ s.levels) × ((i : ℕ) × (is_in s.present i ≡ true) × (index_above blocksize k i ≡ j))
leaf_below blocksize s k j h = go (nat_le k s.levels) refl h
  where
    go : (b : Bool) → nat_le k s.levels ≡ b → is_in (if b then each_once (map (index_above blocksize k) s.present) else []) j ≡ true → (k ≤ s.levels) × ((i : ℕ) × (is_in s.present i ≡ true) × (index_above blocksize k i ≡ j))
    go true e h = (leb-true k s.levels e, image_in (index_above blocksize k) s.present j (each_once_from (map (index_above blocksize k) s.present) j h))
    go false e h = absurd (cc)

-- a present leaf has a position above it at each level
pub has_above : (blocksize : ℕ) (s : Shape) (k i : ℕ) → k ≤ s.levels → is_in s.present i ≡ true → HasPosition blocksize s k (index_above blocksize k i)
has_above blocksize s k i le m =
    subst (λ b. is_in (if b then each_once (map (index_above blocksize k) s.present) else []) (index_above blocksize k i) ≡ true) (sym (le-leb k s.levels le))
    (each_once_in (map (index_above blocksize k) s.present) (index_above blocksize k i) (in_image (index_above blocksize k) s.present i m))

-- a position of level 0 is a present leaf
leaf_present : (blocksize : ℕ) (s : Shape) (i : ℕ) → HasPosition blocksize s 0 (index_above blocksize 0 i) → is_in s.present i ≡ true
leaf_present blocksize s i h =
    let l : (0 ≤ s.levels) × ((x : ℕ) × (is_in s.present x ≡ true) × (index_above blocksize 0 x ≡ index_above blocksize 0 i)) = leaf_below blocksize s 0 (index_above blocksize 0 i) h in
    subst (λ x. is_in s.present x ≡ true) (sym (above_leaf blocksize l.1.0) ∙ l.1.2 ∙ above_leaf blocksize i) l.1.1

module _ (blocksize : ℕ) (old new : Shape) (written : List ℕ) where
  -- the level is new, or a leaf below changed
  IsChanged : ℕ → ℕ → Type 0
  IsChanged k j = (old.levels < k) ⊎ ((i : ℕ) × (is_in (changed_leaves old new written) i ≡ true) × (index_above blocksize k i ≡ j))

  -- a leaf of one shape that another lacks
  lacks : (first second : Shape) (i : ℕ) → is_in first.present i ≡ true → (is_in second.present i ≡ true → ⊥) → is_in (leaves_without first second) i ≡ true
  lacks first second i m n = in_filter (λ i. not (is_in second.present i)) first.present i m (ap not (not_so (is_in second.present i) n))

  -- a leaf that came is changed
  came : (i : ℕ) → is_in new.present i ≡ true → (is_in old.present i ≡ true → ⊥) → is_in (changed_leaves old new written) i ≡ true
  came i m n = in_right written (leaves_without new old ++ leaves_without old new) i (in_left (leaves_without new old) (leaves_without old new) i (lacks new old i m n))

  -- a leaf that went is changed
  went : (i : ℕ) → is_in old.present i ≡ true → (is_in new.present i ≡ true → ⊥) → is_in (changed_leaves old new written) i ≡ true
  went i m n = in_right written (leaves_without new old ++ leaves_without old new) i (in_right (leaves_without new old) (leaves_without old new) i (lacks old new i m n))

  -- ---- the least set lies within the test

  -- above a position that the old node lacks
  at_new : (k j i : ℕ) → is_in new.present i ≡ true → index_above blocksize k i ≡ j → ¬ (HasPosition blocksize old k j) → IsChanged k j
  unfolding IsChanged
  at_new k j i m e n =
      elim (nat_le k old.levels) as (λ b. nat_le k old.levels ≡ b → IsChanged k j) [
        | true ↦ λ le. inr (i, came i m (λ o. n (subst (λ x. HasPosition blocksize old k x) e (has_above blocksize old k i (leb-true k old.levels le) o))), e)
        | false ↦ λ gt. inl (leb-false k old.levels gt)
      ] refl

  -- what is touched has a new level, or a changed leaf below it
  changed_from : {k j : ℕ} → IsTouched blocksize old new written k j → IsChanged k j
  unfolding IsChanged
  changed_from (written_leaf {i} h w) = inr (i, in_left written (leaves_without new old ++ leaves_without old new) i w, above_leaf blocksize i)
  changed_from (new_position {k} {j} h n) = let l = leaf_below blocksize new k j h in at_new k j l.1.0 l.1.1 l.1.2 n
  changed_from (lost_child {k} {j} c h e ho hn) =
      let l = leaf_below blocksize old k c ho in
      let top : suc k ≤ new.levels = (leaf_below blocksize new (suc k) j h).0 in
      inr (
        l.1.0,
        went l.1.0 l.1.1 (λ m. hn (subst (λ x. HasPosition blocksize new k x) l.1.2 (has_above blocksize new k l.1.0 (omega arith) m))),
        sym (above_next blocksize k l.1.0) ∙ ap (λ (x : ℕ). x / per_block blocksize) l.1.2 ∙ e,
      )
  changed_from (touched_child {k} {j} c h e t) =
      elim (changed_from t) as (λ _. IsChanged (suc k) j) [
        | inl lt ↦ inl (omega arith)
        | inr l ↦ inr (l.0, l.1, sym (above_next blocksize k l.0) ∙ ap (λ (x : ℕ). x / per_block blocksize) l.2 ∙ e)
      ]

  -- ---- and the test within the least set

  -- above a touched leaf all is touched
  climbs : (i : ℕ) → is_in new.present i ≡ true → IsTouched blocksize old new written 0 i → (k : ℕ) → k ≤ new.levels → IsTouched blocksize old new written k (index_above blocksize k i)
  climbs i m t zero le = subst (IsTouched blocksize old new written 0) (sym (above_leaf blocksize i)) t
  climbs i m t (suc k) le = touched_child (index_above blocksize k i) (has_above blocksize new (suc k) i le m) (above_next blocksize k i) (climbs i m t k (omega arith))

  -- above a leaf that went, what is left is touched
  climbs_from_lost : (i : ℕ) → is_in old.present i ≡ true → (is_in new.present i ≡ true → ⊥) → (k : ℕ) → HasPosition blocksize new k (index_above blocksize k i) → IsTouched blocksize old new written k (index_above blocksize k i)
  climbs_from_lost i m n zero h = absurd (n (leaf_present blocksize new i h))
  climbs_from_lost i m n (suc k) h =
      elim (has_position blocksize new k (index_above blocksize k i)) as (λ b. has_position blocksize new k (index_above blocksize k i) ≡ b → IsTouched blocksize old new written (suc k) (index_above blocksize (suc k) i)) [
        | true ↦ λ there_is. touched_child (index_above blocksize k i) h (above_next blocksize k i) (climbs_from_lost i m n k there_is)
        | false ↦ λ none. elim (nat_le k old.levels) as (λ b. nat_le k old.levels ≡ b → IsTouched blocksize old new written (suc k) (index_above blocksize (suc k) i)) [
          | true ↦ λ le. lost_child (index_above blocksize k i) h (above_next blocksize k i) (has_above blocksize old k i (leb-true k old.levels le) m) (λ is. true_or_false (has_position blocksize new k (index_above blocksize k i)) is none)
          | false ↦ λ gt. new_position h (λ o. let within : suc k ≤ old.levels = (leaf_below blocksize old (suc k) (index_above blocksize (suc k) i) o).0 in let beyond = leb-false k old.levels gt in absurd (omega arith))
        ] refl
      ] refl

  -- a position with a new level, or with a changed leaf below it, is touched
  touched_from : ((i : ℕ) → is_in written i ≡ true → is_in new.present i ≡ true) → (k j : ℕ) → HasPosition blocksize new k j → IsChanged k j → IsTouched blocksize old new written k j
  unfolding IsChanged
  touched_from into k j h (inl lt) = new_position h (λ o. let within : k ≤ old.levels = (leaf_below blocksize old k j o).0 in absurd (omega arith))
  touched_from into k j h (inr (i, m, e)) =
      subst (IsTouched blocksize old new written k) e (by_part (in_append_cases written (leaves_without new old ++ leaves_without old new) i m))
    where
      le : k ≤ new.levels
      le = (leaf_below blocksize new k j h).0

      at_leaf : is_in new.present i ≡ true → HasPosition blocksize new 0 i
      at_leaf p = subst (λ x. HasPosition blocksize new 0 x) (above_leaf blocksize i) (has_above blocksize new 0 i (omega arith) p)

      by_part : (is_in written i ≡ true) ⊎ (is_in (leaves_without new old ++ leaves_without old new) i ≡ true) → IsTouched blocksize old new written k (index_above blocksize k i)
      by_part (inl w) = let p = into i w in climbs i p (written_leaf (at_leaf p) w) k le
      by_part (inr r) = elim (in_append_cases (leaves_without new old) (leaves_without old new) i r) as (λ _. IsTouched blocksize old new written k (index_above blocksize k i)) [
        | inl a ↦ let p = filter_in (λ i. not (is_in old.present i)) new.present i a in
            climbs i p.0 (new_position (at_leaf p.0) (λ o. true_or_false (is_in old.present i) (leaf_present blocksize old i (subst (λ x. HasPosition blocksize old 0 x) (sym (above_leaf blocksize i)) o)) (not_true (is_in old.present i) p.1))) k le
        | inr b ↦ let p = filter_in (λ i. not (is_in new.present i)) old.present i b in
            climbs_from_lost i p.0 (λ is. true_or_false (is_in new.present i) is (not_true (is_in new.present i) p.1)) k (subst (λ x. HasPosition blocksize new k x) (sym e) h)
      ]

  -- ---- the test

  -- the test holds where the level is new, or a leaf below changed
  test_from : (k j : ℕ) → IsChanged k j → is_touched blocksize old new written k j ≡ true
  unfolding IsChanged
  test_from k j (inl lt) = ap (λ b. b || list_any (λ i. index_above blocksize k i == j) (changed_leaves old new written)) (lt-ltb old.levels k lt)
  test_from k j (inr (i, m, e)) = go (nat_lt old.levels k) (any_image (index_above blocksize k) j (changed_leaves old new written) i m e)
    where
      go : (b : Bool) → list_any (λ i. index_above blocksize k i == j) (changed_leaves old new written) ≡ true → (b || list_any (λ i. index_above blocksize k i == j) (changed_leaves old new written)) ≡ true
      go true t = refl
      go false t = t

  -- and only there
  test_to : (k j : ℕ) → is_touched blocksize old new written k j ≡ true → IsChanged k j
  unfolding IsChanged
  test_to k j h = go (nat_lt old.levels k) refl h
    where
      go : (b : Bool) → nat_lt old.levels k ≡ b → (b || list_any (λ i. index_above blocksize k i == j) (changed_leaves old new written)) ≡ true → IsChanged k j
      go true e h = inl (ltb-true old.levels k e)
      go false e h = inr (image_any (index_above blocksize k) j (changed_leaves old new written) h)

  -- the test decides the least set, where the written leaves are present afterwards
  pub test_is_least : ((i : ℕ) → is_in written i ≡ true → is_in new.present i ≡ true) → (k j : ℕ) → HasPosition blocksize new k j → IsTouched blocksize old new written k j ↔ (is_touched blocksize old new written k j ≡ true)
  test_is_least into k j h = ((λ t. test_from k j (changed_from t)), (λ e. touched_from into k j h (test_to k j e)))

  -- what is touched is a position of the new node
  touched_has : {k j : ℕ} → IsTouched blocksize old new written k j → HasPosition blocksize new k j
  touched_has (written_leaf h w) = h
  touched_has (new_position h n) = h
  touched_has (lost_child c h e o n) = h
  touched_has (touched_child c h e t) = h

  -- a fresh position is touched, and new or not private; and the other way round
  pub fresh_is_touched : (private : ℕ → ℕ → Bool) → ((i : ℕ) → is_in written i ≡ true → is_in new.present i ≡ true) → (k j : ℕ)
      → (is_in (fresh_at blocksize old new written private k) j ≡ true) ↔ (IsTouched blocksize old new written k j × (¬ (HasPosition blocksize old k j) ⊎ (private k j ≡ false)))
  fresh_is_touched private into k j = (to, from)
    where
      to : is_in (fresh_at blocksize old new written private k) j ≡ true → IsTouched blocksize old new written k j × (¬ (HasPosition blocksize old k j) ⊎ (private k j ≡ false))
      to h =
          let r : (HasPosition blocksize new k j) × (is_fresh blocksize old new written private k j ≡ true) = filter_in (is_fresh blocksize old new written private k) (at_level blocksize new k) j h in
          go r.0 (has_position blocksize old k j) refl r.1
        where
          go : HasPosition blocksize new k j → (b : Bool) → has_position blocksize old k j ≡ b → (not b || (is_touched blocksize old new written k j && not (private k j))) ≡ true → IsTouched blocksize old new written k j × (¬ (HasPosition blocksize old k j) ⊎ (private k j ≡ false))
          go h false e t = let none : ¬ (HasPosition blocksize old k j) = λ o. true_or_false (has_position blocksize old k j) o e in (new_position h none, inl none)
          go h true e t = ((test_is_least into k j h).1 (and_left (is_touched blocksize old new written k j) (not (private k j)) t), inr (not_true (private k j) (and_right (is_touched blocksize old new written k j) (not (private k j)) t)))

      from : IsTouched blocksize old new written k j × (¬ (HasPosition blocksize old k j) ⊎ (private k j ≡ false)) → is_in (fresh_at blocksize old new written private k) j ≡ true
      from p = in_filter (is_fresh blocksize old new written private k) (at_level blocksize new k) j (touched_has p.0) (go (has_position blocksize old k j) refl p.1 ((test_is_least into k j (touched_has p.0)).0 p.0))
        where
          go : (b : Bool) → has_position blocksize old k j ≡ b → ¬ (HasPosition blocksize old k j) ⊎ (private k j ≡ false) → is_touched blocksize old new written k j ≡ true → (not b || (is_touched blocksize old new written k j && not (private k j))) ≡ true
          go false e q t = refl
          go true e (inl none) t = absurd (none e)
          go true e (inr shared) t = λ z. t z && not (shared z)
