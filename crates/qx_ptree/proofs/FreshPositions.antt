-- Each block that a change took stands at a position that takes one, since there are as many positions as blocks.
use Rattle.std.proofs.Common.{◌≡◌, ℕ, zero, suc, ◌+◌, ◌<◌, inl, inr, List, [], ◌∷◌, length, refl, sym, ◌∙◌, ap, subst, arith, length-append}
use Rattle.std.specs.Prelude.{true, false, not, ◌&&◌, Contains, map, nat_eq}
use Rattle.std.specs.List.{AllByRecursion, IsDistinct, list_any}
use Rattle.std.specs.Set.{is_member}
use Rattle.std.proofs.lemmas.Cmp.{nat_eq_equiv}
use Rattle.std.proofs.lemmas.List.{length-map}
use Rattle.std.proofs.lemmas.Map.Made.{length-le_from_is_member}
use Rattle.qx_geom.specs.Lists.{Distinct, IsAscending, all_differ, is_in, parts_below}
use Rattle.qx_geom.specs.Positions.{at_level, has_position}
use Rattle.qx_geom.specs.Touch.{is_fresh, need_of}
use Rattle.qx_geom.proofs.AscendingLists.{ascending_distinct, level_ascends}
use Rattle.qx_geom.proofs.DistinctElements.{Distinct-map, Distinct-parts, numbers_differ}
use Rattle.qx_geom.proofs.ImagesAndFilters.{Contains-image, Contains-in, filter_in, in_Contains}
use Rattle.qx_geom.proofs.Members.{in_cases, parts-Contains}
use Rattle.qx_geom.proofs.PresentLeaves.{filter_ascends}
use Rattle.qx_geom.proofs.Truths.{and_left, and_right, not_true, or_left, or_right}
use Rattle.qx_ptree.specs.Altered.{takes_fresh}
use Rattle.qx_ptree.specs.Alterations.{Alteration, fresh_count}
use Rattle.qx_ptree.specs.Parts.{fresh_positions}
use Rattle.qx_ptree.proofs.SumsBelow.{sum_by-below, sum_up_to, sum_up_to-alike}

-- ---- words on lists

-- numbers that differ, in std's words
as_keys : (xs : List ℕ) → all_differ xs ≡ true → IsDistinct nat_eq xs
unfolding IsDistinct
as_keys [] differ = tt
as_keys (x ∷ xs) differ = (others xs (not_true (is_in xs x) (and_left (not (is_in xs x)) (all_differ xs) differ)), as_keys xs (and_right (not (is_in xs x)) (all_differ xs) differ))
  where
    others : (ys : List ℕ) → is_in ys x ≡ false → AllByRecursion (λ y. nat_eq x y ≡ false) ys
    others [] none = tt
    others (y ∷ ys) none = (nat_eq_equiv.symm x y ∙ or_left (nat_eq y x) (is_in ys x) none, others ys (or_right (nat_eq y x) (is_in ys x) none))

-- so is a member
as_member : (xs : List ℕ) (q : ℕ) → is_member nat_eq xs q ≡ is_in xs q
as_member xs q = λ i. list_any (λ y. nat_eq_equiv.symm q y i) xs

-- numbers that differ and are others, but for one of these, are fewer
fewer : (xs ys : List ℕ) (b : ℕ) → all_differ xs ≡ true → ((q : ℕ) → is_in xs q ≡ true → is_in ys q ≡ true) → is_in ys b ≡ true → is_in xs b ≡ false → length xs < length ys
fewer xs ys b differ within there out =
    length-le_from_is_member nat_eq_equiv (b ∷ xs) ys (as_keys (b ∷ xs) (λ i. not (out i) && differ i))
    (λ q h. as_member ys q ∙ elim (in_cases b q xs (sym (as_member (b ∷ xs) q) ∙ h)) [ inl is ↦ ap (is_in ys) (sym is) ∙ there | inr later ↦ within q later ])

-- parts end to end are as long as they are together
length_parts : {A : Type 0} (n : ℕ) (f : ℕ → List A) → length (parts_below n f) ≡ sum_up_to n (λ k. length (f k))
unfolding sum_up_to
length_parts zero f = refl
length_parts (suc n) f = length-append (parts_below n f) (f n) ∙ ap (λ k. k + length (f n)) (length_parts n f)

-- ---- the positions

-- a position
record Place : Type 0 where
  pub level : ℕ
  pub index : ℕ

module _ (a : Alteration) (pointer : ℕ → ℕ → ℕ) (fresh : List ℕ) (ascends : IsAscending a.new.present) (count : length fresh ≡ fresh_count a)
    (within : (k j : ℕ) → has_position a.blocksize a.new k j ≡ true → takes_fresh a k j ≡ true → is_in fresh (pointer k j) ≡ true)
    (apart : (k j h i : ℕ) → has_position a.blocksize a.new k j ≡ true → has_position a.blocksize a.new h i ≡ true → pointer k j ≡ pointer h i → (k ≡ h) × (j ≡ i)) where
  -- those of a level that take a fresh block
  abbrev places_at : ℕ → List Place
  places_at k = map (λ j. record { level = k; index = j }) (fresh_positions a k)

  -- and of all levels
  abbrev places : List Place
  places = parts_below (a.new.levels + 1) places_at

  -- each is one
  place_is : (p : Place) → Contains places p → (has_position a.blocksize a.new p.level p.index ≡ true) × (takes_fresh a p.level p.index ≡ true)
  place_is p c =
      let from : (k : ℕ) × (k < a.new.levels + 1) × Contains (places_at k) p = parts-Contains (a.new.levels + 1) places_at p c in
      let at : (j : ℕ) × Contains (fresh_positions a from.0) j × (record { level = from.0; index = j } ≡ p) = Contains-image (λ j. record { level = from.0; index = j }) (fresh_positions a from.0) p from.2 in
      subst (λ (x : Place). (has_position a.blocksize a.new x.level x.index ≡ true) × (takes_fresh a x.level x.index ≡ true)) at.2
      (filter_in (is_fresh a.blocksize a.old a.new a.written a.private from.0) (at_level a.blocksize a.new from.0) at.0 (in_Contains (fresh_positions a from.0) at.0 at.1))

  -- a place of a level has that level
  level_is : (k : ℕ) (p : Place) → Contains (places_at k) p → k ≡ p.level
  level_is k p c =
      let at : (j : ℕ) × Contains (fresh_positions a k) j × (record { level = k; index = j } ≡ p) = Contains-image (λ j. record { level = k; index = j }) (fresh_positions a k) p c in
      ap (λ (x : Place). x.level) at.2

  -- none stands there twice
  once : Distinct places
  once = Distinct-parts (a.new.levels + 1) places_at
      (λ k low. Distinct-map (λ j. record { level = k; index = j }) (fresh_positions a k) (λ x y e. ap (λ (p : Place). p.index) e)
      (ascending_distinct (fresh_positions a k) (filter_ascends (is_fresh a.blocksize a.old a.new a.written a.private k) (at_level a.blocksize a.new k) (level_ascends a.blocksize k a.new ascends))))
      (λ k j p low too c d. level_is k p c ∙ sym (level_is j p d))

  -- their blocks
  abbrev blocks : List ℕ
  blocks = map (λ (p : Place). pointer p.level p.index) places

  -- differ
  blocks_differ : all_differ blocks ≡ true
  blocks_differ = numbers_differ (λ (p : Place). pointer p.level p.index) places once (λ p q c d same.
      let at : (p.level ≡ q.level) × (p.index ≡ q.index) = apart p.level p.index q.level q.index (place_is p c).0 (place_is q d).0 same in
      λ i. record { level = at.0 i; index = at.1 i })

  -- and are as many as were taken
  as_many : length blocks ≡ length fresh
  unfolding need_of
  as_many =
      length-map places (λ (p : Place). pointer p.level p.index) ∙ length_parts (a.new.levels + 1) places_at
      ∙ sum_up_to-alike (a.new.levels + 1) (λ k. length (places_at k)) (λ k. length (fresh_positions a k)) (λ k low. length-map (fresh_positions a k) (λ j. record { level = k; index = j }))
      ∙ sym (sum_by-below (λ k. length (fresh_positions a k)) (a.new.levels + 1)) ∙ sym count

  -- so each block that was taken stands at one
  pub each_stands : (b : ℕ) → is_in fresh b ≡ true → (k : ℕ) × (j : ℕ) × (has_position a.blocksize a.new k j ≡ true) × (takes_fresh a k j ≡ true) × (pointer k j ≡ b)
  each_stands b there =
      elim (is_in blocks b) as (λ t. is_in blocks b ≡ t → (k : ℕ) × (j : ℕ) × (has_position a.blocksize a.new k j ≡ true) × (takes_fresh a k j ≡ true) × (pointer k j ≡ b)) [
        | true ↦ λ e.
            let at : (p : Place) × Contains places p × (pointer p.level p.index ≡ b) = Contains-image (λ (p : Place). pointer p.level p.index) places b (Contains-in blocks b e) in
            (at.0.level, at.0.index, (place_is at.0 at.1).0, (place_is at.0 at.1).1, at.2)
        | false ↦ λ e.
            let less : length blocks < length fresh = fewer blocks fresh b blocks_differ (λ q h.
            let at : (p : Place) × Contains places p × (pointer p.level p.index ≡ q) = Contains-image (λ (p : Place). pointer p.level p.index) places q (Contains-in blocks q h) in
            ap (is_in fresh) (sym at.2) ∙ within at.0.level at.0.index (place_is at.0 at.1).0 (place_is at.0 at.1).1) there e in
            absurd (omega (arith, less, as_many))
      ] refl
