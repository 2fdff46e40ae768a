-- What a change makes of a leaf.
use Rattle.std.proofs.Common.{◌≡◌, ℕ, zero, suc, ◌+◌, ◌<◌, ◌≤◌, inl, inr, List, ◌++◌, refl, sym, ◌∙◌, ap, arith}
use Rattle.std.specs.Prelude.{Bool, true, false, not, ◌&&◌, ◌||◌, ◌==◌, if◌then◌else◌, nat_eq, nat_le, nat_lt, Option, Some, None}
use Rattle.std.specs.List.{range_with_len}
use Rattle.std.specs.Option.{option_to_list}
use Rattle.std.proofs.lemmas.Bool.{and_from, and_parts, cases_eq, eq-eqb, eqb-true, le-leb, leb-false, leb-true, lt-ltb, ltb-true, or_cases, or_parts}
use Rattle.std.proofs.lemmas.List.Folds.{list_any-append}
use Rattle.qx_geom.proofs.Members.{in_cases, in_tail}
use Rattle.qx_geom.proofs.ImagesAndFilters.{in_head_as}
use Rattle.qx_geom.proofs.PresentLeaves.{present_after_ascends, present_after_members}
use Rattle.qx_geom.proofs.Truths.{not_so, true_or_false, same_truth}
use Rattle.qx_geom.specs.Lists.{IsAscending, is_in}
use Rattle.qx_geom.specs.Pointer.{ceil_div}
use Rattle.qx_geom.specs.Positions.{Shape, has_position, is_named, shape_after}
use Rattle.qx_geom.specs.Touch.{changed_leaves, leaves_without}
use Rattle.qx_ptree.specs.declared.change.Change.{Change}
use Rattle.qx_ptree.specs.declared.change.Fate.TheVariants.{Stays, Written, Goes}
use Rattle.qx_ptree.specs.Alterations.{Alteration}
use Rattle.qx_ptree.specs.Fates.{fate_of, is_gone, is_written, leaves_after, written_by}
use Rattle.qx_ptree.specs.Parts.{fresh_below, has_below, leaf_part, own_need, part_of}
use Rattle.qx_ptree.proofs.OwnPositions.{below-leaf, had-below, in_filter-is}
use Rattle.qx_ptree.proofs.PartsOfBlocks.{fresh-leaf}

-- the shape of a node after a change
abbrev pub new_shape : ℕ → Shape → Change → Shape
new_shape blocksize old c = shape_after blocksize old c.size (written_by c) c.gone

-- what a change makes of a node of this shape
abbrev pub altered : ℕ → Shape → Change → (ℕ → ℕ → Bool) → Alteration
altered blocksize old c private = record { blocksize = blocksize; old = old; new = new_shape blocksize old c; written = written_by c; private = private }

-- ---- written leaves

-- the numbers of a list of neighbours
in_range-is : (a n i : ℕ) → is_in (range_with_len a n) i ≡ (nat_le a i && nat_lt i (a + n))
in_range-is a n i = same_truth (is_in (range_with_len a n) i) (nat_le a i && nat_lt i (a + n)) (λ h. let r = to a n h in and_from (nat_le a i) (nat_lt i (a + n)) (le-leb a i r.0) (lt-ltb i (a + n) r.1))
    (λ h. let r = and_parts (nat_le a i) (nat_lt i (a + n)) h in from a n (leb-true a i r.0) (ltb-true i (a + n) r.1))
  where
    to : (a n : ℕ) → is_in (range_with_len a n) i ≡ true → (a ≤ i) × (i < a + n)
    to a zero h = absurd (cc)
    to a (suc n) h = elim (in_cases a i (range_with_len (a + 1) n) h) [ inl is ↦ (omega arith, omega arith) | inr there ↦ let r : (a + 1 ≤ i) × (i < a + 1 + n) = to (a + 1) n there in (omega arith, omega arith) ]

    from : (a n : ℕ) → a ≤ i → i < a + n → is_in (range_with_len a n) i ≡ true
    from a zero low high = absurd (omega arith)
    from a (suc n) low high = elim (cases_eq a i) [ inl is ↦ in_head_as a i (range_with_len (a + 1) n) is | inr apart ↦ in_tail a i (range_with_len (a + 1) n) (from (a + 1) n (omega arith) (omega arith)) ]

-- the leaf that is named, as a list
in_named-is : (o : Option ℕ) (i : ℕ) → is_in (option_to_list o) i ≡ is_named o i
in_named-is None i = refl
in_named-is (Some y) i = same_truth (nat_eq y i || false) (i == y)
    (λ h. elim (or_cases (nat_eq y i) false h) [ inl e ↦ eq-eqb i y (sym (eqb-true y i e)) | inr no_way ↦ absurd (cc) ])
    (λ h. ap (λ b. b || false) (eq-eqb y i (sym (eqb-true i y h))))

-- the leaves that a change writes
pub in_written-is : (c : Change) (i : ℕ) → is_in (written_by c) i ≡ is_written c i
in_written-is c i = list_any-append (λ y. nat_eq y i) (range_with_len c.first c.count) (option_to_list c.also) ∙ (λ t. in_range-is c.first c.count i t || in_named-is c.also i t)

-- ---- present leaves

-- the number is named
pub named-is : (o : Option ℕ) (i : ℕ) → is_named o i ≡ true → o ≡ Some i
named-is None i h = absurd (cc)
named-is (Some y) i h = ap Some (sym (eqb-true i y h))

-- and where it isn't
unnamed-is : (o : Option ℕ) (i : ℕ) → is_named o i ≡ false → o ≡ Some i → ⊥
unnamed-is None i h is = absurd (cc)
unnamed-is (Some y) i h is = let e : y ≡ i = cc in true_or_false (i == y) (eq-eqb i y (sym e)) h

-- the present leaves ascend
pub new-ascends : (blocksize : ℕ) (old : Shape) (c : Change) → IsAscending old.present → IsAscending (new_shape blocksize old c).present
new-ascends blocksize old c up = present_after_ascends old.present (ceil_div c.size blocksize) (written_by c) c.gone up

module _ (blocksize : ℕ) (old : Shape) (c : Change) (i : ℕ) where
  -- a written leaf is present afterwards
  pub written-present : is_written c i ≡ true → is_in (new_shape blocksize old c).present i ≡ true
  written-present w = (present_after_members old.present (ceil_div c.size blocksize) (written_by c) c.gone i).1 (inl (in_written-is c i ∙ w))

  -- one that goes isn't
  pub gone-absent : is_written c i ≡ false → is_gone (leaves_after blocksize c) c i ≡ true → is_in (new_shape blocksize old c).present i ≡ false
  gone-absent w g = not_so (is_in (new_shape blocksize old c).present i) (λ h. elim ((present_after_members old.present (ceil_div c.size blocksize) (written_by c) c.gone i).0 h) [
    | inl there ↦ true_or_false (is_written c i) (sym (in_written-is c i) ∙ there) w
    | inr kept ↦ elim (or_cases (nat_le (leaves_after blocksize c) i) (is_named c.gone i) g) [
      | inl past ↦ let le = leb-true (leaves_after blocksize c) i past in let lt : i < leaves_after blocksize c = kept.1 in absurd (omega arith)
      | inr named ↦ kept.2 (named-is c.gone i named)
    ]
  ])

  -- any other is where it was
  pub stays-present : is_written c i ≡ false → is_gone (leaves_after blocksize c) c i ≡ false → is_in (new_shape blocksize old c).present i ≡ is_in old.present i
  stays-present w g =
      let apart = or_parts (nat_le (leaves_after blocksize c) i) (is_named c.gone i) g in
      same_truth (is_in (new_shape blocksize old c).present i) (is_in old.present i)
      (λ h. elim ((present_after_members old.present (ceil_div c.size blocksize) (written_by c) c.gone i).0 h) [ inl there ↦ absurd (true_or_false (is_written c i) (sym (in_written-is c i) ∙ there) w) | inr kept ↦ kept.0 ])
      (λ h. (present_after_members old.present (ceil_div c.size blocksize) (written_by c) c.gone i).1 (inr (h, leb-false (leaves_after blocksize c) i apart.0, unnamed-is c.gone i apart.1)))

-- ---- the part of a leaf

-- whether a leaf changed, by whether it is written, is present before and is present afterwards
abbrev changes : Bool → Bool → Bool → Bool
changes w h r = w || ((r && not h) || (h && not r))

-- whether a leaf changed
pub in_changed-is : (old new : Shape) (written : List ℕ) (i : ℕ) → is_in (changed_leaves old new written) i ≡ changes (is_in written i) (is_in old.present i) (is_in new.present i)
in_changed-is old new written i =
    list_any-append (λ y. nat_eq y i) written (leaves_without new old ++ leaves_without old new)
    ∙ ap (λ b. is_in written i || b) (list_any-append (λ y. nat_eq y i) (leaves_without new old) (leaves_without old new)
    ∙ (λ t. in_filter-is (λ x. not (is_in old.present x)) new.present i t || in_filter-is (λ x. not (is_in new.present x)) old.present i t))

-- the part of a leaf by its fate, case by case
by_fate : (w g h r p : Bool) → (w ≡ true → r ≡ true) → (w ≡ false → g ≡ true → r ≡ false) → (w ≡ false → g ≡ false → r ≡ h)
    → (record { need = own_need h p (changes w h r) r; changed = changes w h r; present = r }) ≡ leaf_part (if w then Written else if g then Goes else Stays) h p
by_fate true g h true p there gone stays = refl
by_fate true g h false p there gone stays = let e : false ≡ true = there refl in absurd (cc)
by_fate false true h true p there gone stays = let e : true ≡ false = gone refl refl in absurd (cc)
by_fate false true true false p there gone stays = refl
by_fate false true false false p there gone stays = refl
by_fate false false true true p there gone stays = refl
by_fate false false true false p there gone stays = let e : false ≡ true = stays refl refl in absurd (cc)
by_fate false false false true p there gone stays = let e : true ≡ false = stays refl refl in absurd (cc)
by_fate false false false false p there gone stays = refl

-- the part of a leaf is what its fate says
pub part-leaf : (blocksize : ℕ) (old : Shape) (c : Change) (private : ℕ → ℕ → Bool) (i : ℕ) → IsAscending old.present
    → part_of (altered blocksize old c private) 0 i ≡ leaf_part (fate_of (leaves_after blocksize c) c i) (is_in old.present i) (private 0 i)
part-leaf blocksize old c private i up =
    (λ t. record { need = fresh t; changed = has_below blocksize (changed_leaves old (new_shape blocksize old c) (written_by c)) 0 i; present = has_below blocksize (new_shape blocksize old c).present 0 i })
    ∙ (λ t. record { need = own_need (had t) (private 0 i) (changed t) (below-leaf blocksize (new_shape blocksize old c).present i t); changed = changed t; present = below-leaf blocksize (new_shape blocksize old c).present i t })
    ∙ by_fate (is_written c i) (is_gone (leaves_after blocksize c) c i) (is_in old.present i) (is_in (new_shape blocksize old c).present i) (private 0 i) (written-present blocksize old c i) (gone-absent blocksize old c i) (stays-present blocksize old c i)
  where
    fresh : fresh_below (altered blocksize old c private) 0 i ≡ own_need (has_position blocksize old 0 i) (private 0 i) (has_below blocksize (changed_leaves old (new_shape blocksize old c) (written_by c)) 0 i) (has_below blocksize (new_shape blocksize old c).present 0 i)
    fresh = fresh-leaf (altered blocksize old c private) i (new-ascends blocksize old c up)

    had : has_position blocksize old 0 i ≡ is_in old.present i
    had = had-below blocksize old 0 i (omega arith) ∙ below-leaf blocksize old.present i

    changed : has_below blocksize (changed_leaves old (new_shape blocksize old c) (written_by c)) 0 i ≡ changes (is_written c i) (is_in old.present i) (is_in (new_shape blocksize old c).present i)
    changed = below-leaf blocksize (changed_leaves old (new_shape blocksize old c) (written_by c)) i ∙ in_changed-is old (new_shape blocksize old c) (written_by c) i ∙ ap (λ w. changes w (is_in old.present i) (is_in (new_shape blocksize old c).present i)) (in_written-is c i)
