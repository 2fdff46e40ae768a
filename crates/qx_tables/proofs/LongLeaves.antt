-- The leaves of the Longfile by their numbers: the search among them, the long names that they have, and how often each was named.
use Rattle.std.proofs.Common.{◌≡◌, ℕ, zero, suc, ◌+◌, ◌*◌, ◌/◌, ◌%◌, ◌<◌, ◌⊎◌, inl, inr, List, [], ◌∷◌, length, get_or, set, min, refl, sym, ◌∙◌, ap, subst, arith}
use Rattle.std.specs.Prelude.{All, Bool, true, false, not, ◌==◌, nat_lt, cond, if◌then◌else◌, Contains, count_by, filter, map, IfNone, IfSome, Some, None, Result, Ok, Err, slice_get}
use Rattle.std.specs.List.{AllWithin, HoldsAt}
use Rattle.std.specs.Result.{result_ok}
use Rattle.std.specs.List.Sorted.{IsBinarySearchResult, IsNonDecreasingBy, IsPartitionPoint, IsSortedBy}
use Rattle.std.specs.Ordering.{is_lt, nat_cmp, ordering_index}
use Rattle.std.specs.declared.cmp.Ordering.TheVariants.{Less, Equal, Greater}
use Rattle.std.specs.Cmp.{nat_cmp_is}
use Rattle.std.proofs.lemmas.Bool.{cases_eq, cases_lt, cases_order, eq-eqb, lt-ltb, ltb-true, ne_eqb}
use Rattle.std.proofs.lemmas.Cmp.{nat_cmp_total}
use Rattle.std.proofs.lemmas.List.{get_or-map, get_or-set_same, get_or-set_other, length-map, length-set}
use Rattle.std.proofs.Math.Nat.{mul-div_cancel}
use Rattle.std.proofs.Math.Seq.{map-set_same}
use Rattle.std.proofs.lemmas.List.Elements.{All-map, All-same, Contains-get_or}
use Rattle.std.proofs.lemmas.List.Sums.{sum_by-cons}
use Rattle.std.proofs.lemmas.List.Sorted.{searchable_from_sorted}
use Rattle.std.proofs.lemmas.Option.{get_or_from_slice_get, slice_get-get_or, slice_get_past}
use Rattle.qx_geom.proofs.BlockSizes.{BlockSizeBounds, block_size-bounds}
use Rattle.qx_geom.proofs.LevelCounts.{ceil_div-below}
use Rattle.qx_geom.proofs.Members.{Contains-cons, Contains-head}
use Rattle.qx_geom.specs.declared.root.Root.{Root}
use Rattle.qx_geom.specs.Layout.{is_block_size}
use Rattle.qx_geom.specs.Lists.{IsAscending}
use Rattle.qx_geom.proofs.ImagesAndFilters.{Contains-image}
use Rattle.qx_nodes.proofs.ContentLocality.{lies_below, reaches_of}
use Rattle.qx_nodes.specs.BlockMap.{BlockMap}
use Rattle.qx_nodes.specs.Content.{HasSize}
use Rattle.qx_nodes.specs.Leaves.{Block, Hole, leaf_of, leaves_below}
use Rattle.qx_nodes.specs.Visits.{LiesBelow, present_of}
use Rattle.qx_records.specs.NameRecord.{long_name_in}
use Rattle.qx_view.proofs.AlikeLists.{members_map}
use Rattle.qx_nodes.specs.LongNames.{long_name, name_at_leaf}
use Rattle.qx_tables.proofs.LeafLists.{leaf_listed, leaf_unlisted, listed_ascend, listed_below, numbers_of, numbers_present}
use Rattle.qx_tables.specs.declared.long_names.LongLeaf.{LongLeaf}
use Rattle.qx_tables.specs.declared.long_names.LongNames.{LongNames}
use Rattle.qx_pointers.specs.declared.node.LeafPlace.{LeafPlace}
use Rattle.qx_pointers.specs.declared.source.Shape.{Shape}
use Rattle.qx_pointers.specs.Parts.{IsPlaced}
use Rattle.qx_tables.specs.Tables.{AreLeaves, HoldsNames, IsPlaceOf, bad_number, numbers_in, times_named}

-- the number of a leaf
abbrev key : LongLeaf → ℕ
key l = l.place.index

-- how often a number was named
abbrev count_of : List ℕ → ℕ → ℕ
count_of numbers n = count_by (λ k. k == n) numbers

-- ---- the search

-- a number of an ascending list is below those that stand behind it
ascending_at : (xs : List ℕ) (i j : ℕ) → IsAscending xs → i < j → j < length xs → get_or xs i 0 < get_or xs j 0
ascending_at [] i j a lt in_range = absurd (omega (arith, in_range))
ascending_at (x ∷ xs) i zero a lt in_range = absurd (omega (arith, lt))
ascending_at (x ∷ xs) zero (suc j) a lt in_range = a.0 (get_or xs j 0) (Contains-get_or xs j 0 (omega (arith, in_range)))
ascending_at (x ∷ xs) (suc i) (suc j) a lt in_range = ascending_at xs i j a.1 (omega (arith, lt)) (omega (arith, in_range))

-- a greater number isn't less
not_less : (x y : ℕ) → y < x → is_lt (nat_cmp x y) ≡ false
not_less x y h = ap is_lt (sym (nat_cmp_is x y Greater h))

-- leaves whose numbers ascend can be searched by number
pub searchable : (leaves : List LongLeaf) (number : ℕ) → IsAscending (map (λ (l : LongLeaf). l.place.index) leaves) → IsNonDecreasingBy (λ (l : LongLeaf). ordering_index (nat_cmp l.place.index number)) leaves
searchable leaves number a = searchable_from_sorted nat_cmp_total key leaves number sorted
  where
    sorted : IsSortedBy (λ (x : LongLeaf) (y : LongLeaf). is_lt (nat_cmp (key x) (key y))) leaves
    sorted = λ k d from to.
        let low : get_or (map key leaves) k 0 ≡ key (get_or leaves k d) = get_or-map key leaves k d 0 (omega (arith, to)) in
        let high : get_or (map key leaves) (k + 1) 0 ≡ key (get_or leaves (k + 1) d) = get_or-map key leaves (k + 1) d 0 to in
        let up : get_or (map key leaves) k 0 < get_or (map key leaves) (k + 1) 0 = ascending_at (map key leaves) k (k + 1) a (omega arith) (omega (arith, to, length-map leaves key)) in
        not_less (key (get_or leaves (k + 1) d)) (key (get_or leaves k d)) (omega (arith, low, high, up))

-- a number is equal to itself
nat_cmp-same : (n : ℕ) → nat_cmp n n ≡ Equal
nat_cmp-same n = sym (nat_cmp_is n n Equal refl)

-- numbers that compare as equal are equal
equal-is : (x y : ℕ) → nat_cmp x y ≡ Equal → x ≡ y
equal-is x y e = elim (cases_order x y) [
  | inl is ↦ is
  | inr (inl below) ↦ let less : Less ≡ nat_cmp x y = nat_cmp_is x y Less below in absurd (cc)
  | inr (inr above) ↦ let more : Greater ≡ nat_cmp x y = nat_cmp_is x y Greater above in absurd (cc)
]

-- where the search ends between the lesser and the greater numbers, the number is none of them
pub not_among : (leaves : List LongLeaf) (number i : ℕ) → IsPartitionPoint (λ (l : LongLeaf). nat_cmp l.place.index number ≡ Less) (λ (l : LongLeaf). nat_cmp l.place.index number ≡ Greater) leaves i
    → Contains (map (λ (l : LongLeaf). l.place.index) leaves) number → ⊥
not_among leaves number i parts c =
    let r : (l : LongLeaf) × Contains leaves l × (l.place.index ≡ number) = Contains-image (λ (l : LongLeaf). l.place.index) leaves number c in
    let k : ℕ = r.1.0 in
    let is : get_or leaves k r.0 ≡ r.0 = r.1.2 in
    let same : nat_cmp (get_or leaves k r.0).place.index number ≡ Equal = ap (λ (l : LongLeaf). nat_cmp l.place.index number) is ∙ ap (λ n. nat_cmp n number) r.2 ∙ nat_cmp-same number in
    elim (cases_lt k i) [
      | inl below ↦ let less : nat_cmp (get_or leaves k r.0).place.index number ≡ Less = parts.0 k r.0 (omega arith) below in absurd (cc)
      | inr above ↦ let more : nat_cmp (get_or leaves k r.0).place.index number ≡ Greater = parts.1 k r.0 above r.1.1 in absurd (cc)
    ]

-- what a search answers is the place of a leaf with this number
pub search_found : (leaves : List LongLeaf) (number : ℕ) (r : Result ℕ ℕ) → IsBinarySearchResult (λ (l : LongLeaf). nat_cmp l.place.index number) leaves r → IfSome (result_ok r) (HoldsAt (λ (l : LongLeaf). l.place.index ≡ number) leaves)
search_found leaves number (Ok k) h = λ d. equal-is (get_or leaves k d).place.index number (h d)
search_found leaves number (Err k) h = tt

-- or there is none
pub search_none : (leaves : List LongLeaf) (number : ℕ) (r : Result ℕ ℕ) → IsBinarySearchResult (λ (l : LongLeaf). nat_cmp l.place.index number) leaves r → IsAscending (map (λ (l : LongLeaf). l.place.index) leaves)
    → IfNone (result_ok r) (¬ (Contains (map (λ (l : LongLeaf). l.place.index) leaves) number))
search_none leaves number (Ok k) h a = tt
search_none leaves number (Err k) h a = not_among leaves number k (h (searchable leaves number a))

-- ---- the long names

-- the places of the leaves
abbrev places_in : LongNames → List LeafPlace
places_in longs = map (λ (l : LongLeaf). l.place) longs.leaves.items

-- the numbers of the places
numbers-places : (leaves : List LongLeaf) → numbers_of (map (λ (l : LongLeaf). l.place) leaves) ≡ map (λ (l : LongLeaf). l.place.index) leaves
numbers-places [] = refl
numbers-places (l ∷ leaves) = ap (λ (ns : List ℕ). l.place.index ∷ ns) (numbers-places leaves)

-- the numbers that are held are those of the present leaves
pub numbers_held : (m : BlockMap) (longfile : Root) (numbers : List ℕ) (longs : LongNames) → HoldsNames m longfile numbers longs → numbers_in longs ≡ present_of m longfile
numbers_held m longfile numbers longs h = sym (numbers-places longs.leaves.items) ∙ numbers_present m longfile (places_in longs) h.leaves

-- a leaf that is held has its name
pub name_held : (m : BlockMap) (longfile : Root) (numbers : List ℕ) (longs : LongNames) (number : ℕ) (l : LongLeaf) → is_block_size m.size ≡ true → HoldsNames m longfile numbers longs → Contains longs.leaves.items l → l.place.index ≡ number
    → long_name m longfile number ≡ long_name_in m.order (m.bytes l.place.block)
name_held m longfile numbers longs number l sized h c is =
    let bounds : BlockSizeBounds m.size = block_size-bounds m.size sized in
    let there : Contains (places_in longs) l.place = members_map (λ (x : LongLeaf). x.place) longs.leaves.items l c in
    let block : leaf_of m longfile l.place.index ≡ Block l.place.block = leaf_listed m longfile (places_in longs) l.place (omega (arith, bounds.pointers_from)) h.leaves there in
    let low : l.place.index < leaves_below m longfile = listed_below m longfile (places_in longs) l.place h.leaves there in
    let begins : l.place.index * m.size < longfile.size = ceil_div-below longfile.size m.size l.place.index (omega (arith, bounds.size_from)) low in
    ap (λ n. long_name m longfile n) (sym is)
    ∙ ap (λ b. if b then name_at_leaf m (leaf_of m longfile l.place.index) else None) (lt-ltb (l.place.index * m.size) longfile.size begins)
    ∙ ap (name_at_leaf m) block

-- a number that isn't among them has none
pub no_name_held : (m : BlockMap) (longfile : Root) (numbers : List ℕ) (longs : LongNames) (number : ℕ) → is_block_size m.size ≡ true → HoldsNames m longfile numbers longs → (Contains (numbers_in longs) number → ⊥) → long_name m longfile number ≡ None
no_name_held m longfile numbers longs number sized h none = go (nat_lt (number * m.size) longfile.size) refl
  where
    go : (b : Bool) → nat_lt (number * m.size) longfile.size ≡ b → (if b then name_at_leaf m (leaf_of m longfile number) else None) ≡ None
    go true e =
        let bounds : BlockSizeBounds m.size = block_size-bounds m.size sized in
        let size : HasSize m = record { size = omega (arith, bounds.size_from); words = omega (arith, bounds.pointers_from) } in
        let at : LiesBelow m longfile (number * m.size / m.size) = lies_below m longfile (number * m.size) (reaches_of m longfile size h.leaves.fits) (ltb-true (number * m.size) longfile.size e) in
        let below : LiesBelow m longfile number = subst (λ i. LiesBelow m longfile i) (mul-div_cancel number size.size) at in
        let hole : leaf_of m longfile number ≡ Hole = leaf_unlisted m longfile (places_in longs) number h.leaves below (λ c. none (subst (λ (ns : List ℕ). Contains ns number) (numbers-places longs.leaves.items) c)) in
        ap (name_at_leaf m) hole
    go false e = refl

-- ---- how often they were named

-- a leaf that is named once more, and the others
pub named_more : (numbers : List ℕ) (number n : ℕ) → number ≡ n → times_named (number ∷ numbers) n ≡ min 2 (times_named numbers n + 1)
named_more numbers number n is =
    ap (λ c. min 2 c) (sum_by-cons (λ k. cond (k == n) 1 0) number numbers) ∙ ap (λ b. min 2 (cond b 1 0 + count_of numbers n)) (eq-eqb number n is) ∙ (let grows : min 2 (1 + count_of numbers n) ≡ min 2 (min 2 (count_of numbers n) + 1) = omega arith in grows)

-- another number doesn't count
pub named_other : (numbers : List ℕ) (number n : ℕ) → (number ≡ n → ⊥) → times_named (number ∷ numbers) n ≡ times_named numbers n
named_other numbers number n differs =
    ap (λ c. min 2 c) (sum_by-cons (λ k. cond (k == n) 1 0) number numbers) ∙ ap (λ b. min 2 (cond b 1 0 + count_of numbers n)) (ne_eqb number n differs) ∙ (let same : min 2 (0 + count_of numbers n) ≡ min 2 (count_of numbers n) = omega arith in same)

-- ---- what `new` makes

-- a leaf that no record named yet
abbrev pub unnamed_leaf : LeafPlace → LongLeaf
unnamed_leaf p = record { place = p; named = 0 }

-- their places
places-unnamed : (leaves : List LeafPlace) → map (λ (l : LongLeaf). l.place) (map unnamed_leaf leaves) ≡ leaves
places-unnamed [] = refl
places-unnamed (p ∷ leaves) = ap (λ (ps : List LeafPlace). p ∷ ps) (places-unnamed leaves)

-- what stands at a place of a list is an element
got : {X : Type 0} (xs : List X) (k : ℕ) (x : X) → slice_get xs k ≡ Some x → (k < length xs) × (get_or xs k x ≡ x)
got xs k x e = elim (cases_lt k (length xs)) [
  | inl below ↦ (below, get_or_from_slice_get xs k x x e)
  | inr past ↦ let none : slice_get xs k ≡ None = slice_get_past xs k past in absurd (cc)
]

-- the leaves as they are made are the node's, and none is named
pub made_holds : (m : BlockMap) (longfile : Root) (leaves : List LeafPlace) (longs : LongNames) → AreLeaves m longfile leaves → longs.size ≡ longfile.size → longs.leaves.items ≡ map unnamed_leaf leaves → HoldsNames m longfile [] longs
made_holds m longfile leaves longs a size e = record {
  size = size;
  leaves = subst (λ (ps : List LeafPlace). AreLeaves m longfile ps) (sym (ap (λ (ls : List LongLeaf). map (λ (l : LongLeaf). l.place) ls) e ∙ places-unnamed leaves)) a;
  named = λ k l is.
      let at : (k < length (map unnamed_leaf leaves)) × (get_or (map unnamed_leaf leaves) k l ≡ l) = got (map unnamed_leaf leaves) k l (sym (ap (λ (ls : List LongLeaf). slice_get ls k) e) ∙ is) in
      subst (λ (x : LongLeaf). x.named ≡ times_named [] x.place.index) at.1 (All-map (λ (x : LongLeaf). x.named ≡ times_named [] x.place.index) unnamed_leaf leaves (λ j d low. refl) k l at.0);
}

-- and lie inside
pub made_inside : (shape : Shape) (longfile : Root) (leaves : List LeafPlace) (items : List LongLeaf) → All (IsPlaced shape longfile) leaves → items ≡ map unnamed_leaf leaves → All (λ (l : LongLeaf). l.place.block < shape.count) items
made_inside shape longfile leaves items placed e =
    All-same (λ (l : LongLeaf). l.place.block < shape.count) items (map unnamed_leaf leaves) e
    (All-map (λ (l : LongLeaf). l.place.block < shape.count) unnamed_leaf leaves (λ k d low. let at : IsPlaced shape longfile (get_or leaves k d) = placed k d low in at.block))

-- ---- what `count` changes

-- equal numbers of an ascending list stand at one place
one_place : (xs : List ℕ) (j k : ℕ) → IsAscending xs → j < length xs → k < length xs → get_or xs j 0 ≡ get_or xs k 0 → j ≡ k
one_place xs j k a low high e = elim (cases_order j k) [
  | inl is ↦ is
  | inr (inl below) ↦ let up : get_or xs j 0 < get_or xs k 0 = ascending_at xs j k a below high in absurd (omega (arith, up, e))
  | inr (inr above) ↦ let up : get_or xs k 0 < get_or xs j 0 = ascending_at xs k j a above low in absurd (omega (arith, up, e))
]

-- the numbers that are held ascend
pub held_ascend : (m : BlockMap) (longfile : Root) (numbers : List ℕ) (longs : LongNames) → HoldsNames m longfile numbers longs → IsAscending (numbers_in longs)
held_ascend m longfile numbers longs h = subst IsAscending (numbers-places longs.leaves.items) (listed_ascend m longfile (places_in longs) h.leaves)

-- a leaf that is held was named once more, and no other
pub counted_holds : (m : BlockMap) (longfile : Root) (numbers : List ℕ) (number : ℕ) (old new : LongNames) (k : ℕ) (was l : LongLeaf) → HoldsNames m longfile numbers old → k < length old.leaves.items → IsPlaceOf old number k
    → get_or old.leaves.items k was ≡ was → new.size ≡ old.size → new.leaves.items ≡ set old.leaves.items k l → l.place ≡ was.place → l.named ≡ min 2 (was.named + 1) → HoldsNames m longfile (number ∷ numbers) new
counted_holds m longfile numbers number old new k was l h below at stood size e place named = record {
  size = size ∙ h.size;
  leaves = subst (λ (ps : List LeafPlace). AreLeaves m longfile ps) (sym (ap (λ (ls : List LongLeaf). map (λ (x : LongLeaf). x.place) ls) e ∙ map-set_same (λ (x : LongLeaf). x.place) old.leaves.items k l was (place ∙ sym (ap (λ (x : LongLeaf). x.place) stood)))) h.leaves;
  named = λ j x is.
      let there : (j < length (set old.leaves.items k l)) × (get_or (set old.leaves.items k l) j x ≡ x) = got (set old.leaves.items k l) j x (sym (ap (λ (ls : List LongLeaf). slice_get ls j) e) ∙ is) in
      let low : j < length old.leaves.items = omega (arith, there.0, length-set old.leaves.items k l) in
      elim (cases_eq j k) [
        | inl same ↦
            let now : l ≡ x = sym (get_or-set_same old.leaves.items k l x below) ∙ ap (λ i. get_or (set old.leaves.items k l) i x) (sym same) ∙ there.1 in
            let number_is : l.place.index ≡ number = ap (λ (p : LeafPlace). p.index) place ∙ sym (ap key stood) ∙ at was in
            let before : was.named ≡ times_named numbers was.place.index = h.named k was (slice_get-get_or old.leaves.items k was below ∙ ap (λ (y : LongLeaf). Some y) stood) in
            subst (λ (y : LongLeaf). y.named ≡ times_named (number ∷ numbers) y.place.index) now
            (named ∙ ap (λ n. min 2 (n + 1)) (before ∙ ap (λ (p : LeafPlace). times_named numbers p.index) (sym place)) ∙ sym (named_more numbers number l.place.index (sym number_is)))
        | inr other ↦
            let stays : get_or old.leaves.items j x ≡ x = sym (get_or-set_other old.leaves.items k j l x other) ∙ there.1 in
            let before : x.named ≡ times_named numbers x.place.index = h.named j x (slice_get-get_or old.leaves.items j x low ∙ ap (λ (y : LongLeaf). Some y) stays) in
            let differs : number ≡ x.place.index → ⊥ = λ eq. other (one_place (numbers_in old) j k (held_ascend m longfile numbers old h) (omega (arith, low, length-map old.leaves.items key)) (omega (arith, below, length-map old.leaves.items key))
            (get_or-map key old.leaves.items j x 0 low ∙ ap key stays ∙ sym eq ∙ sym (at x) ∙ sym (get_or-map key old.leaves.items k x 0 below))) in
            before ∙ sym (named_other numbers number x.place.index differs)
      ];
}

-- a number that isn't among them changes nothing
pub uncounted_holds : (m : BlockMap) (longfile : Root) (numbers : List ℕ) (number : ℕ) (longs : LongNames) → HoldsNames m longfile numbers longs → (Contains (numbers_in longs) number → ⊥) → HoldsNames m longfile (number ∷ numbers) longs
uncounted_holds m longfile numbers number longs h none = record {
  size = h.size;
  leaves = h.leaves;
  named = λ k l is.
      let at : (k < length longs.leaves.items) × (get_or longs.leaves.items k l ≡ l) = got longs.leaves.items k l is in
      let there : Contains (numbers_in longs) l.place.index = members_map (λ (x : LongLeaf). x.place.index) longs.leaves.items l (k, at.0, at.1) in
      h.named k l is ∙ sym (named_other numbers number l.place.index (λ eq. none (subst (Contains (numbers_in longs)) (sym eq) there)));
}

-- ---- the least leaf that wasn't named once

-- whether a number was not named exactly once
abbrev is_bad : List ℕ → ℕ → Bool
is_bad numbers n = not (count_by (λ k. k == n) numbers == 1)

-- a leaf says so too
bad-named : (numbers : List ℕ) (l : LongLeaf) → l.named ≡ times_named numbers l.place.index → is_bad numbers l.place.index ≡ not (l.named == 1)
bad-named numbers l e = ap not (same (count_of numbers l.place.index) (cases_eq (count_of numbers l.place.index) 1)) ∙ ap (λ n. not (n == 1)) (sym e)
  where
    same : (c : ℕ) → (c ≡ 1) ⊎ (c ≡ 1 → ⊥) → (c == 1) ≡ (min 2 c == 1)
    same c (inl is) = eq-eqb c 1 is ∙ sym (eq-eqb (min 2 c) 1 (omega (arith, is)))
    same c (inr other) = ne_eqb c 1 other ∙ sym (ne_eqb (min 2 c) 1 (λ is. other (omega (arith, is))))

-- the first of the bad numbers, if all before it were named once
first_bad : (bad : ℕ → Bool) (leaves : List LongLeaf) (k : ℕ) → ((l : LongLeaf) → Contains leaves l → bad l.place.index ≡ not (l.named == 1)) → AllWithin (λ (x : LongLeaf). x.named ≡ 1) leaves 0 k
    → (x : LongLeaf) → k < length leaves → get_or leaves k x ≡ x → (x.named ≡ 1 → ⊥) → slice_get (filter bad (map (λ (l : LongLeaf). l.place.index) leaves)) 0 ≡ Some x.place.index
first_bad bad [] k says once x low is other = absurd (omega (arith, low))
first_bad bad (l ∷ leaves) zero says once x low is other =
    let test : bad l.place.index ≡ true = says l (Contains-head l leaves) ∙ ap not (ne_eqb l.named 1 (λ e. other (sym (ap (λ (y : LongLeaf). y.named) is) ∙ e))) in
    ap (λ b. slice_get (cond b (l.place.index ∷ filter bad (map (λ (y : LongLeaf). y.place.index) leaves)) (filter bad (map (λ (y : LongLeaf). y.place.index) leaves))) 0) test ∙ ap (λ (y : LongLeaf). Some y.place.index) is
first_bad bad (l ∷ leaves) (suc k) says once x low is other =
    let test : bad l.place.index ≡ false = says l (Contains-head l leaves) ∙ ap not (eq-eqb l.named 1 (once 0 l (omega arith) (omega arith))) in
    ap (λ b. slice_get (cond b (l.place.index ∷ filter bad (map (λ (y : LongLeaf). y.place.index) leaves)) (filter bad (map (λ (y : LongLeaf). y.place.index) leaves))) 0) test
    ∙ first_bad bad leaves k (λ y c. says y (Contains-cons l y leaves c)) (λ j d from to. once (suc j) d (omega arith) (omega (arith, to))) x (omega (arith, low)) is other

-- none is bad where all were named once
none_bad : (bad : ℕ → Bool) (leaves : List LongLeaf) → ((l : LongLeaf) → Contains leaves l → bad l.place.index ≡ not (l.named == 1)) → AllWithin (λ (x : LongLeaf). x.named ≡ 1) leaves 0 (length leaves)
    → slice_get (filter bad (map (λ (l : LongLeaf). l.place.index) leaves)) 0 ≡ None
none_bad bad [] says once = refl
none_bad bad (l ∷ leaves) says once =
    let test : bad l.place.index ≡ false = says l (Contains-head l leaves) ∙ ap not (eq-eqb l.named 1 (once 0 l (omega arith) (omega arith))) in
    ap (λ b. slice_get (cond b (l.place.index ∷ filter bad (map (λ (y : LongLeaf). y.place.index) leaves)) (filter bad (map (λ (y : LongLeaf). y.place.index) leaves))) 0) test
    ∙ none_bad bad leaves (λ y c. says y (Contains-cons l y leaves c)) (λ j d from to. once (suc j) d (omega arith) (omega (arith, to)))

-- what each leaf that is held says
bad-held : (m : BlockMap) (longfile : Root) (numbers : List ℕ) (longs : LongNames) → HoldsNames m longfile numbers longs → (l : LongLeaf) → Contains longs.leaves.items l → is_bad numbers l.place.index ≡ not (l.named == 1)
bad-held m longfile numbers longs h l c = bad-named numbers l (h.named c.0 l (slice_get-get_or longs.leaves.items c.0 l c.1 ∙ ap (λ (y : LongLeaf). Some y) c.2))

-- a size of whole blocks leaves it to the leaves
whole_size : (m : BlockMap) (longfile : Root) (numbers : List ℕ) (longs : LongNames) → HoldsNames m longfile numbers longs → longs.size % m.size ≡ 0 → bad_number m longfile numbers ≡ slice_get (filter (is_bad numbers) (numbers_in longs)) 0
whole_size m longfile numbers longs h e =
    ap (λ b. if not b then Some 0 else slice_get (filter (is_bad numbers) (present_of m longfile)) 0) (eq-eqb (longfile.size % m.size) 0 (sym (ap (λ n. n % m.size) h.size) ∙ e))
    ∙ ap (λ ns. slice_get (filter (is_bad numbers) ns) 0) (sym (numbers_held m longfile numbers longs h))

-- an element is read alike, whatever the default
reread : (leaves : List LongLeaf) (k : ℕ) (d : LongLeaf) → k < length leaves → get_or leaves k (get_or leaves k d) ≡ get_or leaves k d
reread leaves k d low = get_or_from_slice_get leaves k (get_or leaves k d) (get_or leaves k d) (slice_get-get_or leaves k d low)

-- the first leaf that wasn't named once is the bad one
pub bad_leaf : (m : BlockMap) (longfile : Root) (numbers : List ℕ) (longs : LongNames) (seen : List LongLeaf) (k : ℕ) (d : LongLeaf) → seen ≡ longs.leaves.items → HoldsNames m longfile numbers longs → longs.size % m.size ≡ 0
    → AllWithin (λ (y : LongLeaf). y.named ≡ 1) seen 0 k → k < length seen → ((get_or seen k d).named ≡ 1 → ⊥) → bad_number m longfile numbers ≡ Some (get_or seen k d).place.index
bad_leaf m longfile numbers longs seen k d e h whole once low other =
    whole_size m longfile numbers longs h whole ∙ ap (λ (ls : List LongLeaf). slice_get (filter (is_bad numbers) (map (λ (l : LongLeaf). l.place.index) ls)) 0) (sym e)
    ∙ first_bad (is_bad numbers) seen k (λ l c. bad-held m longfile numbers longs h l (subst (λ (ls : List LongLeaf). Contains ls l) e c)) once (get_or seen k d) low (reread seen k d low) other

-- and where there is none nothing is
pub no_bad_leaf : (m : BlockMap) (longfile : Root) (numbers : List ℕ) (longs : LongNames) (seen : List LongLeaf) → seen ≡ longs.leaves.items → HoldsNames m longfile numbers longs → longs.size % m.size ≡ 0
    → AllWithin (λ (y : LongLeaf). y.named ≡ 1) seen 0 (length seen) → bad_number m longfile numbers ≡ None
no_bad_leaf m longfile numbers longs seen e h whole once =
    whole_size m longfile numbers longs h whole ∙ ap (λ (ls : List LongLeaf). slice_get (filter (is_bad numbers) (map (λ (l : LongLeaf). l.place.index) ls)) 0) (sym e)
    ∙ none_bad (is_bad numbers) seen (λ l c. bad-held m longfile numbers longs h l (subst (λ (ls : List LongLeaf). Contains ls l) e c)) once
