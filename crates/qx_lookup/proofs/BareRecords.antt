-- Rows that are neither `.` nor `..`: in a block, in a leaf, and in the slots of a directory.
use Rattle.std.proofs.Common.{◌≡◌, ℕ, zero, suc, ◌+◌, ◌-◌, ◌*◌, ◌/◌, ◌<◌, ◌≤◌, List, [], ◌∷◌, length, refl, sym, ◌∙◌, ap, subst, arith}
use Rattle.std.specs.Prelude.{Bool, true, false, ◌&&◌, Contains, Option, Some, None, is_none, is_some, map, slice_get}
use Rattle.std.specs.List.{list_all}
use Rattle.std.proofs.lemmas.Option.{slice_get_within}
use Rattle.qx_fields.specs.declared.order.Order.{Order}
use Rattle.qx_geom.specs.declared.root.Root.{Root}
use Rattle.qx_geom.specs.Lists.{each_below}
use Rattle.qx_nodes.specs.BlockMap.{BlockMap}
use Rattle.qx_nodes.specs.LongNames.{long_name}
use Rattle.qx_nodes.specs.Visits.{visits_of}
use Rattle.qx_model.specs.Directories.{is_bare}
use Rattle.qx_model.specs.Tree.{Slot, Tree, named_by, slots_of}
use Rattle.qx_blocks.specs.BlockState.{BlockState, IsConsistent}
use Rattle.qx_ptree.specs.Trees.{IsWorking, block_map}
use Rattle.qx_copies.proofs.ShownNames.{listed_count, listed_slot}
use Rattle.qx_lookup.specs.Links.{IsBareFrom, says_link}
use Rattle.qx_lookup.specs.Rows.{records_end, slot_in, slot_in_block}
use Rattle.qx_lookup.proofs.DirectoryRecords.{NoneBefore, none_in_leaf, slot_of_present}

-- ---- one leaf

-- what a block's first records say, the leaf's say, where these are all of its records below the directory's size
pub bare_of_leaf : (order : Order) (m : BlockState) (longfile node : Root) (index block first end count : ℕ) (bare : Bool) → IsConsistent m → IsWorking order m node
    → Contains (visits_of (block_map order m) node) (record { level = 0; index = index; block = block }) → first ≡ index * (m.holdings.size / 32) → end ≡ records_end m.holdings.size node.size index → first ≤ end
    → count ≡ end - first → 32 * count ≤ m.holdings.size → IsBareFrom (slot_in_block order (long_name (block_map order m) longfile) (m.bytes block)) 0 count bare
    → IsBareFrom (slot_in (block_map order m) longfile node) (index * (m.holdings.size / 32)) (records_end m.holdings.size node.size index) bare
bare_of_leaf order m longfile node index block first end count bare s works met begins ends some all few h = go bare h
  where
    t : BlockMap
    t = block_map order m

    many : ℕ
    many = m.holdings.size / 32

    whole : index * many + count ≡ records_end m.holdings.size node.size index
    whole = omega (arith, all, some, begins) ∙ ends

    slot : (k : ℕ) → k < count → slot_in t longfile node (index * many + k) ≡ slot_in_block order (long_name t longfile) (m.bytes block) k
    slot k low = slot_of_present order m longfile node index block k s works met (omega (arith, low, few))

    none : IsBareFrom (slot_in_block order (long_name t longfile) (m.bytes block)) 0 count true → IsBareFrom (slot_in t longfile node) (index * many) (records_end m.holdings.size node.size index) true
    none h k least low =
        let at : index * many + (k - index * many) ≡ k = omega (arith, least) in
        let small : k - index * many < count = omega (arith, least, low, whole) in
        subst (λ j. says_link (slot_in t longfile node j) ≡ false) at (ap says_link (slot (k - index * many) small) ∙ h (k - index * many) (omega arith) small)

    go : (b : Bool) → IsBareFrom (slot_in_block order (long_name t longfile) (m.bytes block)) 0 count b → IsBareFrom (slot_in t longfile node) (index * many) (records_end m.holdings.size node.size index) b
    go true h = none h
    go false (k, least, low, is) = (index * many + k, omega arith, omega (arith, low, whole), ap says_link (slot k low) ∙ is)

-- ---- leaf after leaf

-- where a leaf has such a row, the directory has
pub link_in_leaf : (m : BlockMap) (longfile node : Root) (index : ℕ) → IsBareFrom (slot_in m longfile node) (index * (m.size / 32)) (records_end m.size node.size index) false → IsBareFrom (slot_in m longfile node) 0 (node.size / 32) false
link_in_leaf m longfile node index (k, least, low, is) = (k, omega arith, omega (arith, low), is)

-- where it has none, none lies before the leaf behind it
pub no_link_in_leaf : (m : BlockMap) (longfile node : Root) (index : ℕ) → NoneBefore m longfile node says_link index → IsBareFrom (slot_in m longfile node) (index * (m.size / 32)) (records_end m.size node.size index) true
    → NoneBefore m longfile node says_link (index + 1)
no_link_in_leaf m longfile node index none bare = none_in_leaf m longfile node says_link index none bare

-- as seen from the blocks before
pub seen_bare : (order : Order) (first mid : BlockState) (longfile node : Root) (index : ℕ) (answer bare : Bool) → mid ≡ first → answer ≡ bare
    → IsBareFrom (slot_in (block_map order mid) longfile node) (index * (mid.holdings.size / 32)) (records_end mid.holdings.size node.size index) answer
    → IsBareFrom (slot_in (block_map order first) longfile node) (index * (first.holdings.size / 32)) (records_end first.holdings.size node.size index) bare
seen_bare order first mid longfile node index answer bare kept is h =
    subst (λ (x : BlockState). IsBareFrom (slot_in (block_map order x) longfile node) (index * (x.holdings.size / 32)) (records_end x.holdings.size node.size index) bare) kept
    (subst (λ b. IsBareFrom (slot_in (block_map order mid) longfile node) (index * (mid.holdings.size / 32)) (records_end mid.holdings.size node.size index) b) is h)

-- ---- the slots of a directory

-- what passes at each place passes everywhere
all_pass : {A : Type 0} (p : A → Bool) (xs : List A) → ((j : ℕ) (y : A) → slice_get xs j ≡ Some y → p y ≡ true) → list_all p xs ≡ true
all_pass p [] each = refl
all_pass p (x ∷ xs) each = λ i. each 0 x refl i && all_pass p xs (λ j y at. each (suc j) y at) i

-- and not where it fails at one
one_fails : {A : Type 0} (p : A → Bool) (xs : List A) (j : ℕ) (y : A) → slice_get xs j ≡ Some y → p y ≡ false → list_all p xs ≡ false
one_fails p [] zero y at fails = absurd (cc)
one_fails p [] (suc j) y at fails = absurd (cc)
one_fails p (x ∷ xs) zero y at fails = let same : x ≡ y = cc in ap (λ b. b && list_all p xs) (ap p same ∙ fails)
one_fails p (x ∷ xs) (suc j) y at fails = by (p x) (one_fails p xs j y at fails)
  where
    by : (b : Bool) → list_all p xs ≡ false → (b && list_all p xs) ≡ false
    by true later = later
    by false later = refl

-- a slot names no inode, or one
names_none : (o : Option ℕ) → is_some o ≡ false → is_none o ≡ true
names_none None e = refl
names_none (Some n) e = absurd (cc)

names_one : (o : Option ℕ) → is_some o ≡ true → is_none o ≡ false
names_one None e = absurd (cc)
names_one (Some n) e = refl

-- what the records say of such rows, the tree says
module _ (f : ℕ → Option Slot) (n : ℕ) (t : Tree) (d : ℕ) (listed : each_below n f ≡ map (λ s. Some s) (slots_of t d)) where
  none_listed : IsBareFrom f 0 n true → is_bare t d ≡ true
  none_listed none = all_pass (λ slot. is_none (named_by slot)) (slots_of t d) (λ j y at.
      let low : j < length (slots_of t d) = slice_get_within (slots_of t d) j y at in
      let less : j < n = omega (arith, low, listed_count n f (slots_of t d) listed) in
      names_none (named_by y) (sym (ap says_link (listed_slot n f (slots_of t d) listed j less ∙ at)) ∙ none j (omega arith) less))

  one_listed : IsBareFrom f 0 n false → is_bare t d ≡ false
  one_listed (k, least, low, is) = by (slice_get (slots_of t d) k) refl
    where
      by : (o : Option Slot) → slice_get (slots_of t d) k ≡ o → is_bare t d ≡ false
      by None e = let no_row : says_link None ≡ true = sym (ap says_link (listed_slot n f (slots_of t d) listed k low ∙ e)) ∙ is in absurd (cc)
      by (Some y) e = one_fails (λ slot. is_none (named_by slot)) (slots_of t d) k y e (names_one (named_by y) (sym (ap says_link (listed_slot n f (slots_of t d) listed k low ∙ e)) ∙ is))

  pub bare_listed : (bare : Bool) → IsBareFrom f 0 n bare → bare ≡ is_bare t d
  bare_listed true none = sym (none_listed none)
  bare_listed false one = sym (one_listed one)

-- what has no slots is bare
pub bare_without : (t : Tree) (d : ℕ) → slots_of t d ≡ [] → true ≡ is_bare t d
bare_without t d none = sym (ap (list_all (λ slot. is_none (named_by slot))) none)
