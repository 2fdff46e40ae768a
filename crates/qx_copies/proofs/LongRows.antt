-- The rows with a long-name number are the records of the walk's directories that have it.
use Rattle.std.proofs.Common.{◌≡◌, ℕ, zero, suc, ◌+◌, ◌-◌, ◌/◌, ◌≤◌, ◌<◌, List, [], ◌∷◌, length, refl, sym, ◌∙◌, ap, subst, arith}
use Rattle.std.specs.Prelude.{Bool, true, false, ◌==◌, Option, Some, None, unwrap_or, Contains, cond, count_by, filter, filter_map, flat_map, map, slice_get, slice_index_or, sum_by, if◌then◌else◌}
use Rattle.std.specs.Option.{option_flatten}
use Rattle.std.specs.List.{cons_option, range_with_len}
use Rattle.std.proofs.lemmas.Bool.{eq-eqb, eqb-true, leb-true}
use Rattle.std.proofs.lemmas.List.{map-id}
use Rattle.std.proofs.lemmas.Option.{slice_get_past}
use Rattle.std.proofs.lemmas.List.Sums.{sum_by-append, sum_by-cons}
use Rattle.qx_geom.specs.declared.root.Root.{Root}
use Rattle.qx_geom.specs.Lists.{all_differ, is_in}
use Rattle.qx_geom.proofs.ImagesAndFilters.{Contains-image, in_Contains}
use Rattle.qx_geom.proofs.Truths.{not_so}
use Rattle.qx_model.specs.Tree.{Body, Directory, Entry, File, Link, Row, Slot, Special, Tree, Unused, entry_of, slots_of_body, slots_of_entry}
use Rattle.qx_model.specs.Whole.{AreNumbered, HasNumber, HasRowFor}
use Rattle.qx_nodes.specs.BlockMap.{BlockMap}
use Rattle.qx_nodes.specs.Content.{HasSize}
use Rattle.qx_nodes.specs.LongNames.{long_name}
use Rattle.qx_records.specs.NameRecord.{Bad, Long, RawRecord, Short}
use Rattle.qx_records.specs.NameRecord as records
use Rattle.qx_records.specs.NameSum.{sum_fits}
use Rattle.qx_view.proofs.CountedLinks.{sum_members}
use Rattle.qx_view.proofs.EntryContents.{kind_in}
use Rattle.qx_view.proofs.OuterNodes.{walked_has}
use Rattle.qx_view.proofs.TestsFromTree.{DirectoryRead, TakenIn, directory_read, kind_here, queue_is, taken_differ, taken_in}
use Rattle.qx_view.proofs.WalkAlike.{in_walk}
use Rattle.qx_view.specs.Entries.{long_slot}
use Rattle.qx_view.specs.Images.{Roots, all_records, inode_places, raw_of}
use Rattle.qx_view.specs.Reading.{IsTreeOf, slot_of}
use Rattle.qx_view.specs.Sound.{long_number, numbers_named, numbers_named_in}
use Rattle.qx_view.specs.Walk.{Taken, inode_root, is_directory_inode, is_directory_kind, taken_of, walked_inodes}
use Rattle.qx_copies.proofs.CountedPlaces.{GivesAt, counts_passing, one_alone, some_place}
use Rattle.qx_copies.proofs.RangeSums.{place_flat, sum_places, sum_range}

-- a slot is a row with this long-name number
abbrev pub has_long : ℕ → Slot → Bool
has_long n Unused = false
has_long n (Row inode name None) = false
has_long n (Row inode name (Some number)) = number == n

-- how many rows of all directories have it
abbrev pub rows_with_long : Tree → ℕ → ℕ
rows_with_long t n = sum_by (λ o. count_by (has_long n) (slots_of_entry o)) t.inodes

-- a slot that has it is a row with it
pub long_is : (n : ℕ) (s : Slot) → has_long n s ≡ true → (inode : ℕ) × (name : List ℕ) × (s ≡ Row inode name (Some n))
long_is n Unused e = absurd (cc)
long_is n (Row inode name None) e = absurd (cc)
long_is n (Row inode name (Some number)) e = (inode, name, ap (λ x. Row inode name (Some x)) (eqb-true number n e))

-- and counts as one
pub counts_one : (n : ℕ) (s : Slot) → has_long n s ≡ true → cond {A = ℕ} (has_long n s) 1 0 ≡ 1
counts_one n s has = ap (λ (b : Bool). cond {A = ℕ} b 1 0) has

-- a row with a number, where it stands in the tree
pub record RowListed (t : Tree) (d k n : ℕ) : Type 0 where
  pub it : Option Entry
  pub listed : slice_get t.inodes d ≡ Some it
  pub slot : Slot
  pub at : slice_get (slots_of_entry it) k ≡ Some slot
  pub has : has_long n slot ≡ true

pub row_listed : (t : Tree) (d k n : ℕ) (name : List ℕ) → HasNumber t (suc d) k n name → RowListed t d k n
row_listed t d k n name h = by_place (slice_get t.inodes d) refl h.is
  where
    by_slot : (o : Option Entry) → slice_get t.inodes d ≡ Some o → (x : Option Slot) → slice_get (slots_of_entry o) k ≡ x → unwrap_or x Unused ≡ Row h.inode name (Some n) → RowListed t d k n
    by_slot o at None e is = absurd (cc)
    by_slot o at (Some s) e is = record { it = o; listed = at; slot = s; at = e; has = ap (has_long n) is ∙ eq-eqb n n refl }

    by_place : (x : Option (Option Entry)) → slice_get t.inodes d ≡ x → unwrap_or (slice_get (slots_of_entry (option_flatten x)) k) Unused ≡ Row h.inode name (Some n) → RowListed t d k n
    by_place None at is = let clash : Unused ≡ Row h.inode name (Some n) = sym (ap (λ o. unwrap_or o Unused) (slice_get_past {X = Slot} [] k (omega arith))) ∙ is in absurd (cc)
    by_place (Some o) at is = by_slot o at (slice_get (slots_of_entry o) k) refl is

-- and back
pub number_at : (t : Tree) (d k n : ℕ) (o : Option Entry) (s : Slot) → slice_get t.inodes d ≡ Some o → slice_get (slots_of_entry o) k ≡ Some s → has_long n s ≡ true → (name : List ℕ) × HasNumber t (suc d) k n name
number_at t d k n o s at bt has =
    let row = long_is n s has in (
      row.1,
      record {
        inode = row.0;
        is = ap (λ (x : Option (Option Entry)). unwrap_or (slice_get (slots_of_entry (option_flatten x)) k) Unused) at ∙ ap (λ x. unwrap_or x Unused) bt ∙ row.2;
      },
    )

-- no row stands in what isn't there
no_row : (t : Tree) (k n : ℕ) (name : List ℕ) → HasNumber t 0 k n name → ⊥
no_row t k n name h = let clash : Unused ≡ Row h.inode name (Some n) = sym (ap (λ o. unwrap_or o Unused) (slice_get_past {X = Slot} [] k (omega arith))) ∙ h.is in cc

-- a number that is some row's, and no two rows', is one row's
pub rows_are_one : (t : Tree) (n : ℕ) → AreNumbered t → HasRowFor t n → rows_with_long t n ≡ 1
rows_are_one t n numbered row = by_directory row.directory row.is
  where
    by_directory : (d : ℕ) → HasNumber t d row.record_number n row.name → rows_with_long t n ≡ 1
    by_directory zero h = absurd (no_row t row.record_number n row.name h)
    by_directory (suc d) h =
        let l : RowListed t d row.record_number n = row_listed t d row.record_number n row.name h in
        let inner : count_by (has_long n) (slots_of_entry l.it) ≡ 1 = one_alone (λ (s : Slot). cond (has_long n s) 1 0) (slots_of_entry l.it) row.record_number l.slot l.at (counts_one n l.slot l.has) (λ j y at some.
        let other = number_at t d j n l.it y l.listed at (counts_passing (has_long n y) some) in (numbered.once (suc d) j (suc d) row.record_number n other.0 row.name other.1 h).1) in
        one_alone (λ (o : Option Entry). count_by (has_long n) (slots_of_entry o)) t.inodes d l.it l.listed inner (λ j o at some.
        let g : GivesAt (λ (s : Slot). cond (has_long n s) 1 0) (slots_of_entry o) = some_place (λ (s : Slot). cond (has_long n s) 1 0) (slots_of_entry o) some in
        let other = number_at t j g.place n o g.it at g.at (counts_passing (has_long n g.it) g.gives) in
        let same : suc j ≡ suc d = (numbered.once (suc j) g.place (suc d) row.record_number n other.0 row.name other.1 h).0 in omega (arith, same))

-- one more counts where it passes
count_cons : {A : Type 0} (p : A → Bool) (x : A) (xs : List A) → count_by p (x ∷ xs) ≡ cond (p x) 1 0 + count_by p xs
count_cons p x xs = sum_by-cons (λ x. cond (p x) 1 0) x xs

-- the count over the parts of those that pass a test, end to end
count_kept : (n : ℕ) (q : ℕ → Bool) (f : ℕ → List ℕ) (xs : List ℕ) → count_by (λ i. i == n) (flat_map f (filter q xs)) ≡ sum_by (λ x. if q x then count_by (λ i. i == n) (f x) else 0) xs
count_kept n q f [] = refl
count_kept n q f (x ∷ xs) = by_test (q x) (count_kept n q f xs) ∙ sym (sum_by-cons (λ x. if q x then count_by (λ i. i == n) (f x) else 0) x xs)
  where
    by_test : (b : Bool) → count_by (λ i. i == n) (flat_map f (filter q xs)) ≡ sum_by (λ x. if q x then count_by (λ i. i == n) (f x) else 0) xs
        → count_by (λ i. i == n) (flat_map f (cond b (x ∷ filter q xs) (filter q xs))) ≡ (if b then count_by (λ i. i == n) (f x) else 0) + sum_by (λ x. if q x then count_by (λ i. i == n) (f x) else 0) xs
    by_test true more = sum_by-append (λ y. cond (y == n) 1 0) (f x) (flat_map f (filter q xs)) ∙ ap (λ z. count_by (λ i. i == n) (f x) + z) more
    by_test false more = omega (arith, more)

-- a record and its slot have one long-name number
number_slot : (m : BlockMap) (longfile : Root) (n : ℕ) (raw : RawRecord) (s : Slot) (ks : List ℕ) → slot_of m longfile raw ≡ Some s → count_by (λ i. i == n) (cons_option (long_number raw) ks) ≡ cond (has_long n s) 1 0 + count_by (λ i. i == n) ks
number_slot m longfile n records.Unused s ks e = let is : Unused ≡ s = cc in subst (λ z. count_by (λ i. i == n) ks ≡ cond (has_long n z) 1 0 + count_by (λ i. i == n) ks) is (omega arith)
number_slot m longfile n (Short i name) s ks e = let is : Row i name None ≡ s = cc in subst (λ z. count_by (λ i. i == n) ks ≡ cond (has_long n z) 1 0 + count_by (λ i. i == n) ks) is (omega arith)
number_slot m longfile n (Bad count) s ks e = absurd (cc)
number_slot m longfile n (Long i number sum) s ks e = by_name (long_name m longfile number) e
  where
    by_sum : (b : Bool) (name : List ℕ) → (if b then Some (Row i name (Some number)) else None) ≡ Some s → count_by (λ i. i == n) (number ∷ ks) ≡ cond (has_long n s) 1 0 + count_by (λ i. i == n) ks
    by_sum true name e = let is : Row i name (Some number) ≡ s = cc in subst (λ z. count_by (λ i. i == n) (number ∷ ks) ≡ cond (has_long n z) 1 0 + count_by (λ i. i == n) ks) is (count_cons (λ i. i == n) number ks)
    by_sum false name e = absurd (cc)

    by_name : (o : Option (List ℕ)) → long_slot i number sum o ≡ Some s → count_by (λ i. i == n) (number ∷ ks) ≡ cond (has_long n s) 1 0 + count_by (λ i. i == n) ks
    by_name None e = absurd (cc)
    by_name (Some name) e = by_sum (sum_fits sum name) name e

-- so have the records of a directory and its slots
numbers_slots : (m : BlockMap) (longfile : Root) (n : ℕ) (raws : ℕ → RawRecord) (ks : List ℕ) (slots : List Slot) → map (λ k. slot_of m longfile (raws k)) ks ≡ map (λ s. Some s) slots
    → count_by (has_long n) slots ≡ count_by (λ i. i == n) (filter_map (λ k. long_number (raws k)) ks)
numbers_slots m longfile n raws [] [] e = refl
numbers_slots m longfile n raws [] (s ∷ slots) e = absurd (cc)
numbers_slots m longfile n raws (k ∷ ks) [] e = absurd (cc)
numbers_slots m longfile n raws (k ∷ ks) (s ∷ slots) e =
    let first : slot_of m longfile (raws k) ≡ Some s = cc in
    let rest : map (λ k. slot_of m longfile (raws k)) ks ≡ map (λ s. Some s) slots = cc in
    count_cons (has_long n) s slots
    ∙ ap (λ z. cond (has_long n s) 1 0 + z) (numbers_slots m longfile n raws ks slots rest)
    ∙ sym (number_slot m longfile n (raws k) s (filter_map (λ k. long_number (raws k)) ks) first)

-- what isn't a directory has no slots
no_slots : (b : Body) → is_directory_kind (Some (kind_in b)) ≡ false → slots_of_body b ≡ []
no_slots (Directory slots parent) other = absurd (cc)
no_slots (File content) other = refl
no_slots (Link target) other = refl
no_slots Special other = refl

module _ (m : BlockMap) (r : Roots) (t : Tree) (size : HasSize m) (is : IsTreeOf m r t) where
  -- each inode that the walk comes to has a place
  walked_within : (w : ℕ) → Contains (walked_inodes m r) w → (1 ≤ w) × (w < 1 + inode_places r)
  walked_within w c =
      let u : (u : Taken) × Contains (taken_of m r) u × (u.inode ≡ w) = Contains-image (λ (x : Taken). x.inode) (taken_of m r) w c in
      let x : TakenIn m r t is u.0 = taken_in m r t is u.0 u.1 in
      let e = is.each u.0.inode x.entry x.at in
      let low : u.0.inode ≤ inode_places r = leb-true u.0.inode (inode_places r) e.there in
      let some : 0 < u.0.inode = e.positive in
      (omega (arith, u.2), omega (arith, u.2))

  -- and none comes twice
  walked_differ : all_differ (walked_inodes m r) ≡ true
  walked_differ = taken_differ m r (inode_places r + 1) ((1, 1) ∷ []) (1 ∷ []) (queue_is m r t is)

  module _ (n : ℕ) where
    -- how many records of an inode have the number
    abbrev numbers_at : ℕ → ℕ
    numbers_at d = if is_directory_inode m r d then count_by (λ i. i == n) (numbers_named_in m (inode_root m r d) (all_records (inode_root m r d))) else 0

    -- an entry's rows with the number are those of the inode
    entry_numbers : (d : ℕ) (e : Entry) → entry_of t d ≡ Some e → count_by (has_long n) (slots_of_body e.body) ≡ numbers_at d
    entry_numbers d e at = by_kind (is_directory_inode m r d) refl
      where
        by_kind : (b : Bool) → is_directory_inode m r d ≡ b → count_by (has_long n) (slots_of_body e.body) ≡ (if b then count_by (λ i. i == n) (numbers_named_in m (inode_root m r d) (all_records (inode_root m r d))) else 0)
        by_kind true dir =
            let x : DirectoryRead m r t d = directory_read m r t is d e at dir in
            let same : slots_of_body e.body ≡ x.slots = sym (ap (λ o. slots_of_entry o) at) ∙ x.slots_are in
            ap (λ l. count_by (has_long n) l) same
            ∙ numbers_slots m r.longfile n (raw_of m (inode_root m r d)) (range_with_len 0 ((inode_root m r d).size / 32)) x.slots x.read
            ∙ ap (λ ks. count_by (λ i. i == n) (numbers_named_in m (inode_root m r d) ks)) (sym (map-id (range_with_len 0 ((inode_root m r d).size / 32))))
        by_kind false other = ap (λ l. count_by (has_long n) l) (no_slots e.body (sym (ap (λ o. is_directory_kind o) (kind_here m r t is d e at)) ∙ other))

    -- those of a place of the tree are those of the walk's inode
    place_numbers : (k : ℕ) → count_by (has_long n) (slots_of_entry (entry_of t (suc k))) ≡ (if is_in (walked_inodes m r) (suc k) then numbers_at (suc k) else 0)
    place_numbers k = by_entry (entry_of t (suc k)) refl
      where
        by_entry : (o : Option Entry) → entry_of t (suc k) ≡ o → count_by (has_long n) (slots_of_entry o) ≡ (if is_in (walked_inodes m r) (suc k) then numbers_at (suc k) else 0)
        by_entry (Some e) at =
            let h : is_in (walked_inodes m r) (suc k) ≡ true = in_Contains (walked_inodes m r) (suc k) (walked_has m r t size is (suc k) e at) in
            entry_numbers (suc k) e at ∙ sym (ap (λ b. if b then numbers_at (suc k) else 0) h)
        by_entry None none =
            let out : is_in (walked_inodes m r) (suc k) ≡ false = not_so (is_in (walked_inodes m r) (suc k)) (λ h. let e = in_walk m m.bytes r t size is (λ b held. refl) (suc k) h in let clash : None ≡ Some e.0 = sym none ∙ e.1 in cc) in
            sym (ap (λ b. if b then numbers_at (suc k) else 0) out)

    -- the rows of the tree with the number are the records of the walk
    pub long_rows : rows_with_long t n ≡ count_by (λ k. k == n) (numbers_named m r (walked_inodes m r))
    long_rows =
        let rows : Option Entry → ℕ = λ o. count_by (has_long n) (slots_of_entry o) in
        sum_places rows None t.inodes 1
        ∙ sum_range (λ k. rows (slice_index_or t.inodes (k - 1) None)) (λ k. if is_in (walked_inodes m r) k then numbers_at k else 0) 1 (length t.inodes) (λ k low high.
        let one : suc (k - 1) ≡ k = omega arith in
        ap rows (place_flat t.inodes (k - 1)) ∙ place_numbers (k - 1) ∙ ap (λ z. if is_in (walked_inodes m r) z then numbers_at z else 0) one)
        ∙ ap (λ z. sum_by (λ k. if is_in (walked_inodes m r) k then numbers_at k else 0) (range_with_len 1 z)) is.places
        ∙ sum_members numbers_at (walked_inodes m r) 1 (inode_places r) walked_differ walked_within
        ∙ sym (count_kept n (is_directory_inode m r) (λ d. numbers_named_in m (inode_root m r d) (all_records (inode_root m r d))) (walked_inodes m r))
