-- An image to which none of the reasons from 4 on applies, and that has no tail: the copy of its reached inodes is laid out as this project does.
use Rattle.std.proofs.Common.{◌≡◌, ◌≢◌, ℕ, inl, inr, zero, suc, ◌+◌, ◌*◌, ◌/◌, ◌%◌, ◌≤◌, ◌<◌, List, [], ◌∷◌, length, refl, sym, ◌∙◌, ap, subst, arith}
use Rattle.std.specs.Prelude.{Bool, true, false, cond, not, ◌&&◌, ◌||◌, ◌==◌, Option, Some, None, is_some, Contains, count_by, map, filter, slice_get, if◌then◌else◌}
use Rattle.std.specs.Option.{option_flatten}
use Rattle.std.proofs.lemmas.Bool.{cases_eq, cases_lt, eqb-false, eqb-true, leb-true}
use Rattle.std.proofs.lemmas.List.FromFn.{length-map-range_with_len}
use Rattle.std.proofs.lemmas.Option.{slice_get_within}
use Rattle.qx_geom.specs.declared.root.Root.{Root}
use Rattle.qx_geom.specs.Lists.{IsAscending, is_in}
use Rattle.qx_geom.specs.Pointer.{ceil_div}
use Rattle.qx_geom.proofs.ImagesAndFilters.{Contains-in, in_Contains}
use Rattle.qx_geom.proofs.Members.{Contains-cases}
use Rattle.qx_geom.proofs.Truths.{and_left, and_right, not_true, or_left, or_right, same_truth, true_or_false}
use Rattle.qx_model.specs.Rooted.{AreRows}
use Rattle.qx_model.specs.Tree.{Body, Directory, Entry, File, Link, Row, Slot, Special, Tree, entry_of, is_special_body, slots_of, slots_of_body, slots_of_entry}
use Rattle.qx_model.specs.Whole.{HasNumber, HasRowFor, IsWhole, IsWholeBody, IsWholeDirectory, IsWholeEntry, body_size, long_name_of}
use Rattle.qx_nodes.proofs.ContentLocality.{reaches_of}
use Rattle.qx_nodes.proofs.MetLeaves.{present_ascends}
use Rattle.qx_nodes.specs.BlockMap.{BlockMap}
use Rattle.qx_nodes.specs.Content.{HasSize, Reaches, levels_fit}
use Rattle.qx_nodes.specs.ForeignNodes.{is_foreign_node}
use Rattle.qx_nodes.specs.Leaves.{leaves_below}
use Rattle.qx_nodes.specs.LongNames.{long_name}
use Rattle.qx_nodes.specs.NodeContents.{node_content}
use Rattle.qx_nodes.specs.Visits.{present_of}
use Rattle.qx_records.specs.InodeRecord.{kind_of}
use Rattle.qx_records.specs.NameRecord.{Short}
use Rattle.qx_records.specs.declared.inode.Inode.{Inode}
use Rattle.qx_records.specs.declared.kind.Kind.{Kind}
use Rattle.qx_records.specs.declared.kind.Kind.TheVariants as kinds
use Rattle.qx_view.proofs.EntryContents.{body_special, holds_body, kind_in}
use Rattle.qx_view.proofs.OuterNodes.{walked_has}
use Rattle.qx_view.proofs.TestsFromTree.{DirectoryRead, directory_read, has_slots, kind_here, special_here}
use Rattle.qx_view.specs.Entries.{IsBody}
use Rattle.qx_view.specs.Images.{Roots, inode_bytes, inode_of, inode_places, raw_of}
use Rattle.qx_view.specs.Reading.{IsEntry, IsTreeOf, reader_of, slot_of, slots_read}
use Rattle.qx_view.specs.Sound.{are_zero, bad_long_name, fails_dots, fails_inodes, fails_nodes, fails_tail, has_tail, is_foreign_directory, is_short, is_special_inode, is_special_kind, is_written_inode, numbers_named}
use Rattle.qx_view.specs.Walk.{inode_mode, inode_root, is_directory_inode, is_directory_kind, walked_inodes}
use Rattle.qx_copies.specs.Copies.{BlockCopy, inode_at, node_in}
use Rattle.qx_copies.specs.ImageCopies.{HasReached}
use Rattle.qx_copies.specs.Standing.{IsOwnCopy, IsOwnInode, written_status}
use Rattle.qx_copies.proofs.CountedPlaces.{GivesAt, counts_passing, full_range, one_place, some_place, two_places}
use Rattle.qx_copies.proofs.LongRows.{RowListed, counts_one, has_long, long_rows, number_at, row_listed, rows_with_long}
use Rattle.qx_copies.proofs.ReachedInodes.{inode_live, inode_same, node_found}
use Rattle.qx_copies.proofs.ShownNames.{listed_count, listed_slot}
use Rattle.qx_copies.proofs.ImageRows.{at_place, name_present, past_place, row_in, row_long, row_used, short_is, some_is}
use Rattle.qx_copies.proofs.ImageSizes.{blocks_whole, bytes_long, parts_whole, present_low, records_whole, size_here, two_rows}

-- ---- truths

-- what fails after a test that is passed
after_passed : (a b : Bool) → a ≡ true → (a && b) ≡ false → b ≡ false
after_passed true b e f = f
after_passed false b e f = absurd (cc)

-- a double denial
not_false : (b : Bool) → not b ≡ false → b ≡ true
not_false true e = refl
not_false false e = absurd (cc)

-- where a filter leaves nothing first, each member fails its test
none_left : (p : ℕ → Bool) (xs : List ℕ) → slice_get (filter p xs) 0 ≡ None → (x : ℕ) → Contains xs x → p x ≡ false
none_left p [] e x c = absurd (omega (arith, c.1))
none_left p (y ∷ ys) e x c = by_test (p y) refl e (λ f d. none_left p ys f x d)
  where
    by_test : (b : Bool) → p y ≡ b → slice_get (cond b (y ∷ filter p ys) (filter p ys)) 0 ≡ None → (slice_get (filter p ys) 0 ≡ None → Contains ys x → p x ≡ false) → p x ≡ false
    by_test true f e more = absurd (cc)
    by_test false f e more = elim (Contains-cases y x ys c) [ inl here ↦ ap p (sym here) ∙ f | inr there ↦ more e there ]

-- ---- kinds

-- the status that this project writes for a body's kind
written_is : (b : Body) → (if is_directory_kind (Some (kind_in b)) then 1 else 3) ≡ written_status (kind_in b)
written_is (Directory slots parent) = refl
written_is (File content) = refl
written_is (Link target) = refl
written_is Special = refl

-- a special's kind is a special's
special_kind : (k : Kind) → k ≡ kinds.Special → is_special_kind (Some k) ≡ true
special_kind k e = ap (λ x. is_special_kind (Some x)) e

module _ (m : BlockMap) (r : Roots) (c : BlockCopy) (t : Tree) (size : HasSize m) (is : IsTreeOf m r t) (has : HasReached m r c) (large : 64 ≤ m.size) (whole : m.size % 32 ≡ 0)
    (nodes : (n : ℕ) → n < inode_places r + 1 → fails_nodes m r (walked_inodes m r) n ≡ false) (dots : (n : ℕ) → n < inode_places r + 1 → fails_dots m r (walked_inodes m r) n ≡ false)
    (written : (n : ℕ) → n < inode_places r + 1 → fails_inodes m r (walked_inodes m r) n ≡ false) (tails : (n : ℕ) → n < inode_places r + 1 → fails_tail m r (walked_inodes m r) n ≡ false)
    (names : bad_long_name m r (walked_inodes m r) ≡ None) where
  -- what is known of an inode of the tree
  record Passed (n : ℕ) (e : Entry) : Type 0 where
    walked : is_in (walked_inodes m r) n ≡ true
    plain : is_special_body e.body ≡ false
    node : is_foreign_node m (inode_root m r n) ≡ false
    directory : is_directory_inode m r n ≡ true → is_foreign_directory m (inode_root m r n) ≡ false
    tail : has_tail m (inode_root m r n) ≡ false
    status : (inode_of m r.inodes n).status ≡ (if is_directory_inode m r n then 1 else 3)
    ext_mode : (inode_of m r.inodes n).ext_mode ≡ 0

  passed : (n : ℕ) (e : Entry) → entry_of t n ≡ Some e → Passed n e
  passed zero e at = absurd (cc)
  passed (suc k) e at =
      let i : IsEntry m r (suc k) e = is.each (suc k) e at in
      let low : suc k < inode_places r + 1 = (let w : suc k ≤ inode_places r = leb-true (suc k) (inode_places r) i.there in omega arith) in
      let h : is_in (walked_inodes m r) (suc k) ≡ true = in_Contains (walked_inodes m r) (suc k) (walked_has m r t size is (suc k) e at) in
      let write : is_written_inode m r (suc k) ≡ true = not_false (is_written_inode m r (suc k)) (sym (ap (λ b. if b then not (is_written_inode m r (suc k)) else not (are_zero (inode_bytes m r.inodes (suc k)))) h) ∙ written (suc k) low) in
      let rest = and_right (not (is_special_inode m r (suc k))) _ write in
      let plain : is_special_inode m r (suc k) ≡ false = not_true (is_special_inode m r (suc k)) (and_left (not (is_special_inode m r (suc k))) _ write) in
      let both : (is_foreign_node m (inode_root m r (suc k)) || (is_directory_inode m r (suc k) && is_foreign_directory m (inode_root m r (suc k)))) ≡ false
      = after_passed (not (is_special_inode m r (suc k))) _ (ap not plain) (after_passed (is_in (walked_inodes m r) (suc k)) _ h (nodes (suc k) low)) in
      record {
        walked = h;
        plain = sym (special_here m r t is (suc k) e at) ∙ plain;
        node = or_left (is_foreign_node m (inode_root m r (suc k))) _ both;
        directory = λ dir. after_passed (is_directory_inode m r (suc k)) _ dir (or_right (is_foreign_node m (inode_root m r (suc k))) _ both);
        tail = after_passed (not (is_special_inode m r (suc k))) _ (ap not plain) (after_passed (is_in (walked_inodes m r) (suc k)) _ h (tails (suc k) low));
        status = eqb-true _ _ (and_left ((inode_of m r.inodes (suc k)).status == (if is_directory_inode m r (suc k) then 1 else 3)) _ rest);
        ext_mode = eqb-true _ _ (and_left ((inode_of m r.inodes (suc k)).ext_mode == 0) _ (and_right ((inode_of m r.inodes (suc k)).status == (if is_directory_inode m r (suc k) then 1 else 3)) _ rest));
      }

  -- ---- entries

  -- its body is what its node holds
  body_is : (n : ℕ) (e : Entry) → entry_of t n ≡ Some e → IsBody (reader_of m r.longfile) (node_content m (inode_root m r n)) (kind_in e.body) e.body
  body_is n e at = let i = (is.each n e at).is in holds_body (reader_of m r.longfile) (node_content m (inode_root m r n)) i.kind e i.holds (passed n e at).plain

  -- what a directory's record says
  abbrev slot_read : ℕ → ℕ → Option Slot
  slot_read n k = slot_of m r.longfile (raw_of m (inode_root m r n) k)

  -- a directory is whole
  own_directory : (n : ℕ) (e : Entry) (slots : List Slot) (p : ℕ) → entry_of t n ≡ Some e → e.body ≡ Directory slots p → IsWholeDirectory m.size n e slots p
  own_directory n e slots p at body =
      let i : IsEntry m r n e = is.each n e at in
      let q : Passed n e = passed n e at in
      let low : n < inode_places r + 1 = (let w : n ≤ inode_places r = leb-true n (inode_places r) i.there in omega arith) in
      let node : Root = inode_root m r n in
      let dir : is_directory_inode m r n ≡ true = ap (λ o. is_directory_kind o) (kind_here m r t is n e at) ∙ ap (λ b. is_directory_kind (Some (kind_in b))) body in
      let facts : (e.size ≡ node.size) × (e.present ≡ present_of m node) = size_here m r t is n e at (passed n e at).plain in
      let ours : is_foreign_directory m node ≡ false = q.directory dir in
      let more : (not (node.size % m.size == 0) || not (length (present_of m node) == node.size / m.size)) ≡ false = or_right (node.size == 0) _ ours in
      let some : node.size ≢ 0 = eqb-false node.size 0 (or_left (node.size == 0) _ ours) in
      let blocks : node.size % m.size ≡ 0 = eqb-true _ _ (not_false (node.size % m.size == 0) (or_left (not (node.size % m.size == 0)) _ more)) in
      let full : length (present_of m node) ≡ node.size / m.size = eqb-true _ _ (not_false (length (present_of m node) == node.size / m.size) (or_right (not (node.size % m.size == 0)) _ more)) in
      let two : 64 ≤ node.size = two_rows node.size m.size large some blocks in
      let slots_here : slots_of t n ≡ slots = ap (λ o. slots_of_entry o) at ∙ ap (λ b. slots_of_body b) body in
      let read : slots_read m r.longfile node ≡ map (λ s. Some s) slots = subst (λ b. IsBody (reader_of m r.longfile) (node_content m node) (kind_in b) b) body (body_is n e at) in
      let begin : (is_short (raw_of m node 0) (46 ∷ []) && is_short (raw_of m node 1) (46 ∷ 46 ∷ [])) ≡ true = not_false _ (after_passed (is_directory_inode m r n) _ dir (after_passed (is_in (walked_inodes m r) n) _ q.walked (dots n low))) in
      let first : (i : ℕ) × (raw_of m node 0 ≡ Short i (46 ∷ [])) = short_is (raw_of m node 0) (46 ∷ []) (and_left (is_short (raw_of m node 0) (46 ∷ [])) _ begin) in
      let second : (i : ℕ) × (raw_of m node 1 ≡ Short i (46 ∷ 46 ∷ [])) = short_is (raw_of m node 1) (46 ∷ 46 ∷ []) (and_right (is_short (raw_of m node 0) (46 ∷ [])) _ begin) in
      let dot : slice_get slots 0 ≡ Some (Row first.0 (46 ∷ []) None) = sym (listed_slot (node.size / 32) (slot_read n) slots read 0 (omega (arith, two))) ∙ ap (λ x. slot_of m r.longfile x) first.1 in
      let dotdot : slice_get slots 1 ≡ Some (Row second.0 (46 ∷ 46 ∷ []) None) = sym (listed_slot (node.size / 32) (slot_read n) slots read 1 (omega (arith, two))) ∙ ap (λ x. slot_of m r.longfile x) second.1 in
      let rows : AreRows n p (slots_of t n) = is.rooted.rows n p (e, slots, at, body) in
      let itself : first.0 ≡ n = rows.dot 0 first.0 None (ap (λ l. slice_get l 0) slots_here ∙ dot) in
      let parent : second.0 ≡ p = rows.dots 1 second.0 None (ap (λ l. slice_get l 1) slots_here ∙ dotdot) in
      record {
        some = omega (arith, facts.0, two);
        whole = ap (λ z. z % m.size) facts.0 ∙ blocks;
        filled = λ i below. subst (λ l. is_in l i ≡ true) (sym facts.1)
            (full_range 0 (node.size / m.size) (present_of m node) (present_ascends m node size.words)
            (λ y among. (omega arith, (let z : y < leaves_below m node = present_low m node y among in let same : leaves_below m node ≡ node.size / m.size = parts_whole node.size m.size size.size blocks in omega (arith, z, same))))
            (let same : node.size / m.size ≡ length (present_of m node) = sym full in omega (arith, same)) i (omega arith) (let z : i < node.size / m.size = subst (λ z. i < z / m.size) facts.0 below in omega (arith, z)));
        dot = dot ∙ ap (λ z. Some (Row z (46 ∷ []) None)) itself;
        dots = dotdot ∙ ap (λ z. Some (Row z (46 ∷ 46 ∷ []) None)) parent;
      }

  -- so is each entry
  whole_entry : (n : ℕ) (e : Entry) → entry_of t n ≡ Some e → IsWholeEntry m.size n e
  whole_entry n e at =
      let node : Root = inode_root m r n in
      let facts : (e.size ≡ node.size) × (e.present ≡ present_of m node) = size_here m r t is n e at (passed n e at).plain in
      record {
        size = by_size e.body refl (body_is n e at);
        ascends = subst IsAscending (sym facts.1) (present_ascends m node size.words);
        below = λ i among. subst (λ z. i < ceil_div z m.size) (sym facts.0) (present_low m node i (Contains-in (present_of m node) i (subst (λ l. is_in l i ≡ true) facts.1 among)));
        body = by_body e.body refl;
      }
    where
      by_size : (b : Body) → e.body ≡ b → IsBody (reader_of m r.longfile) (node_content m (inode_root m r n)) (kind_in b) b → e.size ≡ body_size b
      by_size (Directory slots p) body h =
          let d : IsWholeDirectory m.size n e slots p = own_directory n e slots p at body in
          records_whole e.size m.size d.whole whole
          ∙ ap (λ z. 32 * (z / 32)) (size_here m r t is n e at (passed n e at).plain).0 ∙ ap (λ z. 32 * z) (listed_count ((inode_root m r n).size / 32) (slot_read n) slots h)
      by_size (File content) body h = (size_here m r t is n e at (passed n e at).plain).0 ∙ sym (ap (λ (l : List ℕ). length l) h ∙ bytes_long m.size (node_content m (inode_root m r n)))
      by_size (Link target) body h = (size_here m r t is n e at (passed n e at).plain).0 ∙ sym (ap (λ (l : List ℕ). length l) h.0 ∙ bytes_long m.size (node_content m (inode_root m r n)))
      by_size Special body h = absurd (true_or_false (is_special_body e.body) (ap (λ b. is_special_body b) body) (passed n e at).plain)

      by_body : (b : Body) → e.body ≡ b → IsWholeBody m.size n e b
      by_body (Directory slots p) body = own_directory n e slots p at body
      by_body (File content) body = tt
      by_body (Link target) body = tt
      by_body Special body = tt

  -- ---- long names

  -- the Longfile has whole leaves
  size_whole : r.longfile.size % m.size ≡ 0
  size_whole = by_test (r.longfile.size % m.size == 0) refl names
    where
      by_test : (b : Bool) → (r.longfile.size % m.size == 0) ≡ b → (if not b then Some 0 else slice_get (filter (λ n. not (count_by (λ k. k == n) (numbers_named m r (walked_inodes m r)) == 1)) (present_of m r.longfile)) 0) ≡ None → r.longfile.size % m.size ≡ 0
      by_test true e h = eqb-true _ _ e
      by_test false e h = absurd (cc)

  -- each present one is one row's
  one_row : (n : ℕ) → is_in (present_of m r.longfile) n ≡ true → rows_with_long t n ≡ 1
  one_row n among =
      long_rows m r t size is n
      ∙ eqb-true _ _ (not_false _ (none_left (λ n. not (count_by (λ k. k == n) (numbers_named m r (walked_inodes m r)) == 1)) (present_of m r.longfile) (by_test (r.longfile.size % m.size == 0) names) n (Contains-in (present_of m r.longfile) n among)))
    where
      by_test : (b : Bool) → (if not b then Some 0 else slice_get (filter (λ n. not (count_by (λ k. k == n) (numbers_named m r (walked_inodes m r)) == 1)) (present_of m r.longfile)) 0) ≡ None → slice_get (filter (λ n. not (count_by (λ k. k == n) (numbers_named m r (walked_inodes m r)) == 1)) (present_of m r.longfile)) 0 ≡ None
      by_test true h = h
      by_test false h = absurd (cc)

  -- the Longfile's levels reach its size
  reaches : Reaches m r.longfile
  reaches = reaches_of m r.longfile size (and_left (levels_fit m r.longfile) _ is.longfile_fits)

  -- the tree's long names are the blocks'
  name_here : (n : ℕ) → n < leaves_below m r.longfile → long_name_of t n ≡ long_name m r.longfile n
  name_here n low = ap (λ l. option_flatten (slice_get l n)) is.long_names ∙ at_place (leaves_below m r.longfile) (λ k. long_name m r.longfile k) n low

  name_past : (n : ℕ) → leaves_below m r.longfile ≤ n → long_name_of t n ≡ None
  name_past n past = ap (λ l. option_flatten (slice_get l n)) is.long_names ∙ past_place (leaves_below m r.longfile) (λ k. long_name m r.longfile k) n past

  -- a long name is of a leaf below the size
  name_low : (n : ℕ) (name : List ℕ) → long_name m r.longfile n ≡ Some name → n < leaves_below m r.longfile
  name_low n name e = present_low m r.longfile n (Contains-in (present_of m r.longfile) n (name_present m r.longfile n name reaches e))

  -- a name of the tree is of a present leaf
  name_found : (n : ℕ) (name : List ℕ) → long_name_of t n ≡ Some name → is_in (present_of m r.longfile) n ≡ true
  name_found n name e = elim (cases_lt n (leaves_below m r.longfile)) [
    | inl low ↦ name_present m r.longfile n name reaches (sym (name_here n low) ∙ e)
    | inr past ↦ let clash : None ≡ Some name = sym (name_past n past) ∙ e in absurd (cc)
  ]

  -- a row with a number stands in its directory's slots
  row_at : (d k number : ℕ) (name : List ℕ) (h : HasNumber t d k number name) → slice_get (slots_of t d) k ≡ Some (Row h.inode name (Some number))
  row_at d k number name h = row_in (slots_of t d) k (Row h.inode name (Some number)) (row_used h.inode name (Some number)) h.is

  -- and its number has its name
  row_name : (d k number : ℕ) (name : List ℕ) → HasNumber t d k number name → long_name m r.longfile number ≡ Some name
  row_name d k number name h =
      let at = row_at d k number name h in
      let w : (e : Entry) × (entry_of t d ≡ Some e) × (is_directory_inode m r d ≡ true) = has_slots m r t is d k (Row h.inode name (Some number)) at in
      let f : DirectoryRead m r t d = directory_read m r t is d w.0 w.1 w.2 in
      let here : slice_get f.slots k ≡ Some (Row h.inode name (Some number)) = subst (λ l. slice_get l k ≡ Some (Row h.inode name (Some number))) f.slots_are at in
      let count : (inode_root m r d).size / 32 ≡ length f.slots = listed_count ((inode_root m r d).size / 32) (slot_read d) f.slots f.read in
      let low : k < (inode_root m r d).size / 32 = (let within : k < length f.slots = slice_get_within f.slots k _ here in omega (arith, within, count)) in
      row_long (long_name m r.longfile) (raw_of m (inode_root m r d) k) h.inode number name (listed_slot ((inode_root m r d).size / 32) (slot_read d) f.slots f.read k low ∙ here)

  -- so has the tree's
  row_named : (d k number : ℕ) (name : List ℕ) → HasNumber t d k number name → long_name_of t number ≡ Some name
  row_named d k number name h = let e = row_name d k number name h in name_here number (name_low number name e) ∙ e

  -- each present leaf has a row
  row_there : (n : ℕ) → is_in (present_of m r.longfile) n ≡ true → HasRowFor t n
  row_there n among =
      let outer : GivesAt (λ (o : Option Entry). count_by (has_long n) (slots_of_entry o)) t.inodes = some_place (λ (o : Option Entry). count_by (has_long n) (slots_of_entry o)) t.inodes (omega (arith, one_row n among)) in
      let inner : GivesAt (λ (s : Slot). cond (has_long n s) 1 0) (slots_of_entry outer.it) = some_place (λ (s : Slot). cond (has_long n s) 1 0) (slots_of_entry outer.it) outer.gives in
      let row = number_at t outer.place inner.place n outer.it inner.it outer.at inner.at (counts_passing (has_long n inner.it) inner.gives) in
      record { directory = suc outer.place; record_number = inner.place; name = row.0; is = row.1 }

  -- the leaves that are present are those with names
  names_there : (n : ℕ) → is_in t.long_present n ≡ is_some (long_name_of t n)
  names_there n =
      same_truth (is_in t.long_present n) (is_some (long_name_of t n))
      (λ among. let row : HasRowFor t n = row_there n (subst (λ l. is_in l n ≡ true) is.long_present among) in ap (λ o. is_some o) (row_named row.directory row.record_number n row.name row.is))
      (λ some. let name = some_is (long_name_of t n) some in subst (λ l. is_in l n ≡ true) (sym is.long_present) (name_found n name.0 name.1))

  -- two rows with one number are one
  rows_once : (d k c j number : ℕ) (name other : List ℕ) → HasNumber t d k number name → HasNumber t c j number other → (d ≡ c) × (k ≡ j)
  rows_once zero k c j number name other a b = absurd (omega (arith, slice_get_within [] k _ (row_at zero k number name a)))
  rows_once (suc d) k zero j number name other a b = absurd (omega (arith, slice_get_within [] j _ (row_at zero j number other b)))
  rows_once (suc d) k (suc c) j number name other a b = elim (cases_eq d c) [
    | inl same ↦
        let p : RowListed t d k number = row_listed t d k number name a in
        let q : RowListed t d j number = subst (λ z. RowListed t z j number) (sym same) (row_listed t c j number other b) in
        let both : Some p.it ≡ Some q.it = sym p.listed ∙ q.listed in
        let it : q.it ≡ p.it = cc in
        let bt : slice_get (slots_of_entry p.it) j ≡ Some q.slot = subst (λ o. slice_get (slots_of_entry o) j ≡ Some q.slot) it q.at in
        let sum : count_by (has_long number) (slots_of_entry p.it) ≤ rows_with_long t number = one_place (λ (o : Option Entry). count_by (has_long number) (slots_of_entry o)) t.inodes d p.it p.listed in (
          ap suc same,
          elim (cases_eq k j) [
            | inl e ↦ e
            | inr apart ↦
                let two : cond (has_long number p.slot) 1 0 + cond (has_long number q.slot) 1 0 ≤ count_by (has_long number) (slots_of_entry p.it) = two_places (λ (s : Slot). cond (has_long number s) 1 0) (slots_of_entry p.it) k j p.slot q.slot p.at bt apart in
                absurd (omega (arith, two, sum, one_row number present, counts_one number p.slot p.has, counts_one number q.slot q.has))
          ],
        )
    | inr apart ↦
        let p : RowListed t d k number = row_listed t d k number name a in
        let q : RowListed t c j number = row_listed t c j number other b in
        let first : cond (has_long number p.slot) 1 0 ≤ count_by (has_long number) (slots_of_entry p.it) = one_place (λ (s : Slot). cond (has_long number s) 1 0) (slots_of_entry p.it) k p.slot p.at in
        let second : cond (has_long number q.slot) 1 0 ≤ count_by (has_long number) (slots_of_entry q.it) = one_place (λ (s : Slot). cond (has_long number s) 1 0) (slots_of_entry q.it) j q.slot q.at in
        let two : count_by (has_long number) (slots_of_entry p.it) + count_by (has_long number) (slots_of_entry q.it) ≤ rows_with_long t number
        = two_places (λ (o : Option Entry). count_by (has_long number) (slots_of_entry o)) t.inodes d c p.it q.it p.listed q.listed apart in
        absurd (omega (arith, two, first, second, one_row number present, counts_one number p.slot p.has, counts_one number q.slot q.has))
  ]
    where
      present : is_in (present_of m r.longfile) number ≡ true
      present = name_present m r.longfile number name reaches (row_name (suc d) k number name a)

  -- all parts agree
  whole_tree : IsWhole m.size t
  whole_tree = record {
    entries = whole_entry;
    longs = record {
      whole = is.long_size ∙ blocks_whole r.longfile.size m.size size.size size_whole
          ∙ ap (λ z. z * m.size) (sym (ap (λ l. length l) is.long_names ∙ length-map-range_with_len (λ k. long_name m r.longfile k) 0 (leaves_below m r.longfile)));
      ascends = subst IsAscending (sym is.long_present) (present_ascends m r.longfile size.words);
      there = names_there;
    };
    numbers = record { names = row_named; once = rows_once };
  }

  -- ---- the copy

  own_inode : (n : ℕ) (i : Inode) → inode_at c.inodes n ≡ Some i → IsOwnInode i
  own_inode n i there =
      let e : (e : Entry) × (entry_of t n ≡ Some e) = inode_live m r c t is has n i there in
      let same : inode_of m r.inodes n ≡ i = inode_same m r c t is has n i there in
      let q : Passed n e.0 = passed n e.0 e.1 in
      let here : kind_of (inode_mode m r n) ≡ Some (kind_in e.0.body) = kind_here m r t is n e.0 e.1 in
      record {
        kind = kind_in e.0.body;
        kind_is = ap (λ (x : Inode). kind_of x.mode) (sym same) ∙ here;
        no_special = λ special. true_or_false (is_special_kind (Some (kind_in e.0.body))) (special_kind (kind_in e.0.body) special) (sym (body_special e.0.body) ∙ q.plain);
        status = ap (λ (x : Inode). x.status) (sym same) ∙ q.status ∙ ap (λ o. if is_directory_kind o then 1 else 3) here ∙ written_is e.0.body;
        ext_mode = ap (λ (x : Inode). x.ext_mode) (sym same) ∙ q.ext_mode;
      }

  own_node : (o : ℕ) (node : Root) → node_in c o ≡ Some node → is_foreign_node m node ≡ false
  own_node zero node h = let same : c.longfile ≡ node = cc in subst (λ x. is_foreign_node m x ≡ false) (sym (sym same ∙ has.longfile)) (nodes 0 (omega arith))
  own_node (suc k) node h = let f = node_found m r c t is has k node h in ap (λ x. is_foreign_node m x) f.root ∙ (passed (suc k) f.entry f.at).node

  own_tail : (n : ℕ) (node : Root) → node_in c (suc n) ≡ Some node → has_tail m node ≡ false
  own_tail n node h = let f = node_found m r c t is has n node h in ap (λ x. has_tail m x) f.root ∙ (passed (suc n) f.entry f.at).tail

  -- is laid out as this project does
  pub copy_own : IsOwnCopy m c t
  copy_own = record {
    whole = whole_tree;
    used = λ n some. let name = some_is (long_name_of t n) some in row_there n (name_found n name.0 name.1);
    inodes = own_inode;
    nodes = own_node;
    tails = own_tail;
  }
