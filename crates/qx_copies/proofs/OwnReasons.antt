-- A copy that is laid out as this project does, whose inodes stand in an Inode tree: none of the reasons from 4 on applies to what begins at its roots, and there is no tail.
use Rattle.std.proofs.Common.{◌≡◌, ℕ, zero, suc, ◌+◌, ◌/◌, ◌%◌, ◌≤◌, ◌<◌, List, [], ◌∷◌, length, refl, sym, ◌∙◌, ap, subst, arith}
use Rattle.std.specs.Prelude.{Bool, true, false, not, ◌&&◌, ◌==◌, Option, Some, None, is_some, Contains, count_by, drop, filter, slice_get, if◌then◌else◌}
use Rattle.std.specs.List.{range_with_len}
use Rattle.std.proofs.Math.Nat.{mul-mod_left}
use Rattle.std.proofs.lemmas.Bool.{cond-false, eq-eqb, ne_eqb, or_from}
use Rattle.std.proofs.lemmas.List.FromFn.{length-range_with_len}
use Rattle.std.proofs.lemmas.Option.{slice_get_within}
use Rattle.qx_geom.specs.declared.root.Root.{Root}
use Rattle.qx_geom.specs.Lists.{is_in}
use Rattle.qx_geom.proofs.AscendingLists.{ascending_same}
use Rattle.qx_geom.proofs.ImagesAndFilters.{Contains-in, in_Contains}
use Rattle.qx_geom.proofs.Members.{Contains-cons, Contains-head}
use Rattle.qx_geom.proofs.Truths.{true_or_false}
use Rattle.qx_model.specs.Tree.{Entry, IsDirectory, Row, Tree, entry_of, is_special_body, slots_of_body, slots_of_entry}
use Rattle.qx_model.specs.Whole.{IsWholeBody, IsWholeDirectory, IsWholeEntry, long_name_of}
use Rattle.qx_nodes.specs.BlockMap.{BlockMap}
use Rattle.qx_nodes.specs.Content.{HasSize}
use Rattle.qx_nodes.specs.Leaves.{leaves_below}
use Rattle.qx_nodes.specs.LongNames.{long_name}
use Rattle.qx_nodes.specs.Visits.{present_of}
use Rattle.qx_nodes.proofs.MetLeaves.{present_ascends}
use Rattle.qx_records.specs.InodeRecord.{kind_of}
use Rattle.qx_records.specs.NameRecord.{Bad, Long, RawRecord, Short}
use Rattle.qx_records.specs.NameRecord as records
use Rattle.qx_records.specs.NameSum.{sum_fits}
use Rattle.qx_records.specs.declared.inode.Inode.{Inode}
use Rattle.qx_records.specs.declared.kind.Kind.{Kind}
use Rattle.qx_records.specs.declared.kind.Kind.TheVariants as kinds
use Rattle.qx_view.proofs.AscendingRanges.{in_range, range_ascends, range_has}
use Rattle.qx_view.proofs.OuterNodes.{walked_has}
use Rattle.qx_view.proofs.TestsFromTree.{DirectoryRead, directory_read, special_here}
use Rattle.qx_view.proofs.WalkAlike.{in_walk}
use Rattle.qx_view.specs.Entries.{long_slot, slot_by}
use Rattle.qx_view.specs.Images.{Roots, inode_bytes, inode_of, inode_places, raw_of}
use Rattle.qx_view.specs.Reading.{IsTreeOf, slot_of}
use Rattle.qx_view.specs.Sound.{are_zero, bad_long_name, fails_dots, fails_inodes, fails_nodes, fails_tail, has_tail, is_foreign_directory, is_short, is_special_inode, is_special_kind, is_written_inode, numbers_named}
use Rattle.qx_view.specs.Walk.{inode_root, is_directory_inode, is_directory_kind, walked_inodes}
use Rattle.qx_copies.specs.Copies.{BlockCopy, contents_of, inode_at, node_in}
use Rattle.qx_copies.specs.ImageCopies.{HasInodesAt}
use Rattle.qx_copies.specs.Shown.{IsSameInode, reader_by}
use Rattle.qx_copies.specs.Standing.{IsOwnCopy, IsOwnInode, Represents, written_status}
use Rattle.qx_copies.proofs.CopyTrees.{Found, found, node_there}
use Rattle.qx_copies.proofs.LongRows.{long_rows, rows_are_one}
use Rattle.qx_copies.proofs.ImageSizes.{parts_whole, present_low, size_here}
use Rattle.qx_copies.proofs.ShownNames.{listed_count, listed_slot}

-- ---- truths

-- two tests, the second failing where the first is passed
and_none : (a b : Bool) → (a ≡ true → b ≡ false) → (a && b) ≡ false
and_none true b none = none refl
and_none false b none = refl

-- ---- records

-- a row without a number is a short record's
short_row : (names : ℕ → Option (List ℕ)) (raw : RawRecord) (n : ℕ) (name : List ℕ) → slot_by names raw ≡ Some (Row n name None) → raw ≡ Short n name
short_row names records.Unused n name e = absurd (cc)
short_row names (Short i other) n name e = cc
short_row names (Bad count) n name e = absurd (cc)
short_row names (Long i number sum) n name e = by_name (names number) e
  where
    by_sum : (b : Bool) (other : List ℕ) → (if b then Some (Row i other (Some number)) else None) ≡ Some (Row n name None) → Long i number sum ≡ Short n name
    by_sum true other e = absurd (cc)
    by_sum false other e = absurd (cc)

    by_name : (o : Option (List ℕ)) → long_slot i number sum o ≡ Some (Row n name None) → Long i number sum ≡ Short n name
    by_name None e = absurd (cc)
    by_name (Some other) e = by_sum (sum_fits sum other) other e

-- ---- kinds

-- a kind that is no special's
plain_of : (k : Kind) → ¬ (k ≡ kinds.Special) → is_special_kind (Some k) ≡ false
plain_of kinds.Special e = absurd (e refl)
plain_of kinds.Directory e = refl
plain_of kinds.File e = refl
plain_of kinds.Link e = refl

-- the status that this project writes
written_of : (k : Kind) → written_status k ≡ (if is_directory_kind (Some k) then 1 else 3)
written_of kinds.Directory = refl
written_of kinds.File = refl
written_of kinds.Link = refl
written_of kinds.Special = refl

-- none of what all fail is left
filter_empty : (p : ℕ → Bool) (xs : List ℕ) → ((x : ℕ) → Contains xs x → p x ≡ false) → filter p xs ≡ []
filter_empty p [] each = refl
filter_empty p (x ∷ xs) each = cond-false (p x) (x ∷ filter p xs) (filter p xs) (each x (Contains-head x xs)) ∙ filter_empty p xs (λ y c. each y (Contains-cons x y xs c))

module _ (m : BlockMap) (r : Roots) (c : BlockCopy) (t : Tree) (size : HasSize m) (tree : IsTreeOf m r t) (is : Represents m c t) (has : HasInodesAt m r c) (own : IsOwnCopy m c t) where
  -- each inode to which the walk comes is the tree's
  entered : (n : ℕ) → is_in (walked_inodes m r) n ≡ true → (e : Entry) × (entry_of t n ≡ Some e)
  entered n h = in_walk m m.bytes r t size tree (λ b held. refl) n h

  -- and as this project writes it
  own_here : (n : ℕ) (e : Entry) (f : Found m r c t size is has n e) → IsOwnInode f.inode
  own_here n e f = own.inodes n f.inode f.there

  kind_is : (n : ℕ) (e : Entry) (f : Found m r c t size is has n e) → kind_of (inode_of m r.inodes n).mode ≡ Some (own_here n e f).kind
  kind_is n e f = ap (λ (i : Inode). kind_of i.mode) f.read ∙ (own_here n e f).kind_is

  plain : (n : ℕ) (e : Entry) (f : Found m r c t size is has n e) → is_special_inode m r n ≡ false
  plain n e f = ap (λ o. is_special_kind o) (kind_is n e f) ∙ plain_of (own_here n e f).kind (own_here n e f).no_special

  plain_body : (n : ℕ) (e : Entry) (f : Found m r c t size is has n e) → entry_of t n ≡ Some e → is_special_body e.body ≡ false
  plain_body n e f at = sym (special_here m r t tree n e at) ∙ plain n e f

  -- its node is one of the copy's
  node_here : (n : ℕ) (e : Entry) → entry_of t n ≡ Some e → node_in c n ≡ Some (inode_root m r n)
  node_here n e at =
      let f : Found m r c t size is has n e = found m r c t size is has n e at in
      node_there m r c t size is has n e f (plain_body n e f at) ∙ ap (λ (i : Inode). Some i.root) (sym f.read)

  -- a directory is whole
  record DirectoryHere (n : ℕ) : Type 0 where
    read : DirectoryRead m r t n
    entry : Entry
    at : entry_of t n ≡ Some entry
    slots_size : entry.size ≡ (inode_root m r n).size
    present : entry.present ≡ present_of m (inode_root m r n)
    entry_whole : IsWholeEntry m.size n entry
    whole : IsWholeDirectory m.size n entry read.slots read.parent

  directory_here : (n : ℕ) (e : Entry) → entry_of t n ≡ Some e → is_directory_inode m r n ≡ true → DirectoryHere n
  directory_here n e at dir =
      let d : DirectoryRead m r t n = directory_read m r t tree n e at dir in
      by_directory d d.is
    where
      by_directory : (d : DirectoryRead m r t n) → IsDirectory t n d.parent → DirectoryHere n
      by_directory d (f, slots, there, body) =
          let w : IsWholeEntry m.size n f = own.whole.entries n f there in
          let same : slots ≡ d.slots = sym (ap (λ o. slots_of_entry o) there ∙ ap (λ b. slots_of_body b) body) ∙ d.slots_are in
          let facts = node_facts n f there in
          record {
            read = d;
            entry = f;
            at = there;
            slots_size = facts.0;
            present = facts.1;
            entry_whole = w;
            whole = subst (λ l. IsWholeDirectory m.size n f l d.parent) same (subst (λ b. IsWholeBody m.size n f b) body w.body);
          }
        where
          node_facts : (n : ℕ) (f : Entry) → entry_of t n ≡ Some f → (f.size ≡ (inode_root m r n).size) × (f.present ≡ present_of m (inode_root m r n))
          node_facts n f there = size_here m r t tree n f there (plain_body n f (found m r c t size is has n f there) there)

  -- so its node is as this project writes it
  directory_ours : (n : ℕ) (e : Entry) → entry_of t n ≡ Some e → is_directory_inode m r n ≡ true → is_foreign_directory m (inode_root m r n) ≡ false
  directory_ours n e at dir =
      let d : DirectoryHere n = directory_here n e at dir in
      let node : Root = inode_root m r n in
      let some : (node.size == 0) ≡ false = ne_eqb node.size 0 (λ z. let w = d.whole.some in omega (arith, z, d.slots_size, w)) in
      let blocks : node.size % m.size ≡ 0 = ap (λ z. z % m.size) (sym d.slots_size) ∙ d.whole.whole in
      let all : present_of m node ≡ range_with_len 0 (node.size / m.size) = ascending_same (present_of m node) (range_with_len 0 (node.size / m.size)) (present_ascends m node size.words) (range_ascends 0 (node.size / m.size))
      (λ i among. range_has 0 (node.size / m.size) i (omega arith) (let z : i < leaves_below m node = present_low m node i among in let same : leaves_below m node ≡ node.size / m.size = parts_whole node.size m.size size.size blocks in omega (arith, z, same)))
      (λ i among. Contains-in (present_of m node) i (subst (λ l. is_in l i ≡ true) d.present (d.whole.filled i (subst (λ z. i < z / m.size) (sym d.slots_size) (let z = in_range 0 (node.size / m.size) i among in omega (arith, z.1)))))) in
      let full : length (present_of m node) ≡ node.size / m.size = ap (λ (l : List ℕ). length l) all ∙ length-range_with_len 0 (node.size / m.size) in
      or_from _ _ some (or_from _ _ (ap not (eq-eqb (node.size % m.size) 0 blocks)) (ap not (eq-eqb (length (present_of m node)) (node.size / m.size) full)))

  -- no node fails
  pub nodes_pass : (n : ℕ) → fails_nodes m r (walked_inodes m r) n ≡ false
  nodes_pass zero = own.nodes 0 r.longfile (ap (λ x. Some x) has.longfile)
  nodes_pass (suc k) = and_none (is_in (walked_inodes m r) (suc k)) _ (λ h.
      let e = entered (suc k) h in
      and_none (not (is_special_inode m r (suc k))) _ (λ other.
      or_from _ _ (own.nodes (suc k) (inode_root m r (suc k)) (node_here (suc k) e.0 e.1))
      (and_none (is_directory_inode m r (suc k)) _ (λ dir. directory_ours (suc k) e.0 e.1 dir))))

  -- a directory begins with its two rows
  dots_ours : (n : ℕ) (e : Entry) → entry_of t n ≡ Some e → is_directory_inode m r n ≡ true → (is_short (raw_of m (inode_root m r n) 0) (46 ∷ []) && is_short (raw_of m (inode_root m r n) 1) (46 ∷ 46 ∷ [])) ≡ true
  dots_ours n e at dir =
      let d : DirectoryHere n = directory_here n e at dir in
      let node : Root = inode_root m r n in
      let count : node.size / 32 ≡ length d.read.slots = listed_count (node.size / 32) (λ k. slot_of m r.longfile (raw_of m node k)) d.read.slots d.read.read in
      let one : 1 < length d.read.slots = slice_get_within d.read.slots 1 _ d.whole.dots in
      let first : raw_of m node 0 ≡ Short n (46 ∷ []) = short_row (long_name m r.longfile) _ n (46 ∷ []) (listed_slot (node.size / 32) (λ k. slot_of m r.longfile (raw_of m node k)) d.read.slots d.read.read 0 (omega (arith, one, count)) ∙ d.whole.dot) in
      let second : raw_of m node 1 ≡ Short d.read.parent (46 ∷ 46 ∷ []) = short_row (long_name m r.longfile) _ d.read.parent (46 ∷ 46 ∷ []) (listed_slot (node.size / 32) (λ k. slot_of m r.longfile (raw_of m node k)) d.read.slots d.read.read 1 (omega (arith, one, count)) ∙ d.whole.dots) in
      λ j. is_short (first j) (46 ∷ []) && is_short (second j) (46 ∷ 46 ∷ [])

  -- no directory fails
  pub dots_pass : (n : ℕ) → fails_dots m r (walked_inodes m r) n ≡ false
  dots_pass n = and_none (is_in (walked_inodes m r) n) _ (λ h.
      let e = entered n h in
      and_none (is_directory_inode m r n) _ (λ dir. ap not (dots_ours n e.0 e.1 dir)))

  -- no inode fails, where the bytes that no field has are 0, and all those of numbers without an inode
  pub inodes_pass : ((n : ℕ) (i : Inode) → inode_at c.inodes n ≡ Some i → are_zero (drop 102 (inode_bytes m r.inodes n)) ≡ true) → ((n : ℕ) → 0 < n → n ≤ length c.inodes → inode_at c.inodes n ≡ None → are_zero (inode_bytes m r.inodes n) ≡ true)
      → (n : ℕ) → n < inode_places r + 1 → fails_inodes m r (walked_inodes m r) n ≡ false
  inodes_pass unnamed dead zero low = refl
  inodes_pass unnamed dead (suc k) low = by_walk (is_in (walked_inodes m r) (suc k)) refl
    where
      written : (e : Entry) → entry_of t (suc k) ≡ Some e → is_written_inode m r (suc k) ≡ true
      written e at =
          let f : Found m r c t size is has (suc k) e = found m r c t size is has (suc k) e at in
          let o : IsOwnInode f.inode = own_here (suc k) e f in
          let status : ((inode_of m r.inodes (suc k)).status == (if is_directory_inode m r (suc k) then 1 else 3)) ≡ true
          = eq-eqb _ _ (ap (λ (i : Inode). i.status) f.read ∙ o.status ∙ written_of o.kind ∙ sym (ap (λ x. if is_directory_kind x then 1 else 3) (kind_is (suc k) e f))) in
          let mode : ((inode_of m r.inodes (suc k)).ext_mode == 0) ≡ true = eq-eqb _ _ (ap (λ (i : Inode). i.ext_mode) f.read ∙ o.ext_mode) in
          λ j. not (plain (suc k) e f j) && (status j && (mode j && unnamed (suc k) f.inode f.there j))

      by_inode : (o : Option Inode) → inode_at c.inodes (suc k) ≡ o → is_in (walked_inodes m r) (suc k) ≡ false → not (are_zero (inode_bytes m r.inodes (suc k))) ≡ false
      by_inode None there out = ap not (dead (suc k) (omega arith) (let p = has.places in omega (arith, low, p)) there)
      by_inode (Some i) there out =
          let e = live_entry (entry_of t (suc k)) refl (subst (λ x. IsSameInode (reader_by m.order m.size (contents_of m c 0)) (contents_of m c (suc k)) x (entry_of t (suc k))) there (is.shows.each (suc k) (omega arith))) in
          absurd (true_or_false (is_in (walked_inodes m r) (suc k)) (in_Contains (walked_inodes m r) (suc k) (walked_has m r t size tree (suc k) e.0 e.1)) out)
        where
          live_entry : (y : Option Entry) → entry_of t (suc k) ≡ y → IsSameInode (reader_by m.order m.size (contents_of m c 0)) (contents_of m c (suc k)) (Some i) y → (e : Entry) × (entry_of t (suc k) ≡ Some e)
          live_entry None at h = absurd h
          live_entry (Some e) at h = (e, at)

      by_walk : (b : Bool) → is_in (walked_inodes m r) (suc k) ≡ b → (if b then not (is_written_inode m r (suc k)) else not (are_zero (inode_bytes m r.inodes (suc k)))) ≡ false
      by_walk true h = let e = entered (suc k) h in ap not (written e.0 e.1)
      by_walk false out = by_inode (inode_at c.inodes (suc k)) refl out

  -- no node has a tail, if the Inode tree's has none
  pub tails_pass : has_tail m r.inodes ≡ false → (n : ℕ) → fails_tail m r (walked_inodes m r) n ≡ false
  tails_pass none zero = none
  tails_pass none (suc k) = and_none (is_in (walked_inodes m r) (suc k)) _ (λ h.
      let e = entered (suc k) h in
      and_none (not (is_special_inode m r (suc k))) _ (λ other. own.tails k (inode_root m r (suc k)) (node_here (suc k) e.0 e.1)))

  -- and each long name is named once
  pub names_pass : bad_long_name m r (walked_inodes m r) ≡ None
  names_pass =
      cond-false (not (r.longfile.size % m.size == 0)) (Some 0) _ (ap not (eq-eqb (r.longfile.size % m.size) 0 whole_size))
      ∙ ap (λ l. slice_get l 0) (filter_empty (λ n. not (count_by (λ k. k == n) (numbers_named m r (walked_inodes m r)) == 1)) (present_of m r.longfile)
      (λ n among. ap not (eq-eqb _ 1 (sym (long_rows m r t size tree n) ∙ rows_are_one t n own.whole.numbers (own.used n (named n among))))))
    where
      whole_size : r.longfile.size % m.size ≡ 0
      whole_size = ap (λ z. z % m.size) (sym tree.long_size ∙ own.whole.longs.whole) ∙ mul-mod_left (length t.long_names) m.size

      named : (n : ℕ) → Contains (present_of m r.longfile) n → is_some (long_name_of t n) ≡ true
      named n among = sym (own.whole.longs.there n) ∙ subst (λ l. is_in l n ≡ true) (sym tree.long_present) (in_Contains (present_of m r.longfile) n among)
