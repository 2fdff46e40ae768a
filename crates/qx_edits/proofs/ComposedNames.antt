-- Operations that make and lose names, edit by edit.
use Rattle.std.proofs.Common.{◌≡◌, ◌≢◌, ℕ, zero, suc, ◌+◌, ◌<◌, ◌≤◌, List, length, inl, inr, refl, sym, ◌∙◌, ap, subst, arith}
use Rattle.std.specs.Prelude.{Bool, true, false, ◌==◌, None, Option, Some, count_by, is_none, is_some, slice_set, sum_by, if◌then◌else◌}
use Rattle.std.specs.List.{list_all, position_or_len}
use Rattle.std.proofs.lemmas.Bool.{cases_eq, eq-eqb, ne_eqb}
use Rattle.qx_dir.specs.Rows.{row_of}
use Rattle.qx_fields.specs.declared.order.Order.{Order}
use Rattle.qx_nodes.specs.NodeContents.{IsSameContent, NodeContent}
use Rattle.qx_records.specs.NameRecord as raws
use Rattle.qx_records.specs.declared.inode.Inode.{Inode}
use Rattle.qx_model.specs.Directories.{is_bare, is_directory, is_live, is_unused, long_of_slot, parent_of_body, slot_at, with_entry}
use Rattle.qx_model.specs.Edits.{Edit, Setting, absent_number, add_row, attr_changed, clear_row, content_changed, number_for, putting, unchanged, with_attr, without_long}
use Rattle.qx_model.specs.LostNames.{RowAt, without_row}
use Rattle.qx_model.specs.NewNames.{made_at}
use Rattle.qx_model.specs.Paths.{Place}
use Rattle.qx_model.specs.Tree.{Entry, Tree, Unused, entry_of, is_dots, is_link, links_of, named_by, slots_of, slots_of_body, slots_of_entry}
use Rattle.qx_model.specs.Whole.{HoldsRecords, IsWhole, IsWholeEntry}
use Rattle.qx_model.proofs.EditOutlines.{IsDirectoryAt, directory_at, directory_slots, live_place}
use Rattle.qx_model.proofs.Outlines.{entry-other, entry-same, slot_in}
use Rattle.qx_model.proofs.RootedRemovals.{long_inodes_stay}
use Rattle.qx_model.proofs.WholeNumbers.{longs_with}
use Rattle.qx_view.specs.Entries.{IsEntryOf}
use Rattle.qx_copies.specs.Copies.{Contents}
use Rattle.qx_copies.specs.Shown.{SetsInode, Shows, reader_by}
use Rattle.qx_copies.proofs.ShownContents.{same_itself}
use Rattle.qx_copies.proofs.ShownEntries.{shows_set}
use Rattle.qx_working.specs.declared.links.Link.{Link}
use Rattle.qx_working.specs.Links.{HasLinks, with_link}
use Rattle.qx_edits.specs.LinkEdits.{one_less, one_more}
use Rattle.qx_edits.specs.NameEdits.{GetsName, LosesName}
use Rattle.qx_edits.specs.RecordEdits.{SetsRecord}
use Rattle.qx_edits.specs.SetInodes.{SetsAttr}
use Rattle.qx_edits.specs.UnnumberedEntries.{HasNoNumbers}
use Rattle.qx_edits.proofs.LinkedRows.{added_links, cleared_links, live_entry, unnamed_inodes}
use Rattle.qx_edits.proofs.NamedLinks.{count_set, links_new, links_with, one_own}
use Rattle.qx_edits.proofs.RowTrees.{cleared_is_set, rewritten}
use Rattle.qx_edits.proofs.ShownInodes.{attr_shown, gone_shown, lost_links, stays_shown}
use Rattle.qx_edits.proofs.ShownNamedRows.{added_shown, cleared_shown}
use Rattle.qx_edits.proofs.WholeEdits.{come_whole}

-- ---- contents on the way

-- the contents with this one for a number
abbrev pub content_at : Contents → ℕ → NodeContent → Contents
content_at cs n c o = if o == n then c else cs o

pub content_here : (cs : Contents) (n : ℕ) (c : NodeContent) → content_at cs n c n ≡ c
content_here cs n c = ap (λ (b : Bool). if b then c else cs n) (eq-eqb n n refl)

pub content_beside : (cs : Contents) (n : ℕ) (c : NodeContent) (o : ℕ) → o ≢ n → content_at cs n c o ≡ cs o
content_beside cs n c o ne = ap (λ (b : Bool). if b then c else cs o) (ne_eqb o n ne)

-- ---- a new inode

module _ (s : Setting) (t : Tree) (p : Place) (n : ℕ) (x : Entry) (leaves : List ℕ) (dir : is_directory t p.directory ≡ true) (absent : entry_of t n ≡ None) where
  h : IsDirectoryAt t p.directory
  h = directory_at t p.directory dir

  apart : p.directory ≢ n
  apart z = let g = h in let clash : Some g.entry ≡ None = sym g.live ∙ ap (entry_of t) z ∙ absent in cc

  -- the tree with the new inode
  abbrev e0 : Edit
  e0 = putting n (Some x) (unchanged t)

  there : IsDirectoryAt (with_entry t n (Some x)) p.directory
  there = let g = h in record { entry = g.entry; slots = g.slots; up = g.up; live = entry-other t n p.directory (Some x) (λ z. apart (sym z)) ∙ g.live; body = g.body }

  present_same : (with_entry t n (Some x)).long_present ≡ t.long_present
  present_same = let l = longs_with t n (Some x) in l.present

  number_same : number_for (with_entry t n (Some x)) p.name ≡ number_for t p.name
  number_same = ap (λ xs. let u : Tree = record t { long_present = xs } in number_for u p.name) present_same

  absent_same : absent_number (with_entry t n (Some x)) ≡ absent_number t
  absent_same = ap (λ xs. let u : Tree = record t { long_present = xs } in absent_number u) present_same

  slots_same : slots_of (with_entry t n (Some x)) p.directory ≡ slots_of t p.directory
  slots_same = ap slots_of_entry (entry-other t n p.directory (Some x) (λ z. apart (sym z)))

  pub made_shown : (order : Order) (before mid after : List (Option Inode)) (old new : Contents) (i : Inode) → HoldsRecords s.blocksize → IsWhole s.blocksize t → Shows order s.blocksize before old t → 1 ≤ n → n ≤ length before
      → IsWholeEntry s.blocksize n x → HasNoNumbers x → SetsInode before mid n (Some i) → SetsAttr mid after p.directory (content_changed s.moment)
      → ((o : ℕ) → o ≢ 0 → o ≢ p.directory → o ≢ n → IsSameContent s.blocksize (old o) (new o)) → IsEntryOf (reader_by order s.blocksize (old 0)) i (new n) x
      → GetsName order s.blocksize (number_for t p.name) p.name (old 0) (new 0)
      → SetsRecord order s.blocksize (position_or_len is_unused (slots_of t p.directory)) (row_of n p.name (absent_number t)) (old p.directory) (new p.directory)
      → Shows order s.blocksize after new (made_at s t p n x leaves).tree
  unfolding there h
  made_shown order before mid after old new i holds whole shows from within own none sets times others is gets put =
      added_shown order s mid after (content_at old n (new n)) new e0 p.directory holds (come_whole s.blocksize (unchanged t) n x whole own none) first there times n p.name rest
      (subst (λ c. GetsName order s.blocksize (number_for (with_entry t n (Some x)) p.name) p.name c (new 0)) (sym (content_beside old n (new n) 0 (λ z. omega (arith, z, from))))
      (subst (λ long. GetsName order s.blocksize long p.name (old 0) (new 0)) (sym number_same) gets))
      (subst (λ c. SetsRecord order s.blocksize (position_or_len is_unused (let g = h in g.slots)) (row_of n p.name (absent_number (with_entry t n (Some x)))) c (new p.directory)) (sym (content_beside old n (new n) p.directory apart))
      (subst (λ k. SetsRecord order s.blocksize (position_or_len is_unused (let g = h in g.slots)) (row_of n p.name k) (old p.directory) (new p.directory)) (sym absent_same)
      (subst (λ xs. SetsRecord order s.blocksize (position_or_len is_unused xs) (row_of n p.name (absent_number t)) (old p.directory) (new p.directory)) (directory_slots t p.directory h) put)))
    where
      pos : 0 < s.blocksize
      pos = let two = holds.two in omega (arith, two)

      first : Shows order s.blocksize mid (content_at old n (new n)) (with_entry t n (Some x))
      first =
          shows_set order s.blocksize before mid old (content_at old n (new n)) t n (Some i) (Some x) pos from within shows sets
          (λ o ne. subst (λ c. IsSameContent s.blocksize (old o) c) (sym (content_beside old n (new n) o ne)) (same_itself s.blocksize (old o)))
          (subst (λ c. IsEntryOf (reader_by order s.blocksize (old 0)) i c x) (sym (content_here old n (new n))) is)

      rest : (o : ℕ) → o ≢ 0 → o ≢ p.directory → IsSameContent s.blocksize (content_at old n (new n) o) (new o)
      rest o some ne = elim (cases_eq o n) [
        | inl at ↦ subst (λ m. IsSameContent s.blocksize (content_at old n (new n) m) (new m)) (sym at) (subst (λ c. IsSameContent s.blocksize c (new n)) (sym (content_here old n (new n))) (same_itself s.blocksize (new n)))
        | inr other ↦ subst (λ c. IsSameContent s.blocksize c (new o)) (sym (content_beside old n (new n) o other)) (others o some ne other)
      ]

  pub made_links : (links : List Link) (link : Link) → 1 ≤ n → n ≤ length links → list_all (λ slot. is_none (named_by slot)) (slots_of_body x.body) ≡ true → is_dots p.name ≡ false → link.rows ≡ links_of t n
      → ((up : ℕ) → parent_of_body x.body ≡ Some up → link.parent ≡ up) → HasLinks links t → HasLinks (one_more (with_link links n link) n) (made_at s t p n x leaves).tree
  made_links links link from within bare plain rows parent has =
      added_links s (with_link links n link) e0 p.directory there (links_new links t n has x link from within absent bare rows parent) n p.name live plain
    where
      live : is_live (with_entry t n (Some x)) n ≡ true
      live = go n refl from within
        where
          go : (m : ℕ) → n ≡ m → 1 ≤ m → m ≤ length links → is_live (with_entry t m (Some x)) m ≡ true
          go zero is low high = absurd (omega arith)
          go (suc k) is low high = ap is_some (entry-same t k (Some x) (let same = has.places in omega (arith, same, high)))

-- ---- one more name

module _ (order : Order) (s : Setting) (before mid after : List (Option Inode)) (old new : Contents) (t : Tree) (p : Place) (n : ℕ) (holds : HoldsRecords s.blocksize) (whole : IsWhole s.blocksize t) (shows : Shows order s.blocksize before old t)
    (dir : is_directory t p.directory ≡ true) (times : SetsAttr before mid p.directory (content_changed s.moment)) (sets : SetsAttr mid after n (attr_changed s.moment)) where
  pub linked_shown : ((o : ℕ) → o ≢ 0 → o ≢ p.directory → IsSameContent s.blocksize (old o) (new o)) → GetsName order s.blocksize (number_for t p.name) p.name (old 0) (new 0)
      → SetsRecord order s.blocksize (position_or_len is_unused (slots_of t p.directory)) (row_of n p.name (absent_number t)) (old p.directory) (new p.directory)
      → Shows order s.blocksize after new (with_attr n (attr_changed s.moment) (add_row s p.directory n p.name (unchanged t))).tree
  linked_shown others gets put =
      let g = directory_at t p.directory dir in
      attr_shown order s.blocksize mid after new new (add_row s p.directory n p.name (unchanged t)) n (attr_changed s.moment) (let two = holds.two in omega (arith, two))
      (added_shown order s before mid old new (unchanged t) p.directory holds whole shows g times n p.name others gets
      (subst (λ xs. SetsRecord order s.blocksize (position_or_len is_unused xs) (row_of n p.name (absent_number t)) (old p.directory) (new p.directory)) (directory_slots t p.directory g) put))
      (λ a. refl) sets (λ o. same_itself s.blocksize (new o))

-- ---- a name that goes

module _ (s : Setting) (t : Tree) (row : RowAt) (dir : is_directory t row.directory ≡ true) (low : row.record_number < length (slots_of t row.directory)) (named : named_by (slot_at t row.directory row.record_number) ≡ Some row.inode) where
  g : IsDirectoryAt t row.directory
  g = directory_at t row.directory dir

  abbrev cleared : Edit
  cleared = clear_row s row.directory row.record_number (unchanged t)

  within : row.record_number < length (let d = g in d.slots)
  within = subst (λ xs. row.record_number < length xs) (directory_slots t row.directory g) low

  names : named_by (slot_in (let d = g in d.slots) row.record_number) ≡ Some row.inode
  names = subst (λ xs. named_by (slot_in xs row.record_number) ≡ Some row.inode) (directory_slots t row.directory g) named

  -- its links are one less
  one_gone : links_of cleared.tree row.inode + 1 ≡ links_of t row.inode
  one_gone =
      let d = g in
      let y : Entry = rewritten s row.record_number (slice_set d.slots row.record_number Unused) d.up d.entry in
      let tree : links_of cleared.tree row.inode ≡ links_of (with_entry t row.directory (Some y)) row.inode =
      ap (λ u. links_of u row.inode) (cleared_is_set s row.directory (unchanged t) g row.record_number) ∙ by_inodes (with_entry (without_long (long_of_slot (slot_at t row.directory row.record_number)) (unchanged t)).tree row.directory (Some y)) (with_entry t row.directory (Some y)) (unnamed_inodes (long_of_slot (slot_at t row.directory row.record_number)) (unchanged t) row.directory (Some y)) in
      let now = links_with t row.directory row.inode (Some y) (live_place t row.directory d.entry d.live) in
      let slots = ap (count_by (is_link row.inode)) (directory_slots t row.directory g) in
      let one = one_own row.inode (slot_in d.slots row.record_number) names in
      let c = count_set row.inode row.record_number d.slots Unused within in
      omega (arith, tree, now, slots, one, c)
    where
      by_inodes : (u v : Tree) → u.inodes ≡ v.inodes → links_of u row.inode ≡ links_of v row.inode
      by_inodes u v same = ap (λ xs. sum_by (λ o. count_by (is_link row.inode) (slots_of_entry o)) xs) same

  -- another inode than the directory stands as it did
  inode_stays : row.inode ≢ row.directory → entry_of cleared.tree row.inode ≡ entry_of t row.inode
  inode_stays ne =
      let d = g in
      let y : Entry = rewritten s row.record_number (slice_set d.slots row.record_number Unused) d.up d.entry in
      ap (λ u. entry_of u row.inode) (cleared_is_set s row.directory (unchanged t) g row.record_number)
      ∙ entry-other (without_long (long_of_slot (slot_at t row.directory row.record_number)) (unchanged t)).tree row.directory row.inode (Some y) (λ z. ne (sym z))
      ∙ long_inodes_stay (long_of_slot (slot_at t row.directory row.record_number)) (unchanged t) row.inode

  pub last_shown : (order : Order) (before mid after : List (Option Inode)) (old new : Contents) → HoldsRecords s.blocksize → IsWhole s.blocksize t → Shows order s.blocksize before old t → is_live t row.inode ≡ true → row.inode ≢ row.directory
      → links_of t row.inode ≡ 1 → SetsAttr before mid row.directory (content_changed s.moment) → SetsInode mid after row.inode None
      → ((o : ℕ) → o ≢ 0 → o ≢ row.directory → o ≢ row.inode → IsSameContent s.blocksize (old o) (new o))
      → LosesName order s.blocksize (long_of_slot (slot_at t row.directory row.record_number)) (old 0) (new 0) → SetsRecord order s.blocksize row.record_number raws.Unused (old row.directory) (new row.directory)
      → Shows order s.blocksize after new (without_row s t row).tree
  last_shown order before mid after old new holds whole shows live ne single times sets others loses put =
      gone_shown s cleared row.inode order mid after way new (let two = holds.two in omega (arith, two))
      (cleared_shown order s before mid old way (unchanged t) row.directory holds whole shows g times row.record_number within rest
      (subst (λ c. LosesName order s.blocksize (long_of_slot (slot_at t row.directory row.record_number)) (old 0) c) (sym (content_beside new row.inode (old row.inode) 0 zero_apart)) loses)
      (subst (λ c. SetsRecord order s.blocksize row.record_number raws.Unused (old row.directory) c) (sym (content_beside new row.inode (old row.inode) row.directory (λ z. ne (sym z)))) put))
      (ap is_some (inode_stays ne) ∙ live) (let one = one_gone in omega (arith, one, single)) sets
      (λ o other. subst (λ c. IsSameContent s.blocksize c (new o)) (sym (content_beside new row.inode (old row.inode) o other)) (same_itself s.blocksize (new o)))
    where
      way : Contents
      way = content_at new row.inode (old row.inode)

      zero_apart : 0 ≢ row.inode
      zero_apart z = let x = live_entry t row.inode live in let place = live_place t row.inode x.0 x.1 in let is = place.is in omega (arith, is, z)

      rest : (o : ℕ) → o ≢ 0 → o ≢ row.directory → IsSameContent s.blocksize (old o) (content_at new row.inode (old row.inode) o)
      rest o some other = elim (cases_eq o row.inode) [
        | inl at ↦ subst (λ m. IsSameContent s.blocksize (old m) (content_at new row.inode (old row.inode) m)) (sym at) (subst (λ c. IsSameContent s.blocksize (old row.inode) c) (sym (content_here new row.inode (old row.inode))) (same_itself s.blocksize (old row.inode)))
        | inr far ↦ subst (λ c. IsSameContent s.blocksize (old o) c) (sym (content_beside new row.inode (old row.inode) o far)) (others o some other far)
      ]

  pub kept_shown : (order : Order) (before mid after : List (Option Inode)) (old new : Contents) → HoldsRecords s.blocksize → IsWhole s.blocksize t → Shows order s.blocksize before old t
      → 1 < links_of t row.inode → SetsAttr before mid row.directory (content_changed s.moment) → SetsAttr mid after row.inode (attr_changed s.moment) → ((o : ℕ) → o ≢ 0 → o ≢ row.directory → IsSameContent s.blocksize (old o) (new o))
      → LosesName order s.blocksize (long_of_slot (slot_at t row.directory row.record_number)) (old 0) (new 0) → SetsRecord order s.blocksize row.record_number raws.Unused (old row.directory) (new row.directory)
      → Shows order s.blocksize after new (without_row s t row).tree
  kept_shown order before mid after old new holds whole shows more times sets others loses put =
      stays_shown s cleared row.inode order mid after new new (let two = holds.two in omega (arith, two))
      (cleared_shown order s before mid old new (unchanged t) row.directory holds whole shows g times row.record_number within others loses put)
      (let one = one_gone in omega (arith, one, more)) sets (λ o. same_itself s.blocksize (new o))

  pub lost_name_links : (links : List Link) → is_live t row.inode ≡ true → row.inode ≢ row.directory → is_bare t row.inode ≡ true → HasLinks links t → HasLinks (one_less links row.inode) (without_row s t row).tree
  lost_name_links links live ne bare has =
      lost_links s cleared row.inode (one_less links row.inode) (ap is_some (inode_stays ne) ∙ live) (ap (λ o. list_all (λ slot. is_none (named_by slot)) (slots_of_entry o)) (inode_stays ne) ∙ bare)
      (cleared_links s links (unchanged t) row.directory g has row.record_number row.inode within names live)
