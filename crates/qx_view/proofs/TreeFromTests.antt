-- Where no test of the walk fails, the blocks have a tree.
use Rattle.std.proofs.Common.{◌≡◌, ◌≢◌, ℕ, zero, suc, ◌+◌, ◌/◌, ◌<◌, inl, inr, [], ◌∷◌, ◌++◌, refl, sym, ◌∙◌, ap, subst, arith, add-one}
use Rattle.std.specs.Prelude.{true, false, ◌&&◌, not, nat_lt, ◌==◌, if◌then◌else◌, Option, Some, None, is_some, Contains, map, flat_map, filter_map, slice_get, IsTrue}
use Rattle.std.proofs.lemmas.Bool.{leb-true}
use Rattle.qx_geom.specs.declared.root.Root.{Root}
use Rattle.qx_records.specs.declared.kind.Kind.{Kind}
use Rattle.qx_model.specs.declared.attr.Attr.{Attr}
use Rattle.qx_records.specs.declared.kind.Kind.TheVariants as kinds
use Rattle.qx_geom.proofs.Truths.{and_right, true_or_false}
use Rattle.qx_geom.specs.Lists.{each_below, is_in}
use Rattle.qx_geom.specs.Pointer.{absent}
use Rattle.qx_model.specs.Tree.{Directory, Entry, IsDirectory, Names, NamesAt, Reached, Slot, down, entry_of, is_special_body, slots_of, slots_of_body, slots_of_entry, top}
use Rattle.qx_nodes.specs.BlockMap.{BlockMap}
use Rattle.qx_nodes.specs.Content.{HasSize, levels_fit}
use Rattle.qx_nodes.specs.NodeContents.{node_content}
use Rattle.qx_records.specs.InodeRecord.{kind_of}
use Rattle.qx_view.specs.declared.findings.Code.TheVariants as codes
use Rattle.qx_view.proofs.DirectoryTests.{DirectoryFound, IsThere, directory_kind, directory_passes, named_passes, names_in_directory, read_self}
use Rattle.qx_view.proofs.PassingTests.{NodePasses, Passing, SlotsPass, fresh_directory, names_differ, node_passes, passing_each, passing_parts, passing_tested, row_at}
use Rattle.qx_view.proofs.TakenInodes.{HasParent, once_within, taken_listed, taken_order, taken_parent}
use Rattle.qx_view.proofs.TreeFound.{NamedAt, TakenWith, body_found, entry_as, entry_found, entry_in, found_slots, in_entry, names_to_slots, parent_in, slots_found, slots_to_names, taken_with, tree_found}
use Rattle.qx_view.proofs.WalkEnds.{Named, RowsInRange, first, inodes, next, walk_closed, walk_is_least}
use Rattle.qx_view.specs.Images.{Roots, has_inode, inode_of, inode_places, raw_of}
use Rattle.qx_model.specs.Rooted.{AreRows, IsRooted}
use Rattle.qx_view.specs.Entries.{Holds, attr_of}
use Rattle.qx_view.specs.Reading.{IsEntry, reader_of, slot_of, slots_read}
use Rattle.qx_view.specs.Walk.{Tested, finding_of, inode_mode, inode_root, inode_tests, is_directory_inode, is_directory_kind, kind_tests, named_inode, named_inodes, node_tests, root_tests, taken_from, taken_of, tests_of, top_tests}

module _ (m : BlockMap) (r : Roots) (s : HasSize m) (none : finding_of m r ≡ None) where
  -- all tests pass
  whole : Passing (tests_of m r)
  whole = record { met = []; none = none }

  -- those before the inodes, and those of the inodes
  pub last_parts : Passing (root_tests m r.inodes ++ root_tests m r.longfile ++ flat_map (root_tests m) r.further ++ top_tests m r) × Passing (flat_map (inode_tests m r) (taken_of m r))
  last_parts = passing_parts (root_tests m r.inodes ++ root_tests m r.longfile ++ flat_map (root_tests m) r.further ++ top_tests m r) (flat_map (inode_tests m r) (taken_of m r)) whole

  -- those of the root nodes, and those of inode 1
  top_parts : Passing (root_tests m r.inodes ++ root_tests m r.longfile ++ flat_map (root_tests m) r.further) × Passing (top_tests m r)
  top_parts = passing_parts (root_tests m r.inodes ++ root_tests m r.longfile ++ flat_map (root_tests m) r.further) (top_tests m r) last_parts.0

  -- those of the first two root nodes, and those of the others
  pub further_parts : Passing (root_tests m r.inodes ++ root_tests m r.longfile) × Passing (flat_map (root_tests m) r.further)
  further_parts = passing_parts (root_tests m r.inodes ++ root_tests m r.longfile) (flat_map (root_tests m) r.further) top_parts.0

  -- those of the first two
  pub root_parts : Passing (root_tests m r.inodes) × Passing (root_tests m r.longfile)
  root_parts = passing_parts (root_tests m r.inodes) (root_tests m r.longfile) further_parts.0

  -- inode 1 is a directory
  top_there : (has_inode r.inodes 1 ≡ true) × (is_directory_inode m r 1 ≡ true)
  top_there =
      let a : (has_inode r.inodes 1 ≡ true) × Passing (Tested codes.Kind 1 absent (is_directory_inode m r 1) ∷ []) = passing_tested codes.NoInode 1 absent (has_inode r.inodes 1) _ top_parts.1 in
      (a.0, (passing_tested codes.Kind 1 absent (is_directory_inode m r 1) [] a.1).0)

  -- the parent with which an inode was taken
  abbrev pub parent_of : ℕ → ℕ
  parent_of n = parent_in (taken_of m r) n

  -- the list begins with inode 1, its own parent
  start_queue : (e : ℕ × ℕ) → Contains ((1, 1) ∷ []) e → HasParent m r e.0 e.1 × Named m r e.0
  start_queue e (zero, below, is) = subst (λ z. HasParent m r z.0 z.1 × Named m r z.0) is (inl (refl, refl), first)
  start_queue e (suc k, below, is) = absurd (omega arith)

  -- what was taken with a number
  pub it_of : (n : ℕ) → is_in (inodes (taken_of m r)) n ≡ true → TakenWith (taken_of m r) n (parent_of n)
  it_of n h = taken_with (taken_of m r) n h

  -- what was taken is inode 1, or its parent names it
  parent_known : (n : ℕ) → is_in (inodes (taken_of m r)) n ≡ true → HasParent m r n (parent_of n) × Named m r n
  parent_known n h =
      let u : TakenWith (taken_of m r) n (parent_of n) = it_of n h in
      let known : HasParent m r u.it.inode u.it.parent × Named m r u.it.inode = taken_parent m r (inode_places r + 1) ((1, 1) ∷ []) (1 ∷ []) start_queue u.it u.among in
      subst (λ z. HasParent m r n z × Named m r n) u.parent (subst (λ z. HasParent m r z u.it.parent × Named m r z) u.inode known)

  -- what passes of the inode that was taken_of as n
  pub kind_passes : (n : ℕ) (u : TakenWith (taken_of m r) n (parent_of n)) → Passing (kind_tests m r u.it (inode_root m r n) (kind_of (inode_mode m r n)))
  kind_passes n u = subst (λ z. Passing (kind_tests m r u.it (inode_root m r z) (kind_of (inode_mode m r z)))) u.inode (passing_each (inode_tests m r) (taken_of m r) u.it last_parts.1 u.among)

  -- a directory that was taken has a node and slots
  directory_found : (n : ℕ) (u : TakenWith (taken_of m r) n (parent_of n)) → is_directory_inode m r n ≡ true → DirectoryFound m r n u.it
  directory_found n u d = directory_passes m r n u.it (kind_passes n u) d

  -- what a directory that was taken names is there
  named_there : (d n : ℕ) → is_in (inodes (taken_of m r)) d ≡ true → is_in (named_inodes m r d) n ≡ true → IsThere m r n
  named_there d n h k = named_passes m r d (it_of d h).it n (kind_passes d (it_of d h)) k

  -- and has a place in the Inode tree
  rows_in_range : RowsInRange m r (inode_places r) (taken_of m r)
  rows_in_range d n h k =
      let is : IsThere m r n = named_there d n h k in
      (is.positive, leb-true n (inode_places r) is.there)

  -- what is named is taken
  walked_named : (n : ℕ) → Named m r n → is_in (inodes (taken_of m r)) n ≡ true
  walked_named n h = (walk_is_least m r rows_in_range n).1 h

  -- a directory has a kind
  some_kind : (k : Option Kind) → is_directory_kind k ≡ true → is_some k ≡ true
  some_kind k e = ap (λ o. is_some o) (directory_kind k e)

  -- all that was taken is there
  all_there : (n : ℕ) → is_in (inodes (taken_of m r)) n ≡ true → IsThere m r n
  all_there n h =
      elim (parent_known n h).0 [
        | inl one ↦ subst (IsThere m r) (sym one.0) (record { there = top_there.0; kind = some_kind (kind_of (inode_mode m r 1)) top_there.1; positive = omega arith })
        | inr up ↦ named_there (parent_of n) n (walked_named (parent_of n) up.0) up.1
      ]

  -- ---- entries

  -- and has a kind
  pub kind_known : (n : ℕ) → is_in (inodes (taken_of m r)) n ≡ true → (k : Kind) × (kind_of (inode_mode m r n) ≡ Some k)
  kind_known n h = go (kind_of (inode_mode m r n)) (all_there n h).kind
    where
      go : (o : Option Kind) → is_some o ≡ true → (k : Kind) × (o ≡ Some k)
      go None e = absurd (cc)
      go (Some k) e = (k, refl)

  -- a link's size is within the bounds
  link_size : (size : ℕ) → (not (size == 0) && nat_lt size 1024) ≡ true → (0 < size) × (size < 1024)
  link_size zero e = absurd (cc)
  link_size (suc k) e = (omega arith, omega (arith, leb-true (suc (suc k)) 1024 (and_right (not (suc k == 0)) (nat_lt (suc k) 1024) e)))

  -- the levels of an inode are within the bounds, unless it is a special, and its entry is of its kind
  record IsFound (n : ℕ) (k : Kind) (e : Entry) : Type 0 where
    pub levels : is_special_body e.body ≡ false → IsTrue (levels_fit m (inode_root m r n))
    pub holds : Holds (reader_of m r.longfile) (node_content m (inode_root m r n)) k e

  -- so it is where its tests pass
  kind_entry : (n : ℕ) (k : Kind) (attr : Attr) (u : TakenWith (taken_of m r) n (parent_of n)) → kind_of (inode_mode m r n) ≡ Some k → IsFound n k (entry_as attr m r.longfile (inode_root m r n) (parent_of n) (Some k))
  kind_entry n kinds.Special attr u is = record { levels = λ own. absurd (true_or_false true refl own); holds = record { size = refl; present = refl; body = refl } }
  kind_entry n kinds.Directory attr u is =
      let f : DirectoryFound m r n u.it = directory_found n u (ap (λ o. is_directory_kind o) is) in
      record { levels = λ own. f.node.fit; holds = record { size = refl; present = refl; body = f.read ∙ ap (λ z. map (λ s. Some s) z) (sym (found_slots (slots_read m r.longfile (inode_root m r n)) f.slots f.read)) } }
  kind_entry n kinds.File attr u is =
      let p : NodePasses m (inode_root m r n) (levels_fit m (inode_root m r n)) = node_passes m u.it.inode (inode_root m r n) (levels_fit m (inode_root m r n)) (subst (λ k. Passing (kind_tests m r u.it (inode_root m r n) k)) is (kind_passes n u)) in
      record { levels = λ own. p.fit; holds = record { size = refl; present = refl; body = refl } }
  kind_entry n kinds.Link attr u is =
      let node : Root = inode_root m r n in
      let parts : Passing (node_tests m u.it.inode node (levels_fit m node)) × Passing (Tested codes.LinkSize u.it.inode absent (not (node.size == 0) && nat_lt node.size 1024) ∷ [])
      = passing_parts (node_tests m u.it.inode node (levels_fit m node)) _ (subst (λ k. Passing (kind_tests m r u.it node k)) is (kind_passes n u)) in
      let p : NodePasses m node (levels_fit m node) = node_passes m u.it.inode node (levels_fit m node) parts.0 in
      let size : (0 < node.size) × (node.size < 1024) = link_size node.size (passing_tested codes.LinkSize u.it.inode absent (not (node.size == 0) && nat_lt node.size 1024) [] parts.1).0 in
      record { levels = λ own. p.fit; holds = record { size = refl; present = refl; body = (refl, size.0, size.1) } }

  -- what is taken has its entry in the tree
  entry_here : (n : ℕ) → is_in (inodes (taken_of m r)) n ≡ true → entry_of (tree_found m r) n ≡ Some (entry_found m r (parent_of n) n)
  entry_here n h =
      let is : IsThere m r n = all_there n h in
      entry_in m r n h is.positive (leb-true n (inode_places r) is.there)

  -- the entry that is read is that of the inode
  entry_is : (n : ℕ) → is_in (inodes (taken_of m r)) n ≡ true → IsEntry m r n (entry_found m r (parent_of n) n)
  entry_is n h =
      let there : IsThere m r n = all_there n h in
      let k : (k : Kind) × (kind_of (inode_mode m r n) ≡ Some k) = kind_known n h in
      let f : IsFound n k.0 (entry_found m r (parent_of n) n)
      = subst (λ o. IsFound n k.0 (entry_as (attr_of (inode_of m r.inodes n)) m r.longfile (inode_root m r n) (parent_of n) o)) (sym k.1) (kind_entry n k.0 (attr_of (inode_of m r.inodes n)) (it_of n h) k.1) in
      record { there = there.there; positive = there.positive; levels = f.levels; is = record { attr = refl; kind = k.0; kind_is = k.1; holds = f.holds } }

  -- so is each entry of the tree
  pub each : (n : ℕ) (e : Entry) → entry_of (tree_found m r) n ≡ Some e → IsEntry m r n e
  each n e at = let known : (is_in (inodes (taken_of m r)) n ≡ true) × (e ≡ entry_found m r (parent_of n) n) = in_entry m r n e at in subst (λ z. IsEntry m r n z) (sym known.1) (entry_is n known.0)

  -- ---- rows

  -- the slots of what was taken
  slots_at : (n : ℕ) → is_in (inodes (taken_of m r)) n ≡ true → slots_of (tree_found m r) n ≡ slots_of_body (body_found m r.longfile (inode_root m r n) (parent_of n) (kind_of (inode_mode m r n)))
  slots_at n h = ap (λ o. slots_of_entry o) (entry_here n h)

  -- those of a directory are its records
  directory_slots : (n : ℕ) (h : is_in (inodes (taken_of m r)) n ≡ true) (d : is_directory_inode m r n ≡ true) → slots_of (tree_found m r) n ≡ (directory_found n (it_of n h) d).slots
  directory_slots n h d =
      slots_at n h
      ∙ ap (λ o. slots_of_body (body_found m r.longfile (inode_root m r n) (parent_of n) o)) (directory_kind (kind_of (inode_mode m r n)) d)
      ∙ found_slots (slots_read m r.longfile (inode_root m r n)) (directory_found n (it_of n h) d).slots (directory_found n (it_of n h) d).read

  -- what a directory's records name, its slots name
  names_in : (d n : ℕ) → is_in (inodes (taken_of m r)) d ≡ true → is_in (named_inodes m r d) n ≡ true → Names (tree_found m r) d n
  names_in d n h k =
      let w : (is_directory_inode m r d ≡ true) × (is_in (filter_map (λ k. named_inode m r.longfile (raw_of m (inode_root m r d) k)) (each_below ((inode_root m r d).size / 32) (λ k. k))) n ≡ true) = names_in_directory m r d n k in
      let f : DirectoryFound m r d (it_of d h).it = directory_found d (it_of d h) w.0 in
      let at : NamedAt f.slots n = names_to_slots (λ k. slot_of m r.longfile (raw_of m (inode_root m r d) k)) (each_below ((inode_root m r d).size / 32) (λ k. k)) f.slots n (read_self m r d f.slots f.read) w.1 in
      (at.place, (at.slot, subst (λ z. slice_get z at.place ≡ Some at.slot) (sym (directory_slots d h w.0)) at.at, at.names))

  -- only a directory has slots
  no_slots : (n : ℕ) (k : ℕ) (x : Slot) (o : Option Kind) → slice_get (slots_of_body (body_found m r.longfile (inode_root m r n) (parent_of n) o)) k ≡ Some x → is_directory_kind o ≡ true
  no_slots n k x None e = absurd (cc)
  no_slots n k x (Some kinds.Directory) e = refl
  no_slots n k x (Some kinds.File) e = absurd (cc)
  no_slots n k x (Some kinds.Link) e = absurd (cc)
  no_slots n k x (Some kinds.Special) e = absurd (cc)

  -- a place in the tree's slots is one of a directory that was walked
  record SlotFound (d k : ℕ) (x : Slot) : Type 0 where
    pub walked : is_in (inodes (taken_of m r)) d ≡ true
    pub dir : is_directory_inode m r d ≡ true
    pub at : slice_get (directory_found d (it_of d walked) dir).slots k ≡ Some x

  -- a slot of the tree is one of a directory that was taken
  slot_found : (d k : ℕ) (x : Slot) → slice_get (slots_of (tree_found m r) d) k ≡ Some x → SlotFound d k x
  slot_found d k x e = go (entry_of (tree_found m r) d) refl e
    where
      go : (o : Option Entry) → entry_of (tree_found m r) d ≡ o → slice_get (slots_of_entry o) k ≡ Some x → SlotFound d k x
      go None h f = absurd (cc)
      go (Some y) h f =
          let walked : is_in (inodes (taken_of m r)) d ≡ true = (in_entry m r d y h).0 in
          let dir : is_directory_inode m r d ≡ true = no_slots d k x (kind_of (inode_mode m r d)) (subst (λ z. slice_get z k ≡ Some x) (slots_at d walked) e) in
          record { walked = walked; dir = dir; at = subst (λ z. slice_get z k ≡ Some x) (directory_slots d walked dir) e }

  -- what a slot of the tree names is named
  names_out : (d k n : ℕ) → NamesAt (tree_found m r) d k n → (is_in (inodes (taken_of m r)) d ≡ true) × (is_in (named_inodes m r d) n ≡ true)
  names_out d k n (x, at, names) =
      let f : SlotFound d k x = slot_found d k x at in
      let dir : DirectoryFound m r d (it_of d f.walked).it = directory_found d (it_of d f.walked) f.dir in (
        f.walked,
        ap (λ b. is_in (if b then filter_map (λ k. named_inode m r.longfile (raw_of m (inode_root m r d) k)) (each_below ((inode_root m r d).size / 32) (λ k. k)) else []) n) f.dir
            ∙ slots_to_names (λ k. slot_of m r.longfile (raw_of m (inode_root m r d) k)) (each_below ((inode_root m r d).size / 32) (λ k. k)) dir.slots n k x (read_self m r d dir.slots dir.read) f.at names,
      )

  -- ---- the tree by itself

  -- what is named is reached
  named_reached : (n : ℕ) → Named m r n → Reached (tree_found m r) n
  named_reached n first = top
  named_reached n (next {d} h k) = down (named_reached d h) (names_in d n (walked_named d h) k)

  -- so each entry's inode is
  reached : (n : ℕ) (e : Entry) → entry_of (tree_found m r) n ≡ Some e → Reached (tree_found m r) n
  reached n e at = named_reached n ((walk_is_least m r rows_in_range n).0 (in_entry m r n e at).0)

  -- what is reached was taken
  reached_walked : (n : ℕ) → Reached (tree_found m r) n → is_in (inodes (taken_of m r)) n ≡ true
  reached_walked n top = (walk_closed m r rows_in_range).0
  reached_walked n (down {d} h names) = let k : (is_in (inodes (taken_of m r)) d ≡ true) × (is_in (named_inodes m r d) n ≡ true) = names_out d names.0 n names.1 in (walk_closed m r rows_in_range).1 d n k.0 k.1

  -- and has an entry
  closed : (n : ℕ) → Reached (tree_found m r) n → (e : Entry) × (entry_of (tree_found m r) n ≡ Some e)
  closed n h = (entry_found m r (parent_of n) n, entry_here n (reached_walked n h))

  -- what it is to be a directory of this tree
  record DirectoryIs (n p : ℕ) : Type 0 where
    pub walked : is_in (inodes (taken_of m r)) n ≡ true
    pub dir : is_directory_inode m r n ≡ true
    pub parent : p ≡ parent_of n

  -- a directory of the tree is one that was taken
  directory_is : (n p : ℕ) → IsDirectory (tree_found m r) n p → DirectoryIs n p
  directory_is n p (e, slots, at, is) =
      let known : (is_in (inodes (taken_of m r)) n ≡ true) × (e ≡ entry_found m r (parent_of n) n) = in_entry m r n e at in
      let both : (is_directory_inode m r n ≡ true) × (p ≡ parent_of n) = go (kind_of (inode_mode m r n)) (sym (ap (λ z. z.body) known.1) ∙ is) in
      record { walked = known.0; dir = both.0; parent = both.1 }
    where
      go : (o : Option Kind) → body_found m r.longfile (inode_root m r n) (parent_of n) o ≡ Directory slots p → (is_directory_kind o ≡ true) × (p ≡ parent_of n)
      go None f = absurd (cc)
      go (Some kinds.Special) f = absurd (cc)
      go (Some kinds.Directory) f = (refl, cc)
      go (Some kinds.File) f = absurd (cc)
      go (Some kinds.Link) f = absurd (cc)

  -- inode 1 was taken
  one_walked : is_in (inodes (taken_of m r)) 1 ≡ true
  one_walked = (walk_closed m r rows_in_range).0

  -- the parent that 1 was taken_of with is 1
  parent_of_one : parent_of 1 ≡ 1
  parent_of_one = go (inode_places r + 1) (inode_places r) (add-one (inode_places r))
    where
      go : (f k : ℕ) → f ≡ suc k → parent_in (taken_from m r f ((1, 1) ∷ []) (1 ∷ [])) 1 ≡ 1
      go f k e = subst (λ z. parent_in (taken_from m r z ((1, 1) ∷ []) (1 ∷ [])) 1 ≡ 1) (sym e) refl

  -- a directory that was taken is one of the tree
  is_directory : (n : ℕ) → is_in (inodes (taken_of m r)) n ≡ true → is_directory_inode m r n ≡ true → IsDirectory (tree_found m r) n (parent_of n)
  is_directory n h d = (
    entry_found m r (parent_of n) n,
    slots_found m r.longfile (inode_root m r n),
    entry_here n h,
    ap (λ o. body_found m r.longfile (inode_root m r n) (parent_of n) o) (directory_kind (kind_of (inode_mode m r n)) d),
  )

  -- inode 1 is one, and its own parent
  top_is : IsDirectory (tree_found m r) 1 1
  top_is = subst (λ p. IsDirectory (tree_found m r) 1 p) parent_of_one (is_directory 1 one_walked top_there.1)

  -- each other one is named by its parent
  parent_is : (d p : ℕ) → IsDirectory (tree_found m r) d p → d ≢ 1 → Names (tree_found m r) p d
  parent_is d p dir isnt =
      let k : DirectoryIs d p = directory_is d p dir in
      elim (parent_known d k.walked).0 [
        | inl one ↦ absurd (isnt one.0)
        | inr up ↦ subst (λ z. Names (tree_found m r) z d) (sym k.parent) (names_in (parent_of d) d (walked_named (parent_of d) up.0) up.1)
      ]

  -- no down names a directory that was listed before its own directory was taken_of
  not_listed : (d k n : ℕ) (h : NamesAt (tree_found m r) d k n) → is_directory_inode m r n ≡ true → is_in (it_of d (names_out d k n h).0).it.listed n ≡ false
  unfolding names_out slot_found
  not_listed d k n (x, at, names) dir =
      let f : SlotFound d k x = slot_found d k x at in
      let u : TakenWith (taken_of m r) d (parent_of d) = it_of d f.walked in
      fresh_directory m r u.it.inode u.it.parent [] u.it.listed (directory_found d u f.dir).slots (directory_found d u f.dir).pass k n x f.at names dir

  -- no row names inode 1
  no_top : (d : ℕ) → Names (tree_found m r) d 1 → ⊥
  no_top d names =
      let u : TakenWith (taken_of m r) d (parent_of d) = it_of d (names_out d names.0 1 names.1).0 in
      true_or_false (is_in u.it.listed 1) (taken_listed m r (inode_places r + 1) ((1, 1) ∷ []) (1 ∷ []) 1 refl u.it u.among) (not_listed d names.0 1 names.1 top_there.1)

  -- no two rows name one directory
  once : (d k c j n p : ℕ) → NamesAt (tree_found m r) d k n → NamesAt (tree_found m r) c j n → IsDirectory (tree_found m r) n p → (d ≡ c) × (k ≡ j)
  once d k c j n p a b dir =
      let is : is_directory_inode m r n ≡ true = (directory_is n p dir).dir in
      let oa : (is_in (inodes (taken_of m r)) d ≡ true) × (is_in (named_inodes m r d) n ≡ true) = names_out d k n a in
      let ob : (is_in (inodes (taken_of m r)) c ≡ true) × (is_in (named_inodes m r c) n ≡ true) = names_out c j n b in
      let u : TakenWith (taken_of m r) d (parent_of d) = it_of d oa.0 in
      let w : TakenWith (taken_of m r) c (parent_of c) = it_of c ob.0 in
      elim (taken_order m r (inode_places r + 1) ((1, 1) ∷ []) (1 ∷ []) u.it w.it u.among w.among) [
        | inl same ↦
            let dc : d ≡ c = sym u.inode ∙ same ∙ w.inode in
            (dc, within d k j n a (subst (λ z. NamesAt (tree_found m r) z j n) (sym dc) b) is)
        | inr order ↦ elim order [
          | inl before ↦ absurd (true_or_false (is_in w.it.listed n) (before n (subst (λ z. is_in (named_inodes m r z) n ≡ true) (sym u.inode) oa.1)) (not_listed c j n b is))
          | inr after ↦ absurd (true_or_false (is_in u.it.listed n) (after n (subst (λ z. is_in (named_inodes m r z) n ≡ true) (sym w.inode) ob.1)) (not_listed d k n a is))
        ]
      ]
    where
      within : (d k j n : ℕ) → NamesAt (tree_found m r) d k n → NamesAt (tree_found m r) d j n → is_directory_inode m r n ≡ true → k ≡ j
      within d k j n (x, at, names) (y, bt, mames) is =
          let f : SlotFound d k x = slot_found d k x at in
          let u : TakenWith (taken_of m r) d (parent_of d) = it_of d f.walked in
          once_within m r u.it.inode u.it.parent [] u.it.listed (directory_found d u f.dir).slots (directory_found d u f.dir).pass k j n x y f.at (subst (λ z. slice_get z j ≡ Some y) (directory_slots d f.walked f.dir) bt) names mames is

  -- the rows of a directory are as they must be
  rows : (d p : ℕ) → IsDirectory (tree_found m r) d p → AreRows d p (slots_of (tree_found m r) d)
  rows d p dir =
      let k : DirectoryIs d p = directory_is d p dir in
      let u : TakenWith (taken_of m r) d (parent_of d) = it_of d k.walked in
      let f : DirectoryFound m r d u.it = directory_found d u k.dir in
      let pass : SlotsPass m r d p [] u.it.listed f.slots = subst (λ z. SlotsPass m r d z [] u.it.listed f.slots) (u.parent ∙ sym k.parent) (subst (λ z. SlotsPass m r z u.it.parent [] u.it.listed f.slots) u.inode f.pass) in
      subst (λ z. AreRows d p z) (sym (directory_slots d k.walked k.dir)) (record {
        plain = λ k n name long at. (row_at m r d p [] u.it.listed f.slots pass k n name long at).2.plain;
        differ = λ k j n i name a b x y. names_differ m r d p [] u.it.listed f.slots pass k j n i name a b x y;
        dot = λ k n long at. (row_at m r d p [] u.it.listed f.slots pass k n (46 ∷ []) long at).2.dots refl;
        dots = λ k n long at. (row_at m r d p [] u.it.listed f.slots pass k n (46 ∷ 46 ∷ []) long at).2.dots refl;
      })

  -- the tree is a tree by itself
  pub rooted : IsRooted (tree_found m r)
  rooted = record { reached = reached; closed = closed; top = top_is; parent = parent_is; no_top = no_top; once = once; rows = rows }
