-- No test of the walk fails exactly where the blocks have a tree.
use Rattle.std.proofs.Common.{◌≡◌, ℕ, suc, ◌+◌, ◌<◌, inl, inr, List, [], ◌∷◌, ◌++◌, refl, sym, ◌∙◌, ap, subst, arith}
use Rattle.std.specs.Prelude.{true, false, not, Option, Some, None, Contains, flat_map, slice_get}
use Rattle.std.specs.List.{list_all}
use Rattle.std.proofs.lemmas.List.Elements.{Contains-append_cases}
use Rattle.qx_geom.specs.declared.root.Root.{Root}
use Rattle.qx_geom.proofs.ImagesAndFilters.{Contains-image}
use Rattle.qx_records.specs.declared.kind.Kind.{Kind}
use Rattle.qx_records.specs.declared.kind.Kind.TheVariants as kinds
use Rattle.qx_geom.proofs.DistinctElements.{Distinct-append, Distinct-map, numbers_differ}
use Rattle.qx_geom.proofs.Truths.{and_left, and_right, not_true, true_or_false}
use Rattle.qx_geom.specs.Lists.{Distinct, all_differ, is_in}
use Rattle.qx_geom.specs.Pointer.{per_block}
use Rattle.qx_model.specs.Tree.{Body, Directory, Entry, File, Link, Special, Tree, entry_of, is_special_body}
use Rattle.qx_nodes.proofs.DistinctPositions.{node_distinct}
use Rattle.qx_nodes.specs.BlockMap.{BlockMap}
use Rattle.qx_nodes.specs.Content.{HasSize, root_fits}
use Rattle.qx_nodes.specs.Visits.{Visit, visits_of}
use Rattle.qx_records.specs.InodeRecord.{kind_of}
use Rattle.qx_view.proofs.AlikeLists.{flat_map_members}
use Rattle.qx_view.proofs.ApartPositions.{all_placed, block_at, met_all, placed, placed_further, placed_kind, placed_taken}
use Rattle.qx_view.proofs.EntryContents.{kind_in}
use Rattle.qx_view.proofs.TestsFromTree.{AllTested, AllTested-append, AllTested-flat, TakenIn, in_inodes, inode_tested, kind_here, node_tested, none_from, queue_is, taken_differ, taken_in}
use Rattle.qx_view.proofs.WalkEnds.{inodes}
use Rattle.qx_view.specs.Images.{Roots, inode_places}
use Rattle.qx_model.specs.Owners.{OfFurther, OfInode, OfInodes, OfLongfile, Owner}
use Rattle.qx_view.specs.Reading.{HasNode, IsTreeOf, StandsAt}
use Rattle.qx_view.specs.Walk.{Taken, finding_of, inode_mode, inode_root, inode_tests, is_directory_inode, is_directory_kind, met_of, root_tests, taken_of, tests_of, top_tests}

-- a position of a node is its owner's
placed_owner : (m : BlockMap) (o : Owner) (node : Root) (x : Owner × Visit) → Contains (placed m o node) x → (x.0 ≡ o) × Contains (visits_of m node) x.1
placed_owner m o node x c = let r : (v : Visit) × Contains (visits_of m node) v × (◌≡◌ {A = Owner × Visit} (o, v) x) = Contains-image (λ v. (o, v)) (visits_of m node) x c in
    (sym (ap (λ z. z.0) r.2), subst (λ z. Contains (visits_of m node) z) (ap (λ z. z.1) r.2) r.1)

-- and none stands twice
placed_distinct : (m : BlockMap) (o : Owner) (node : Root) → 0 < per_block m.size → Distinct (placed m o node)
placed_distinct m o node pos = Distinct-map (λ v. (o, v)) (visits_of m node) (λ v w e. ap (λ z. z.1) e) (node_distinct m node pos)

-- a position of a further node
record IsFurther (m : BlockMap) (k : ℕ) (nodes : List Root) (x : Owner × Visit) : Type 0 where
  pub place : ℕ
  pub node : Root
  pub owner : x.0 ≡ OfFurther (k + place)
  pub at : slice_get nodes place ≡ Some node
  pub met : Contains (visits_of m node) x.1

-- a position of the further nodes is one
further_is : (m : BlockMap) (k : ℕ) (nodes : List Root) (x : Owner × Visit) → Contains (placed_further m k nodes) x → IsFurther m k nodes x
further_is m k [] x c = absurd (omega (arith, c.1))
further_is m k (node ∷ nodes) x c = elim (Contains-append_cases (placed m (OfFurther k) node) (placed_further m (suc k) nodes) x c) [
  | inl here ↦ let p : (x.0 ≡ OfFurther k) × Contains (visits_of m node) x.1 = placed_owner m (OfFurther k) node x here in
      record { place = 0; node = node; owner = p.0 ∙ ap (λ z. OfFurther z) (omega arith); at = refl; met = p.1 }
  | inr there ↦ let r : IsFurther m (suc k) nodes x = further_is m (suc k) nodes x there in
      record { place = suc r.place; node = r.node; owner = r.owner ∙ ap (λ z. OfFurther z) (omega arith); at = r.at; met = r.met }
]

-- none of them stands twice
further_distinct : (m : BlockMap) (k : ℕ) (nodes : List Root) → 0 < per_block m.size → Distinct (placed_further m k nodes)
further_distinct m k [] pos = tt
further_distinct m k (node ∷ nodes) pos = Distinct-append (placed m (OfFurther k) node) (placed_further m (suc k) nodes) (placed_distinct m (OfFurther k) node pos) (further_distinct m (suc k) nodes pos)
    (λ x a b. let p : (x.0 ≡ OfFurther k) × Contains (visits_of m node) x.1 = placed_owner m (OfFurther k) node x a in
    let r : IsFurther m (suc k) nodes x = further_is m (suc k) nodes x b in
    let same : OfFurther k ≡ OfFurther (suc k + r.place) = sym p.0 ∙ r.owner in
    let numbers : k ≡ suc k + r.place = cc in omega (arith, numbers))

-- a position of an inode is its own
kind_owner : (m : BlockMap) (r : Roots) (n : ℕ) (o : Option Kind) (x : Owner × Visit) → Contains (placed_kind m r n o) x → (x.0 ≡ OfInode n) × Contains (visits_of m (inode_root m r n)) x.1
kind_owner m r n None x c = absurd (omega (arith, c.1))
kind_owner m r n (Some kinds.Special) x c = absurd (omega (arith, c.1))
kind_owner m r n (Some kinds.Directory) x c = placed_owner m (OfInode n) (inode_root m r n) x c
kind_owner m r n (Some kinds.File) x c = placed_owner m (OfInode n) (inode_root m r n) x c
kind_owner m r n (Some kinds.Link) x c = placed_owner m (OfInode n) (inode_root m r n) x c

-- and none stands twice
kind_distinct : (m : BlockMap) (r : Roots) (n : ℕ) (o : Option Kind) → 0 < per_block m.size → Distinct (placed_kind m r n o)
kind_distinct m r n None pos = tt
kind_distinct m r n (Some kinds.Special) pos = tt
kind_distinct m r n (Some kinds.Directory) pos = placed_distinct m (OfInode n) (inode_root m r n) pos
kind_distinct m r n (Some kinds.File) pos = placed_distinct m (OfInode n) (inode_root m r n) pos
kind_distinct m r n (Some kinds.Link) pos = placed_distinct m (OfInode n) (inode_root m r n) pos

-- no position of the inodes that are taken stands twice
taken_distinct : (m : BlockMap) (r : Roots) (ts : List Taken) → 0 < per_block m.size → all_differ (inodes ts) ≡ true → Distinct (flat_map (placed_taken m r) ts)
taken_distinct m r [] pos d = tt
taken_distinct m r (t ∷ ts) pos d = Distinct-append (placed_taken m r t) (flat_map (placed_taken m r) ts) (kind_distinct m r t.inode (kind_of (inode_mode m r t.inode)) pos) (taken_distinct m r ts pos (and_right (not (is_in (inodes ts) t.inode)) (all_differ (inodes ts)) d))
    (λ x a b. let p : (x.0 ≡ OfInode t.inode) × Contains (visits_of m (inode_root m r t.inode)) x.1 = kind_owner m r t.inode (kind_of (inode_mode m r t.inode)) x a in
    let q : (u : Taken) × Contains ts u × Contains (placed_taken m r u) x = flat_map_members (placed_taken m r) ts x b in
    let w : (x.0 ≡ OfInode q.0.inode) × Contains (visits_of m (inode_root m r q.0.inode)) x.1 = kind_owner m r q.0.inode (kind_of (inode_mode m r q.0.inode)) x q.2 in
    let owners : OfInode t.inode ≡ OfInode q.0.inode = sym p.0 ∙ w.0 in
    let same : t.inode ≡ q.0.inode = cc in
    true_or_false (is_in (inodes ts) t.inode) (subst (λ z. is_in (inodes ts) z ≡ true) (sym same) (in_inodes ts q.0 q.1)) (not_true _ (and_left (not (is_in (inodes ts) t.inode)) (all_differ (inodes ts)) d)))

module _ (m : BlockMap) (r : Roots) (t : Tree) (s : HasSize m) (is : IsTreeOf m r t) where
  -- no position of the walk stands twice
  all_distinct : Distinct (all_placed m r)
  all_distinct =
      let a : List (Owner × Visit) = placed m OfInodes r.inodes in
      let b : List (Owner × Visit) = placed m OfLongfile r.longfile in
      let c : List (Owner × Visit) = placed_further m 0 r.further in
      let d : List (Owner × Visit) = flat_map (placed_taken m r) (taken_of m r) in
      Distinct-append (a ++ b ++ c) d
      (Distinct-append (a ++ b) c
      (Distinct-append a b (placed_distinct m OfInodes r.inodes s.words) (placed_distinct m OfLongfile r.longfile s.words)
      (λ x h k. let e : OfInodes ≡ OfLongfile = sym (placed_owner m OfInodes r.inodes x h).0 ∙ (placed_owner m OfLongfile r.longfile x k).0 in cc))
      (further_distinct m 0 r.further s.words)
      (λ x h k. let q : x.0 ≡ OfFurther (0 + (further_is m 0 r.further x k).place) = (further_is m 0 r.further x k).owner in
      elim (Contains-append_cases a b x h) [
        | inl y ↦ let e : OfInodes ≡ OfFurther (0 + (further_is m 0 r.further x k).place) = sym (placed_owner m OfInodes r.inodes x y).0 ∙ q in cc
        | inr y ↦ let e : OfLongfile ≡ OfFurther (0 + (further_is m 0 r.further x k).place) = sym (placed_owner m OfLongfile r.longfile x y).0 ∙ q in cc
      ]))
      (taken_distinct m r (taken_of m r) s.words (taken_differ m r (inode_places r + 1) ((1, 1) ∷ []) (1 ∷ []) (queue_is m r t is)))
      (λ x h k. let q : (u : Taken) × Contains (taken_of m r) u × Contains (placed_taken m r u) x = flat_map_members (placed_taken m r) (taken_of m r) x k in
      let w : x.0 ≡ OfInode q.0.inode = (kind_owner m r q.0.inode (kind_of (inode_mode m r q.0.inode)) x q.2).0 in
      elim (Contains-append_cases (a ++ b) c x h) [
        | inl y ↦ elim (Contains-append_cases a b x y) [
          | inl z ↦ let e : OfInodes ≡ OfInode q.0.inode = sym (placed_owner m OfInodes r.inodes x z).0 ∙ w in cc
          | inr z ↦ let e : OfLongfile ≡ OfInode q.0.inode = sym (placed_owner m OfLongfile r.longfile x z).0 ∙ w in cc
        ]
        | inr y ↦ let e : OfFurther (0 + (further_is m 0 r.further x y).place) ≡ OfInode q.0.inode = sym (further_is m 0 r.further x y).owner ∙ w in cc
      ])

  -- an inode whose positions are met has a node in the tree
  has_node : (u : Taken) (c : Contains (taken_of m r) u) (x : Owner × Visit) → Contains (placed_taken m r u) x → HasNode m r t (OfInode u.inode) (inode_root m r u.inode)
  has_node u c x h =
      let i : TakenIn m r t is u = taken_in m r t is u c in
      (i.entry, i.at, by_body i.entry.body (subst (λ o. Contains (placed_kind m r u.inode o) x) (kind_here m r t is u.inode i.entry i.at) h), refl)
    where
      by_body : (b : Body) → Contains (placed_kind m r u.inode (Some (kind_in b))) x → is_special_body b ≡ false
      by_body (Directory slots p) h = refl
      by_body (File content) h = refl
      by_body (Link target) h = refl
      by_body Special h = absurd (omega (arith, h.1))

  -- a position of an owner's node is one of the tree
  stands : (o : Owner) (x : Owner × Visit) (node : Root) → x.0 ≡ o → HasNode m r t o node → Contains (visits_of m node) x.1 → StandsAt m r t x.0 x.1
  stands o x node e h c = subst (λ z. StandsAt m r t z x.1) (sym e) (node, h, c)

  -- each position of the walk is one of the tree
  pub placed_stands : (x : Owner × Visit) → Contains (all_placed m r) x → StandsAt m r t x.0 x.1
  placed_stands x h =
      let a : List (Owner × Visit) = placed m OfInodes r.inodes in
      let b : List (Owner × Visit) = placed m OfLongfile r.longfile in
      let c : List (Owner × Visit) = placed_further m 0 r.further in
      let d : List (Owner × Visit) = flat_map (placed_taken m r) (taken_of m r) in
      elim (Contains-append_cases (a ++ b ++ c) d x h) [
        | inl y ↦ elim (Contains-append_cases (a ++ b) c x y) [
          | inl z ↦ elim (Contains-append_cases a b x z) [
            | inl w ↦ stands OfInodes x r.inodes (placed_owner m OfInodes r.inodes x w).0 refl (placed_owner m OfInodes r.inodes x w).1
            | inr w ↦ stands OfLongfile x r.longfile (placed_owner m OfLongfile r.longfile x w).0 refl (placed_owner m OfLongfile r.longfile x w).1
          ]
          | inr z ↦ let q : IsFurther m 0 r.further x = further_is m 0 r.further x z in
              stands (OfFurther q.place) x q.node (q.owner ∙ ap (λ k. OfFurther k) (omega arith)) q.at q.met
        ]
        | inr y ↦ let q : (u : Taken) × Contains (taken_of m r) u × Contains (placed_taken m r u) x = flat_map_members (placed_taken m r) (taken_of m r) x y in
            let w : (x.0 ≡ OfInode q.0.inode) × Contains (visits_of m (inode_root m r q.0.inode)) x.1 = kind_owner m r q.0.inode (kind_of (inode_mode m r q.0.inode)) x q.2 in
            stands (OfInode q.0.inode) x (inode_root m r q.0.inode) w.0 (has_node q.0 q.1 x q.2) w.1
      ]

  -- no block is met twice
  pub met_differ : all_differ (met_of (tests_of m r)) ≡ true
  met_differ = subst (λ z. all_differ z ≡ true) (sym (met_all m r)) (numbers_differ block_at (all_placed m r) all_distinct
      (λ x y a b e. let both : (x.0 ≡ y.0) × (x.1 ≡ y.1) = is.apart x.0 y.0 x.1 y.1 (placed_stands x a) (placed_stands y b) e in λ i. (both.0 i, both.1 i)))

  -- the tests of the further root nodes pass
  further_tested : (k : ℕ) (nodes : List Root) → ((j : ℕ) (node : Root) → slice_get nodes j ≡ Some node → HasNode m r t (OfFurther (k + j)) node) → list_all (root_fits m) nodes ≡ true → AllTested (flat_map (root_tests m) nodes)
  further_tested k [] own fit = tt
  further_tested k (x ∷ nodes) own fit = AllTested-append (root_tests m x) (flat_map (root_tests m) nodes)
      (node_tested m r t is 0 (OfFurther (k + 0)) x (root_fits m x) (own 0 x refl) (and_left (root_fits m x) (list_all (root_fits m) nodes) fit))
      (further_tested (suc k) nodes (λ j node at. subst (λ z. HasNode m r t (OfFurther z) node) (omega arith) (own (suc j) node at)) (and_right (root_fits m x) (list_all (root_fits m) nodes) fit))

  -- the tests at inode 1 pass
  top_tested : AllTested (top_tests m r)
  top_tested =
      let dir : (e : Entry) × (entry_of t 1 ≡ Some e) × (is_directory_inode m r 1 ≡ true) = top_directory in
      ((is.each 1 dir.0 dir.1).there, (dir.2, tt))
    where
      top_directory : (e : Entry) × (entry_of t 1 ≡ Some e) × (is_directory_inode m r 1 ≡ true)
      top_directory =
          let (e, slots, at, b) = is.rooted.top in
          (e, at, ap (λ o. is_directory_kind o) (kind_here m r t is 1 e at) ∙ ap (λ x. is_directory_kind (Some (kind_in x))) b)

  -- no test fails
  pub no_test_fails : finding_of m r ≡ None
  no_test_fails = none_from [] (tests_of m r)
      (AllTested-append (root_tests m r.inodes ++ root_tests m r.longfile ++ flat_map (root_tests m) r.further ++ top_tests m r) (flat_map (inode_tests m r) (taken_of m r))
      (AllTested-append (root_tests m r.inodes ++ root_tests m r.longfile ++ flat_map (root_tests m) r.further) (top_tests m r)
      (AllTested-append (root_tests m r.inodes ++ root_tests m r.longfile) (flat_map (root_tests m) r.further)
      (AllTested-append (root_tests m r.inodes) (root_tests m r.longfile)
      (node_tested m r t is 0 OfInodes r.inodes (root_fits m r.inodes) refl is.inodes_fit)
      (node_tested m r t is 0 OfLongfile r.longfile (root_fits m r.longfile) refl is.longfile_fits))
      (further_tested 0 r.further (λ j node at. subst (λ z. HasNode m r t (OfFurther z) node) (omega arith) at) is.further_fit))
      top_tested)
      (AllTested-flat (inode_tests m r) (taken_of m r) (λ u c. inode_tested m r t is u c)))
      met_differ (λ b h. refl)
