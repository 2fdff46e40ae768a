-- Where no test of the walk fails, no block stands at two positions, and the tree is whole.
use Rattle.std.proofs.Common.{◌≡◌, ℕ, zero, suc, ◌+◌, ◌/◌, inl, inr, List, [], ◌∷◌, ◌++◌, length, refl, sym, ◌∙◌, ap, subst, arith, append-nil}
use Rattle.std.specs.Prelude.{Bool, true, false, ◌&&◌, not, ◌==◌, if◌then◌else◌, Option, Some, None, is_some, unwrap_or, option_to_list, Contains, map, flat_map, slice_get}
use Rattle.std.specs.List.{list_all}
use Rattle.std.proofs.lemmas.List.Elements.{Contains-append_left, Contains-append_right}
use Rattle.std.proofs.lemmas.List.{map-append}
use Rattle.qx_geom.specs.declared.root.Root.{Root}
use Rattle.qx_records.specs.declared.kind.Kind.{Kind}
use Rattle.qx_records.specs.declared.kind.Kind.TheVariants as kinds
use Rattle.qx_fields.specs.Number.{number}
use Rattle.qx_geom.proofs.Members.{Contains-cases, Contains-cons, Contains-head, in_head, in_tail}
use Rattle.qx_geom.proofs.Truths.{and_left, and_right, not_true, true_or_false}
use Rattle.qx_geom.specs.Lists.{all_differ, each_below, is_in}
use Rattle.qx_model.specs.Tree.{is_dots, is_special_body}
use Rattle.qx_nodes.specs.BlockMap.{BlockMap}
use Rattle.qx_nodes.specs.Content.{HasSize, levels_fit, root_fits}
use Rattle.qx_nodes.specs.Visits.{Visit, visits_of}
use Rattle.qx_records.specs.InodeRecord.{kind_of}
use Rattle.qx_records.specs.NameRecord.{Bad, Long, RawRecord, Short, Unused}
use Rattle.qx_view.specs.declared.findings.Code.TheVariants as codes
use Rattle.qx_view.proofs.PassingTests.{NodePasses, Passing, node_passes, passing_each, passing_parts}
use Rattle.qx_view.proofs.TestOrder.{met_once}
use Rattle.qx_view.proofs.TreeFound.{TakenWith, body_found, entry_found, in_entry, parent_in, tree_found, tree_places}
use Rattle.qx_view.proofs.TreeFromTests.{each, further_parts, it_of, kind_passes, root_parts, rooted}
use Rattle.qx_view.proofs.WalkEnds.{inodes}
use Rattle.qx_nodes.specs.LongNames.{long_name}
use Rattle.qx_view.specs.Images.{Roots, has_inode, raw_of, record_block}
use Rattle.qx_model.specs.Owners.{OfFurther, OfInode, OfInodes, OfLongfile, Owner}
use Rattle.qx_view.specs.Reading.{HasNode, IsApart, IsTreeOf, IsUndamaged, StandsAt, slot_of}
use Rattle.qx_view.specs.Walk.{Met, Place, Taken, Test, Tested, finding_of, inode_mode, inode_root, inode_tests, is_directory_inode, kind_tests, met_of, named_inode, node_tests, record_tests, records_tests, root_tests, row_tests, slot_name, taken_of, tests_of, top_tests, visit_tests}
use Rattle.qx_view.proofs.AlikeLists.{members_map, members_flat_map}

-- what tests end to end meet
met_of-append : (as' bs : List Test) → met_of (as' ++ bs) ≡ met_of as' ++ met_of bs
met_of-append [] bs = refl
met_of-append (Tested c i b p ∷ as') bs = met_of-append as' bs
met_of-append (Met i b ∷ as') bs = ap (λ z. b ∷ z) (met_of-append as' bs)

-- the number of an element is one of the numbers
in_map : {A : Type 0} (f : A → ℕ) (xs : List A) (x : A) → Contains xs x → is_in (map f xs) (f x) ≡ true
in_map f [] x c = absurd (omega (arith, c.1))
in_map f (y ∷ xs) x c =
    elim (Contains-cases y x xs c) [
      | inl is ↦ subst (λ z. is_in (map f (y ∷ xs)) (f z) ≡ true) is (in_head (f y) (map f xs))
      | inr there ↦ in_tail (f y) (f x) (map f xs) (in_map f xs x there)
    ]

-- where the numbers of a list's elements differ, the elements of one number are one
pub differ_same : {A : Type 0} (f : A → ℕ) (xs : List A) (a b : A) → all_differ (map f xs) ≡ true → Contains xs a → Contains xs b → f a ≡ f b → a ≡ b
differ_same f [] a b e c d same = absurd (omega (arith, c.1))
differ_same f (x ∷ xs) a b e c d same =
    let out : is_in (map f xs) (f x) ≡ false = not_true _ (and_left (not (is_in (map f xs) (f x))) (all_differ (map f xs)) e) in
    elim (Contains-cases x a xs c) [
      | inl xa ↦ elim (Contains-cases x b xs d) [
        | inl xb ↦ sym xa ∙ xb
        | inr db ↦ absurd (true_or_false _ (subst (λ z. is_in (map f xs) z ≡ true) (sym same ∙ ap f (sym xa)) (in_map f xs b db)) out)
      ]
      | inr ca ↦ elim (Contains-cases x b xs d) [
        | inl xb ↦ absurd (true_or_false _ (subst (λ z. is_in (map f xs) z ≡ true) (same ∙ ap f (sym xb)) (in_map f xs a ca)) out)
        | inr db ↦ differ_same f xs a b (and_right (not (is_in (map f xs) (f x))) (all_differ (map f xs)) e) ca db same
      ]
    ]

-- the positions of a node
abbrev pub placed : BlockMap → Owner → Root → List (Owner × Visit)
placed m o node = map (λ v. (o, v)) (visits_of m node)

-- those of the further nodes
abbrev pub placed_further : BlockMap → ℕ → List Root → List (Owner × Visit)
placed_further m k [] = []
placed_further m k (node ∷ nodes) = placed m (OfFurther k) node ++ placed_further m (suc k) nodes

-- those of an inode of a kind
abbrev pub placed_kind : BlockMap → Roots → ℕ → Option Kind → List (Owner × Visit)
placed_kind m r n None = []
placed_kind m r n (Some kinds.Special) = []
placed_kind m r n (Some kinds.Directory) = placed m (OfInode n) (inode_root m r n)
placed_kind m r n (Some kinds.File) = placed m (OfInode n) (inode_root m r n)
placed_kind m r n (Some kinds.Link) = placed m (OfInode n) (inode_root m r n)

-- those of an inode that is taken
abbrev pub placed_taken : BlockMap → Roots → Taken → List (Owner × Visit)
placed_taken m r t = placed_kind m r t.inode (kind_of (inode_mode m r t.inode))

-- all positions, in the order of the walk
abbrev pub all_placed : BlockMap → Roots → List (Owner × Visit)
all_placed m r = placed m OfInodes r.inodes ++ placed m OfLongfile r.longfile ++ placed_further m 0 r.further ++ flat_map (placed_taken m r) (taken_of m r)

-- the block at a position
abbrev pub block_at : Owner × Visit → ℕ
block_at p = p.1.block

-- what the tests of visits meet
met_visits : (m : BlockMap) (i : ℕ) (o : Owner) (vs : List Visit) → met_of (flat_map (λ v. visit_tests m i v) vs) ≡ map block_at (map (λ v. (o, v)) vs)
met_visits m i o [] = refl
met_visits m i o (v ∷ vs) = ap (λ z. v.block ∷ z) (met_visits m i o vs)

-- what those of a node meet
met_node : (m : BlockMap) (i : ℕ) (o : Owner) (node : Root) (fits : Bool) → met_of (node_tests m i node fits) ≡ map block_at (placed m o node)
met_node m i o node fits = met_visits m i o (visits_of m node)

-- of the further nodes
met_further : (m : BlockMap) (k : ℕ) (nodes : List Root) → met_of (flat_map (root_tests m) nodes) ≡ map block_at (placed_further m k nodes)
met_further m k [] = refl
met_further m k (node ∷ nodes) =
    met_of-append (root_tests m node) (flat_map (root_tests m) nodes)
    ∙ (λ i. met_node m 0 (OfFurther k) node (root_fits m node) i ++ met_further m (suc k) nodes i)
    ∙ sym (map-append block_at (placed m (OfFurther k) node) (placed_further m (suc k) nodes))

-- of a row: nothing
met_row : (m : BlockMap) (r : Roots) (at : Place) (names : List (List ℕ)) (listed : List ℕ) (n : ℕ) (name : List ℕ) → met_of (row_tests m r at names listed n name) ≡ []
met_row m r at names listed n name = go (is_dots name)
  where
    go : (b : Bool) → met_of (if b then Tested codes.Dots at.inode at.block (n == (if length name == 1 then at.inode else at.parent)) ∷ [] else Tested codes.NoInode at.inode at.block (has_inode r.inodes n) ∷ Tested codes.Kind at.inode at.block (is_some (kind_of (inode_mode m r n))) ∷ Tested codes.DirTwice at.inode at.block (not (is_directory_inode m r n && is_in listed n)) ∷ []) ≡ []
    go true = refl
    go false = refl

-- of a record
met_record : (m : BlockMap) (r : Roots) (at : Place) (names : List (List ℕ)) (listed : List ℕ) (raw : RawRecord) → met_of (record_tests m r at names listed raw) ≡ []
met_record m r at names listed Unused = refl
met_record m r at names listed (Bad c) = refl
met_record m r at names listed (Short n name) = met_row m r at names listed n name
met_record m r at names listed (Long n number sum) = met_row m r at names listed n (unwrap_or (long_name m r.longfile number) [])

-- of records
met_records : (m : BlockMap) (r : Roots) (d p : ℕ) (node : Root) (names : List (List ℕ)) (listed ks : List ℕ) → met_of (records_tests m r d p node names listed ks) ≡ []
met_records m r d p node names listed [] = refl
met_records m r d p node names listed (k ∷ ks) =
    met_of-append (record_tests m r (record { inode = d; parent = p; block = record_block m node k }) names listed (raw_of m node k)) _
    ∙ (λ i. met_record m r (record { inode = d; parent = p; block = record_block m node k }) names listed (raw_of m node k) i ++ met_records m r d p node (slot_name (slot_of m r.longfile (raw_of m node k)) ++ names) (option_to_list (named_inode m r.longfile (raw_of m node k)) ++ listed) ks i)

-- of an inode of a kind
met_kind : (m : BlockMap) (r : Roots) (t : Taken) (k : Option Kind) → met_of (kind_tests m r t (inode_root m r t.inode) k) ≡ map block_at (placed_kind m r t.inode k)
met_kind m r t None = refl
met_kind m r t (Some kinds.Special) = refl
met_kind m r t (Some kinds.File) = met_node m t.inode (OfInode t.inode) (inode_root m r t.inode) (levels_fit m (inode_root m r t.inode))
met_kind m r t (Some kinds.Link) =
    met_of-append (node_tests m t.inode (inode_root m r t.inode) (levels_fit m (inode_root m r t.inode))) _
    ∙ append-nil (met_of (node_tests m t.inode (inode_root m r t.inode) (levels_fit m (inode_root m r t.inode))))
    ∙ met_node m t.inode (OfInode t.inode) (inode_root m r t.inode) (levels_fit m (inode_root m r t.inode))
met_kind m r t (Some kinds.Directory) =
    met_of-append (node_tests m t.inode (inode_root m r t.inode) (levels_fit m (inode_root m r t.inode))) (records_tests m r t.inode t.parent (inode_root m r t.inode) [] t.listed (each_below ((inode_root m r t.inode).size / 32) (λ k. k)))
    ∙ ap (λ z. met_of (node_tests m t.inode (inode_root m r t.inode) (levels_fit m (inode_root m r t.inode))) ++ z) (met_records m r t.inode t.parent (inode_root m r t.inode) [] t.listed (each_below ((inode_root m r t.inode).size / 32) (λ k. k)))
    ∙ append-nil (met_of (node_tests m t.inode (inode_root m r t.inode) (levels_fit m (inode_root m r t.inode))))
    ∙ met_node m t.inode (OfInode t.inode) (inode_root m r t.inode) (levels_fit m (inode_root m r t.inode))

-- of those that are taken
met_taken : (m : BlockMap) (r : Roots) (ts : List Taken) → met_of (flat_map (inode_tests m r) ts) ≡ map block_at (flat_map (placed_taken m r) ts)
met_taken m r [] = refl
met_taken m r (t ∷ ts) =
    met_of-append (inode_tests m r t) (flat_map (inode_tests m r) ts)
    ∙ (λ i. met_kind m r t (kind_of (inode_mode m r t.inode)) i ++ met_taken m r ts i)
    ∙ sym (map-append block_at (placed_taken m r t) (flat_map (placed_taken m r) ts))

-- the blocks that the tests meet are those of the positions, in one order
pub met_all : (m : BlockMap) (r : Roots) → met_of (tests_of m r) ≡ map block_at (all_placed m r)
met_all m r =
    let a : List Test = root_tests m r.inodes in
    let b : List Test = root_tests m r.longfile in
    let c : List Test = flat_map (root_tests m) r.further in
    let d : List Test = top_tests m r in
    let e : List Test = flat_map (inode_tests m r) (taken_of m r) in
    let x : List (Owner × Visit) = placed m OfInodes r.inodes in
    let y : List (Owner × Visit) = placed m OfLongfile r.longfile in
    let z : List (Owner × Visit) = placed_further m 0 r.further in
    let w : List (Owner × Visit) = flat_map (placed_taken m r) (taken_of m r) in
    met_of-append (a ++ b ++ c ++ d) e
    ∙ ap (λ q. q ++ met_of e) (met_of-append (a ++ b ++ c) d ∙ append-nil (met_of (a ++ b ++ c)) ∙ met_of-append (a ++ b) c ∙ ap (λ q. q ++ met_of c) (met_of-append a b))
    ∙ (λ i. met_node m 0 OfInodes r.inodes (root_fits m r.inodes) i ++ met_node m 0 OfLongfile r.longfile (root_fits m r.longfile) i ++ met_further m 0 r.further i ++ met_taken m r (taken_of m r) i)
    ∙ sym (map-append block_at (x ++ y ++ z) w ∙ ap (λ q. q ++ map block_at w) (map-append block_at (x ++ y) z ∙ ap (λ q. q ++ map block_at z) (map-append block_at x y)))

-- a position of a further node
further_placed : (m : BlockMap) (k j : ℕ) (nodes : List Root) (node : Root) (v : Visit) → slice_get nodes j ≡ Some node → Contains (visits_of m node) v → Contains (placed_further m k nodes) (OfFurther (k + j), v)
further_placed m k j [] node v e c = absurd (cc)
further_placed m k zero (x ∷ nodes) node v e c =
    let is : x ≡ node = cc in
    Contains-append_left (placed m (OfFurther k) x) (placed_further m (suc k) nodes) (OfFurther (k + 0), v)
    (subst (λ z. Contains (placed m (OfFurther k) x) (OfFurther z, v)) (omega arith) (members_map (λ v. (OfFurther k, v)) (visits_of m x) v (subst (λ z. Contains (visits_of m z) v) (sym is) c)))
further_placed m k (suc j) (x ∷ nodes) node v e c =
    Contains-append_right (placed m (OfFurther k) x) (placed_further m (suc k) nodes) (OfFurther (k + suc j), v)
    (subst (λ z. Contains (placed_further m (suc k) nodes) (OfFurther z, v)) (omega arith) (further_placed m (suc k) j nodes node v e c))

-- what stands at a place is a member
pub slice_contains : {A : Type 0} (xs : List A) (k : ℕ) (x : A) → slice_get xs k ≡ Some x → Contains xs x
slice_contains [] k x e = absurd (cc)
slice_contains (y ∷ xs) zero x e = let is : y ≡ x = cc in subst (λ z. Contains (y ∷ xs) z) is (Contains-head y xs)
slice_contains (y ∷ xs) (suc k) x e = Contains-cons y x xs (slice_contains xs k x e)

-- the further nodes are within the bounds
all_fit : (m : BlockMap) (nodes : List Root) → Passing (flat_map (root_tests m) nodes) → list_all (root_fits m) nodes ≡ true
all_fit m [] p = refl
all_fit m (x ∷ nodes) p =
    let parts : Passing (root_tests m x) × Passing (flat_map (root_tests m) nodes) = passing_parts (root_tests m x) (flat_map (root_tests m) nodes) p in
    λ i. (node_passes m 0 x (root_fits m x) parts.0).fit i && all_fit m nodes parts.1 i

module _ (m : BlockMap) (r : Roots) (s : HasSize m) (none : finding_of m r ≡ None) where
  -- a node that a tree entry has
  record OwnNode (n : ℕ) (node : Root) : Type 0 where
    pub walked : is_in (inodes (taken_of m r)) n ≡ true
    pub is : node ≡ inode_root m r n
    pub pass : NodePasses m (inode_root m r n) (levels_fit m (inode_root m r n))
    pub placed : (v : Visit) → Contains (visits_of m node) v → Contains (placed_kind m r n (kind_of (inode_mode m r n))) (OfInode n, v)

  -- the node of an entry is one that the walk met
  own_node : (n : ℕ) (node : Root) → HasNode m r (tree_found m r) (OfInode n) node → OwnNode n node
  own_node n node (e, at, plain, is) =
      let known : (is_in (inodes (taken_of m r)) n ≡ true) × (e ≡ entry_found m r (parent_in (taken_of m r) n) n) = in_entry m r n e at in
      let u : TakenWith (taken_of m r) n (parent_in (taken_of m r) n) = it_of m r s none n known.0 in
      let both : NodePasses m (inode_root m r n) (levels_fit m (inode_root m r n)) × ((v : Visit) → Contains (visits_of m (inode_root m r n)) v → Contains (placed_kind m r n (kind_of (inode_mode m r n))) (OfInode n, v))
      = go (kind_of (inode_mode m r n)) u.it (kind_passes m r s none n u) (sym (ap (λ z. is_special_body z.body) known.1) ∙ plain) in
      record { walked = known.0; is = is; pass = both.0; placed = λ v c. both.1 v (subst (λ z. Contains (visits_of m z) v) is c) }
    where
      go : (o : Option Kind) (t : Taken) → Passing (kind_tests m r t (inode_root m r n) o) → is_special_body (body_found m r.longfile (inode_root m r n) (parent_in (taken_of m r) n) o) ≡ false
          → NodePasses m (inode_root m r n) (levels_fit m (inode_root m r n)) × ((v : Visit) → Contains (visits_of m (inode_root m r n)) v → Contains (placed_kind m r n o) (OfInode n, v))
      go None t p f = absurd (cc)
      go (Some kinds.Special) t p f = absurd (cc)
      go (Some kinds.File) t p f = (node_passes m t.inode (inode_root m r n) (levels_fit m (inode_root m r n)) p, λ v c. members_map (λ v. (OfInode n, v)) (visits_of m (inode_root m r n)) v c)
      go (Some kinds.Link) t p f = (node_passes m t.inode (inode_root m r n) (levels_fit m (inode_root m r n)) (passing_parts (node_tests m t.inode (inode_root m r n) (levels_fit m (inode_root m r n))) _ p).0, λ v c. members_map (λ v. (OfInode n, v)) (visits_of m (inode_root m r n)) v c)
      go (Some kinds.Directory) t p f = (node_passes m t.inode (inode_root m r n) (levels_fit m (inode_root m r n)) (passing_parts (node_tests m t.inode (inode_root m r n) (levels_fit m (inode_root m r n))) _ p).0, λ v c. members_map (λ v. (OfInode n, v)) (visits_of m (inode_root m r n)) v c)

  -- each pointer of the tree is a block's number
  undamaged : IsUndamaged m r (tree_found m r)
  undamaged OfInodes v (node, is, c) = (node_passes m 0 r.inodes (root_fits m r.inodes) (root_parts m r s none).0).undamaged v (subst (λ z. Contains (visits_of m z) v) is c)
  undamaged OfLongfile v (node, is, c) = (node_passes m 0 r.longfile (root_fits m r.longfile) (root_parts m r s none).1).undamaged v (subst (λ z. Contains (visits_of m z) v) is c)
  undamaged (OfFurther k) v (node, at, c) = (node_passes m 0 node (root_fits m node) (passing_each (root_tests m) r.further node (further_parts m r s none).1 (slice_contains r.further k node at))).undamaged v c
  undamaged (OfInode n) v (node, h, c) = let o : OwnNode n node = own_node n node h in o.pass.undamaged v (subst (λ z. Contains (visits_of m z) v) o.is c)

  -- each position of the tree is one that the walk met
  pub stands_placed : (o : Owner) (v : Visit) → StandsAt m r (tree_found m r) o v → Contains (all_placed m r) (o, v)
  stands_placed OfInodes v (node, is, c) =
      Contains-append_left (placed m OfInodes r.inodes ++ placed m OfLongfile r.longfile ++ placed_further m 0 r.further) (flat_map (placed_taken m r) (taken_of m r)) (OfInodes, v)
      (Contains-append_left (placed m OfInodes r.inodes ++ placed m OfLongfile r.longfile) (placed_further m 0 r.further) (OfInodes, v)
      (Contains-append_left (placed m OfInodes r.inodes) (placed m OfLongfile r.longfile) (OfInodes, v)
      (members_map (λ v. (OfInodes, v)) (visits_of m r.inodes) v (subst (λ z. Contains (visits_of m z) v) is c))))
  stands_placed OfLongfile v (node, is, c) =
      Contains-append_left (placed m OfInodes r.inodes ++ placed m OfLongfile r.longfile ++ placed_further m 0 r.further) (flat_map (placed_taken m r) (taken_of m r)) (OfLongfile, v)
      (Contains-append_left (placed m OfInodes r.inodes ++ placed m OfLongfile r.longfile) (placed_further m 0 r.further) (OfLongfile, v)
      (Contains-append_right (placed m OfInodes r.inodes) (placed m OfLongfile r.longfile) (OfLongfile, v)
      (members_map (λ v. (OfLongfile, v)) (visits_of m r.longfile) v (subst (λ z. Contains (visits_of m z) v) is c))))
  stands_placed (OfFurther k) v (node, at, c) =
      Contains-append_left (placed m OfInodes r.inodes ++ placed m OfLongfile r.longfile ++ placed_further m 0 r.further) (flat_map (placed_taken m r) (taken_of m r)) (OfFurther k, v)
      (Contains-append_right (placed m OfInodes r.inodes ++ placed m OfLongfile r.longfile) (placed_further m 0 r.further) (OfFurther k, v)
      (subst (λ z. Contains (placed_further m 0 r.further) (OfFurther z, v)) (omega arith) (further_placed m 0 k r.further node v at c)))
  stands_placed (OfInode n) v (node, h, c) =
      let o : OwnNode n node = own_node n node h in
      let u : TakenWith (taken_of m r) n (parent_in (taken_of m r) n) = it_of m r s none n o.walked in
      Contains-append_right (placed m OfInodes r.inodes ++ placed m OfLongfile r.longfile ++ placed_further m 0 r.further) (flat_map (placed_taken m r) (taken_of m r)) (OfInode n, v)
      (members_flat_map (placed_taken m r) (taken_of m r) u.it (OfInode n, v) u.among (subst (λ z. Contains (placed_kind m r z (kind_of (inode_mode m r z))) (OfInode n, v)) (sym u.inode) (o.placed v c)))

  -- no block stands at two positions of the tree
  apart : IsApart m r (tree_found m r)
  apart o p v w a b e =
      let once : all_differ (map block_at (all_placed m r)) ≡ true = subst (λ z. all_differ z ≡ true) (met_all m r) (met_once [] (tests_of m r) none).once in
      let same : ◌≡◌ {A = Owner × Visit} (o, v) (p, w) = differ_same block_at (all_placed m r) (o, v) (p, w) once (stands_placed o v a) (stands_placed p w b) e in
      (ap (λ z. z.0) same, ap (λ z. z.1) same)

  -- no test fails: there is a tree
  pub tree_is : IsTreeOf m r (tree_found m r)
  tree_is = record {
    inodes_fit = (node_passes m 0 r.inodes (root_fits m r.inodes) (root_parts m r s none).0).fit;
    longfile_fits = (node_passes m 0 r.longfile (root_fits m r.longfile) (root_parts m r s none).1).fit;
    further_fit = all_fit m r.further (further_parts m r s none).1;
    rooted = rooted m r s none;
    places = tree_places m r;
    each = each m r s none;
    undamaged = undamaged;
    apart = apart;
    long_size = refl;
    long_names = refl;
    long_present = refl;
  }
