-- Where blocks agree on what a tree holds, the walk comes to the same inodes, and the nodes outside the halves meet the same blocks.
use Rattle.std.proofs.Common.{◌≡◌, inl, inr, ℕ, zero, suc, ◌+◌, ◌/◌, List, [], ◌∷◌, ◌++◌, refl, ap, sym, ◌∙◌, subst}
use Rattle.std.specs.Prelude.{Bool, true, false, not, Option, Some, None, Contains, IsTrue, map, filter, filter_map, flat_map, if◌then◌else◌, option_and_then, slice_get}
use Rattle.qx_geom.proofs.ImagesAndFilters.{Contains-in, Contains-image}
use Rattle.qx_geom.proofs.Members.{Contains-cases, Contains-cons, Contains-head}
use Rattle.qx_geom.proofs.Truths.{and_left, not_true}
use Rattle.qx_geom.specs.Lists.{each_below, is_in}
use Rattle.qx_geom.specs.declared.root.Root.{Root}
use Rattle.qx_model.specs.Tree.{Entry, Tree, entry_of, is_special_body, named_by}
use Rattle.qx_nodes.proofs.ContentLocality.{reaches_of}
use Rattle.qx_nodes.proofs.VisitLocality.{visits_local}
use Rattle.qx_nodes.specs.BlockMap.{BlockMap, with_bytes}
use Rattle.qx_nodes.specs.Content.{HasSize, levels_fit}
use Rattle.qx_nodes.specs.Visits.{Visit, visits_of}
use Rattle.qx_records.specs.InodeRecord.{kind_of}
use Rattle.qx_records.specs.declared.inode.Inode.{Inode}
use Rattle.qx_records.specs.declared.kind.Kind.TheVariants as kinds
use Rattle.qx_records.specs.declared.kind.Kind.{Kind}
use Rattle.qx_view.proofs.AlikeLists.{below_members, filter_alike, filter_map_alike, filter_members, flat_map_alike, map_alike}
use Rattle.qx_view.proofs.NodesAlike.{AgreesAt, raw_alike}
use Rattle.qx_view.proofs.TestsFromTree.{TakenIn, special_here, taken_in}
use Rattle.qx_view.proofs.TreeLocality.{agrees, inode_same, longfile_reaches, record_below, slot_local}
use Rattle.qx_view.specs.Images.{Roots, inode_of, inode_places, raw_of}
use Rattle.qx_model.specs.Owners.{OfFurther, OfInode, OfInodes, OfLongfile}
use Rattle.qx_view.specs.Reading.{IsHeld, IsTreeOf}
use Rattle.qx_view.specs.Sound.{is_special_inode, is_special_kind, outer_blocks, outer_nodes}
use Rattle.qx_view.specs.Walk.{Taken, inode_mode, inode_root, is_directory_inode, is_directory_kind, listed_after, named_inode, named_inodes, new_ones, taken_from, taken_of, walked_inodes}

-- a directory is no special
pub directory_not_special : (o : Option Kind) → is_directory_kind o ≡ true → is_special_kind o ≡ false
directory_not_special None e = refl
directory_not_special (Some kinds.Directory) e = refl
directory_not_special (Some kinds.File) e = refl
directory_not_special (Some kinds.Link) e = refl
directory_not_special (Some kinds.Special) e = absurd (cc)

-- a choice whose first part is the same where it is taken
if_alike : {A : Type 0} (b : Bool) (x y z : A) → (b ≡ true → x ≡ y) → (if b then x else z) ≡ (if b then y else z)
if_alike true x y z same = same refl
if_alike false x y z same = refl

-- what an inode names, by the inode
abbrev named_inodes_by : BlockMap → Roots → Inode → List ℕ
named_inodes_by m r x = if is_directory_kind (kind_of x.mode) then filter_map (λ k. named_inode m r.longfile (raw_of m x.root k)) (each_below (x.root.size / 32) (λ k. k)) else []

module _ (m : BlockMap) (g : ℕ → List ℕ) (r : Roots) (t : Tree) (size : HasSize m) (is : IsTreeOf m r t) (held : (b : ℕ) → IsHeld m r t b → m.bytes b ≡ g b) where
  -- an inode to which the walk comes is the tree's
  pub entered : (n : ℕ) → Contains (walked_inodes m r) n → (e : Entry) × (entry_of t n ≡ Some e)
  entered n c =
      let u : (x : Taken) × Contains (taken_of m r) x × (x.inode ≡ n) = Contains-image (λ x. x.inode) (taken_of m r) n c in
      let x : TakenIn m r t is u.0 = taken_in m r t is u.0 u.1 in
      (x.entry, subst (λ k. entry_of t k ≡ Some x.entry) u.2 x.at)

  -- so is one that is found among those
  pub in_walk : (n : ℕ) → is_in (walked_inodes m r) n ≡ true → (e : Entry) × (entry_of t n ≡ Some e)
  in_walk n h = entered n (Contains-in (walked_inodes m r) n h)

  -- its record is the same
  pub same_inode : (n : ℕ) (e : Entry) → entry_of t n ≡ Some e → inode_of m r.inodes n ≡ inode_of (with_bytes m g) r.inodes n
  same_inode n e at = inode_same m g r t size is held n (is.each n e at).positive (is.each n e at).there

  -- and its node agrees, if it isn't a special
  pub node_agrees : (n : ℕ) (e : Entry) → entry_of t n ≡ Some e → is_special_inode m r n ≡ false → AgreesAt m g (inode_root m r n)
  node_agrees n e at plain =
      let own : is_special_body e.body ≡ false = sym (special_here m r t is n e at) ∙ plain in
      record {
        reaches = reaches_of m (inode_root m r n) size ((is.each n e at).levels own);
        on = agrees m g r t size is held (OfInode n) (inode_root m r n) (e, at, own, refl);
        blocks = λ v c. is.undamaged (OfInode n) v (inode_root m r n, (e, at, own, refl), c);
      }

  -- so does the Longfile
  pub longfile_agrees : AgreesAt m g r.longfile
  longfile_agrees = record {
    reaches = longfile_reaches m g r t size is held;
    on = agrees m g r t size is held OfLongfile r.longfile refl;
    blocks = λ v c. is.undamaged OfLongfile v (r.longfile, refl, c);
  }

  -- the Inode tree
  pub inodes_agrees : AgreesAt m g r.inodes
  inodes_agrees = record {
    reaches = reaches_of m r.inodes size (and_left _ _ is.inodes_fit);
    on = agrees m g r t size is held OfInodes r.inodes refl;
    blocks = λ v c. is.undamaged OfInodes v (r.inodes, refl, c);
  }

  -- and each further root node
  pub further_agrees : (k : ℕ) (node : Root) → slice_get r.further k ≡ Some node → IsTrue (levels_fit m node) → AgreesAt m g node
  further_agrees k node at fit = record {
    reaches = reaches_of m node size fit;
    on = agrees m g r t size is held (OfFurther k) node at;
    blocks = λ v c. is.undamaged (OfFurther k) v (node, at, c);
  }

  -- ---- the walk

  -- what an inode names is the same
  named_alike : (n : ℕ) (e : Entry) → entry_of t n ≡ Some e → named_inodes m r n ≡ named_inodes (with_bytes m g) r n
  named_alike n e at =
      if_alike (is_directory_inode m r n) _ _ [] (λ dir.
      let a : AgreesAt m g (inode_root m r n) = node_agrees n e at (directory_not_special (kind_of (inode_mode m r n)) dir) in
      filter_map_alike _ _ (each_below ((inode_root m r n).size / 32) (λ k. k)) (λ k c.
      ap (λ raw. named_inode m r.longfile raw) (raw_alike m g (inode_root m r n) k a (record_below k (inode_root m r n).size (below_members ((inode_root m r n).size / 32) k c)))
      ∙ ap (λ slot. option_and_then named_by slot) (slot_local m g r.longfile longfile_agrees.reaches longfile_agrees.on (raw_of (with_bytes m g) (inode_root m r n) k))))
      ∙ ap (named_inodes_by (with_bytes m g) r) (same_inode n e at)

  -- so is what is taken, where all that is taken names the same
  taken_alike : (fuel : ℕ) (queue : List (ℕ × ℕ)) (listed : List ℕ) → ((u : Taken) → Contains (taken_from m r fuel queue listed) u → named_inodes m r u.inode ≡ named_inodes (with_bytes m g) r u.inode)
      → taken_from m r fuel queue listed ≡ taken_from (with_bytes m g) r fuel queue listed
  taken_alike zero queue listed same = refl
  taken_alike (suc fuel) [] listed same = refl
  taken_alike (suc fuel) (e ∷ queue) listed same =
      let first : Taken = record { inode = e.0; parent = e.1; listed = listed } in
      let same_named : named_inodes m r e.0 ≡ named_inodes (with_bytes m g) r e.0 = same first (Contains-head first (taken_from m r fuel (queue ++ map (λ n. (n, e.0)) (new_ones (named_inodes m r e.0) listed)) (listed_after (named_inodes m r e.0) listed))) in
      ap (λ rest. first ∷ rest) (
      taken_alike fuel (queue ++ map (λ n. (n, e.0)) (new_ones (named_inodes m r e.0) listed)) (listed_after (named_inodes m r e.0) listed)
      (λ u c. same u (Contains-cons first u (taken_from m r fuel (queue ++ map (λ n. (n, e.0)) (new_ones (named_inodes m r e.0) listed)) (listed_after (named_inodes m r e.0) listed)) c))
      ∙ ap (λ ts. taken_from (with_bytes m g) r fuel (queue ++ map (λ n. (n, e.0)) (new_ones ts listed)) (listed_after ts listed)) same_named)

  -- the walk comes to the same inodes
  pub walked_alike : walked_inodes m r ≡ walked_inodes (with_bytes m g) r
  walked_alike = ap (λ ts. map (λ (x : Taken). x.inode) ts) (taken_alike (inode_places r + 1) ((1, 1) ∷ []) (1 ∷ []) (λ u c. let x : TakenIn m r t is u = taken_in m r t is u c in named_alike u.inode x.entry x.at))

  -- ---- the nodes outside the halves

  -- each of them agrees
  outer_agrees : (node : Root) → Contains (outer_nodes m r) node → AgreesAt m g node
  outer_agrees node c = elim (Contains-cases r.longfile node (map (inode_root m r) (filter (λ n. not (is_special_inode m r n)) (walked_inodes m r))) c) [
    | inl here ↦ subst (λ x. AgreesAt m g x) here longfile_agrees
    | inr there ↦
        let n : (n : ℕ) × Contains (filter (λ n. not (is_special_inode m r n)) (walked_inodes m r)) n × (inode_root m r n ≡ node) = Contains-image (inode_root m r) (filter (λ n. not (is_special_inode m r n)) (walked_inodes m r)) node there in
        let among : Contains (walked_inodes m r) n.0 × (not (is_special_inode m r n.0) ≡ true) = filter_members (λ n. not (is_special_inode m r n)) (walked_inodes m r) n.0 n.1 in
        let e : (e : Entry) × (entry_of t n.0 ≡ Some e) = entered n.0 among.0 in
        subst (λ x. AgreesAt m g x) n.2 (node_agrees n.0 e.0 e.1 (not_true (is_special_inode m r n.0) among.1))
  ]

  -- they are the same nodes
  outer_nodes_alike : outer_nodes m r ≡ outer_nodes (with_bytes m g) r
  outer_nodes_alike =
      let kept : filter (λ n. not (is_special_inode m r n)) (walked_inodes m r) ≡ filter (λ n. not (is_special_inode (with_bytes m g) r n)) (walked_inodes m r) = filter_alike _ _ (walked_inodes m r) (λ n c.
      let e : (e : Entry) × (entry_of t n ≡ Some e) = entered n c in ap (λ x. not (is_special_kind (kind_of x.mode))) (same_inode n e.0 e.1)) in
      let roots : map (inode_root m r) (filter (λ n. not (is_special_inode m r n)) (walked_inodes m r)) ≡ map (inode_root (with_bytes m g) r) (filter (λ n. not (is_special_inode m r n)) (walked_inodes m r)) = map_alike _ _ (filter (λ n. not (is_special_inode m r n)) (walked_inodes m r)) (λ n c.
      let e : (e : Entry) × (entry_of t n ≡ Some e) = entered n (filter_members (λ n. not (is_special_inode m r n)) (walked_inodes m r) n c).0 in ap (λ x. x.root) (same_inode n e.0 e.1)) in
      ap (λ nodes. r.longfile ∷ nodes) (roots ∙ ap (λ ns. map (inode_root (with_bytes m g) r) ns) kept ∙ ap (λ ns. map (inode_root (with_bytes m g) r) (filter (λ n. not (is_special_inode (with_bytes m g) r n)) ns)) walked_alike)

  -- and meet the same blocks
  pub outer_alike : outer_blocks m r ≡ outer_blocks (with_bytes m g) r
  outer_alike =
      flat_map_alike _ _ (outer_nodes m r) (λ node c. ap (λ vs. map (λ (v : Visit). v.block) vs) (visits_local m g node (outer_agrees node c).on))
      ∙ ap (λ nodes. flat_map (λ node. map (λ (v : Visit). v.block) (visits_of (with_bytes m g) node)) nodes) outer_nodes_alike
