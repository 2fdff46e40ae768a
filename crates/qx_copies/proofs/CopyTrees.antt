-- A copy whose inodes stand in an Inode tree, beside further roots: what begins at the roots is its tree.
use Rattle.std.proofs.Common.{◌≡◌, ℕ, zero, suc, ◌<◌, refl, sym, ◌∙◌, ap, subst, arith}
use Rattle.std.specs.Prelude.{false, Some, option_and_then, IsTrue, Contains}
use Rattle.std.proofs.lemmas.Bool.{le-leb}
use Rattle.qx_geom.specs.declared.root.Root.{Root}
use Rattle.qx_geom.specs.Lists.{each_below}
use Rattle.qx_geom.specs.Pointer.{ceil_div}
use Rattle.qx_model.specs.Owners.{OfFurther, OfInode, OfInodes, OfLongfile, Owner}
use Rattle.qx_model.specs.Tree.{Entry, Tree, entry_of, is_special_body}
use Rattle.qx_nodes.proofs.ContentLocality.{reaches_of}
use Rattle.qx_nodes.specs.BlockMap.{BlockMap}
use Rattle.qx_nodes.specs.Content.{HasSize, levels_fit, root_fits}
use Rattle.qx_nodes.specs.NodeContents.{IsSameContent, node_content}
use Rattle.qx_nodes.specs.Visits.{Visit, present_of, visits_of}
use Rattle.qx_records.specs.InodeRecord.{kind_of}
use Rattle.qx_records.specs.declared.inode.Inode.{Inode}
use Rattle.qx_view.proofs.EntryContents.{body_special, entry_alike, holds_kind}
use Rattle.qx_view.specs.Entries.{IsEntryOf, Reader}
use Rattle.qx_view.specs.Images.{Roots, inode_of, inode_places}
use Rattle.qx_view.specs.Reading.{IsEntry, IsHeld, IsTreeOf, reader_of}
use Rattle.qx_view.specs.Reading.{StandsAt as ImageStandsAt}
use Rattle.qx_view.specs.Sound.{is_special_kind}
use Rattle.qx_copies.specs.Copies.{BlockCopy, content_or_none, contents_of, inode_at, node_in, node_of_inode, node_of_kind}
use Rattle.qx_copies.specs.ImageCopies.{HasInodesAt, LiesBeside, further_nodes}
use Rattle.qx_copies.specs.Shown.{IsSameInode, reader_by}
use Rattle.qx_copies.specs.Standing.{MeetsBlock, Represents}
use Rattle.qx_copies.proofs.ReachedInodes.{kind_plain, owner_at, reader_same, same_some, there_positive, there_within}
use Rattle.qx_copies.proofs.ShownContents.{same_itself}

-- whose node a further one is
abbrev further_owner : ℕ → Owner
further_owner zero = OfInodes
further_owner (suc k) = OfFurther k

module _ (m : BlockMap) (r : Roots) (c : BlockCopy) (t : Tree) (size : HasSize m) (is : Represents m c t) (has : HasInodesAt m r c) where
  -- an entry and its inode
  pub record Found (n : ℕ) (e : Entry) : Type 0 where
    pub inode : Inode
    pub there : inode_at c.inodes n ≡ Some inode
    pub is_entry : IsEntryOf (reader_by m.order m.size (contents_of m c 0)) inode (contents_of m c n) e
    pub read : inode_of m r.inodes n ≡ inode

  pub found : (n : ℕ) (e : Entry) → entry_of t n ≡ Some e → Found n e
  found zero e at = absurd (cc)
  found (suc k) e at =
      let i = same_some (reader_by m.order m.size (contents_of m c 0)) (contents_of m c (suc k)) (inode_at c.inodes (suc k)) e
      (subst (λ y. IsSameInode (reader_by m.order m.size (contents_of m c 0)) (contents_of m c (suc k)) (inode_at c.inodes (suc k)) y) at (is.shows.each (suc k) (omega arith))) in
      record { inode = i.0; there = i.1; is_entry = i.2; read = has.inode (suc k) i.0 i.1 }

  -- the node of one that is no special is the copy's
  pub node_there : (n : ℕ) (e : Entry) (f : Found n e) → is_special_body e.body ≡ false → node_in c n ≡ Some f.inode.root
  node_there zero e f own = let some = f.there in absurd (cc)
  node_there (suc k) e f own =
      let i = f.is_entry in
      let kind : kind_of f.inode.mode ≡ Some i.kind = ap (λ a. kind_of a.mode) (sym i.attr) ∙ i.kind_is in
      let plain : is_special_kind (Some i.kind) ≡ false = ap (λ x. is_special_kind (Some x)) (holds_kind (reader_by m.order m.size (contents_of m c 0)) (contents_of m c (suc k)) i.kind e i.holds) ∙ sym (body_special e.body) ∙ own in
      ap (λ x. option_and_then node_of_inode x) f.there ∙ ap (λ o. node_of_kind f.inode.root o) kind ∙ kind_plain f.inode.root i.kind plain

  -- the Longfile is within the bounds of a root node
  longfile_fits : IsTrue (root_fits m r.longfile)
  longfile_fits = subst (λ x. IsTrue (root_fits m x)) has.longfile is.longfile_fits

  -- names are read alike
  readers : reader_by m.order m.size (contents_of m c 0) ≡ reader_of m r.longfile
  readers = reader_same m c.longfile (reaches_of m c.longfile size (is.bounded.levels 0 c.longfile refl)) ∙ ap (λ x. reader_of m x) has.longfile

  -- each entry is the image's
  entry_is : (n : ℕ) (e : Entry) → entry_of t n ≡ Some e → IsEntry m r n e
  entry_is n e at =
      let f : Found n e = found n e at in
      record {
        there = le-leb n (inode_places r) (omega (arith, there_within c n f.inode f.there, has.places));
        positive = there_positive c n f.inode f.there;
        levels = λ own. subst (λ (x : Inode). IsTrue (levels_fit m x.root)) (sym f.read) (is.bounded.levels n f.inode.root (node_there n e f own));
        is = subst (λ (x : Inode). IsEntryOf (reader_of m r.longfile) x (node_content m x.root) e) (sym f.read)
            (subst (λ x. IsEntryOf x f.inode (node_content m f.inode.root) e) readers
            (entry_alike (reader_by m.order m.size (contents_of m c 0)) f.inode (contents_of m c n) (node_content m f.inode.root) e size.size
            (λ own. subst (λ x. IsSameContent m.size (contents_of m c n) x) (ap (λ o. content_or_none m o) (node_there n e f own)) (same_itself m.size (contents_of m c n))) f.is_entry));
      }

  -- where a block of an owner's node stands: in a further one or in the copy
  data Stands (o : Owner) (v : Visit) : Type 0 where
    InFurther : (k : ℕ) (node : Root) → further_nodes r k ≡ Some node → further_owner k ≡ o → Contains (visits_of m node) v → Stands o v
    InCopy : (n : ℕ) (node : Root) → node_in c n ≡ Some node → owner_at n ≡ o → Contains (visits_of m node) v → Stands o v

  -- each stands so
  stands : (o : Owner) (v : Visit) → ImageStandsAt m r t o v → Stands o v
  stands OfInodes v (node, h, met) = InFurther 0 node (ap (λ x. Some x) (sym h)) refl met
  stands OfLongfile v (node, h, met) = InCopy 0 node (ap (λ x. Some x) (has.longfile ∙ sym h)) refl met
  stands (OfFurther k) v (node, h, met) = InFurther (suc k) node h refl met
  stands (OfInode zero) v (node, (e, at, own, root), met) = absurd (cc)
  stands (OfInode (suc k)) v (node, (e, at, own, root), met) =
      let f : Found (suc k) e = found (suc k) e at in
      InCopy (suc k) node (node_there (suc k) e f own ∙ ap (λ x. Some x) (sym (root ∙ ap (λ (x : Inode). x.root) f.read))) refl met

  -- a block that is held from the roots is met by a further node, or by the copy
  pub held_by : (b : ℕ) → IsHeld m r t b → ((k : ℕ) (node : Root) (v : Visit) → further_nodes r k ≡ Some node → Contains (visits_of m node) v → ¬ (v.block ≡ b)) → MeetsBlock m c b
  held_by b (o, v, at, e) outside = by_place (stands o v at)
    where
      by_place : Stands o v → MeetsBlock m c b
      by_place (InFurther k node there whose met) = absurd (outside k node v there met e)
      by_place (InCopy n node there whose met) = record { number = n; node = node; is = there; visit = v; met = met; block = e }

  module _ (beside : LiesBeside m r c) where
    -- they are blocks of the volume
    low : (o : Owner) (v : Visit) → Stands o v → v.block < m.count
    low o v (InFurther k node there whose met) = beside.undamaged.blocks k node v there met
    low o v (InCopy n node there whose met) = is.undamaged.blocks n node v there met

    -- and none stands at two positions
    one_position : (o p : Owner) (u v : Visit) → Stands o u → Stands p v → u.block ≡ v.block → (o ≡ p) × (u ≡ v)
    one_position o p u v (InFurther k a at whose met) (InFurther j b bt whom bmet) e =
        let one = beside.undamaged.once k j a b u v at bt met bmet e in (sym whose ∙ ap (λ x. further_owner x) one.0 ∙ whom, one.1)
    one_position o p u v (InFurther k a at whose met) (InCopy n b bt whom bmet) e = absurd (beside.apart k n a b u v at bt met bmet e)
    one_position o p u v (InCopy n a at whose met) (InFurther k b bt whom bmet) e = absurd (beside.apart k n b a v u bt at bmet met (sym e))
    one_position o p u v (InCopy n a at whose met) (InCopy q b bt whom bmet) e =
        let one = is.undamaged.once n q a b u v at bt met bmet e in (sym whose ∙ ap (λ x. owner_at x) one.0 ∙ whom, one.1)

    -- what begins at the roots is the copy's tree
    pub tree_is : IsTreeOf m r t
    tree_is = record {
      inodes_fit = beside.inodes_fit;
      longfile_fits = longfile_fits;
      further_fit = beside.further_fit;
      rooted = is.rooted;
      places = is.shows.places ∙ has.places;
      each = entry_is;
      undamaged = λ o v s. low o v (stands o v s);
      apart = λ o p v w a b e. one_position o p v w (stands o v a) (stands p w b) e;
      long_size = is.shows.long_size ∙ ap (λ (x : Root). x.size) has.longfile;
      long_names = is.shows.long_names ∙ (λ j. each_below (ceil_div (has.longfile j).size m.size) (let x : Reader = readers j in x.names));
      long_present = is.shows.long_present ∙ ap (λ x. present_of m x) has.longfile;
    }
