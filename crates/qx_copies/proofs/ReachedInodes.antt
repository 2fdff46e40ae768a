-- The copy that has the inodes to which an image's walk comes: it stands for the image's tree.
use Rattle.std.proofs.Common.{◌≡◌, ℕ, zero, suc, ◌+◌, ◌*◌, ◌<◌, ◌≤◌, List, [], ◌∷◌, length, refl, sym, ◌∙◌, ap, subst, arith}
use Rattle.std.specs.Prelude.{Bool, true, false, Option, Some, None, option_and_then, IsTrue, Contains, slice_index_or, if◌then◌else◌}
use Rattle.std.proofs.lemmas.Bool.{leb-true}
use Rattle.std.proofs.lemmas.List.FromFn.{length-map-range_with_len}
use Rattle.qx_fields.specs.declared.order.Order.{Order}
use Rattle.qx_fields.specs.Number.{field, fields}
use Rattle.qx_geom.specs.declared.root.Root.{Root}
use Rattle.qx_geom.specs.Lists.{each_below, is_in}
use Rattle.qx_geom.specs.Pointer.{ceil_div}
use Rattle.qx_geom.proofs.ImagesAndFilters.{in_Contains}
use Rattle.qx_geom.proofs.Truths.{and_left}
use Rattle.qx_model.specs.Owners.{OfInode, OfLongfile, Owner}
use Rattle.qx_model.specs.Tree.{Entry, Tree, entry_of, is_special_body}
use Rattle.qx_nodes.proofs.ContentLocality.{reaches_of}
use Rattle.qx_nodes.proofs.NamesOfLeaves.{name_by_content}
use Rattle.qx_nodes.specs.BlockMap.{BlockMap}
use Rattle.qx_nodes.specs.Content.{HasSize, Reaches, levels_fit, root_fits}
use Rattle.qx_nodes.specs.NodeContents.{IsSameContent, NodeContent, node_content}
use Rattle.qx_nodes.specs.Visits.{Visit, present_of, visits_of}
use Rattle.qx_records.specs.InodeRecord.{inode_in, kind_of}
use Rattle.qx_records.specs.declared.inode.Inode.{Inode}
use Rattle.qx_records.specs.declared.kind.Kind.{Kind}
use Rattle.qx_records.specs.declared.kind.Kind.TheVariants as kinds
use Rattle.qx_view.proofs.EntryContents.{entry_alike}
use Rattle.qx_view.proofs.OuterNodes.{walked_has}
use Rattle.qx_view.proofs.RoomForPointers.{tree_sized}
use Rattle.qx_view.proofs.TestsFromTree.{special_here}
use Rattle.qx_view.proofs.WalkAlike.{in_walk}
use Rattle.qx_view.specs.Entries.{IsEntryOf, Reader}
use Rattle.qx_view.specs.Images.{Roots, inode_bytes, inode_of, inode_places}
use Rattle.qx_view.specs.Reading.{HasNode, IsEntry, IsTreeOf, reader_of}
use Rattle.qx_view.specs.Reading.{StandsAt as ImageStandsAt}
use Rattle.qx_view.specs.Sound.{is_special_kind}
use Rattle.qx_view.specs.Walk.{walked_inodes}
use Rattle.qx_copies.specs.Copies.{BlockCopy, content_or_none, contents_of, inode_at, node_in, node_of_inode, node_of_kind}
use Rattle.qx_copies.specs.ImageCopies.{HasInodesAt, HasReached}
use Rattle.qx_copies.specs.Shown.{IsSameInode, reader_by}
use Rattle.qx_copies.specs.Standing.{Represents}
use Rattle.qx_copies.proofs.ShownContents.{same_itself}

-- an inode that is read has 16 pointers
pub read_sixteen : (order : Order) (bytes : List ℕ) → length (inode_in order bytes).root.pointers ≡ 16
unfolding inode_in fields
read_sixteen order bytes = length-map-range_with_len (λ k. field order 4 bytes (36 + 4 * k)) 0 16

-- a number whose inode is there is one of the copy's
pub there_within : (c : BlockCopy) (n : ℕ) (i : Inode) → inode_at c.inodes n ≡ Some i → n ≤ length c.inodes
there_within c zero i e = omega arith
there_within c (suc n) i e = go c.inodes n e
  where
    go : (xs : List (Option Inode)) (k : ℕ) → slice_index_or xs k None ≡ Some i → k < length xs
    go [] zero e = absurd (cc)
    go [] (suc k) e = absurd (cc)
    go (x ∷ xs) zero e = omega arith
    go (x ∷ xs) (suc k) e = omega (arith, go xs k e)

-- and no number is 0
pub there_positive : (c : BlockCopy) (n : ℕ) (i : Inode) → inode_at c.inodes n ≡ Some i → 0 < n
there_positive c zero i e = absurd (cc)
there_positive c (suc n) i e = omega arith

-- the node of a kind is the inode's root, and the kind no special's
pub plain_kind : (root : Root) (k : Option Kind) (node : Root) → node_of_kind root k ≡ Some node → (root ≡ node) × (is_special_kind k ≡ false)
plain_kind root None node e = absurd (cc)
plain_kind root (Some kinds.Special) node e = absurd (cc)
plain_kind root (Some kinds.Directory) node e = (cc, refl)
plain_kind root (Some kinds.File) node e = (cc, refl)
plain_kind root (Some kinds.Link) node e = (cc, refl)

-- and back
pub kind_plain : (root : Root) (k : Kind) → is_special_kind (Some k) ≡ false → node_of_kind root (Some k) ≡ Some root
kind_plain root kinds.Special e = absurd (cc)
kind_plain root kinds.Directory e = refl
kind_plain root kinds.File e = refl
kind_plain root kinds.Link e = refl

-- whose node a number is
abbrev pub owner_at : ℕ → Owner
owner_at zero = OfLongfile
owner_at (suc k) = OfInode (suc k)

-- no two numbers are one owner's
pub owners_differ : (o q : ℕ) → owner_at o ≡ owner_at q → o ≡ q
owners_differ zero zero e = refl
owners_differ zero (suc k) e = absurd (cc)
owners_differ (suc k) zero e = absurd (cc)
owners_differ (suc k) (suc j) e = cc

-- names by a Longfile's content and by its blocks are one
pub reader_same : (m : BlockMap) (long : Root) → Reaches m long → reader_by m.order m.size (node_content m long) ≡ reader_of m long
reader_same m long r = λ i. record { order = m.order; blocksize = m.size; names = λ n. name_by_content m long n r i }

-- an entry is that of an inode
pub same_some : (r : Reader) (c : NodeContent) (x : Option Inode) (e : Entry) → IsSameInode r c x (Some e) → (i : Inode) × (x ≡ Some i) × IsEntryOf r i c e
same_some r c None e h = absurd h
same_some r c (Some i) e h = (i, refl, h)

module _ (m : BlockMap) (r : Roots) (c : BlockCopy) (t : Tree) (is : IsTreeOf m r t) (has : HasReached m r c) where
  -- blocks have room for a pointer
  size : HasSize m
  size = tree_sized m r t is

  -- an inode of the tree is one of the copy's
  inode_there : (n : ℕ) (e : Entry) → entry_of t n ≡ Some e → inode_at c.inodes n ≡ Some (inode_of m r.inodes n)
  inode_there n e at =
      let i : IsEntry m r n e = is.each n e at in
      has.each n i.positive (leb-true n (inode_places r) i.there)
      ∙ ap (λ b. if b then Some (inode_of m r.inodes n) else None) (in_Contains (walked_inodes m r) n (walked_has m r t size is n e at))

  -- a live inode of the copy is the tree's
  pub inode_live : (n : ℕ) (i : Inode) → inode_at c.inodes n ≡ Some i → (e : Entry) × (entry_of t n ≡ Some e)
  inode_live n i there = by_walk (is_in (walked_inodes m r) n) refl
    where
      by_walk : (b : Bool) → is_in (walked_inodes m r) n ≡ b → (e : Entry) × (entry_of t n ≡ Some e)
      by_walk true h = in_walk m m.bytes r t size is (λ b held. refl) n h
      by_walk false out =
          let none : inode_at c.inodes n ≡ None = has.each n (there_positive c n i there) (omega (arith, there_within c n i there, has.places)) ∙ ap (λ b. if b then Some (inode_of m r.inodes n) else None) out in
          let clash : Some i ≡ None = sym there ∙ none in absurd (cc)

  -- and stands at its number in the Inode tree
  pub inode_same : (n : ℕ) (i : Inode) → inode_at c.inodes n ≡ Some i → inode_of m r.inodes n ≡ i
  inode_same n i there =
      let e = inode_live n i there in
      let same : Some (inode_of m r.inodes n) ≡ Some i = sym (inode_there n e.0 e.1) ∙ there in cc

  pub inodes_at : HasInodesAt m r c
  inodes_at = record { longfile = has.longfile; places = has.places; inode = inode_same }

  -- an inode's node is that of an entry that is no special
  pub record NodeOf (n : ℕ) (node : Root) : Type 0 where
    pub entry : Entry
    pub at : entry_of t n ≡ Some entry
    pub inode : Inode
    pub there : inode_at c.inodes n ≡ Some inode
    pub plain : is_special_body entry.body ≡ false
    pub root : node ≡ (inode_of m r.inodes n).root

  pub node_found : (k : ℕ) (node : Root) → node_in c (suc k) ≡ Some node → NodeOf (suc k) node
  node_found k node h = by_inode (inode_at c.inodes (suc k)) refl h
    where
      by_inode : (o : Option Inode) → inode_at c.inodes (suc k) ≡ o → option_and_then node_of_inode o ≡ Some node → NodeOf (suc k) node
      by_inode None there h = absurd (cc)
      by_inode (Some i) there h =
          let e = inode_live (suc k) i there in
          let same : inode_of m r.inodes (suc k) ≡ i = inode_same (suc k) i there in
          let both : (i.root ≡ node) × (is_special_kind (kind_of i.mode) ≡ false) = plain_kind i.root (kind_of i.mode) node h in
          record {
            entry = e.0;
            at = e.1;
            inode = i;
            there = there;
            plain = sym (special_here m r t is (suc k) e.0 e.1) ∙ ap (λ (x : Inode). is_special_kind (kind_of x.mode)) same ∙ both.1;
            root = sym (ap (λ (x : Inode). x.root) same ∙ both.0);
          }

  -- so it is a node of the image
  pub has_node : (o : ℕ) (node : Root) → node_in c o ≡ Some node → HasNode m r t (owner_at o) node
  has_node zero node h = let same : c.longfile ≡ node = cc in sym same ∙ has.longfile
  has_node (suc k) node h = let f = node_found k node h in (f.entry, f.at, f.plain, f.root)

  -- the Longfile's levels reach its size
  longfile_reaches : Reaches m r.longfile
  longfile_reaches = reaches_of m r.longfile size (and_left (levels_fit m r.longfile) _ is.longfile_fits)

  -- names are read alike
  readers : reader_by m.order m.size (contents_of m c 0) ≡ reader_of m r.longfile
  readers = ap (λ x. reader_by m.order m.size (node_content m x)) has.longfile ∙ reader_same m r.longfile longfile_reaches

  -- the content of an inode's node, if it is no special
  content_there : (n : ℕ) (e : Entry) → entry_of t n ≡ Some e → is_special_body e.body ≡ false → contents_of m c n ≡ node_content m (inode_of m r.inodes n).root
  content_there zero e at own = absurd (cc)
  content_there (suc k) e at own =
      let plain : is_special_kind (kind_of (inode_of m r.inodes (suc k)).mode) ≡ false = special_here m r t is (suc k) e at ∙ own in
      ap (λ x. content_or_none m (option_and_then node_of_inode x)) (inode_there (suc k) e at) ∙ by_kind (kind_of (inode_of m r.inodes (suc k)).mode) refl plain
    where
      by_kind : (o : Option Kind) → kind_of (inode_of m r.inodes (suc k)).mode ≡ o → is_special_kind o ≡ false → content_or_none m (node_of_kind (inode_of m r.inodes (suc k)).root o) ≡ node_content m (inode_of m r.inodes (suc k)).root
      by_kind None here plain =
          let i = (is.each (suc k) e at).is in
          let some : kind_of (inode_of m r.inodes (suc k)).mode ≡ Some i.kind = ap (λ a. kind_of a.mode) (sym i.attr) ∙ i.kind_is in
          let clash : None ≡ Some i.kind = sym here ∙ some in absurd (cc)
      by_kind (Some kinds.Special) here plain = absurd (cc)
      by_kind (Some kinds.Directory) here plain = refl
      by_kind (Some kinds.File) here plain = refl
      by_kind (Some kinds.Link) here plain = refl

  -- each inode is an entry, or neither is there
  each_same : (n : ℕ) → IsSameInode (reader_by m.order m.size (contents_of m c 0)) (contents_of m c n) (inode_at c.inodes n) (entry_of t n)
  each_same n = by_entry (entry_of t n) refl
    where
      by_entry : (o : Option Entry) → entry_of t n ≡ o → IsSameInode (reader_by m.order m.size (contents_of m c 0)) (contents_of m c n) (inode_at c.inodes n) o
      by_entry (Some e) at =
          let i : IsEntry m r n e = is.each n e at in
          subst (λ x. IsSameInode (reader_by m.order m.size (contents_of m c 0)) (contents_of m c n) x (Some e)) (sym (inode_there n e at))
          (subst (λ x. IsEntryOf x (inode_of m r.inodes n) (contents_of m c n) e) (sym readers)
          (entry_alike (reader_of m r.longfile) (inode_of m r.inodes n) (node_content m (inode_of m r.inodes n).root) (contents_of m c n) e size.size
          (λ own. subst (λ x. IsSameContent m.size (node_content m (inode_of m r.inodes n).root) x) (sym (content_there n e at own)) (same_itself m.size (node_content m (inode_of m r.inodes n).root))) i.is))
      by_entry None at = by_inode (inode_at c.inodes n) refl
        where
          by_inode : (x : Option Inode) → inode_at c.inodes n ≡ x → IsSameInode (reader_by m.order m.size (contents_of m c 0)) (contents_of m c n) x None
          by_inode None there = tt
          by_inode (Some i) there = let e = inode_live n i there in let clash : None ≡ Some e.0 = sym at ∙ e.1 in absurd (cc)

  -- a position of the copy is one of the image
  stands : (o : ℕ) (node : Root) (v : Visit) → node_in c o ≡ Some node → Contains (visits_of m node) v → ImageStandsAt m r t (owner_at o) v
  stands o node v there among = (node, has_node o node there, among)

  node_levels : (o : ℕ) (node : Root) → node_in c o ≡ Some node → IsTrue (levels_fit m node)
  node_levels zero node h = let same : c.longfile ≡ node = cc in subst (λ x. IsTrue (levels_fit m x)) (sym (sym same ∙ has.longfile)) (and_left (levels_fit m r.longfile) _ is.longfile_fits)
  node_levels (suc k) node h = let f = node_found k node h in subst (λ x. IsTrue (levels_fit m x)) (sym f.root) ((is.each (suc k) f.entry f.at).levels f.plain)

  module _ (sixteen : length r.longfile.pointers ≡ 16) where
    node_sixteen : (o : ℕ) (node : Root) → node_in c o ≡ Some node → length node.pointers ≡ 16
    node_sixteen zero node h = let same : c.longfile ≡ node = cc in ap (λ (x : Root). length x.pointers) (sym same ∙ has.longfile) ∙ sixteen
    node_sixteen (suc k) node h = let f = node_found k node h in ap (λ (x : Root). length x.pointers) f.root ∙ read_sixteen m.order (inode_bytes m r.inodes (suc k))

    -- so the copy stands for the tree
    pub copy_represents : Represents m c t
    copy_represents = record {
      bounded = record { sixteen = node_sixteen; levels = node_levels };
      longfile_fits = subst (λ x. IsTrue (root_fits m x)) (sym has.longfile) is.longfile_fits;
      undamaged = record {
        blocks = λ o node v there among. is.undamaged (owner_at o) v (stands o node v there among);
        once = λ o q a b u v at bt among bmong e. let one = is.apart (owner_at o) (owner_at q) u v (stands o a u at among) (stands q b v bt bmong) e in (owners_differ o q one.0, one.1);
      };
      rooted = is.rooted;
      shows = record {
        places = is.places ∙ sym has.places;
        each = λ n some. each_same n;
        long_size = is.long_size ∙ ap (λ (x : Root). x.size) (sym has.longfile);
        long_present = is.long_present ∙ ap (λ x. present_of m x) (sym has.longfile);
        long_names = is.long_names
            ∙ (λ j. each_below (ceil_div (sym has.longfile j).size m.size) (let x : Reader = sym readers j in x.names));
      };
    }
