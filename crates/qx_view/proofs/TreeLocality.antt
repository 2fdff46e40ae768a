-- Where blocks agree on what a tree holds, they have the same tree.
use Rattle.std.proofs.Common.{◌≡◌, ℕ, suc, ◌*◌, ◌-◌, ◌/◌, ◌<◌, List, refl, sym, ◌∙◌, ap, subst, arith}
use Rattle.std.specs.Prelude.{◌≤◌, ◌^◌, Bool, true, false, nat_lt, if◌then◌else◌, Some, None, IsTrue, Contains, map, filter}
use Rattle.std.proofs.lemmas.Bool.{leb-false, leb-true}
use Rattle.qx_geom.specs.declared.root.Root.{Root}
use Rattle.qx_geom.proofs.Members.{each_alike}
use Rattle.qx_geom.proofs.Truths.{and_left}
use Rattle.qx_model.specs.Tree.{Entry, Tree, entry_of, is_special_body}
use Rattle.qx_nodes.proofs.ContentLocality.{content_same, first_lies, piece_local, reaches_of}
use Rattle.qx_nodes.proofs.LeafPaths.{leaf_local, node_leaf_met}
use Rattle.qx_nodes.proofs.VisitLocality.{visits_local}
use Rattle.qx_nodes.specs.BlockMap.{BlockMap, with_bytes}
use Rattle.qx_nodes.specs.NodeContents.{IsSameContent, node_content}
use Rattle.qx_nodes.specs.Content.{HasSize, Reaches, levels_fit}
use Rattle.qx_nodes.specs.Leaves.{Block, Damage, Hole, Leaf, leaf_of, leaves_below}
use Rattle.qx_nodes.specs.Visits.{AgreesOn, IsMet, LiesBelow, Visit, is_leaf, visits_of}
use Rattle.qx_records.specs.InodeRecord.{inode_in}
use Rattle.qx_records.specs.NameRecord.{RawRecord, long_name_in}
use Rattle.qx_nodes.specs.LongNames.{long_name, name_at_leaf}
use Rattle.qx_view.specs.Images.{Roots, has_inode, inode_of, places_in}
use Rattle.qx_model.specs.Owners.{OfFurther, OfInode, OfInodes, OfLongfile, Owner}
use Rattle.qx_view.specs.Entries.{IsEntryOf, Reader, slot_by}
use Rattle.qx_view.specs.Reading.{HasNode, IsEntry, IsHeld, IsTreeOf, StandsAt, reader_of, slot_of}
use Rattle.qx_view.proofs.EntryContents.{entry_alike}

-- the inodes that have a place stand within the Inode tree's size
pub place_within : (inodes : Root) (n : ℕ) → IsTrue (has_inode inodes n) → n * 128 ≤ inodes.size
place_within inodes n there = omega (arith, no_more (nat_lt (inodes.size / 128) (2 ^ 32)) refl, leb-true n (places_in inodes) there)
  where
    no_more : (b : Bool) → nat_lt (inodes.size / 128) (2 ^ 32) ≡ b → (if b then inodes.size / 128 else 2 ^ 32 - 1) ≤ inodes.size / 128
    no_more true e = omega arith
    no_more false e = omega (arith, leb-false (suc (inodes.size / 128)) (2 ^ 32) e)

-- the long name at a leaf, where the blocks that are met agree
long_alike : (m : BlockMap) (g : ℕ → List ℕ) (i : ℕ) (x : Leaf) (vs : List Visit) → IsMet i m.count x vs → AgreesOn m g vs → name_at_leaf m x ≡ name_at_leaf (with_bytes m g) x
long_alike m g i (Block b) vs t same = ap (λ bs. long_name_in m.order bs) (same (record { level = 0; index = i; block = b }) t)
long_alike m g i Hole vs t same = refl
long_alike m g i Damage vs t same = refl

-- a long name depends on what the Longfile meets
pub long_name_local : (m : BlockMap) (g : ℕ → List ℕ) (longfile : Root) (n : ℕ) → Reaches m longfile → AgreesOn m g (visits_of m longfile) → long_name m longfile n ≡ long_name (with_bytes m g) longfile n
long_name_local m g longfile n r same = go (nat_lt (n * m.size) longfile.size) refl
  where
    go : (b : Bool) → nat_lt (n * m.size) longfile.size ≡ b → (if b then name_at_leaf m (leaf_of m longfile n) else None) ≡ (if b then name_at_leaf (with_bytes m g) (leaf_of (with_bytes m g) longfile n) else None)
    go false e = refl
    go true e =
        let at : LiesBelow m longfile n = first_lies m longfile n r (omega (arith, leb-true (suc (n * m.size)) longfile.size e)) in
        long_alike m g n (leaf_of m longfile n) (visits_of m longfile) (node_leaf_met m longfile n at) same
        ∙ ap (λ x. name_at_leaf (with_bytes m g) x) (leaf_local m g longfile n at same)

-- so does how nodes are read
reader_local : (m : BlockMap) (g : ℕ → List ℕ) (longfile : Root) → Reaches m longfile → AgreesOn m g (visits_of m longfile) → reader_of m longfile ≡ reader_of (with_bytes m g) longfile
reader_local m g longfile r same = λ i. record { order = m.order; blocksize = m.size; names = λ n. long_name_local m g longfile n r same i }

-- and what a record says
pub slot_local : (m : BlockMap) (g : ℕ → List ℕ) (longfile : Root) → Reaches m longfile → AgreesOn m g (visits_of m longfile) → (raw : RawRecord) → slot_of m longfile raw ≡ slot_of (with_bytes m g) longfile raw
slot_local m g longfile r same raw = ap (λ (x : Reader). slot_by x.names raw) (reader_local m g longfile r same)

-- a record of a directory begins below its size
pub record_below : (k size : ℕ) → k < size / 32 → k * 32 < size
record_below k size h = omega arith

module _ (m : BlockMap) (g : ℕ → List ℕ) (r : Roots) (t : Tree) (s : HasSize m) (is : IsTreeOf m r t) (held : (b : ℕ) → IsHeld m r t b → m.bytes b ≡ g b) where
  -- the blocks of each node agree
  pub agrees : (o : Owner) (node : Root) → HasNode m r t o node → AgreesOn m g (visits_of m node)
  agrees o node h v c = held v.block (o, v, (node, h, c), refl)

  -- so each inode is the same
  pub inode_same : (n : ℕ) → 0 < n → IsTrue (has_inode r.inodes n) → inode_of m r.inodes n ≡ inode_of (with_bytes m g) r.inodes n
  inode_same n pos there = ap (λ bs. inode_in m.order bs)
      (piece_local m g r.inodes ((n - 1) * 128) 128 (reaches_of m r.inodes s (and_left (levels_fit m r.inodes) _ is.inodes_fit))
      (omega (arith, place_within r.inodes n there)) (agrees OfInodes r.inodes refl))

  -- the Longfile's levels reach its size
  pub longfile_reaches : Reaches m r.longfile
  longfile_reaches = reaches_of m r.longfile s (and_left (levels_fit m r.longfile) _ is.longfile_fits)

  -- a node of the other blocks is one of these
  has_node_back : (o : Owner) (node : Root) → HasNode (with_bytes m g) r t o node → HasNode m r t o node
  has_node_back OfInodes node h = h
  has_node_back OfLongfile node h = h
  has_node_back (OfFurther k) node h = h
  has_node_back (OfInode n) node (e, at, some, root) =
      let i : IsEntry m r n e = is.each n e at in
      (e, at, some, root ∙ sym (ap (λ x. x.root) (inode_same n i.positive i.there)))

  -- and so are its positions
  stands_back : (o : Owner) (v : Visit) → StandsAt (with_bytes m g) r t o v → StandsAt m r t o v
  stands_back o v (node, h, c) =
      let h' : HasNode m r t o node = has_node_back o node h in
      (node, h', subst (λ vs. Contains vs v) (sym (visits_local m g node (agrees o node h'))) c)

  -- each entry is that of the other blocks
  entry_local : (n : ℕ) (e : Entry) → entry_of t n ≡ Some e → IsEntry (with_bytes m g) r n e
  entry_local n e at =
      let i : IsEntry m r n e = is.each n e at in
      let node : Root = (inode_of m r.inodes n).root in
      let same : inode_of m r.inodes n ≡ inode_of (with_bytes m g) r.inodes n = inode_same n i.positive i.there in
      let alike : is_special_body e.body ≡ false → IsSameContent m.size (node_content m node) (node_content (with_bytes m g) node)
      = λ own. content_same m g node (reaches_of m node s (i.levels own)) (agrees (OfInode n) node (e, at, own, refl)) in
      record {
        there = i.there;
        positive = i.positive;
        levels = λ own. subst (λ x. IsTrue (levels_fit m x.root)) same (i.levels own);
        is = subst (λ x. IsEntryOf (reader_of (with_bytes m g) r.longfile) x (node_content (with_bytes m g) x.root) e) same
            (subst (λ x. IsEntryOf x (inode_of m r.inodes n) (node_content (with_bytes m g) node) e) (reader_local m g r.longfile longfile_reaches (agrees OfLongfile r.longfile refl))
            (entry_alike (reader_of m r.longfile) (inode_of m r.inodes n) (node_content m node) (node_content (with_bytes m g) node) e s.size alike i.is));
      }

  -- blocks that agree on what the tree holds have the same tree
  pub tree_local : IsTreeOf (with_bytes m g) r t
  tree_local = record {
    inodes_fit = is.inodes_fit;
    longfile_fits = is.longfile_fits;
    further_fit = is.further_fit;
    rooted = is.rooted;
    places = is.places;
    each = entry_local;
    undamaged = λ o v a. is.undamaged o v (stands_back o v a);
    apart = λ o p v w a b e. is.apart o p v w (stands_back o v a) (stands_back p w b) e;
    long_size = is.long_size;
    long_names = is.long_names ∙ each_alike (leaves_below m r.longfile) _ _ (λ n h. long_name_local m g r.longfile n longfile_reaches (agrees OfLongfile r.longfile refl));
    long_present = is.long_present ∙ ap (λ vs. map (λ (v : Visit). v.index) (filter is_leaf vs)) (visits_local m g r.longfile (agrees OfLongfile r.longfile refl));
  }
