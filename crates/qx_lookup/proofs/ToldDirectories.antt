-- The slots of a directory of the tree for which a copy stands are what its records say.
use Rattle.std.proofs.Common.{◌≡◌, ℕ, zero, suc, ◌/◌, [], refl, sym, ◌∙◌, ap, subst, arith}
use Rattle.std.specs.Prelude.{Option, Some, None, map, option_and_then}
use Rattle.qx_geom.specs.declared.root.Root.{Root}
use Rattle.qx_geom.specs.Lists.{each_below}
use Rattle.qx_nodes.specs.BlockMap.{BlockMap}
use Rattle.qx_nodes.specs.Content.{Reaches}
use Rattle.qx_nodes.specs.NodeContents.{NodeContent, node_content}
use Rattle.qx_nodes.proofs.NamesOfLeaves.{name_by_content}
use Rattle.qx_records.specs.declared.inode.Inode.{Inode}
use Rattle.qx_records.specs.declared.kind.Kind.{Kind}
use Rattle.qx_records.specs.declared.kind.Kind.TheVariants as kinds
use Rattle.qx_records.specs.InodeRecord.{kind_of}
use Rattle.qx_model.specs.Tree.{Body, Directory, Entry, File, Link, Special, Tree, entry_of, slots_of, slots_of_body, slots_of_entry}
use Rattle.qx_view.specs.Entries.{HasContent, Holds, IsBody, IsEntryOf, Reader, record_in, slot_by, slots_in}
use Rattle.qx_copies.specs.Copies.{BlockCopy, content_or_none, contents_of, inode_at, node_of_inode, node_of_kind}
use Rattle.qx_copies.specs.Shown.{IsSameInode, Shows, reader_by}
use Rattle.qx_lookup.specs.Names.{directory_in, directory_of_kind}
use Rattle.qx_lookup.specs.Rows.{slot_in}

-- ---- by kinds

-- an inode that has a directory's node is a directory
kind_directory : (root node : Root) (k : Option Kind) → directory_of_kind root k ≡ Some node → (k ≡ Some kinds.Directory) × (root ≡ node)
kind_directory root node None e = absurd (cc)
kind_directory root node (Some kinds.Directory) e = (refl, cc)
kind_directory root node (Some kinds.File) e = absurd (cc)
kind_directory root node (Some kinds.Link) e = absurd (cc)
kind_directory root node (Some kinds.Special) e = absurd (cc)

-- the body of a directory lists what its records say
body_listed : (r : Reader) (c : NodeContent) (b : Body) → IsBody r c kinds.Directory b → slots_in r c ≡ map (λ s. Some s) (slots_of_body b)
body_listed r c (Directory slots parent) h = h
body_listed r c (File content) h = absurd h
body_listed r c (Link target) h = absurd h
body_listed r c Special h = absurd h

-- a body of a file or a link has no slots
file_bare : (r : Reader) (c : NodeContent) (b : Body) → IsBody r c kinds.File b → slots_of_body b ≡ []
file_bare r c (Directory slots parent) h = absurd h
file_bare r c (File content) h = refl
file_bare r c (Link target) h = refl
file_bare r c Special h = refl

link_bare : (r : Reader) (c : NodeContent) (b : Body) → IsBody r c kinds.Link b → slots_of_body b ≡ []
link_bare r c (Directory slots parent) h = absurd h
link_bare r c (File content) h = refl
link_bare r c (Link target) h = refl
link_bare r c Special h = refl

-- nor has an entry of a kind that is no directory
bare_entry : (r : Reader) (c : NodeContent) (root : Root) (k : Kind) (e : Entry) → directory_of_kind root (Some k) ≡ None → Holds r c k e → slots_of_body e.body ≡ []
bare_entry r c root kinds.Directory e none h = absurd (cc)
bare_entry r c root kinds.File e none h = file_bare r c e.body h.body
bare_entry r c root kinds.Link e none h = link_bare r c e.body h.body
bare_entry r c root kinds.Special e none h = ap slots_of_body h.body

-- ---- a copy that shows a tree

module _ (m : BlockMap) (c : BlockCopy) (t : Tree) (reaches : Reaches m c.longfile) (shows : Shows m.order m.size c.inodes (contents_of m c) t) where
  -- how its nodes are read
  abbrev reader : Reader
  reader = reader_by m.order m.size (contents_of m c 0)

  -- records are read alike, by the Longfile's content and by its leaves
  read_alike : (node : Root) → each_below (node.size / 32) (slot_in m c.longfile node) ≡ slots_in reader (node_content m node)
  read_alike node = ap (λ names. each_below (node.size / 32) (λ k. slot_by names (record_in reader (node_content m node) k))) (sym (λ i n. name_by_content m c.longfile n reaches i))

  -- a directory's content is that of its node
  content_is : (d : ℕ) (i : Inode) (node : Root) → inode_at c.inodes (suc d) ≡ Some i → kind_of i.mode ≡ Some kinds.Directory → i.root ≡ node → contents_of m c (suc d) ≡ node_content m node
  content_is d i node at kind root =
      ap (content_or_none m) (ap (option_and_then node_of_inode) at ∙ ap (node_of_kind i.root) kind ∙ ap (λ x. Some x) root)

  -- the entry of a directory lists what its records say
  entry_listed : (d : ℕ) (i : Inode) (e : Entry) (node : Root) → inode_at c.inodes (suc d) ≡ Some i → IsEntryOf reader i (contents_of m c (suc d)) e → directory_of_kind i.root (kind_of i.mode) ≡ Some node
      → each_below (node.size / 32) (slot_in m c.longfile node) ≡ map (λ s. Some s) (slots_of_body e.body)
  entry_listed d i e node at is has =
      let k : (kind_of i.mode ≡ Some kinds.Directory) × (i.root ≡ node) = kind_directory i.root node (kind_of i.mode) has in
      let same : Some is.kind ≡ Some kinds.Directory = sym is.kind_is ∙ ap (λ a. kind_of a.mode) is.attr ∙ k.0 in
      let kind : is.kind ≡ kinds.Directory = cc in
      let holds : HasContent reader (node_content m node) kinds.Directory e = subst (λ x. HasContent reader x kinds.Directory e) (content_is d i node at k.0 k.1) (subst (λ x. Holds reader (contents_of m c (suc d)) x e) kind is.holds) in
      read_alike node ∙ body_listed reader (node_content m node) e.body holds.body

  -- so a directory's slots are what its records say
  pub told_slots : (d : ℕ) (node : Root) → directory_in c.inodes d ≡ Some node → each_below (node.size / 32) (slot_in m c.longfile node) ≡ map (λ s. Some s) (slots_of t d)
  told_slots zero node has = absurd (cc)
  told_slots (suc d) node has = by_inode (inode_at c.inodes (suc d)) refl (entry_of t (suc d)) refl (shows.each (suc d) (omega arith)) has
    where
      by_inode : (x : Option Inode) → inode_at c.inodes (suc d) ≡ x → (y : Option Entry) → entry_of t (suc d) ≡ y → IsSameInode reader (contents_of m c (suc d)) x y → option_and_then (λ (i : Inode). directory_of_kind i.root (kind_of i.mode)) x ≡ Some node
          → each_below (node.size / 32) (slot_in m c.longfile node) ≡ map (λ s. Some s) (slots_of t (suc d))
      by_inode None at None et is h = absurd (cc)
      by_inode None at (Some e) et is h = absurd is
      by_inode (Some i) at None et is h = absurd is
      by_inode (Some i) at (Some e) et is h = entry_listed d i e node at is h ∙ ap (λ o. map (λ s. Some s) (slots_of_entry o)) (sym et)

  -- and what is no directory has none
  pub no_slots : (d : ℕ) → directory_in c.inodes d ≡ None → slots_of t d ≡ []
  no_slots zero none = refl
  no_slots (suc d) none = by_inode (inode_at c.inodes (suc d)) refl (entry_of t (suc d)) refl (shows.each (suc d) (omega arith)) none
    where
      by_inode : (x : Option Inode) → inode_at c.inodes (suc d) ≡ x → (y : Option Entry) → entry_of t (suc d) ≡ y → IsSameInode reader (contents_of m c (suc d)) x y → option_and_then (λ (i : Inode). directory_of_kind i.root (kind_of i.mode)) x ≡ None
          → slots_of t (suc d) ≡ []
      by_inode None at None et is h = ap slots_of_entry et
      by_inode None at (Some e) et is h = absurd is
      by_inode (Some i) at None et is h = absurd is
      by_inode (Some i) at (Some e) et is h =
          ap slots_of_entry et ∙ bare_entry reader (contents_of m c (suc d)) i.root is.kind e (ap (directory_of_kind i.root) (sym is.kind_is ∙ ap (λ a. kind_of a.mode) is.attr) ∙ h) is.holds
