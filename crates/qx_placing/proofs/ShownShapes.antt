-- The shape of an owner is that of the content that is shown of it.
use Rattle.std.proofs.Common.{◌≡◌, ℕ, zero, suc, inl, inr, List, [], refl, sym, ◌∙◌, ap, arith}
use Rattle.std.specs.Prelude.{false, Option, Some, None, option_and_then, Contains}
use Rattle.qx_fields.specs.declared.order.Order.{Order}
use Rattle.qx_geom.specs.declared.root.Root.{Root}
use Rattle.qx_geom.specs.Lists.{is_in}
use Rattle.qx_geom.specs.Positions.{Shape, present_after, shape_of}
use Rattle.qx_nodes.specs.NodeContents.{NodeContent}
use Rattle.qx_nodes.specs.Visits.{present_of}
use Rattle.qx_records.specs.declared.inode.Inode.{Inode}
use Rattle.qx_records.specs.declared.kind.Kind.{Kind}
use Rattle.qx_records.specs.declared.kind.Kind.TheVariants as kinds
use Rattle.qx_records.specs.InodeRecord.{kind_of}
use Rattle.qx_blocks.specs.BlockState.{BlockState}
use Rattle.qx_ptree.specs.Fates.{leaves_after, written_by}
use Rattle.qx_ptree.specs.Trees.{block_map}
use Rattle.qx_batch.specs.declared.planned.Planned.{Planned}
use Rattle.qx_batch.specs.Nodes.{AreLaid, AreNodesOf, Nodes, owners_of}
use Rattle.qx_model.specs.Edits.{Edit}
use Rattle.qx_model.specs.Tree.{Entry, Tree, entry_of}
use Rattle.qx_model.specs.TreePositions.{entry_shape, shape_in}
use Rattle.qx_model.specs.TreeTouch.{written_in}
use Rattle.qx_view.specs.Entries.{Holds, Reader}
use Rattle.qx_copies.specs.Copies.{BlockCopy, Contents, content_or_none, contents_of, inode_at, node_in, node_of_inode, node_of_kind}
use Rattle.qx_copies.specs.Shown.{IsSameInode, Shows, reader_by}
use Rattle.qx_copies.specs.Standing.{Represents}
use Rattle.qx_placing.specs.PlannedEdits.{HasNodesOf, IsMadeBy, owner_of_number}
use Rattle.qx_placing.specs.Resized.{AreResized, HoldNothingElse}
use Rattle.qx_placing.proofs.NodeShapes.{none_present}

-- the shape that a content gives
abbrev content_shape : ℕ → NodeContent → Shape
content_shape blocksize c = shape_of blocksize c.size c.present

-- that of nothing
nothing_shape : (blocksize : ℕ) (c : NodeContent) → (c.size ≡ 0) × (c.present ≡ []) → shape_of blocksize 0 [] ≡ content_shape blocksize c
nothing_shape blocksize c none = λ i. shape_of blocksize (sym none.0 i) (sym none.1 i)

-- an entry of a kind
held_shape : (blocksize : ℕ) (r : Reader) (root : Root) (k : Kind) (c : NodeContent) (e : Entry) → Holds r c k e → (node_of_kind root (Some k) ≡ None → (c.size ≡ 0) × (c.present ≡ [])) → entry_shape blocksize (Some e) ≡ content_shape blocksize c
held_shape blocksize r root kinds.Directory c e h none = λ i. shape_of blocksize (h.size i) (h.present i)
held_shape blocksize r root kinds.File c e h none = λ i. shape_of blocksize (h.size i) (h.present i)
held_shape blocksize r root kinds.Link c e h none = λ i. shape_of blocksize (h.size i) (h.present i)
held_shape blocksize r root kinds.Special c e h none = (λ i. shape_of blocksize (h.size i) (h.present i)) ∙ nothing_shape blocksize c (none refl)

-- an inode and an entry, or neither
same_shape : (blocksize : ℕ) (r : Reader) (c : NodeContent) (x : Option Inode) (y : Option Entry) → IsSameInode r c x y → (option_and_then node_of_inode x ≡ None → (c.size ≡ 0) × (c.present ≡ [])) → entry_shape blocksize y ≡ content_shape blocksize c
same_shape blocksize r c None None same none = nothing_shape blocksize c (none refl)
same_shape blocksize r c (Some i) None same none = absurd same
same_shape blocksize r c None (Some e) same none = absurd same
same_shape blocksize r c (Some i) (Some e) same none =
    let kind : kind_of i.mode ≡ Some same.kind = ap (λ a. kind_of a.mode) (sym same.attr) ∙ same.kind_is in
    held_shape blocksize r i.root same.kind c e same.holds (λ out. none (ap (λ k. node_of_kind i.root k) kind ∙ out))

-- any owner
pub shown_shape : (order : Order) (blocksize : ℕ) (d : BlockCopy) (held : Contents) (t : Tree) → Shows order blocksize d.inodes held t → HoldNothingElse d held → (n : ℕ) → shape_in blocksize t (owner_of_number n) ≡ content_shape blocksize (held n)
shown_shape order blocksize d held t shows none zero = λ i. shape_of blocksize (shows.long_size i) (shows.long_present i)
shown_shape order blocksize d held t shows none (suc k) =
    same_shape blocksize (reader_by order blocksize (held 0)) (held (suc k)) (inode_at d.inodes (suc k)) (entry_of t (suc k)) (shows.each (suc k) (omega arith)) (none (suc k))

-- ---- an edit

module _ (order : Order) (m : BlockState) (c d : BlockCopy) (t : Tree) (nodes : Nodes) (ps : List Planned) (e : Edit) (held : Contents) (tree : Represents (block_map order m) c t) (laid : AreLaid order m nodes) (has : HasNodesOf c nodes)
    (planned : AreNodesOf nodes ps) (shows : Shows order m.holdings.size d.inodes held e.tree) (none : HoldNothingElse d held) (sized : AreResized m.holdings.size ps (contents_of (block_map order m) c) held) where
  abbrev size : ℕ
  size = m.holdings.size

  abbrev old : Contents
  old = contents_of (block_map order m) c

  -- a number of the copy without a node holds nothing
  old_nothing : HoldNothingElse c old
  old_nothing o out = (ap (λ x. (content_or_none (block_map order m) x).size) out, ap (λ x. (content_or_none (block_map order m) x).present) out)

  old_shape : (n : ℕ) → shape_in size t (owner_of_number n) ≡ content_shape size (old n)
  old_shape n = shown_shape order size c old t tree.shows old_nothing n

  new_shape : (n : ℕ) → shape_in size e.tree (owner_of_number n) ≡ content_shape size (held n)
  new_shape n = shown_shape order size d held e.tree shows none n

  -- the present leaves of a planned node
  old_present : (p : Planned) → Contains ps p → (old p.owner).present ≡ present_of (block_map order m) p.node
  old_present p there = elim (has.others p.owner p.node (planned.is p there)) [
    | inl at ↦ ap (λ x. (content_or_none (block_map order m) x).present) at
    | inr empty ↦ by_node (node_in c p.owner) refl empty
  ]
    where
      by_node : (o : Option Root) → node_in c p.owner ≡ o → p.node.size ≡ 0 → (old p.owner).present ≡ present_of (block_map order m) p.node
      by_node None out empty = (old_nothing p.owner out).1 ∙ sym (none_present order m p.node (laid.node p.owner p.node (planned.is p there)) empty)
      by_node (Some x) at empty =
          let both : Some x ≡ Some p.node = sym (has.own p.owner x at) ∙ planned.is p there in
          ap (λ y. (content_or_none (block_map order m) y).present) (at ∙ both)

  -- the changes make the edit
  pub shown_made : ((p : Planned) → Contains ps p → (i : ℕ) → is_in (written_in (owner_of_number p.owner) e.written) i ≡ is_in (written_by p.change) i)
      → ((o : ℕ) → is_in (owners_of ps) o ≡ false → written_in (owner_of_number o) e.written ≡ []) → IsMadeBy order m t e ps
  shown_made written unwritten = record {
    shapes = λ p there.
        new_shape p.owner
        ∙ (λ i. shape_of size (sized.sizes p there i) ((sized.present p there ∙ ap (λ xs. present_after xs (leaves_after size p.change) (written_by p.change) p.change.gone) (old_present p there)) i));
    written = written;
    others = λ o out. new_shape o ∙ (λ i. shape_of size (sized.other_sizes o out i) (sized.others_present o out i)) ∙ sym (old_shape o);
    unwritten = unwritten;
  }
