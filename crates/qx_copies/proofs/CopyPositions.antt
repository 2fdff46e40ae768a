-- The positions of a copy that stands for a tree, and is laid out as this project does, are the tree's.
use Rattle.std.proofs.Common.{◌≡◌, ℕ, zero, suc, [], refl, sym, ◌∙◌, ap, subst, arith}
use Rattle.std.specs.Prelude.{false, Option, Some, None, option_and_then, Contains}
use Rattle.qx_geom.specs.declared.root.Root.{Root}
use Rattle.qx_geom.specs.Positions.{Shape, shape_of}
use Rattle.qx_geom.specs.Positions as node
use Rattle.qx_nodes.specs.BlockMap.{BlockMap}
use Rattle.qx_nodes.specs.ForeignNodes.{is_foreign_node}
use Rattle.qx_nodes.specs.NodeContents.{NodeContent}
use Rattle.qx_nodes.specs.Visits.{Visit, present_of, visits_of}
use Rattle.qx_records.specs.declared.inode.Inode.{Inode}
use Rattle.qx_records.specs.declared.kind.Kind.{Kind}
use Rattle.qx_records.specs.declared.kind.Kind.TheVariants as kinds
use Rattle.qx_records.specs.InodeRecord.{kind_of}
use Rattle.qx_model.specs.Machine.{Copy}
use Rattle.qx_model.specs.Owners.{OfFurther, OfInode, OfInodes, OfLongfile, Owner}
use Rattle.qx_model.specs.Tree.{Entry, Tree, entry_of}
use Rattle.qx_model.specs.TreePositions.{HasPosition, Position, entry_shape, shape_in}
use Rattle.qx_model.proofs.TreeNodes.{nothing_there}
use Rattle.qx_view.specs.Entries.{Holds, Reader}
use Rattle.qx_copies.specs.Copies.{BlockCopy, content_or_none, contents_of, inode_at, node_in, node_of_inode, node_of_kind}
use Rattle.qx_copies.specs.Shown.{IsSameInode, reader_by}
use Rattle.qx_copies.specs.Standing.{IsOwnCopy, Represents, RepresentsIds, StandsAt, node_of_owner}
use Rattle.qx_copies.proofs.MetPositions.{has_visit, one_visit, visit_has}

-- ---- whose shape it is

-- the shape of nothing, of what has no node; or the shape that a node's size and present leaves give
pub data HasShape (m : BlockMap) (s : Shape) : Option Root → Type 0 where
  Nothing : s ≡ shape_of m.size 0 [] → HasShape m s None
  OfNode : (x : Root) → s ≡ shape_of m.size x.size (present_of m x) → HasShape m s (Some x)

-- what is held by a kind, of an inode with this root
held_shape : (m : BlockMap) (r : Reader) (root : Root) (k : Kind) (c : NodeContent) (e : Entry) → c ≡ content_or_none m (node_of_kind root (Some k)) → Holds r c k e
    → HasShape m (entry_shape m.size (Some e)) (node_of_kind root (Some k))
held_shape m r root kinds.Directory c e is h = OfNode root (λ i. shape_of m.size ((h.size ∙ ap (λ (x : NodeContent). x.size) is) i) ((h.present ∙ ap (λ (x : NodeContent). x.present) is) i))
held_shape m r root kinds.File c e is h = OfNode root (λ i. shape_of m.size ((h.size ∙ ap (λ (x : NodeContent). x.size) is) i) ((h.present ∙ ap (λ (x : NodeContent). x.present) is) i))
held_shape m r root kinds.Link c e is h = OfNode root (λ i. shape_of m.size ((h.size ∙ ap (λ (x : NodeContent). x.size) is) i) ((h.present ∙ ap (λ (x : NodeContent). x.present) is) i))
held_shape m r root kinds.Special c e is h = Nothing (λ i. shape_of m.size (h.size i) (h.present i))

-- an inode and an entry that are the same
inode_shape : (m : BlockMap) (r : Reader) (c : NodeContent) (x : Option Inode) (y : Option Entry) → c ≡ content_or_none m (option_and_then node_of_inode x) → IsSameInode r c x y
    → HasShape m (entry_shape m.size y) (option_and_then node_of_inode x)
inode_shape m r c None None is same = Nothing refl
inode_shape m r c (Some i) None is same = absurd same
inode_shape m r c None (Some e) is same = absurd same
inode_shape m r c (Some i) (Some e) is same =
    let kind : kind_of i.mode ≡ Some same.kind = ap (λ a. kind_of a.mode) (sym same.attr) ∙ same.kind_is in
    let by_kind : node_of_inode i ≡ node_of_kind i.root (Some same.kind) = ap (λ k. node_of_kind i.root k) kind in
    subst (λ o. HasShape m (entry_shape m.size (Some e)) o) (sym by_kind) (held_shape m r i.root same.kind c e (is ∙ ap (λ o. content_or_none m o) by_kind) same.holds)

-- a node is one of the copy's numbers
numbered : (c : BlockCopy) (o : Owner) (x : Root) → node_of_owner c o ≡ Some x → (n : ℕ) × (node_in c n ≡ Some x)
numbered c OfInodes x is = absurd (cc)
numbered c OfLongfile x is = (0, is)
numbered c (OfFurther k) x is = absurd (cc)
numbered c (OfInode zero) x is = absurd (cc)
numbered c (OfInode (suc k)) x is = (suc k, is)

-- a node of the copy and the shape of its owner in the tree
pub owner_shape : (m : BlockMap) (c : BlockCopy) (t : Tree) → Represents m c t → (o : Owner) → HasShape m (shape_in m.size t o) (node_of_owner c o)
owner_shape m c t rep OfInodes = Nothing refl
owner_shape m c t rep (OfFurther n) = Nothing refl
owner_shape m c t rep OfLongfile = OfNode c.longfile (λ i. shape_of m.size (rep.shows.long_size i) (rep.shows.long_present i))
owner_shape m c t rep (OfInode zero) = Nothing refl
owner_shape m c t rep (OfInode (suc n)) =
    inode_shape m (reader_by m.order m.size (contents_of m c 0)) (contents_of m c (suc n)) (inode_at c.inodes (suc n)) (entry_of t (suc n)) refl (rep.shows.each (suc n) (omega arith))

-- ---- positions

-- a position of a shape is one of a node, at which a block is met
shape_stands : (m : BlockMap) (s : Shape) (o : Option Root) (k j : ℕ) → HasShape m s o → ((x : Root) → o ≡ Some x → is_foreign_node m x ≡ false) → node.HasPosition m.size s k j
    → (x : Root) × (o ≡ Some x) × ((b : ℕ) × Contains (visits_of m x) (record { level = k; index = j; block = b }))
shape_stands m s o k j (Nothing none) plain has = absurd (nothing_there m.size k j (subst (λ s. node.HasPosition m.size s k j) none has))
shape_stands m s o k j (OfNode x is) plain has = (x, refl, has_visit m x (plain x refl) k j (subst (λ s. node.HasPosition m.size s k j) is has))

-- and where a block is met, the shape has the position
shape_has : (m : BlockMap) (s : Shape) (o : Option Root) (x : Root) (v : Visit) → HasShape m s o → is_foreign_node m x ≡ false → o ≡ Some x → Contains (visits_of m x) v → node.HasPosition m.size s v.level v.index
shape_has m s o x v (Nothing none) plain there met = absurd (cc)
shape_has m s o x v (OfNode y is) plain there met =
    let same : y ≡ x = cc in
    subst (λ s. node.HasPosition m.size s v.level v.index) (sym (is ∙ ap (λ z. shape_of m.size z.size (present_of m z)) same)) (visit_has m x plain v met)

module _ (m : BlockMap) (c : BlockCopy) (t : Tree) (rep : Represents m c t) (own : IsOwnCopy m c t) where
  plain : (o : Owner) (x : Root) → node_of_owner c o ≡ Some x → is_foreign_node m x ≡ false
  plain o x is = let n = numbered c o x is in own.nodes n.0 x n.1

  -- at each position of the tree stands a block
  pub position_stands : (p : Position) → HasPosition m.size t p → (b : ℕ) × StandsAt m c p b
  position_stands p has =
      let s = shape_stands m (shape_in m.size t p.owner) (node_of_owner c p.owner) p.level p.index (owner_shape m c t rep p.owner) (plain p.owner) has in
      (s.2.0, record { node = s.0; is = s.1; met = s.2.1 })

  -- and where one stands, the tree has that position
  pub stands_position : (p : Position) (b : ℕ) → StandsAt m c p b → HasPosition m.size t p
  stands_position p b s =
      shape_has m (shape_in m.size t p.owner) (node_of_owner c p.owner) s.node (record { level = p.level; index = p.index; block = b }) (owner_shape m c t rep p.owner) (plain p.owner s.node s.is) s.is s.met

-- one block at most stands at a position
pub one_stands : (m : BlockMap) (c : BlockCopy) (p : Position) (b d : ℕ) → StandsAt m c p b → StandsAt m c p d → b ≡ d
one_stands m c p b d s u =
    let both : Some s.node ≡ Some u.node = sym s.is ∙ u.is in
    let same : u.node ≡ s.node = cc in
    one_visit m s.node (record { level = p.level; index = p.index; block = b }) (record { level = p.level; index = p.index; block = d }) s.met
    (subst (λ x. Contains (visits_of m x) (record { level = p.level; index = p.index; block = d })) same u.met) refl refl

-- so a copy stands for ids where they are those of its blocks
pub ids_placed : (m : BlockMap) (c : BlockCopy) (k : Copy) (block : ℕ → ℕ) → Represents m c k.tree → IsOwnCopy m c k.tree → ((p : Position) → HasPosition m.size k.tree p → StandsAt m c p (block (k.ids p)))
    → RepresentsIds m c k block
ids_placed m c k block rep own placed = record { tree = rep; own = own; placed = placed; no_other = λ p b s. stands_position m c k.tree rep own p b s }
