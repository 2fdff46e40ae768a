-- The positions of a tree: those of each of its nodes.
use Rattle.std.specs.Prelude.{◌≡◌, ℕ, ◌+◌, Bool, true, ◌&&◌, List, [], ◌∷◌, length, map, flat_map, Option, Some, None, ◌==◌}
use Rattle.std.specs.List.{range_with_len}
use Rattle.qx_geom.specs.Lists.{IsAscending}
use Rattle.qx_geom.specs.Positions.{Shape, at_level, shape_of}
use Rattle.qx_geom.specs.Positions as node
use Rattle.qx_model.specs.Tree.{Entry, Tree, entry_of}
use Rattle.qx_model.specs.Owners.{OfFurther, OfInode, OfInodes, OfLongfile, Owner, is_same_owner}

-- where a block may stand: in whose node, on which level, the leaves being level 0, and at which index there
pub record Position : Type 0 where
  pub owner : Owner
  pub level : ℕ
  pub index : ℕ

-- two positions are one
abbrev pub is_same_position : Position → Position → Bool
is_same_position p q = is_same_owner p.owner q.owner && (p.level == q.level && p.index == q.index)

-- ---- nodes

-- a node without a leaf
abbrev pub empty_shape : ℕ → Shape
empty_shape blocksize = shape_of blocksize 0 []

-- the node of an inode; one that isn't live has no leaf, and neither has a special
abbrev pub entry_shape : ℕ → Option Entry → Shape
entry_shape blocksize None = empty_shape blocksize
entry_shape blocksize (Some e) = shape_of blocksize e.size e.present

-- the node of an owner; that of the Inode tree and further ones are no part of a tree, and count as empty
abbrev pub shape_in : ℕ → Tree → Owner → Shape
shape_in blocksize t OfLongfile = shape_of blocksize t.long_size t.long_present
shape_in blocksize t (OfInode n) = entry_shape blocksize (entry_of t n)
shape_in blocksize t OfInodes = empty_shape blocksize
shape_in blocksize t (OfFurther k) = empty_shape blocksize

-- the owners of a tree's nodes, in order: the Longfile, then the inodes
abbrev pub owners_of : Tree → List Owner
owners_of t = OfLongfile ∷ map (λ n. OfInode n) (range_with_len 1 (length t.inodes))

-- ---- positions

-- what f gives of each level of a node, as positions in order of level and index
abbrev pub positions_by : (ℕ → List ℕ) → Owner → Shape → List Position
positions_by f o s = flat_map (λ k. map (λ j. record { owner = o; level = k; index = j }) (f k)) (range_with_len 0 (s.levels + 1))

-- the positions of one node
abbrev pub positions_in_node : ℕ → Owner → Shape → List Position
positions_in_node blocksize o s = positions_by (at_level blocksize s) o s

-- all positions of a tree, in order of owner, level and index
abbrev pub positions_of : ℕ → Tree → List Position
positions_of blocksize t = flat_map (λ o. positions_in_node blocksize o (shape_in blocksize t o)) (owners_of t)

-- whether a tree has a position
abbrev pub has_position : ℕ → Tree → Position → Bool
has_position blocksize t p = node.has_position blocksize (shape_in blocksize t p.owner) p.level p.index

-- a tree has a position
abbrev pub HasPosition : ℕ → Tree → Position → Type 0
HasPosition blocksize t p = has_position blocksize t p ≡ true

-- the present leaves of each node are in ascending order
abbrev pub PresentAscend : ℕ → Tree → Type 0
PresentAscend blocksize t = (o : Owner) → IsAscending (shape_in blocksize t o).present
