-- An edit of a tree that planned changes of nodes make.
use Rattle.std.specs.Prelude.{◌≡◌, ℕ, zero, suc, ◌⊎◌, Bool, false, List, [], Some, Contains}
use Rattle.qx_fields.specs.declared.order.Order.{Order}
use Rattle.qx_geom.specs.declared.root.Root.{Root}
use Rattle.qx_geom.specs.Lists.{is_in}
use Rattle.qx_blocks.specs.BlockState.{BlockState}
use Rattle.qx_ptree.specs.Fates.{written_by}
use Rattle.qx_ptree.specs.Trees.{block_map}
use Rattle.qx_batch.specs.declared.planned.Planned.{Planned}
use Rattle.qx_batch.specs.Nodes.{AreLaid, AreNodesOf, Nodes, owners_of}
use Rattle.qx_batch.specs.Plans.{plan_alteration}
use Rattle.qx_model.specs.Edits.{Edit}
use Rattle.qx_model.specs.Owners.{OfInode, OfLongfile, Owner}
use Rattle.qx_model.specs.Tree.{Tree}
use Rattle.qx_model.specs.TreePositions.{Position, shape_in}
use Rattle.qx_model.specs.TreeTouch.{written_in}
use Rattle.qx_copies.specs.Copies.{BlockCopy, node_in}
use Rattle.qx_copies.specs.Standing.{IsOwnCopy, Represents, StandsAt}

-- whose node has a number: 0 is the Longfile's, n that of inode n
abbrev pub owner_of_number : ℕ → Owner
owner_of_number zero = OfLongfile
owner_of_number (suc k) = OfInode (suc k)

-- these are the nodes of a copy, and maybe others of no bytes: of inodes that are to come, or that have gone
pub record HasNodesOf (c : BlockCopy) (nodes : Nodes) : Type 0 where
  pub own : (o : ℕ) (node : Root) → node_in c o ≡ Some node → nodes o ≡ Some node
  pub others : (o : ℕ) (node : Root) → nodes o ≡ Some node → (node_in c o ≡ Some node) ⊎ (node.size ≡ 0)

-- in the edited tree a planned node has the shape that its change gives it, and the leaves that it writes are written; every other node has the shape that it had, and nothing is written into it
pub record IsMadeBy (order : Order) (m : BlockState) (t : Tree) (e : Edit) (ps : List Planned) : Type 0 where
  pub shapes : (p : Planned) → Contains ps p → shape_in m.holdings.size e.tree (owner_of_number p.owner) ≡ (plan_alteration order m p).new
  pub written : (p : Planned) → Contains ps p → (i : ℕ) → is_in (written_in (owner_of_number p.owner) e.written) i ≡ is_in (written_by p.change) i
  pub others : (o : ℕ) → is_in (owners_of ps) o ≡ false → shape_in m.holdings.size e.tree (owner_of_number o) ≡ shape_in m.holdings.size t (owner_of_number o)
  pub unwritten : (o : ℕ) → is_in (owners_of ps) o ≡ false → written_in (owner_of_number o) e.written ≡ []

-- changes that are planned of nodes, among which a copy's are, make this edit of the tree for which the copy stands
pub record PlansEdit (order : Order) (m : BlockState) (c : BlockCopy) (t : Tree) (nodes : Nodes) (ps : List Planned) (e : Edit) : Type 0 where
  pub tree : Represents (block_map order m) c t
  pub own : IsOwnCopy (block_map order m) c t
  pub laid : AreLaid order m nodes
  pub has : HasNodesOf c nodes
  pub planned : AreNodesOf nodes ps
  pub made : IsMadeBy order m t e ps

-- a position is private where the block at it is the working tree's alone
abbrev pub ArePrivate : Order → BlockState → BlockCopy → (Position → Bool) → Type 0
ArePrivate order m c private = (p : Position) (b : ℕ) → StandsAt (block_map order m) c p b → m.holdings.private b ≡ private p
