-- Where the blocks of all nodes stand once planned changes were made, whatever bytes were put into them since.
use Rattle.std.specs.Prelude.{◌≡◌, ℕ, ◌+◌, true, false, ◌||◌, List, Option, Some, None, IsTrue, Contains}
use Rattle.qx_fields.specs.declared.order.Order.{Order}
use Rattle.qx_geom.specs.declared.root.Root.{Root}
use Rattle.qx_geom.specs.Lists.{is_in}
use Rattle.qx_nodes.specs.Visits.{Visit, visits_of}
use Rattle.qx_blocks.specs.BlockState.{BlockState}
use Rattle.qx_ptree.specs.Altered.{takes_fresh}
use Rattle.qx_ptree.specs.Trees.{block_map}
use Rattle.qx_batch.specs.declared.planned.Planned.{Planned}
use Rattle.qx_batch.specs.Changes.{total_lost}
use Rattle.qx_batch.specs.Nodes.{AreAllMet, AreLaid, Nodes, owners_of}
use Rattle.qx_batch.specs.Plans.{need_of_all, plan_alteration}
use Rattle.qx_model.specs.Edits.{Edit}
use Rattle.qx_model.specs.Tree.{Tree}
use Rattle.qx_copies.specs.Copies.{BlockCopy}
use Rattle.qx_copies.specs.Standing.{IsOwnCopy, Represents}
use Rattle.qx_placing.specs.PlannedEdits.{HasNodesOf, PlansEdit}

-- a number has the node that its change makes: at a position that takes a fresh block stands one that no tree held, at any other the one that stood there
pub record IsMovedNode (order : Order) (old new : BlockState) (p : Planned) (after : Option Root) : Type 0 where
  pub root : Root
  pub is : after ≡ Some root
  pub fresh : (v : Visit) → Contains (visits_of (block_map order new) root) v → takes_fresh (plan_alteration order old p) v.level v.index ≡ true → old.holdings.held v.block ≡ false
  pub stays : (v : Visit) → Contains (visits_of (block_map order new) root) v → takes_fresh (plan_alteration order old p) v.level v.index ≡ false → Contains (visits_of (block_map order old) p.node) v
  pub private : (v : Visit) → Contains (visits_of (block_map order new) root) v → new.holdings.private v.block ≡ (takes_fresh (plan_alteration order old p) v.level v.index || old.holdings.private v.block)

-- a number has the node that it had, and the same blocks stand in it
pub record IsStillNode (order : Order) (old new : BlockState) (node : Root) (after : Option Root) : Type 0 where
  pub is : after ≡ Some node
  pub visits : visits_of (block_map order new) node ≡ visits_of (block_map order old) node
  pub private : (v : Visit) → Contains (visits_of (block_map order old) node) v → new.holdings.private v.block ≡ old.holdings.private v.block

-- so it is with all numbers, and what is free is what the changes left
pub record AreMoved (order : Order) (nodes after : Nodes) (old new : BlockState) (ps : List Planned) : Type 0 where
  pub size : new.holdings.size ≡ old.holdings.size
  pub laid : AreLaid order new after
  pub moved : (p : Planned) → Contains ps p → IsMovedNode order old new p (after p.owner)
  pub still : (o : ℕ) (node : Root) → nodes o ≡ Some node → is_in (owners_of ps) o ≡ false → IsStillNode order old new node (after o)
  pub none : (o : ℕ) → nodes o ≡ None → after o ≡ None
  pub all_met : AreAllMet order old nodes → AreAllMet order new after
  pub free : new.holdings.free + need_of_all order old ps ≡ old.holdings.free + total_lost order old ps

-- an edit of a copy's tree was made so, and another copy stands for the edited tree
pub record IsEdited (order : Order) (m n : BlockState) (c d : BlockCopy) (t : Tree) (nodes after : Nodes) (ps : List Planned) (e : Edit) : Type 0 where
  pub plans : PlansEdit order m c t nodes ps e
  pub moved : AreMoved order nodes after m n ps
  pub has : HasNodesOf d after
  pub tree : Represents (block_map order n) d e.tree
  pub own : IsOwnCopy (block_map order n) d e.tree

-- a held block that isn't the working tree's alone stays so
pub record KeepsShared (m n : BlockState) : Type 0 where
  pub held : (b : ℕ) → IsTrue (m.holdings.held b) → m.holdings.private b ≡ false → IsTrue (n.holdings.held b)
  pub private : (b : ℕ) → IsTrue (m.holdings.held b) → m.holdings.private b ≡ false → n.holdings.private b ≡ false
