-- What has become of all nodes once some were changed together.
use Rattle.std.specs.Prelude.{◌≡◌, ℕ, ◌+◌, true, false, not, ◌&&◌, ◌||◌, List, [], ◌∷◌, count_by, sum_by, replicate, Option, Some, None, Contains, if◌then◌else◌}
use Rattle.qx_fields.specs.declared.order.Order.{Order}
use Rattle.qx_geom.specs.declared.root.Root.{Root}
use Rattle.qx_geom.specs.Lists.{is_in}
use Rattle.qx_geom.specs.Positions.{present_after}
use Rattle.qx_nodes.specs.Visits.{Visit, visits_of}
use Rattle.qx_blocks.specs.BlockState.{BlockState}
use Rattle.qx_ptree.specs.declared.change.Change.{Change}
use Rattle.qx_ptree.specs.Altered.{keeps_block, takes_fresh}
use Rattle.qx_ptree.specs.Fates.{leaves_after, written_by}
use Rattle.qx_ptree.specs.KeptNodes.{KeepsNode}
use Rattle.qx_ptree.specs.ReadyLeaves.{IsReadyApart, IsWrittenBy}
use Rattle.qx_ptree.specs.Trees.{block_map}
use Rattle.qx_batch.specs.declared.planned.Planned.{Planned}
use Rattle.qx_batch.specs.declared.batch.Waiting.{Waiting}
use Rattle.qx_nodes.specs.NodeContents.{IsSameContent, NodeContent, node_content}
use Rattle.qx_batch.specs.Nodes.{AreAllMet, AreLaid, Nodes, owners_of, with_node}
use Rattle.qx_batch.specs.Plans.{need_of_all, plan_alteration}

-- the nodes with those that changes make in place of theirs
abbrev pub with_nodes : Nodes → List Waiting → Nodes
with_nodes nodes [] = nodes
with_nodes nodes (w ∷ ws) = with_node (with_nodes nodes ws) w.plan.owner (Some w.prep.root)

-- the content of a node after a change: the leaves that are there have the bytes that they had, 0 in former holes
abbrev pub changed_content : ℕ → Change → NodeContent → NodeContent
changed_content blocksize c a =
    let present = present_after a.present (leaves_after blocksize c) (written_by c) c.gone in
    record { size = c.size; present = present; leaves = λ i. if is_in present i then a.leaves i else replicate blocksize 0 }

-- how many blocks that the working tree alone holds a planned change leaves out of its node
abbrev pub plan_lost : Order → BlockState → Planned → ℕ
plan_lost order m p = count_by (λ (v : Visit). m.holdings.private v.block && not (keeps_block (plan_alteration order m p) v.level v.index)) (visits_of (block_map order m) p.node)

-- and all together
abbrev pub total_lost : Order → BlockState → List Planned → ℕ
total_lost order m ps = sum_by (plan_lost order m) ps

-- a number has another node, which is what the planned change makes of its node: it holds what the change leaves, what is written is ready, and its blocks are those that it had and, exactly where a position takes one, fresh ones
pub record IsChangedNode (order : Order) (old new : BlockState) (p : Planned) (after : Option Root) : Type 0 where
  pub root : Root
  pub is : after ≡ Some root
  pub levels : root.levels ≡ (plan_alteration order old p).new.levels
  pub holds : IsSameContent old.holdings.size (changed_content old.holdings.size p.change (node_content (block_map order old) p.node)) (node_content (block_map order new) root)
  pub ready : IsReadyApart order new root (IsWrittenBy p.change)
  pub fresh : (v : Visit) → Contains (visits_of (block_map order new) root) v → takes_fresh (plan_alteration order old p) v.level v.index ≡ true → old.holdings.held v.block ≡ false
  pub stays : (v : Visit) → Contains (visits_of (block_map order new) root) v → takes_fresh (plan_alteration order old p) v.level v.index ≡ false → Contains (visits_of (block_map order old) p.node) v
  pub keeps : (v : Visit) → Contains (visits_of (block_map order old) p.node) v → keeps_block (plan_alteration order old p) v.level v.index ≡ true → Contains (visits_of (block_map order new) root) v
  pub private : (v : Visit) → Contains (visits_of (block_map order new) root) v → new.holdings.private v.block ≡ (takes_fresh (plan_alteration order old p) v.level v.index || old.holdings.private v.block)

-- a number has the node that it had, which is as it was and holds the same
pub record IsKeptNode (order : Order) (old new : BlockState) (node : Root) (after : Option Root) : Type 0 where
  pub is : after ≡ Some node
  pub keeps : KeepsNode order old new node
  pub visits : visits_of (block_map order new) node ≡ visits_of (block_map order old) node
  pub holds : IsSameContent old.holdings.size (node_content (block_map order old) node) (node_content (block_map order new) node)

-- the planned changes were made, and every other node is as it was
pub record AreChanged (order : Order) (nodes after : Nodes) (old new : BlockState) (ps : List Planned) : Type 0 where
  pub size : new.holdings.size ≡ old.holdings.size
  pub laid : AreLaid order new after
  pub changed : (p : Planned) → Contains ps p → IsChangedNode order old new p (after p.owner)
  pub lost : (p : Planned) (v : Visit) → Contains ps p → Contains (visits_of (block_map order old) p.node) v → keeps_block (plan_alteration order old p) v.level v.index ≡ false → new.holdings.works v.block ≡ false
  pub kept : (o : ℕ) (node : Root) → nodes o ≡ Some node → is_in (owners_of ps) o ≡ false → IsKeptNode order old new node (after o)
  pub none : (o : ℕ) → nodes o ≡ None → after o ≡ None
  pub all_met : AreAllMet order old nodes → AreAllMet order new after
  pub free : new.holdings.free + need_of_all order old ps ≡ old.holdings.free + total_lost order old ps
