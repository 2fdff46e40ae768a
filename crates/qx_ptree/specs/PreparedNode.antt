-- What the preparation of a change answers.
use Rattle.std.specs.Prelude.{◌≡◌, length, IsTrue}
use Rattle.qx_fields.specs.declared.order.Order.{Order}
use Rattle.qx_geom.specs.declared.root.Root.{Root}
use Rattle.qx_geom.specs.Lists.{Distinct}
use Rattle.qx_blocks.specs.BlockState.{BlockState}
use Rattle.qx_ptree.specs.declared.change.Change.{Change}
use Rattle.qx_ptree.specs.Altered.{IsPrepared}
use Rattle.qx_ptree.specs.ReadyLeaves.{IsReadyApart, IsWrittenBy, OwnAsLeft, StandIn}
use Rattle.qx_ptree.specs.Takings.{Takes}
use Rattle.qx_ptree.specs.Trees.{HasLevels}
use Rattle.qx_ptree.specs.WorkState.{CanCommit, Preparation, blocks_of, committed}

-- from the blocks m to the blocks n a change of a node was prepared: its fresh blocks were taken, it can be committed, and then the leaves that it writes are ready, in its own blocks, whatever became of others since; where bytes are told, the commit makes of the node what the change makes of it
pub record Prepares (order : Order) (m n : BlockState) (old : Root) (c : Change) (p : Preparation) : Type 0 where
  pub node : p.node ≡ old
  pub change : p.change ≡ c
  pub sixteen : length p.root.pointers ≡ 16
  pub size : p.root.size ≡ c.size
  pub levels : HasLevels m.holdings.size p.root
  pub takes : Takes p.work.fresh m n
  pub distinct : Distinct (blocks_of p)
  pub ready : CanCommit n p
  pub written : (o : BlockState) → OwnAsLeft p n o → IsReadyApart order (committed o p) p.root (IsWrittenBy c)
  pub own : (o : BlockState) → OwnAsLeft p n o → StandIn order (committed o p) p.root (IsWrittenBy c) (blocks_of p)
  pub prepared : IsTrue n.tells → IsPrepared order m n p
