use Rattle.qx_ptree.specs.Trees.{block_map}
use Rattle.qx_copies.proofs.CopyPositions.{ids_placed}
use Rattle.qx_working.specs.States.{copy_of}
use Rattle.qx_changes.proofs.edited_laws.a_state_of_ours_stands_for_ids.Goals as goal

pub returns-clause-ids : goal.returns-clause-ids
returns-clause-ids c m w k block stands placed = record {
  tree = stands.tree;
  ids = λ told. ids_placed (block_map w.order m) (copy_of w) k block (stands.tree.told told).represents (stands.own told) (placed told);
  all_met = stands.all_met;
}

pub returns-clause-own : goal.returns-clause-own
returns-clause-own c m w k block stands = record { tree = stands.tree; own = λ told. (stands.ids told).own; all_met = stands.all_met }
