-- A working state stands for the ids of an edited tree.
use Rattle.std.proofs.Common.{◌≡◌, ℕ, List, sym, subst}
use Rattle.std.specs.Prelude.{IsTrue}
use Rattle.qx_blocks.specs.BlockState.{BlockState}
use Rattle.qx_ptree.specs.Trees.{block_map}
use Rattle.qx_batch.specs.declared.planned.Planned.{Planned}
use Rattle.qx_batch.specs.Nodes.{AreAllMet, Nodes}
use Rattle.qx_model.specs.Edits.{Edit}
use Rattle.qx_model.specs.IdReadings.{ReadsPlaced}
use Rattle.qx_model.specs.Machine.{Machine}
use Rattle.qx_model.specs.Space.{with_edit}
use Rattle.qx_copies.specs.Copies.{node_in}
use Rattle.qx_copies.specs.Standing.{RepresentsIds}
use Rattle.qx_working.specs.declared.working.Working.{Working}
use Rattle.qx_working.specs.Standing.{StandsForIds, StandsForTree}
use Rattle.qx_working.specs.States.{copy_of}
use Rattle.qx_placing.specs.MovedNodes.{IsEdited}
use Rattle.qx_placing.specs.Placed.{block_at}
use Rattle.qx_placing.proofs.EditedCopies.{met_again}
use Rattle.qx_placing.proofs.ReadAgain.{ids_again}

pub state_again : (m n : BlockState) (w x : Working) (nodes after : Nodes) (ps : List Planned) (e : Edit) (s : Machine) (block : ℕ → ℕ) → IsTrue m.tells → x.order ≡ w.order
    → IsEdited w.order m n (copy_of w) (copy_of x) s.working.tree nodes after ps e → StandsForIds m w s.working block → StandsForTree n x e.tree → s.volume.blocksize ≡ m.holdings.size
    → (r : ReadsPlaced s e block (block_at (block_map w.order n) (copy_of x))) → StandsForIds n x (with_edit e s).working r.later
state_again m n w x nodes after ps e s block tells order ed st tree same r = record {
  tree = tree;
  ids = λ told. subst (λ o. RepresentsIds (block_map o n) (copy_of x) (with_edit e s).working r.later) (sym order) (ids_again w.order m n (copy_of w) (copy_of x) nodes after ps e s block ed same r);
  all_met = λ told. subst (λ o. AreAllMet o n (node_in (copy_of x))) (sym order) (met_again w.order m n (copy_of w) (copy_of x) s.working.tree nodes after ps e ed (st.all_met tells));
}
