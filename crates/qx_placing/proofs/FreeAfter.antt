-- As many blocks are free after an edit as the machine says.
use Rattle.std.proofs.Common.{◌≡◌, ℕ, ◌+◌, ◌-◌, List, length, sym, ◌∙◌, ap, subst, arith}
use Rattle.std.specs.Prelude.{unwrap_or}
use Rattle.qx_fields.specs.declared.order.Order.{Order}
use Rattle.qx_geom.specs.Lists.{Distinct}
use Rattle.qx_blocks.specs.BlockState.{BlockState}
use Rattle.qx_batch.specs.declared.planned.Planned.{Planned}
use Rattle.qx_batch.specs.Changes.{total_lost}
use Rattle.qx_batch.specs.Nodes.{Nodes}
use Rattle.qx_batch.specs.Plans.{need_of_all}
use Rattle.qx_model.specs.Edits.{Edit}
use Rattle.qx_model.specs.Ids.{HasIds, HasRoom}
use Rattle.qx_model.specs.Machine.{Machine}
use Rattle.qx_model.specs.Space.{free_count, held_count, is_private, need_of, with_edit}
use Rattle.qx_model.specs.TreePositions.{positions_of}
use Rattle.qx_model.proofs.KeptRoom.{free_and_held}
use Rattle.qx_model.proofs.SeparatePositions.{whole_distinct}
use Rattle.qx_copies.specs.Copies.{BlockCopy}
use Rattle.qx_placing.specs.MovedNodes.{IsEdited}
use Rattle.qx_placing.specs.Placed.{lost_positions}
use Rattle.qx_placing.specs.PlannedEdits.{ArePrivate}
use Rattle.qx_placing.proofs.EditNeeds.{machine_needs}
use Rattle.qx_placing.proofs.HeldAfter.{held_after}
use Rattle.qx_placing.proofs.LostPositions.{lost_same}

-- what is free is what is left
free_left : (s : Machine) (free : ℕ) → HasRoom s → (e : Edit) → free + held_count (with_edit e s) ≡ s.volume.user → free_count (with_edit e s) ≡ free
unfolding free_count
free_left s free room e all = ap (λ o. unwrap_or o (s.volume.user - held_count (with_edit e s))) room.with_ids ∙ omega (arith, all)

pub free_after : (order : Order) (m n : BlockState) (c d : BlockCopy) (nodes after : Nodes) (ps : List Planned) (e : Edit) (s : Machine) → IsEdited order m n c d s.working.tree nodes after ps e → s.volume.blocksize ≡ m.holdings.size
    → ArePrivate order m c (is_private s) → HasIds s → HasRoom s → free_count s ≡ m.holdings.free → free_count (with_edit e s) ≡ n.holdings.free
free_after order m n c d nodes after ps e s ed same are ids room free =
    let first : Distinct (positions_of s.volume.blocksize s.working.tree) = subst (λ size. Distinct (positions_of size s.working.tree)) (sym same) (whole_distinct m.holdings.size s.working.tree ed.plans.own.whole) in
    let second : Distinct (positions_of s.volume.blocksize e.tree) = subst (λ size. Distinct (positions_of size e.tree)) (ed.moved.size ∙ sym same) (whole_distinct n.holdings.size e.tree ed.own.whole) in
    let need : need_of_all order m ps ≡ need_of s e = machine_needs order m c nodes ps e s ed.plans same are in
    let lost : total_lost order m ps ≡ length (lost_positions s.volume.blocksize s.working.tree e (is_private s))
    = lost_same order m c s.working.tree nodes ps e (is_private s) ed.plans are ∙ ap (λ size. length (lost_positions size s.working.tree e (is_private s))) (sym same) in
    let held = held_after s e ids first second in
    free_left s n.holdings.free room e (omega (arith, held, need, lost, ed.moved.free, free_and_held s room, free))
