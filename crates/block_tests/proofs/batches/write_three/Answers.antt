use Rattle.std.proofs.Common.{◌∙◌, [], ◌∷◌, List, length, refl, sym, ap, subst, slice_index}
use Rattle.std.specs.Prelude.{false, Some, IsTrue}
use Rattle.qx_blocks.specs.BlockState.{BlockState}
use Rattle.qx_batch.specs.declared.batch.Waiting.{Waiting}
use Rattle.qx_batch.specs.declared.planned.Planned.{Planned}
use Rattle.qx_batch.specs.Batches.{ArePrepared}
use Rattle.qx_batch.specs.Changes.{AreChanged}
use Rattle.qx_batch.specs.Nodes.{Nodes}
use Rattle.qx_batch.specs.PutNodes.{ArePut}
use Rattle.qx_batch.specs.Fittings.{IsFitting}
use Rattle.block_tests.specs.WrittenFiles.{Files, files_of, with_three}
use Rattle.block_tests.proofs.ThreeFiles.{AreReadyThree, after_three, all_planned, are_written, can_put, have_levels, is_planned, lie_written, nodes_of, ready_committed, ready_on}
use Rattle.block_tests.proofs.batches.write_three.Goals as goal

pub prepare_fitting-requires-clause-planned : goal.prepare_fitting-requires-clause-planned
prepare_fitting-requires-clause-planned g c =
    let m : BlockState = g.B.Blocks.state c.args.blocks.now in
    let size = c.size-size.ensures.size in
    let sized = c.size-size.ensures.consistent.size in
    all_planned c.args.order m c.in_ok-planned_write.field-0 c.in_ok-planned_write-2.field-0 c.in_ok-planned_write-3.field-0
    (is_planned c.args.order m c.in_ok-planned_write.field-0 c.args.files.now.first c.size-size.result _ _ size sized c.in_ok-planned_write.ensures.node c.requires.first c.in_ok-planned_write.ensures.writes)
    (is_planned c.args.order m c.in_ok-planned_write-2.field-0 c.args.files.now.second c.size-size.result _ _ size sized c.in_ok-planned_write-2.ensures.node c.requires.second c.in_ok-planned_write-2.ensures.writes)
    (is_planned c.args.order m c.in_ok-planned_write-3.field-0 c.args.files.now.third c.size-size.result _ _ size sized c.in_ok-planned_write-3.ensures.node c.requires.third c.in_ok-planned_write-3.ensures.writes)

pub put_one-requires : goal.put_one-requires
put_one-requires g c =
    let p : Planned = c.in_ok-planned_write.field-0 in
    let q : Planned = c.in_ok-planned_write-2.field-0 in
    let r : Planned = c.in_ok-planned_write-3.field-0 in
    let ws : List Waiting = c.in-Prepared.batch in
    let roots : Files = files_of c.new_nodes-roots.result.first c.new_nodes-roots.result.second c.new_nodes-roots.result.third in
    let old : BlockState = g.B.Blocks.state c.args.blocks.now in
    let now : BlockState = g.B.Blocks.state c.prepare_fitting.new.blocks in
    let made : BlockState = g.B.Blocks.state c.commit.new.blocks in
    let prepared : ArePrepared c.args.order old now (p ∷ q ∷ r ∷ []) ws = (subst (IsFitting c.args.order old now (p ∷ q ∷ r ∷ []) false) c.in-Prepared.is c.in_ok-batch.ensures.ok).0 in
    let first : AreReadyThree c.args.order c.size-size.result made p q r ws roots =
    ready_committed c.args.order c.size-size.result old now made p q r ws roots c.size-size.ensures.size prepared c.commit.ensures.rest.size (c.commit.ensures.committed c.args.order prepared.ready)
    (λ a b d are. (c.new_nodes-roots.ensures.first a b d (c.waiting.ensures ∙ are), c.new_nodes-roots.ensures.second a b d (c.waiting.ensures ∙ are), c.new_nodes-roots.ensures.third a b d (c.waiting.ensures ∙ are))) in
    can_put c.args.order c.size-size.result made p q r ws roots first p first.three.first roots.first (slice_index c.args.places.now 0) (length c.args.bytes.now) first.three.first_plan first.three.has_first first.first_root c.in_ok-planned_write.ensures.writes

pub put_one-requires-2 : goal.put_one-requires-2
put_one-requires-2 g c =
    let p : Planned = c.in_ok-planned_write.field-0 in
    let q : Planned = c.in_ok-planned_write-2.field-0 in
    let r : Planned = c.in_ok-planned_write-3.field-0 in
    let ws : List Waiting = c.in-Prepared.batch in
    let roots : Files = files_of c.new_nodes-roots.result.first c.new_nodes-roots.result.second c.new_nodes-roots.result.third in
    let old : BlockState = g.B.Blocks.state c.args.blocks.now in
    let now : BlockState = g.B.Blocks.state c.prepare_fitting.new.blocks in
    let made : BlockState = g.B.Blocks.state c.commit.new.blocks in
    let prepared : ArePrepared c.args.order old now (p ∷ q ∷ r ∷ []) ws = (subst (IsFitting c.args.order old now (p ∷ q ∷ r ∷ []) false) c.in-Prepared.is c.in_ok-batch.ensures.ok).0 in
    let first : AreReadyThree c.args.order c.size-size.result made p q r ws roots =
    ready_committed c.args.order c.size-size.result old now made p q r ws roots c.size-size.ensures.size prepared c.commit.ensures.rest.size (c.commit.ensures.committed c.args.order prepared.ready)
    (λ a b d are. (c.new_nodes-roots.ensures.first a b d (c.waiting.ensures ∙ are), c.new_nodes-roots.ensures.second a b d (c.waiting.ensures ∙ are), c.new_nodes-roots.ensures.third a b d (c.waiting.ensures ∙ are))) in
    let one : BlockState = g.B.Blocks.state c.put_one.new.blocks in
    let second : AreReadyThree c.args.order c.size-size.result one p q r ws roots = ready_on c.args.order c.size-size.result made p q r ws roots first one c.put_one.ensures.puts.holdings
    (c.put_one.ensures.ready ws first.three.first first.apart first.committed first.three.has_first first.first_root (λ i. lie_written c.args.order c.size-size.result made p q r ws roots first p first.three.first (slice_index c.args.places.now 0) (length c.args.bytes.now) i first.three.first_plan c.in_ok-planned_write.ensures.writes)) in
    can_put c.args.order c.size-size.result one p q r ws roots second q second.three.second roots.second (slice_index c.args.places.now 1) (length c.args.bytes.now) second.three.second_plan second.three.has_second second.second_root c.in_ok-planned_write-2.ensures.writes

pub put_one-requires-3 : goal.put_one-requires-3
put_one-requires-3 g c =
    let p : Planned = c.in_ok-planned_write.field-0 in
    let q : Planned = c.in_ok-planned_write-2.field-0 in
    let r : Planned = c.in_ok-planned_write-3.field-0 in
    let ws : List Waiting = c.in-Prepared.batch in
    let roots : Files = files_of c.new_nodes-roots.result.first c.new_nodes-roots.result.second c.new_nodes-roots.result.third in
    let old : BlockState = g.B.Blocks.state c.args.blocks.now in
    let now : BlockState = g.B.Blocks.state c.prepare_fitting.new.blocks in
    let made : BlockState = g.B.Blocks.state c.commit.new.blocks in
    let prepared : ArePrepared c.args.order old now (p ∷ q ∷ r ∷ []) ws = (subst (IsFitting c.args.order old now (p ∷ q ∷ r ∷ []) false) c.in-Prepared.is c.in_ok-batch.ensures.ok).0 in
    let first : AreReadyThree c.args.order c.size-size.result made p q r ws roots =
    ready_committed c.args.order c.size-size.result old now made p q r ws roots c.size-size.ensures.size prepared c.commit.ensures.rest.size (c.commit.ensures.committed c.args.order prepared.ready)
    (λ a b d are. (c.new_nodes-roots.ensures.first a b d (c.waiting.ensures ∙ are), c.new_nodes-roots.ensures.second a b d (c.waiting.ensures ∙ are), c.new_nodes-roots.ensures.third a b d (c.waiting.ensures ∙ are))) in
    let one : BlockState = g.B.Blocks.state c.put_one.new.blocks in
    let second : AreReadyThree c.args.order c.size-size.result one p q r ws roots = ready_on c.args.order c.size-size.result made p q r ws roots first one c.put_one.ensures.puts.holdings
    (c.put_one.ensures.ready ws first.three.first first.apart first.committed first.three.has_first first.first_root (λ i. lie_written c.args.order c.size-size.result made p q r ws roots first p first.three.first (slice_index c.args.places.now 0) (length c.args.bytes.now) i first.three.first_plan c.in_ok-planned_write.ensures.writes)) in
    let two : BlockState = g.B.Blocks.state c.put_one-2.new.blocks in
    let third : AreReadyThree c.args.order c.size-size.result two p q r ws roots = ready_on c.args.order c.size-size.result one p q r ws roots second two c.put_one-2.ensures.puts.holdings
    (c.put_one-2.ensures.ready ws second.three.second second.apart second.committed second.three.has_second second.second_root (λ i. lie_written c.args.order c.size-size.result one p q r ws roots second q second.three.second (slice_index c.args.places.now 1) (length c.args.bytes.now) i second.three.second_plan c.in_ok-planned_write-2.ensures.writes)) in
    can_put c.args.order c.size-size.result two p q r ws roots third r third.three.third roots.third (slice_index c.args.places.now 2) (length c.args.bytes.now) third.three.third_plan third.three.has_third third.third_root c.in_ok-planned_write-3.ensures.writes

pub returns-clause-levels : goal.returns-clause-levels
returns-clause-levels g c =
    let p : Planned = c.in_ok-planned_write.field-0 in
    let q : Planned = c.in_ok-planned_write-2.field-0 in
    let r : Planned = c.in_ok-planned_write-3.field-0 in
    let ws : List Waiting = c.in-Prepared.batch in
    let roots : Files = files_of c.new_nodes-roots.result.first c.new_nodes-roots.result.second c.new_nodes-roots.result.third in
    let old : BlockState = g.B.Blocks.state c.args.blocks.now in
    let now : BlockState = g.B.Blocks.state c.prepare_fitting.new.blocks in
    let made : BlockState = g.B.Blocks.state c.commit.new.blocks in
    let prepared : ArePrepared c.args.order old now (p ∷ q ∷ r ∷ []) ws = (subst (IsFitting c.args.order old now (p ∷ q ∷ r ∷ []) false) c.in-Prepared.is c.in_ok-batch.ensures.ok).0 in
    let first : AreReadyThree c.args.order c.size-size.result made p q r ws roots =
    ready_committed c.args.order c.size-size.result old now made p q r ws roots c.size-size.ensures.size prepared c.commit.ensures.rest.size (c.commit.ensures.committed c.args.order prepared.ready)
    (λ a b d are. (c.new_nodes-roots.ensures.first a b d (c.waiting.ensures ∙ are), c.new_nodes-roots.ensures.second a b d (c.waiting.ensures ∙ are), c.new_nodes-roots.ensures.third a b d (c.waiting.ensures ∙ are))) in
    let one : BlockState = g.B.Blocks.state c.put_one.new.blocks in
    let second : AreReadyThree c.args.order c.size-size.result one p q r ws roots = ready_on c.args.order c.size-size.result made p q r ws roots first one c.put_one.ensures.puts.holdings
    (c.put_one.ensures.ready ws first.three.first first.apart first.committed first.three.has_first first.first_root (λ i. lie_written c.args.order c.size-size.result made p q r ws roots first p first.three.first (slice_index c.args.places.now 0) (length c.args.bytes.now) i first.three.first_plan c.in_ok-planned_write.ensures.writes)) in
    let two : BlockState = g.B.Blocks.state c.put_one-2.new.blocks in
    let third : AreReadyThree c.args.order c.size-size.result two p q r ws roots = ready_on c.args.order c.size-size.result one p q r ws roots second two c.put_one-2.ensures.puts.holdings
    (c.put_one-2.ensures.ready ws second.three.second second.apart second.committed second.three.has_second second.second_root (λ i. lie_written c.args.order c.size-size.result one p q r ws roots second q second.three.second (slice_index c.args.places.now 1) (length c.args.bytes.now) i second.three.second_plan c.in_ok-planned_write-2.ensures.writes)) in
    let new : BlockState = g.B.Blocks.state c.put_one-3.new.blocks in
    let last : AreReadyThree c.args.order c.size-size.result new p q r ws roots = ready_on c.args.order c.size-size.result two p q r ws roots third new c.put_one-3.ensures.puts.holdings
    (c.put_one-3.ensures.ready ws third.three.third third.apart third.committed third.three.has_third third.third_root (λ i. lie_written c.args.order c.size-size.result two p q r ws roots third r third.three.third (slice_index c.args.places.now 2) (length c.args.bytes.now) i third.three.third_plan c.in_ok-planned_write-3.ensures.writes)) in
    have_levels c.args.order c.size-size.result new p q r ws roots last

pub returns-clause-written : goal.returns-clause-written
returns-clause-written g c = λ nodes told laid here there yonder.
    let p : Planned = c.in_ok-planned_write.field-0 in
    let q : Planned = c.in_ok-planned_write-2.field-0 in
    let r : Planned = c.in_ok-planned_write-3.field-0 in
    let ws : List Waiting = c.in-Prepared.batch in
    let roots : Files = files_of c.new_nodes-roots.result.first c.new_nodes-roots.result.second c.new_nodes-roots.result.third in
    let old : BlockState = g.B.Blocks.state c.args.blocks.now in
    let now : BlockState = g.B.Blocks.state c.prepare_fitting.new.blocks in
    let made : BlockState = g.B.Blocks.state c.commit.new.blocks in
    let prepared : ArePrepared c.args.order old now (p ∷ q ∷ r ∷ []) ws = (subst (IsFitting c.args.order old now (p ∷ q ∷ r ∷ []) false) c.in-Prepared.is c.in_ok-batch.ensures.ok).0 in
    let first : AreReadyThree c.args.order c.size-size.result made p q r ws roots =
    ready_committed c.args.order c.size-size.result old now made p q r ws roots c.size-size.ensures.size prepared c.commit.ensures.rest.size (c.commit.ensures.committed c.args.order prepared.ready)
    (λ a b d are. (c.new_nodes-roots.ensures.first a b d (c.waiting.ensures ∙ are), c.new_nodes-roots.ensures.second a b d (c.waiting.ensures ∙ are), c.new_nodes-roots.ensures.third a b d (c.waiting.ensures ∙ are))) in
    let one : BlockState = g.B.Blocks.state c.put_one.new.blocks in
    let two : BlockState = g.B.Blocks.state c.put_one-2.new.blocks in
    let new : BlockState = g.B.Blocks.state c.put_one-3.new.blocks in
    let before : IsTrue now.tells = sym c.commit.ensures.rest.tells ∙ sym c.put_one.ensures.puts.tells ∙ sym c.put_one-2.ensures.puts.tells ∙ sym c.put_one-3.ensures.puts.tells ∙ told in
    let own = nodes_of p q r c.in_ok-planned_write.ensures.owner c.in_ok-planned_write-2.ensures.owner c.in_ok-planned_write-3.ensures.owner nodes
    (here ∙ ap Some (sym c.in_ok-planned_write.ensures.node)) (there ∙ ap Some (sym c.in_ok-planned_write-2.ensures.node)) (yonder ∙ ap Some (sym c.in_ok-planned_write-3.ensures.node)) in
    let changed : AreChanged c.args.order nodes (with_three nodes roots) old made (p ∷ q ∷ r ∷ []) = subst (λ (after : Nodes). AreChanged c.args.order nodes after old made (p ∷ q ∷ r ∷ []))
    (after_three p q r c.in_ok-planned_write.ensures.owner c.in_ok-planned_write-2.ensures.owner c.in_ok-planned_write-3.ensures.owner nodes ws roots first.three first.first_root first.second_root first.third_root)
    (c.commit.ensures.changed c.args.order nodes old (p ∷ q ∷ r ∷ []) before c.size-size.ensures.consistent laid own prepared) in
    let in-first : ArePut c.args.order (with_three nodes roots) made one 0 (slice_index c.args.places.now 0) c.args.bytes.now = c.put_one.ensures.nodes (with_three nodes roots) 0 changed.laid refl in
    let in-second : ArePut c.args.order (with_three nodes roots) one two 1 (slice_index c.args.places.now 1) c.args.bytes.now = c.put_one-2.ensures.nodes (with_three nodes roots) 1 in-first.laid refl in
    let in-third : ArePut c.args.order (with_three nodes roots) two new 2 (slice_index c.args.places.now 2) c.args.bytes.now = c.put_one-3.ensures.nodes (with_three nodes roots) 2 in-second.laid refl in
    let of-size = c.size-size.ensures.size in
    are_written p q r c.in_ok-planned_write.ensures.owner c.in_ok-planned_write-2.ensures.owner c.in_ok-planned_write-3.ensures.owner c.args.order old made one two new nodes (files_of c.args.files.now.first c.args.files.now.second c.args.files.now.third) roots c.args.places.now c.args.bytes.now
    c.in_ok-planned_write.ensures.node c.in_ok-planned_write-2.ensures.node c.in_ok-planned_write-3.ensures.node
    (rw (sym of-size) c.in_ok-planned_write.ensures.change) (rw (sym of-size) c.in_ok-planned_write-2.ensures.change) (rw (sym of-size) c.in_ok-planned_write-3.ensures.change) changed in-first in-second in-third
