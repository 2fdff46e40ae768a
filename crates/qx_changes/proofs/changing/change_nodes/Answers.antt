use Rattle.std.proofs.Common.{◌≡◌, ◌∙◌, ap, subst, sym}
use Rattle.std.specs.Prelude.{IsTrue}
use Rattle.qx_blocks.specs.BlockState.{BlockState}
use Rattle.qx_batch.specs.Batches.{ArePrepared, fresh_of}
use Rattle.qx_batch.specs.Changes.{AreChanged, with_nodes}
use Rattle.qx_batch.specs.Fittings.{IsFitting}
use Rattle.qx_batch.specs.Nodes.{Nodes}
use Rattle.qx_copies.specs.Copies.{node_in}
use Rattle.qx_working.specs.States.{copy_of}
use Rattle.qx_placing.proofs.MovedBlocks.{moved_made, shared_committed}
use Rattle.qx_changes.proofs.WrittenNodes.{changed_holds, shared_bytes}
use Rattle.qx_changes.proofs.MadeNodes.{have_nodes, nodes_waiting}
use Rattle.qx_changes.proofs.changing.change_nodes.Goals as goal

pub returns-in-Prepared-clause-room : goal.returns-in-Prepared-clause-room
returns-in-Prepared-clause-room g c =
    let old : BlockState = g.B.Blocks.state c.args.blocks.now in
    let mid : BlockState = g.B.Blocks.state c.prepare_fitting.new.blocks in
    let new : BlockState = g.B.Blocks.state c.commit.new.blocks in
    let nodes : Nodes = node_in (copy_of c.args.state.now) in
    let fit = subst (IsFitting c.args.state.now.order old mid c.args.planned.now c.args.is_removing) c.in-Prepared.is c.in_ok-need.ensures.ok in
    let prepared : ArePrepared c.args.state.now.order old mid c.args.planned.now c.in-Prepared.batch = fit.0 in
    let told_mid : IsTrue new.tells → IsTrue mid.tells = λ told. subst IsTrue c.commit.ensures.rest.tells told in
    let same : node_in (copy_of c.put_nodes.new.state) ≡ with_nodes nodes c.in-Prepared.batch =
    ap (λ s. node_in (copy_of s)) c.put_nodes.ensures ∙ (λ i q. nodes_waiting c.args.state.now c.in-Prepared.batch (have_nodes nodes c.args.planned.now c.in-Prepared.batch prepared.plans c.requires.nodes) q i) in (
      record {
        waiting = c.in-Prepared.batch;
        plans = prepared.plans;
        state = c.put_nodes.ensures;
        size = c.commit.ensures.rest.size ∙ prepared.takes.size;
        shared = shared_committed (fresh_of c.in-Prepared.batch) old mid new prepared.takes c.commit.ensures.shared;
        committed = c.commit.ensures.committed c.args.state.now.order prepared.ready;
        apart = prepared.can.apart;
        told_before = λ told. prepared.takes.told_before (told_mid told);
        told = λ told laid.
            let changed : AreChanged c.args.state.now.order nodes (node_in (copy_of c.put_nodes.new.state)) old new c.args.planned.now =
            subst (λ f. AreChanged c.args.state.now.order nodes f old new c.args.planned.now) (sym same)
            (c.commit.ensures.changed c.args.state.now.order nodes old c.args.planned.now (told_mid told) c.size.ensures.consistent laid c.requires.nodes prepared) in
            record {
              moved = moved_made c.args.state.now.order nodes (node_in (copy_of c.put_nodes.new.state)) old new c.args.planned.now changed;
              holds = changed_holds c.args.state.now.order old new (copy_of c.args.state.now) (copy_of c.put_nodes.new.state) c.args.planned.now c.requires.nodes changed;
              shared = λ b held out. shared_bytes (fresh_of c.in-Prepared.batch) old mid new prepared.takes c.commit.ensures.shared (told_mid told) b held out;
            };
      },
      λ told. fit.1 (told_mid told),
    )
