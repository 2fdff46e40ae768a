use Rattle.std.proofs.Common.{inl, arith, refl, sym, ap}
use Rattle.qx_geom.specs.Pointer.{per_block}
use Rattle.qx_blocks.specs.BlockState.{BlockState}
use Rattle.qx_ptree.specs.declared.change.Fate.TheVariants.{Stays, Written, Goes}
use Rattle.qx_ptree.specs.declared.part.Part.{Part}
use Rattle.qx_ptree.specs.Building.{LiesUnder, one_block}
use Rattle.qx_ptree.proofs.KeptPlans.{told_before}
use Rattle.qx_ptree.proofs.PreparedBlocks.{at_err}
use Rattle.qx_ptree.proofs.PreparedParts.{adds_given, fare_one, fare_part, fate_here, gone_onto, leaf_onto, quiet_onto, written_part}
use Rattle.qx_ptree.proofs.ReachedSteps.{marked_none, onto_given_up, onto_leaf, onto_none, unwritten_leaf}
use Rattle.qx_ptree.proofs.TakenBlocks.{Takes-none, Takes-same}
use Rattle.qx_ptree.proofs.new_parts.prepare_leaf.Goals as goal

pub returns-in_err-give_up_below-in-Goes-clause-err : goal.returns-in_err-give_up_below-in-Goes-clause-err
returns-in_err-give_up_below-in-Goes-clause-err g c =
    at_err c.from_residual.result (adds_given (g.B.Blocks.state c.args.blocks.now) (g.B.Blocks.state c.give_up_below.new.blocks) c.args.work.now c.give_up_below.new.work c.give_up_below.ensures.gone.blocks c.give_up_below.ensures.reads.keeps c.give_up_below.ensures.gone.is)

pub returns-in-Stays-clause-built : goal.returns-in-Stays-clause-built
returns-in-Stays-clause-built g c =
    let m : BlockState = g.B.Blocks.state c.args.blocks.now in
    quiet_onto m c.args.plan.now 0 c.args.index c.args.pointer c.args.work.now c.size.ensures.consistent c.requires.plan (omega arith) (inl (omega arith)) c.requires.pointer
    (fare_one m.holdings.size c.args.plan.now Stays c.args.index (fate_here m c.args.plan.now c.args.index c.div_ceil-leaves.result c.size.result Stays c.leaf_fate.result c.size.ensures.consistent c.leaf_fate.ensures c.in-Stays.is c.div_ceil-leaves.ensures c.size.ensures.size))

pub returns-in-Stays-clause-changed : goal.returns-in-Stays-clause-changed
returns-in-Stays-clause-changed g c told =
    let m : BlockState = g.B.Blocks.state c.args.blocks.now in
    sym (ap (λ (x : Part). x.changed) (fare_part m c.args.plan.now Stays 0 c.args.index c.args.pointer c.size.ensures.consistent c.requires.plan (λ e. absurd (cc)) (omega arith) (inl (omega arith)) c.requires.pointer
    (fare_one m.holdings.size c.args.plan.now Stays c.args.index (fate_here m c.args.plan.now c.args.index c.div_ceil-leaves.result c.size.result Stays c.leaf_fate.result c.size.ensures.consistent c.leaf_fate.ensures c.in-Stays.is c.div_ceil-leaves.ensures c.size.ensures.size)) told))

pub returns-in-Stays-clause-present : goal.returns-in-Stays-clause-present
returns-in-Stays-clause-present g c told =
    let m : BlockState = g.B.Blocks.state c.args.blocks.now in
    sym (ap (λ (x : Part). x.present) (fare_part m c.args.plan.now Stays 0 c.args.index c.args.pointer c.size.ensures.consistent c.requires.plan (λ e. absurd (cc)) (omega arith) (inl (omega arith)) c.requires.pointer
    (fare_one m.holdings.size c.args.plan.now Stays c.args.index (fate_here m c.args.plan.now c.args.index c.div_ceil-leaves.result c.size.result Stays c.leaf_fate.result c.size.ensures.consistent c.leaf_fate.ensures c.in-Stays.is c.div_ceil-leaves.ensures c.size.ensures.size)) told))

pub returns-in_ok-give_up_below-in-Goes-clause-built : goal.returns-in_ok-give_up_below-in-Goes-clause-built
returns-in_ok-give_up_below-in-Goes-clause-built g c =
    let m : BlockState = g.B.Blocks.state c.args.blocks.now in
    gone_onto m (g.B.Blocks.state c.give_up_below.new.blocks) c.args.plan.now 0 c.args.index c.args.work.now c.give_up_below.new.work c.size.ensures.consistent c.requires.plan (omega arith) (inl (omega arith))
    (fare_one m.holdings.size c.args.plan.now Goes c.args.index (fate_here m c.args.plan.now c.args.index c.div_ceil-leaves.result c.size.result Goes c.leaf_fate.result c.size.ensures.consistent c.leaf_fate.ensures c.in-Goes.is c.div_ceil-leaves.ensures c.size.ensures.size))
    c.give_up_below.ensures.reads.keeps c.in_ok-give_up_below-in-Goes.ensures.gone

pub returns-in_ok-give_up_below-in-Goes-clause-changed : goal.returns-in_ok-give_up_below-in-Goes-clause-changed
returns-in_ok-give_up_below-in-Goes-clause-changed g c told =
    let m : BlockState = g.B.Blocks.state c.args.blocks.now in
    sym (ap (λ (x : Part). x.changed) (fare_part m c.args.plan.now Goes 0 c.args.index c.args.pointer c.size.ensures.consistent c.requires.plan (λ e. absurd (cc)) (omega arith) (inl (omega arith)) c.requires.pointer
    (fare_one m.holdings.size c.args.plan.now Goes c.args.index (fate_here m c.args.plan.now c.args.index c.div_ceil-leaves.result c.size.result Goes c.leaf_fate.result c.size.ensures.consistent c.leaf_fate.ensures c.in-Goes.is c.div_ceil-leaves.ensures c.size.ensures.size))
    (told_before m (g.B.Blocks.state c.give_up_below.new.blocks) c.give_up_below.ensures.reads.keeps told)))

pub returns-in_ok-give_up_below-in-Goes-clause-present : goal.returns-in_ok-give_up_below-in-Goes-clause-present
returns-in_ok-give_up_below-in-Goes-clause-present g c told =
    let m : BlockState = g.B.Blocks.state c.args.blocks.now in
    sym (ap (λ (x : Part). x.present) (fare_part m c.args.plan.now Goes 0 c.args.index c.args.pointer c.size.ensures.consistent c.requires.plan (λ e. absurd (cc)) (omega arith) (inl (omega arith)) c.requires.pointer
    (fare_one m.holdings.size c.args.plan.now Goes c.args.index (fate_here m c.args.plan.now c.args.index c.div_ceil-leaves.result c.size.result Goes c.leaf_fate.result c.size.ensures.consistent c.leaf_fate.ensures c.in-Goes.is c.div_ceil-leaves.ensures c.size.ensures.size))
    (told_before m (g.B.Blocks.state c.give_up_below.new.blocks) c.give_up_below.ensures.reads.keeps told)))

pub returns-in_ok-written_leaf-in-Written-clause-built : goal.returns-in_ok-written_leaf-in-Written-clause-built
returns-in_ok-written_leaf-in-Written-clause-built g c =
    let m : BlockState = g.B.Blocks.state c.args.blocks.now in
    leaf_onto m (g.B.Blocks.state c.written_leaf.new.blocks) c.args.plan.now c.args.index c.args.pointer _ c.args.work.now c.written_leaf.new.work c.size.ensures.consistent c.requires.plan c.requires.pointer
    (fate_here m c.args.plan.now c.args.index c.div_ceil-leaves.result c.size.result Written c.leaf_fate.result c.size.ensures.consistent c.leaf_fate.ensures c.in-Written.is c.div_ceil-leaves.ensures c.size.ensures.size)
    c.in_ok-written_leaf-in-Written.ensures.written

pub returns-in_ok-written_leaf-in-Written-clause-changed : goal.returns-in_ok-written_leaf-in-Written-clause-changed
returns-in_ok-written_leaf-in-Written-clause-changed g c told =
    let m : BlockState = g.B.Blocks.state c.args.blocks.now in
    sym (ap (λ (x : Part). x.changed) (written_part m c.args.plan.now c.args.index (record { consistent = c.size.ensures.consistent; met = c.requires.plan; told = c.in_ok-written_leaf-in-Written.ensures.written.adds.takes.told_before told })
    (fate_here m c.args.plan.now c.args.index c.div_ceil-leaves.result c.size.result Written c.leaf_fate.result c.size.ensures.consistent c.leaf_fate.ensures c.in-Written.is c.div_ceil-leaves.ensures c.size.ensures.size)))

pub returns-in_ok-written_leaf-in-Written-clause-present : goal.returns-in_ok-written_leaf-in-Written-clause-present
returns-in_ok-written_leaf-in-Written-clause-present g c told =
    let m : BlockState = g.B.Blocks.state c.args.blocks.now in
    sym (ap (λ (x : Part). x.present) (written_part m c.args.plan.now c.args.index (record { consistent = c.size.ensures.consistent; met = c.requires.plan; told = c.in_ok-written_leaf-in-Written.ensures.written.adds.takes.told_before told })
    (fate_here m c.args.plan.now c.args.index c.div_ceil-leaves.result c.size.result Written c.leaf_fate.result c.size.ensures.consistent c.leaf_fate.ensures c.in-Written.is c.div_ceil-leaves.ensures c.size.ensures.size)))

pub returns-in-Stays-clause-reaches : goal.returns-in-Stays-clause-reaches
returns-in-Stays-clause-reaches g c =
    let m : BlockState = g.B.Blocks.state c.args.blocks.now in
    onto_none m m c.args.work.now c.args.work.now c.args.plan.now (one_block 0 c.args.index) _ (Takes-same m) refl (unwritten_leaf m c.args.plan.now c.args.index c.div_ceil-leaves.result Stays c.in-Stays.ensures (λ e. cc))

pub returns-in-Stays-clause-marked : goal.returns-in-Stays-clause-marked
returns-in-Stays-clause-marked g c =
    let m : BlockState = g.B.Blocks.state c.args.blocks.now in
    marked_none m c.args.plan.now (one_block 0 c.args.index) _ _ (unwritten_leaf m c.args.plan.now c.args.index c.div_ceil-leaves.result Stays c.in-Stays.ensures (λ e. cc))

pub returns-in_ok-give_up_below-in-Goes-clause-reaches : goal.returns-in_ok-give_up_below-in-Goes-clause-reaches
returns-in_ok-give_up_below-in-Goes-clause-reaches g c =
    let m : BlockState = g.B.Blocks.state c.args.blocks.now in
    let n : BlockState = g.B.Blocks.state c.give_up_below.new.blocks in
    onto_given_up m n n c.args.work.now c.give_up_below.new.work c.args.plan.now (LiesUnder (per_block m.holdings.size) (one_block 0 c.args.index)) _ (one_block 0 c.args.index) _
    (Takes-none m n c.give_up_below.ensures.reads.keeps) c.in_ok-give_up_below-in-Goes.ensures.gone
    (unwritten_leaf m c.args.plan.now c.args.index c.div_ceil-leaves.result Goes c.in-Goes.ensures (λ e. cc))

pub returns-in_ok-give_up_below-in-Goes-clause-marked : goal.returns-in_ok-give_up_below-in-Goes-clause-marked
returns-in_ok-give_up_below-in-Goes-clause-marked g c =
    let m : BlockState = g.B.Blocks.state c.args.blocks.now in
    marked_none m c.args.plan.now (one_block 0 c.args.index) _ _ (unwritten_leaf m c.args.plan.now c.args.index c.div_ceil-leaves.result Goes c.in-Goes.ensures (λ e. cc))

pub returns-in_ok-written_leaf-in-Written-clause-reaches : goal.returns-in_ok-written_leaf-in-Written-clause-reaches
returns-in_ok-written_leaf-in-Written-clause-reaches g c =
    onto_leaf (g.B.Blocks.state c.args.blocks.now) (g.B.Blocks.state c.written_leaf.new.blocks) c.args.work.now c.written_leaf.new.work c.args.plan.now c.args.index c.args.pointer _ c.in_ok-written_leaf-in-Written.ensures.written
