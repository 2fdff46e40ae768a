use Rattle.std.proofs.Common.{rules, ◌≡◌, ◌+◌, ◌-◌, ◌≤◌, length, arith, subst, sym}
use Rattle.qx_geom.specs.Pointer.{per_block}
use Rattle.qx_blocks.specs.BlockState.{BlockState}
use Rattle.qx_ptree.proofs.PlannedPointers.{down_after, leads_after, planned_top}
use Rattle.qx_ptree.proofs.PointerCounts.{words_bounds}
use Rattle.qx_ptree.proofs.pointers.top_pointers.Goals as goal

pub loop-init : goal.loop-init
loop-init g c = record {
  pointers = λ told j low. planned_top (g.B.Blocks.state c.args.blocks.now) c.args.plan.now c.args.level j low;
  keeps = search rules;
  aside = search rules;
  faults = search rules;
}

pub read_pointers-requires-clause-room : goal.read_pointers-requires-clause-room
read_pointers-requires-clause-room g c =
    let words : 128 ≤ per_block (g.B.Blocks.state c.args.blocks.now).holdings.size = (words_bounds _ c.requires.consistent.size).0 in
    let long : length c.loop.pointers ≡ 16 = search rules in
    subst (λ h. length c.loop.pointers ≤ per_block h.size) (sym c.loop.invariant.keeps.holdings) (omega (arith, words, long))

pub read_pointers-requires-clause-leads : goal.read_pointers-requires-clause-leads
read_pointers-requires-clause-leads g c told =
    leads_after (g.B.Blocks.state c.args.blocks.now) (g.B.Blocks.state c.loop.blocks) c.args.plan.now (c.args.plan.now.node.levels + c.args.level - c.loop.counter) 0 _ c.requires.consistent c.requires.plan c.loop.invariant.keeps
    (c.loop.invariant.pointers told 0 (omega arith)) told

pub loop-preserved : goal.loop-preserved
loop-preserved g c =
    let old : BlockState = g.B.Blocks.state c.args.blocks.now in
    let mid : BlockState = g.B.Blocks.state c.loop.blocks in
    let long : length c.loop.pointers ≡ 16 = search rules in
    record {
      pointers = λ told j low. down_after old mid c.args.plan.now (c.args.plan.now.node.levels + c.args.level - c.loop.counter) (c.args.plan.now.node.levels + c.args.level - (c.loop.counter + 1)) j _ _ c.requires.consistent c.loop.invariant.keeps
          (omega (arith, c.loop-test.true, c.loop.auto.counter)) (omega (arith, c.loop-test.true, c.loop.auto.counter)) low
          (λ mid_told. c.loop.invariant.pointers mid_told 0 (omega arith)) (c.in_ok-read_pointers.ensures.reads.keeps.told told) told (c.in_ok-read_pointers.ensures.pointers told j (omega (arith, low, long)));
      keeps = search rules;
      aside = search rules;
      faults = search rules;
    }
