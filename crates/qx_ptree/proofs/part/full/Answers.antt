use Rattle.std.proofs.Common.{arith}
use Rattle.qx_ptree.proofs.FullParts.{full-few, full-fits, full-more}
use Rattle.qx_ptree.proofs.part.full.Goals as goal

pub overflow_mul-blocks : goal.overflow_mul-blocks
overflow_mul-blocks c = omega (arith, full-fits c.args.words c.loop.blocks c.loop.counter c.requires.words.1 (omega (arith, c.requires.level)) c.loop.invariant.few)

pub overflow_add-blocks : goal.overflow_add-blocks
overflow_add-blocks c = omega (arith, full-fits c.args.words c.loop.blocks c.loop.counter c.requires.words.1 (omega (arith, c.requires.level)) c.loop.invariant.few)

pub loop-preserved : goal.loop-preserved
loop-preserved c = record {
  same = full-more c.args.words c.loop.blocks c.loop.counter c.loop.invariant.same;
  few = full-few c.args.words c.loop.blocks c.loop.counter c.requires.words.0 c.loop.invariant.few;
}
