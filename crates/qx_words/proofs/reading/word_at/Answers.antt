use Rattle.std.proofs.Common.{arith}
use Rattle.qx_words.proofs.NamedVerbs.{word_more}
use Rattle.qx_words.proofs.reading.word_at.Goals as goal

pub loop-end-preserved : goal.loop-end-preserved
loop-end-preserved c =
    let l = c.loop-end in
    record {
      so_far = word_more c.args.line.now c.args.at l.end l.invariant.from c.loop-end-test.true c.if-line-end-ne32.true l.invariant.so_far;
      from = omega (arith, l.invariant.from);
      within = omega (arith, c.loop-end-test.true);
    }
