use Rattle.std.proofs.lemmas.Result.{err_from_is_err_and}
use Rattle.qx_words.proofs.ArgumentSteps.{arguments_fail}
use Rattle.qx_words.proofs.arguments.read_arguments.Goals as goal

pub returns-in_err-start-clause-err : goal.returns-in_err-start-clause-err
returns-in_err-start-clause-err c =
    let l = c.loop-i in
    let p = err_from_is_err_and c.from_residual.result c.from_residual.ensures.1 in
    rw (p.1, p.2, c.in_err-start.ensures.err.0)
    (arguments_fail c.args.wanted.now l.i l.place c.args.line.now l.arguments _ c.loop-i-test.true l.invariant.so_far c.in_err-start.ensures.err.1)
