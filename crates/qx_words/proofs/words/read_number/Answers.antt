use Rattle.std.proofs.Common.{ℕ, Option, drop, sym, ap, ◌∙◌, arith}
use Rattle.qx_words.specs.Reading.{number_by, number_from}
use Rattle.qx_words.proofs.WordSteps.{digits_end, digits_more, digits_start}
use Rattle.qx_words.proofs.words.read_number.Goals as goal

pub returns-in_default-clause-err : goal.returns-in_default-clause-err
unfolding number_from
returns-in_default-clause-err c =
    let a = c.args in
    rw c.bad_line.ensures (sym (ap (λ (o : Option ℕ). number_by o a.limit a.at a.stop (drop a.at a.line.now)) c.in_default.ensures.digit))

pub loop-longer-preserved : goal.loop-longer-preserved
loop-longer-preserved c =
    let l = c.loop-longer in
    let e = c.in-Some-longer_number.ensures in
    record {
      so_far = digits_more c.args.limit l.place c.args.stop l.n c.in-Some-longer_number.longer c.args.line.now _ l.invariant.so_far (sym e.number);
      within = omega (arith, e.within.0);
      most = e.within.1;
    }

pub returns-clause-ok : goal.returns-clause-ok
unfolding number_from
returns-clause-ok c =
    let a = c.args in
    let l = c.loop-longer in
    let end = digits_end a.limit l.place a.stop l.n a.line.now _ l.invariant.so_far (sym c.in_default-longer_number.ensures.number) in
    sym (ap (λ (o : Option ℕ). number_by o a.limit a.at a.stop (drop a.at a.line.now)) c.in-Some.ensures.digit) ∙ digits_start a.limit a.at a.stop c.in-Some.first a.line.now _ end
