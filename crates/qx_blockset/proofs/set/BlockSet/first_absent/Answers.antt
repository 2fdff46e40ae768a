use Rattle.std.proofs.Common.{◌∙◌, ◌*◌, ◌+◌, arith, length}
use Rattle.std.proofs.lemmas.Nat.{or_lt}
use Rattle.qx_blockset.proofs.FirstAbsent.{AllIn-less, EndsAt, full-goes_on, free-ends, HasAll-in, has-in, limit-is}
use Rattle.qx_blockset.proofs.set.BlockSet.first_absent.Goals as goal

pub loop-place-preserved : goal.loop-place-preserved
loop-place-preserved c =
    full-goes_on c.self.inside.words.items c.args.from c.loop-place.place c.index.result.now c.bits_below.result
    (record { so_far = c.loop-place.invariant; inside = omega (arith, c.self.inside.words.ok.0); lies = c.index.ensures; below_from = c.bits_below.ensures }) c.if-word.false

pub returns-then-b-limit-clause-absent : goal.returns-then-b-limit-clause-absent
returns-then-b-limit-clause-absent c =
    let end : EndsAt c.self.inside.words.items c.args.from (c.loop-place.place * 64 + c.trailing_ones.result) = free-ends c.self.inside.words.items c.args.from c.loop-place.place c.index.result.now c.bits_below.result c.trailing_ones.result (record { so_far = c.loop-place.invariant; inside = omega (arith, c.self.inside.words.ok.0); lies = c.index.ensures; below_from = c.bits_below.ensures }) c.if-word.true (or_lt 64 c.index.result.now c.bits_below.result (omega arith) (omega arith)) c.trailing_ones.ensures in
    (end.low, omega (arith, limit-is c.self.inside c.args.self.now c.self.view_is), has-in c.self.inside c.args.self.now _ c.self.view_is (omega (arith, limit-is c.self.inside c.args.self.now c.self.view_is)) ∙ end.absent)

pub returns-then-b-limit-clause-least : goal.returns-then-b-limit-clause-least
returns-then-b-limit-clause-least c =
    let end : EndsAt c.self.inside.words.items c.args.from (c.loop-place.place * 64 + c.trailing_ones.result) = free-ends c.self.inside.words.items c.args.from c.loop-place.place c.index.result.now c.bits_below.result c.trailing_ones.result (record { so_far = c.loop-place.invariant; inside = omega (arith, c.self.inside.words.ok.0); lies = c.index.ensures; below_from = c.bits_below.ensures }) c.if-word.true (or_lt 64 c.index.result.now c.bits_below.result (omega arith) (omega arith)) c.trailing_ones.ensures in
    HasAll-in c.self.inside c.args.self.now c.args.from _ c.self.view_is (omega (arith, limit-is c.self.inside c.args.self.now c.self.view_is)) end.before

pub returns-else-b-limit-clause-none : goal.returns-else-b-limit-clause-none
returns-else-b-limit-clause-none c =
    let end : EndsAt c.self.inside.words.items c.args.from (c.loop-place.place * 64 + c.trailing_ones.result) = free-ends c.self.inside.words.items c.args.from c.loop-place.place c.index.result.now c.bits_below.result c.trailing_ones.result (record { so_far = c.loop-place.invariant; inside = omega (arith, c.self.inside.words.ok.0); lies = c.index.ensures; below_from = c.bits_below.ensures }) c.if-word.true (or_lt 64 c.index.result.now c.bits_below.result (omega arith) (omega arith)) c.trailing_ones.ensures in
    HasAll-in c.self.inside c.args.self.now c.args.from (length c.args.self.now) c.self.view_is (omega arith)
    (AllIn-less c.self.inside.words.items c.args.from _ _ (omega (arith, limit-is c.self.inside c.args.self.now c.self.view_is)) end.before)

pub returns-clause-none : goal.returns-clause-none
returns-clause-none c =
    HasAll-in c.self.inside c.args.self.now c.args.from (length c.args.self.now) c.self.view_is (omega arith)
    (AllIn-less c.self.inside.words.items c.args.from _ _ (omega (arith, c.self.invariant.words, c.self.inside.words.ok.0, limit-is c.self.inside c.args.self.now c.self.view_is)) c.loop-place.invariant)

pub overflow_mul-b : goal.overflow_mul-b
overflow_mul-b c = omega (arith, c.self.invariant.words, c.self.inside.words.ok.0)

pub overflow_add-b : goal.overflow_add-b
overflow_add-b c = omega (arith, c.self.invariant.words, c.self.inside.words.ok.0)
