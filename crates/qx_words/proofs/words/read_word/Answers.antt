use Rattle.std.proofs.Common.{◌≡◌, [], ◌∷◌, ◌++◌, sym, ap, ◌∙◌, rules, arith}
use Rattle.qx_words.specs.Reading.{some_bytes, word_from}
use Rattle.qx_words.specs.declared.words.WordStep.TheVariants as step
use Rattle.qx_words.proofs.WordSteps.{is_empty_list, is_filled_list, no_bytes, some_bytes_there, word_step, with_bytes_first}
use Rattle.qx_words.proofs.words.read_word.Goals as goal
use Rattle.qx_words.proofs.words.read_word.Goals.{in-Whole+else-is_err, in-Inside}

pub returns-in-Fails-clause-err : goal.returns-in-Fails-clause-err
unfolding word_from
returns-in-Fails-clause-err c =
    let l = c.loop-byte in
    rw c.bad_line.ensures (sym (ap (some_bytes c.args.at) (word_step l.part l.place c.args.stop c.args.line.now l.bytes _ step.Fails l.invariant.so_far (sym c.in-Fails.ensures.step))))

pub loop-byte-preserved : goal.loop-byte-preserved
loop-byte-preserved c =
    let l = c.loop-byte in
    let a = c.args in
    elim c.match-step_at.branch [
      | in-Whole+else-is_err w ↦
          let e = w.in-Whole.ensures in
          let next = word_step l.part l.place a.stop a.line.now l.bytes _ (step.Whole w.in-Whole.byte) l.invariant.so_far (sym e.step) in
          let all : w.push.new.self ≡ l.bytes ++ w.in-Whole.byte ∷ [] = search rules in
          rw (w.bytes-is, w.part-is) (record { so_far = with_bytes_first l.bytes w.in-Whole.byte w.push.new.self _ _ next all; half = tt; within = omega (arith, e.part) })
      | in-Inside w ↦
          let e = w.in-Inside.ensures in
          let next = word_step l.part l.place a.stop a.line.now l.bytes _ (step.Inside w.in-Inside.next) l.invariant.so_far (sym e.step) in
          rw (w.bytes-is, w.part-is) (record { so_far = next; half = e.part.1; within = omega (arith, e.part.0) })
    ]

pub returns-then-is_empty-clause-err : goal.returns-then-is_empty-clause-err
unfolding word_from
returns-then-is_empty-clause-err c =
    let l = c.loop-byte in
    let end = word_step l.part l.place c.args.stop c.args.line.now l.bytes _ step.Ends l.invariant.so_far (sym c.in-Ends.ensures.step) in
    let empty = is_empty_list _ l.bytes _ c.bytes-3.ensures c.is_empty.ensures c.if-is_empty.true in
    rw c.bad_line-then-is_empty.ensures (sym (ap (some_bytes c.args.at) end) ∙ no_bytes c.args.at l.place l.bytes empty)

pub returns-clause-ok : goal.returns-clause-ok
unfolding word_from
returns-clause-ok c =
    let l = c.loop-byte in
    let end = word_step l.part l.place c.args.stop c.args.line.now l.bytes _ step.Ends l.invariant.so_far (sym c.in-Ends.ensures.step) in
    let some = is_filled_list _ l.bytes _ c.bytes-3.ensures c.is_empty.ensures c.if-is_empty.false in
    sym (ap (some_bytes c.args.at) end) ∙ some_bytes_there c.args.at l.place l.bytes some
