use Rattle.std.proofs.Common.{◌≡◌, ℕ, ◌+◌, ◌-◌, drop, sym, ap, ◌∙◌, arith}
use Rattle.qx_words.specs.Reading.{octal_from, mode_from}
use Rattle.qx_words.proofs.WordSteps.{octal_end, octal_more, some_digits_here, some_digits_there}
use Rattle.qx_words.proofs.words.read_mode.Goals as goal

pub loop-longer-preserved : goal.loop-longer-preserved
loop-longer-preserved c =
    let a = c.args in
    let l = c.loop-longer in
    let e = c.in-Some.ensures in
    let i = l.invariant in
    let left : a.at + 4 - l.place - 1 ≡ a.at + 4 - (l.place + 1) = omega arith in
    record {
      so_far = ap (λ (k : ℕ). octal_from k (l.place + 1) a.stop c.in-Some.longer (drop (l.place + 1) a.line.now)) (sym left)
          ∙ octal_more (a.at + 4 - l.place) l.place a.stop l.mode c.in-Some.longer a.line.now _ i.so_far (sym e.mode);
      from = omega (arith, i.from);
      within = omega (arith, e.within.0);
      most = omega (arith, e.within.1);
      none = λ h. absurd (omega (arith, i.from, h));
      one = λ h. omega (arith, i.none (omega (arith, h)), e.within.2);
      two = λ h. omega (arith, i.one (omega (arith, h)), e.within.2);
      three = λ h. omega (arith, i.two (omega (arith, h)), e.within.2);
      small = omega (arith, i.three (omega (arith, e.within.1)), e.within.2);
    }

pub returns-then-place-at-clause-err : goal.returns-then-place-at-clause-err
unfolding mode_from
returns-then-place-at-clause-err c =
    let a = c.args in
    let l = c.loop-longer in
    rw c.bad_line.ensures (some_digits_here a.at l.mode l.place _ (octal_end (a.at + 4 - l.place) l.place a.stop l.mode a.line.now _ l.invariant.so_far (sym c.in_default.ensures.mode)) c.if-place-at.true)

pub returns-clause-ok : goal.returns-clause-ok
unfolding mode_from
returns-clause-ok c =
    let a = c.args in
    let l = c.loop-longer in
    some_digits_there a.at l.mode l.place _ (octal_end (a.at + 4 - l.place) l.place a.stop l.mode a.line.now _ l.invariant.so_far (sym c.in_default.ensures.mode)) c.if-place-at.false
