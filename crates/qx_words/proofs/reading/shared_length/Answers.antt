use Rattle.std.proofs.Common.{ℕ, List, drop, ap, ◌∙◌, arith}
use Rattle.std.proofs.Math.ListN.{drop_of_length-le}
use Rattle.qx_words.specs.Reading.{shared}
use Rattle.qx_words.proofs.NamedVerbs.{shared_end}
use Rattle.qx_words.proofs.reading.shared_length.Goals as goal

pub returns-else-count-bytes-clause-shared : goal.returns-else-count-bytes-clause-shared
returns-else-count-bytes-clause-shared c =
    let l = c.loop-count in
    let none = ap (λ (ys : List ℕ). shared (drop l.count c.args.name.now) ys) (drop_of_length-le c.args.bytes.now c.if-count-bytes.false) ∙ shared_end (drop l.count c.args.name.now) in
    omega (arith, l.invariant.so_far, none)
