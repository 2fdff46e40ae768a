use Rattle.std.proofs.Common.{false, true, sym, ◌∙◌}
use Rattle.qx_walk.proofs.LastFindings.{last_is}
use Rattle.qx_walk.proofs.layout.last_finding.Goals as goal

pub returns-else-has_right_counts : goal.returns-else-has_right_counts
returns-else-has_right_counts c = λ m len which size count written is none.
    sym (last_is m c.args.view.now len c.args.geometry.now which c.args.walked.now false size count c.requires.bounds.blocks written is none c.in_default.is (sym c.has_right_counts.ensures ∙ c.if-has_right_counts.false))

pub returns-then-has_right_counts : goal.returns-then-has_right_counts
returns-then-has_right_counts c = λ m len which size count written is none.
    sym (last_is m c.args.view.now len c.args.geometry.now which c.args.walked.now true size count c.requires.bounds.blocks written is none c.in_default.is (sym c.has_right_counts.ensures ∙ c.if-has_right_counts.true))
