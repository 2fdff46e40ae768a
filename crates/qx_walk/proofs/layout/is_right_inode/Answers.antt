use Rattle.std.proofs.Common.{sym, ◌∙◌}
use Rattle.qx_walk.proofs.ForeignInodes.{other_right, reached_right}
use Rattle.qx_walk.proofs.layout.is_right_inode.Goals as goal

pub returns-then-has : goal.returns-then-has
returns-then-has c = λ m r is. reached_right m r c.args.walked.now is c.args.n c.is_written_inode.result c.requires.place (sym c.has.ensures ∙ c.if-has.true) (c.is_written_inode.ensures m r is.inodes)

pub returns : goal.returns
returns c = λ m r is. other_right m r c.args.walked.now is c.args.n c.is_zero.result c.requires.place (sym c.has.ensures ∙ c.if-has.false) (c.is_zero.ensures m r.inodes is.inodes)
