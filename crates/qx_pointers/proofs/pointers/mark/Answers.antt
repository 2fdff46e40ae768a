use Rattle.std.proofs.Common.{sym, ◌∙◌, ap, arith}
use Rattle.qx_blockset.proofs.MembersInWords.{count-insert}
use Rattle.qx_blockset.specs.Members.{count_of}
use Rattle.qx_pointers.proofs.pointers.mark.Goals as goal

pub returns-clause-one : goal.returns-clause-one
returns-clause-one c = ap count_of c.insert.ensures ∙ count-insert c.args.met.now c.args.block (omega (arith, c.requires, c.if-block-visitor.false)) (sym c.has.ensures ∙ c.if-has.false)
