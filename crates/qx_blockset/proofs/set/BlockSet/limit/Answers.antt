use Rattle.std.proofs.Common.{sym, ◌∙◌, ap, length}
use Rattle.qx_blockset.proofs.MembersInWords.{length-members}
use Rattle.qx_blockset.proofs.set.BlockSet.limit.Goals as goal

pub returns : goal.returns
returns c = sym (length-members c.self.inside.words.items c.self.inside.limit) ∙ ap length c.self.view_is
