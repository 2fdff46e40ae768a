use Rattle.std.proofs.Common.{ap, ◌∙◌}
use Rattle.qx_patch.specs.PatchView.{pairs_of}
use Rattle.qx_patch.proofs.EntriesComeAndGo.{pairs-remove}
use Rattle.qx_patch.proofs.patch.remove_entry.Goals as goal

pub returns-clause-pairs : goal.returns-clause-pairs
returns-clause-pairs c = ap pairs_of c.in-Some.ensures.items ∙ pairs-remove c.args.entries.now.items c.args.at
