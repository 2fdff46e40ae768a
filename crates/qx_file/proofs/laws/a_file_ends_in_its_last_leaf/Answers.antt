use Rattle.qx_file.proofs.PlannedChanges.{size_below}
use Rattle.qx_file.proofs.laws.a_file_ends_in_its_last_leaf.Goals as goal

pub returns : goal.returns
returns c = λ b size some. size_below b size some
