use Rattle.qx_view.proofs.EntryContents.{names_alike}
use Rattle.qx_view.proofs.laws.names_are_read_alike.Goals as goal

pub returns : goal.returns
returns c = names_alike
