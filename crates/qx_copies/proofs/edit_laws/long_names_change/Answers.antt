use Rattle.qx_copies.proofs.ShownNames.{shows_names}
use Rattle.qx_copies.proofs.edit_laws.long_names_change.Goals as goal

pub returns : goal.returns
returns c = shows_names
