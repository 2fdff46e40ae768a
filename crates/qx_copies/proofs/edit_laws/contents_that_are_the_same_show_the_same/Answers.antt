use Rattle.qx_copies.proofs.ShownContents.{shows_alike}
use Rattle.qx_copies.proofs.edit_laws.contents_that_are_the_same_show_the_same.Goals as goal

pub returns : goal.returns
returns c = shows_alike
