use Rattle.qx_placing.proofs.ShownShapes.{shown_made}
use Rattle.qx_placing.proofs.need_laws.an_edit_is_made_by_what_is_shown.Goals as goal

pub returns : goal.returns
returns c = λ order m c d t nodes ps e held tree laid has planned shows none sized written unwritten. shown_made order m c d t nodes ps e held tree laid has planned shows none sized written unwritten
