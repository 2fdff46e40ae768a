use Rattle.qx_long.proofs.AbsentNumbers.{absent_hole, absent_none}
use Rattle.qx_ptree.proofs.FirstHoles.{past_lacks}
use Rattle.qx_long.proofs.laws.an_absent_number_has_a_hole.Goals as goal

pub returns-clause-below : goal.returns-clause-below
returns-clause-below c = absent_hole

pub returns-clause-past : goal.returns-clause-past
returns-clause-past c = past_lacks

pub returns-clause-unnamed : goal.returns-clause-unnamed
returns-clause-unnamed c = absent_none
