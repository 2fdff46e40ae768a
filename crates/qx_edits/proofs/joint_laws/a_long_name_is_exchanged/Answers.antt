use Rattle.qx_edits.proofs.ExchangedNames.{name_exchanged}
use Rattle.qx_edits.proofs.joint_laws.a_long_name_is_exchanged.Goals as goal

pub returns : goal.returns
returns c = λ order blocksize k q name change a b pos over named short room size written gone is. name_exchanged order blocksize k q name change a b pos over named short room size written gone is
