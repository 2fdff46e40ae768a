use Rattle.qx_edits.proofs.PutNames.{name_added, name_dropped}
use Rattle.qx_edits.proofs.put_laws.a_long_name_is_put.Goals as goal

pub returns-clause-added : goal.returns-clause-added
returns-clause-added c = λ order blocksize k name change a b pos over named short room size written none is. name_added order blocksize k name change a b pos over named short room size written none is

pub returns-clause-dropped : goal.returns-clause-dropped
returns-clause-dropped c = λ order blocksize k change a b pos over size written gone is. name_dropped order blocksize k change a b pos over size written gone is
