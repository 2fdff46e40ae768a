use Rattle.qx_edits.proofs.PutRecords.{record_put}
use Rattle.qx_edits.proofs.put_laws.a_record_is_put.Goals as goal

pub returns : goal.returns
returns c = λ order blocksize k raw bytes change a b holds over whole low size written none wide says is. record_put order blocksize k raw bytes change a b holds over whole low size written none wide says is
