use Rattle.qx_edits.proofs.PutFiles.{file_sized, file_written}
use Rattle.qx_edits.proofs.put_laws.bytes_are_put_into_a_file.Goals as goal

pub returns-clause-written : goal.returns-clause-written
returns-clause-written c = λ blocksize at bytes change a b pos over past ends none is. file_written blocksize at bytes change a b pos over past none is ends

pub returns-clause-sized : goal.returns-clause-sized
returns-clause-sized c = λ blocksize at bytes change a b pos over past behind none is. file_sized blocksize at bytes change a b pos over past none is behind
