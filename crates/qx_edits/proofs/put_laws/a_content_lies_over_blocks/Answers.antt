use Rattle.qx_edits.proofs.PutLeaves.{changed_over, put_over, told_over}
use Rattle.qx_edits.proofs.put_laws.a_content_lies_over_blocks.Goals as goal

pub returns-clause-told : goal.returns-clause-told
returns-clause-told c = told_over

pub returns-clause-changed : goal.returns-clause-changed
returns-clause-changed c = λ blocksize change a over low. changed_over blocksize change a over low

pub returns-clause-put : goal.returns-clause-put
returns-clause-put c = put_over
