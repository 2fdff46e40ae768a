use Rattle.qx_fields.proofs.Fields.{field_put_same}
use Rattle.qx_fields.proofs.laws.a_number_that_is_put_is_read_back.Goals as goal

pub returns : goal.returns
returns c = field_put_same
