use Rattle.qx_fields.proofs.Fields.{fields_put_same}
use Rattle.qx_fields.proofs.laws.numbers_that_are_put_are_read_back.Goals as goal

pub returns : goal.returns
returns c = fields_put_same
