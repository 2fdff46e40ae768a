use Rattle.qx_fields.proofs.Fields.{field_range}
use Rattle.qx_fields.proofs.laws.a_field_of_a_range.Goals as goal

pub returns : goal.returns
returns c = field_range
