use Rattle.qx_fields.proofs.Fields.{field_put_apart, byte_apart, length_put_field}
use Rattle.qx_fields.proofs.laws.what_lies_apart_stays.Goals as goal

pub returns-clause-field : goal.returns-clause-field
returns-clause-field c = field_put_apart

pub returns-clause-byte : goal.returns-clause-byte
returns-clause-byte c = byte_apart

pub returns-clause-long : goal.returns-clause-long
returns-clause-long c = length_put_field
