use Rattle.qx_fields.proofs.Fields.{field_spelled, fields_spelled}
use Rattle.std.proofs.Common.{length, refl}
use Rattle.qx_fields.proofs.laws.what_is_spelled_is_read.Goals as goal

pub returns-clause-field : goal.returns-clause-field
returns-clause-field c = field_spelled

pub returns-clause-fields : goal.returns-clause-fields
returns-clause-fields c = λ order n xs bytes at. fields_spelled order n (length xs) xs bytes at refl
