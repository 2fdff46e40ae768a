use Rattle.qx_fields.proofs.Fields.{fields_read}
use Rattle.std.proofs.Common.{length, arith}
use Rattle.qx_fields.specs.declared.order.Order.TheVariants.{Little, Big}
use Rattle.qx_fields.proofs.number.get32s.Goals as goal

pub returns-in-Little : goal.returns-in-Little
returns-in-Little c = rw c.in-Little.is (fields_read Little 4 (length c.args.into.now) c.args.bytes.now c.args.at _ (omega arith) (omega arith) c.read_u32_into.ensures)

pub returns-in-Big : goal.returns-in-Big
returns-in-Big c = rw c.in-Big.is (fields_read Big 4 (length c.args.into.now) c.args.bytes.now c.args.at _ (omega arith) (omega arith) c.read_u32_into-in-Big.ensures)
