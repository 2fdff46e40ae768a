use Rattle.std.proofs.Common.{arith}
use Rattle.qx_super.proofs.TableEntries.{checksum_by_table}
use Rattle.qx_super.proofs.division.with_byte.Goals as goal

pub returns : goal.returns
returns c = λ bytes e. checksum_by_table bytes c.args.sum c.args.byte _ e (omega arith) (omega arith) c.from.ensures
