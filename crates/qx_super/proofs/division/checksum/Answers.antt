use Rattle.qx_super.proofs.LongDivision.{checksum_none}
use Rattle.std.proofs.Common.{sym}
use Rattle.qx_super.proofs.division.checksum.Goals as goal

pub loop-byte-init : goal.loop-byte-init
loop-byte-init c = sym checksum_none
