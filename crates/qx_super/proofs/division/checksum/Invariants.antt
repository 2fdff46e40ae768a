use Rattle.std.proofs.Common.{◌≡◌, take}
use Rattle.qx_super.specs.Checksum.{checksum_of}
use Rattle.qx_super.proofs.division.checksum.Given as goal

abbrev pub invariant-loop-byte : goal.invariant-loop-byte
invariant-loop-byte l = l.sum ≡ checksum_of (take l.byte-index l.bytes)
