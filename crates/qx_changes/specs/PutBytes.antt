-- Bytes that are to be put.
use Rattle.std.specs.Prelude.{ℕ, List, replicate}
use Rattle.qx_changes.specs.declared.putting.Bytes.{Bytes}
use Rattle.qx_changes.specs.declared.putting.Bytes.TheVariants.{These, Same}

-- what they are: those that are lent, or one again and again
abbrev pub bytes_of : Bytes → List ℕ
bytes_of (These bytes) = bytes.now
bytes_of (Same byte count) = replicate count byte
