-- The numbers that are printed of tests and reasons.
use Rattle.std.specs.Prelude.{ℕ}
use Rattle.qx_view.specs.declared.findings.Code.{Code}
use Rattle.qx_view.specs.declared.findings.Code.TheVariants as codes
use Rattle.qx_view.specs.declared.reasons.Reason.{Reason}
use Rattle.qx_view.specs.declared.reasons.Reason.TheVariants as reasons

-- that of a test of the walk
abbrev pub code_number : Code → ℕ
code_number codes.Levels = 1
code_number codes.Pointer = 2
code_number codes.Twice = 3
code_number codes.NoInode = 4
code_number codes.Kind = 5
code_number codes.LinkSize = 6
code_number codes.Record = 7
code_number codes.LongName = 8
code_number codes.LongSum = 9
code_number codes.SameName = 10
code_number codes.NameByte = 11
code_number codes.Dots = 12
code_number codes.DirTwice = 13
code_number codes.Tail = 14
code_number codes.Counts = 15

-- that of a reason for which an image is foreign
abbrev pub reason_number : Reason → ℕ
reason_number reasons.Numbers = 1
reason_number reasons.Halves = 2
reason_number reasons.Bitmap = 3
reason_number reasons.Nodes = 4
reason_number reasons.Dots = 5
reason_number reasons.Inodes = 6
reason_number reasons.LongNames = 7
