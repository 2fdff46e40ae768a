use Rattle.std.proofs.Common.{◌≡◌, ◌/◌, length}
use Rattle.qx_dir.specs.Rows.{found_from}
use Rattle.qx_dir.proofs.block.find.Given as goal

abbrev pub invariant-loop-place : goal.invariant-loop-place
invariant-loop-place l = found_from l.fn.order l.block l.place (length l.block / 32) l.name ≡ found_from l.fn.order l.block l.fn.from (length l.block / 32) l.name
