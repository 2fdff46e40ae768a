use Rattle.std.proofs.Common.{◌≡◌, ◌-◌, ◌≤◌, ◌+◌, length, drop}
use Rattle.qx_words.specs.Reading.{digits_from}
use Rattle.qx_words.proofs.words.read_number.Given as goal

abbrev pub invariant-loop-longer : goal.invariant-loop-longer
invariant-loop-longer l = record {
  so_far : digits_from l.limit l.place l.stop l.n (drop l.place l.line) ≡ digits_from l.limit (l.fn.at + 1) l.stop l.first (drop (l.fn.at + 1) l.line);
  within : l.place ≤ length l.line;
  most : l.n ≤ l.limit;
}

abbrev pub decreases-loop-longer : goal.decreases-loop-longer
decreases-loop-longer l = length l.line - l.place
