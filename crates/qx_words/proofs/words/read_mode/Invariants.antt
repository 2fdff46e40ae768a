use Rattle.std.proofs.Common.{◌≡◌, ◌-◌, ◌≤◌, ◌<◌, ◌+◌, length, drop}
use Rattle.qx_words.specs.Reading.{octal_from}
use Rattle.qx_words.proofs.words.read_mode.Given as goal

abbrev pub invariant-loop-longer : goal.invariant-loop-longer
invariant-loop-longer l = record {
  so_far : octal_from (l.fn.at + 4 - l.place) l.place l.stop l.mode (drop l.place l.line) ≡ octal_from 4 l.fn.at l.stop 0 (drop l.fn.at l.line);
  from : l.fn.at ≤ l.place;
  within : l.place ≤ length l.line;
  most : l.place ≤ l.fn.at + 4;
  none : l.place ≤ l.fn.at → l.mode ≡ 0;
  one : l.place ≤ l.fn.at + 1 → l.mode < 8;
  two : l.place ≤ l.fn.at + 2 → l.mode < 64;
  three : l.place ≤ l.fn.at + 3 → l.mode < 512;
  small : l.mode < 4096;
}

abbrev pub decreases-loop-longer : goal.decreases-loop-longer
decreases-loop-longer l = length l.line - l.place
