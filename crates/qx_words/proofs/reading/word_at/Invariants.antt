use Rattle.std.proofs.Common.{◌≡◌, ◌-◌, ◌≤◌, ◌++◌, length, drop, take}
use Rattle.qx_words.specs.Reading.{first_word}
use Rattle.qx_words.proofs.reading.word_at.Given as goal

abbrev pub invariant-loop-end : goal.invariant-loop-end
invariant-loop-end l = record {
  so_far : take (l.end - l.at) (drop l.at l.line) ++ first_word (drop l.end l.line) ≡ first_word (drop l.at l.line);
  from : l.at ≤ l.end;
  within : l.end ≤ length l.line;
}

abbrev pub decreases-loop-end : goal.decreases-loop-end
decreases-loop-end l = length l.initial.line - l.end
