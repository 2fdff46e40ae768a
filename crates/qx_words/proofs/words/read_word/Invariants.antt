use Rattle.std.proofs.Common.{◌≡◌, ◌-◌, ◌≤◌, length, drop}
use Rattle.qx_words.specs.Reading.{IsPart, ahead, bytes_from}
use Rattle.qx_words.specs.declared.words.Part.TheVariants as part
use Rattle.qx_words.proofs.words.read_word.Given as goal

-- what is read of the rest, behind the bytes so far, is what is read of the whole word
abbrev pub invariant-loop-byte : goal.invariant-loop-byte
invariant-loop-byte l = record {
  so_far : ahead l.bytes (bytes_from l.part l.place l.stop (drop l.place l.line)) ≡ bytes_from part.Whole l.fn.at l.stop (drop l.fn.at l.line);
  half : IsPart l.part;
  within : l.place ≤ length l.line;
}

abbrev pub decreases-loop-byte : goal.decreases-loop-byte
decreases-loop-byte l = length l.line - l.place
