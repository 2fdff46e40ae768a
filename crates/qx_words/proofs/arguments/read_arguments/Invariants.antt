use Rattle.std.proofs.Common.{◌≡◌, ◌≤◌, length, drop}
use Rattle.qx_words.specs.Commands.{no_arguments}
use Rattle.qx_words.specs.Reading.{arguments_from}
use Rattle.qx_words.proofs.arguments.read_arguments.Given as goal

-- what is read of the rest, with the arguments so far, is what is read of all
abbrev pub invariant-loop-i : goal.invariant-loop-i
invariant-loop-i l = record {
  so_far : arguments_from (drop l.i l.wanted) l.place l.line l.arguments ≡ arguments_from l.wanted l.fn.at l.line no_arguments;
  within : l.place ≤ length l.line;
}
