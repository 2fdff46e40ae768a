use Rattle.std.proofs.Common.{◌≡◌, ◌+◌, ◌-◌, ◌≤◌, length, drop}
use Rattle.qx_words.specs.Reading.{shared}
use Rattle.qx_words.proofs.reading.shared_length.Given as goal

abbrev pub invariant-loop-count : goal.invariant-loop-count
invariant-loop-count l = record {
  so_far : l.count + shared (drop l.count l.name) (drop l.count l.bytes) ≡ shared l.name l.bytes;
  within : l.count ≤ length l.bytes;
  of_name : l.count ≤ length l.name;
}

abbrev pub decreases-loop-count : goal.decreases-loop-count
decreases-loop-count l = length l.initial.bytes - l.count
