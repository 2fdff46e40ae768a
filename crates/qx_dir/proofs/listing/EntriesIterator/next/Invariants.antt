use Rattle.std.proofs.Common.{◌≡◌, length}
use Rattle.qx_dir.specs.Entries.{entries_of}
use Rattle.qx_dir.proofs.listing.EntriesIterator.next.Given as goal

abbrev pub invariant-loop-record : goal.invariant-loop-record
invariant-loop-record l = entries_of l.self-inside.records ≡ l.fn.self

abbrev pub decreases-loop-record : goal.decreases-loop-record
decreases-loop-record l = length l.self-inside.records
