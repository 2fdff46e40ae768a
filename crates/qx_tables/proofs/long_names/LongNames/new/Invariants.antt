use Rattle.std.proofs.Common.{◌≡◌, take}
use Rattle.std.specs.Prelude.{map}
use Rattle.qx_tables.proofs.LongLeaves.{unnamed_leaf}
use Rattle.qx_tables.proofs.long_names.LongNames.new.Given as goal

-- the leaves so far are kept, none of them named
abbrev pub invariant-loop-place : goal.invariant-loop-place
invariant-loop-place l = l.kept.items ≡ map unnamed_leaf (take l.place-index l.leaves)
