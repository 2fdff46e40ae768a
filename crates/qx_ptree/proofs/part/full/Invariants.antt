use Rattle.std.proofs.Common.{◌≡◌, ◌≤◌, ◌*◌, ◌^◌, ◌+◌}
use Rattle.qx_ptree.specs.Parts.{full_below}
use Rattle.qx_ptree.proofs.part.full.Given as goal

-- the blocks of so many levels, which are few
abbrev pub invariant-loop : goal.invariant-loop
invariant-loop l = record { same : l.blocks ≡ full_below l.words l.counter; few : l.blocks + 1 ≤ 2 * l.words ^ l.counter }
