use Rattle.std.proofs.Common.{◌≡◌, take, true}
use Rattle.std.specs.Prelude.{◌==◌}
use Rattle.std.specs.List.{list_all}
use Rattle.qx_geom.specs.Pointer.{absent}
use Rattle.qx_walk.proofs.layout.is_empty_root.Given as goal

abbrev pub invariant-loop-index : goal.invariant-loop-index
invariant-loop-index l = list_all (λ p. p == absent) (take l.index l.node.pointers) ≡ true
