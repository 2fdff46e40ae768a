use Rattle.std.proofs.Common.{◌≡◌, length, nat_lt}
use Rattle.std.specs.List.{list_any}
use Rattle.qx_path.specs.NamesLeft.{names_left}
use Rattle.qx_path.proofs.path.has_long_name.Given as goal

abbrev pub invariant-loop-name : goal.invariant-loop-name
invariant-loop-name l =
    list_any (λ name. nat_lt 510 (length name)) (names_left l.name-iterator) ≡ list_any (λ name. nat_lt 510 (length name)) (names_left l.fn.names)
