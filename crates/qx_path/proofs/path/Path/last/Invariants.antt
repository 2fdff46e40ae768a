use Rattle.std.proofs.Common.{◌≡◌}
use Rattle.std.specs.List.{last_or}
use Rattle.std.specs.Option.{option_copied}
use Rattle.qx_path.specs.NamesLeft.{names_left}
use Rattle.qx_path.specs.PathParts.{last_name}
use Rattle.qx_path.proofs.path.Path.last.Given as goal

abbrev pub invariant-loop-name : goal.invariant-loop-name
invariant-loop-name l = last_or (option_copied l.last) (names_left l.name-iterator) ≡ last_name l.fn.self
