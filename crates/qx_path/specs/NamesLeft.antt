-- The names that are still to come.
use Rattle.std.specs.Prelude.{ℕ, List}
use Rattle.qx_path.specs.declared.names.Components.{Components}
use Rattle.qx_path.specs.Names.{names_in}

-- the names that are still to come
abbrev pub names_left : Components → List (List ℕ)
names_left components = names_in components.rest.now
