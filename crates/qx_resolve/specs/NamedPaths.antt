-- A path that ends in a name, as it lies in memory.
use Rattle.std.specs.Prelude.{◌≡◌, true}
use Rattle.qx_path.specs.Names.{names_in}
use Rattle.qx_path.specs.PathParts.{is_name}
use Rattle.qx_model.specs.Paths.{Named}
use Rattle.qx_resolve.specs.declared.named.Named.TheInside.{Inside}

-- the names before the last, and that
abbrev pub named_path : Inside → Named
named_path s = record { parents = record { absolute = s.absolute; names = names_in s.parents.now }; name = s.name.now }

-- the last name is one that a row may have
abbrev pub HasName : Inside → Type 0
HasName s = is_name s.name.now ≡ true
