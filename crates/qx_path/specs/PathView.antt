-- A path as its bytes lie there.
use Rattle.std.specs.Prelude.{◌≡◌, Ok}
use Rattle.qx_path.specs.declared.path.Path.TheInside.{Inside}
use Rattle.qx_path.specs.PathParts.{PathParts, parts_of, path_of}

-- the path that the bytes are
abbrev pub path_in : Inside → PathParts
path_in a = parts_of a.bytes.now

-- the bytes are a path
abbrev pub IsRead : Inside → Type 0
IsRead a = path_of a.bytes.now ≡ Ok (parts_of a.bytes.now)
