-- What a path is, and which bytes are one.
use Rattle.std.specs.Prelude.{ℕ, Bool, not, ◌&&◌, ◌||◌, List, length, Option, None, Result, Ok, Err, nat_lt, nat_le, ◌==◌, if◌then◌else◌}
use Rattle.std.specs.List.{list_all, list_any, last_or}
use Rattle.qx_path.specs.declared.fault.PathFault.{PathFault}
use Rattle.qx_path.specs.declared.fault.PathFault.TheVariants.{Empty, TooLong, NameTooLong, ZeroByte}
use Rattle.qx_path.specs.Names.{begins_with_slash, is_empty, is_slash, names_in}

-- whether a path begins at the root, and the names along it
pub record PathParts : Type 0 where
  pub absolute : Bool
  pub names : List (List ℕ)

-- what bytes say that are a path
abbrev pub parts_of : List ℕ → PathParts
parts_of bytes = record { absolute = begins_with_slash bytes; names = names_in bytes }

-- the path that bytes are, or why they are none
abbrev pub path_of : List ℕ → Result PathParts PathFault
path_of bytes =
    if is_empty bytes then Err Empty
    else if nat_lt 1023 (length bytes) then Err TooLong
    else if list_any (λ byte. byte == 0) bytes then Err ZeroByte
    else if list_any (λ name. nat_lt 510 (length name)) (names_in bytes) then Err NameTooLong
    else Ok (parts_of bytes)

-- the last name
abbrev pub last_name : PathParts → Option (List ℕ)
last_name path = last_or None path.names

-- a name has 1 to 510 bytes, none of them 0 or a slash
abbrev pub is_name : List ℕ → Bool
is_name name = nat_lt 0 (length name) && nat_le (length name) 510 && list_all (λ byte. not ((byte == 0) || is_slash byte)) name
