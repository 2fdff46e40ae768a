-- Bytes that are a path have its parts.
use Rattle.std.proofs.Common.{◌≡◌, Bool, true, false, if◌then◌else◌, List, ℕ, length, nat_lt, Ok, Err, ◌==◌}
use Rattle.std.specs.List.{list_any}
use Rattle.qx_path.specs.declared.fault.PathFault.TheVariants.{Empty, TooLong, NameTooLong, ZeroByte}
use Rattle.qx_path.specs.Names.{is_empty, names_in}
use Rattle.qx_path.specs.PathParts.{PathParts, parts_of, path_of}

-- where no test refuses them
parts_passed : (a b c d : Bool) (p q : PathParts) → (if a then Err Empty else if b then Err TooLong else if c then Err ZeroByte else if d then Err NameTooLong else Ok p) ≡ Ok q → q ≡ p
parts_passed true b c d p q h = absurd (cc)
parts_passed false true c d p q h = absurd (cc)
parts_passed false false true d p q h = absurd (cc)
parts_passed false false false true p q h = absurd (cc)
parts_passed false false false false p q h = cc

pub parts_read : (bytes : List ℕ) (p : PathParts) → path_of bytes ≡ Ok p → p ≡ parts_of bytes
parts_read bytes p is = parts_passed (is_empty bytes) (nat_lt 1023 (length bytes)) (list_any (λ byte. byte == 0) bytes) (list_any (λ name. nat_lt 510 (length name)) (names_in bytes)) (parts_of bytes) p is
