-- The low twelve bits of a mode, by name.
use Rattle.std.specs.Prelude.{ℕ, List, [], ◌∷◌, codes}

-- the names and the bits, from the highest on (POSIX's `S_ISUID` to `S_IXOTH`)
abbrev pub permission_bits : List (List ℕ × ℕ)
permission_bits =
    (codes "SET_USER_ID", 0x800)
    ∷ (codes "SET_GROUP_ID", 0x400)
    ∷ (codes "STICKY", 0x200)
    ∷ (codes "USER_READ", 0x100)
    ∷ (codes "USER_WRITE", 0x80)
    ∷ (codes "USER_EXECUTE", 0x40)
    ∷ (codes "GROUP_READ", 0x20)
    ∷ (codes "GROUP_WRITE", 0x10)
    ∷ (codes "GROUP_EXECUTE", 0x8)
    ∷ (codes "OTHER_READ", 0x4)
    ∷ (codes "OTHER_WRITE", 0x2)
    ∷ (codes "OTHER_EXECUTE", 0x1)
    ∷ []
