-- What a directory record and a long name are written as.
use Rattle.std.specs.Prelude.{ℕ, ◌-◌, List, [], ◌∷◌, length, replicate}
use Rattle.std.specs.List.{concat}
use Rattle.qx_fields.specs.declared.order.Order.{Order}
use Rattle.qx_fields.specs.Number.{digits}

-- the 32 bytes of a row with its name: inode, length, name, and 0 behind it
unfoldable pub short_bytes : Order → ℕ → List ℕ → List ℕ
short_bytes order inode name = concat (digits order 4 inode ∷ (length name ∷ []) ∷ name ∷ replicate (27 - length name) 0 ∷ [])

-- the 32 bytes of a row whose name is a long one: inode, length 255, three bytes 0, the name's number and checksum, and 0 behind them
unfoldable pub long_bytes : Order → ℕ → ℕ → ℕ → List ℕ
long_bytes order inode number sum = concat (digits order 4 inode
    ∷ (255 ∷ [])
    ∷ replicate 3 0
    ∷ digits order 4 number
    ∷ digits order 4 sum
    ∷ replicate 16 0
    ∷ [])

-- the bytes of a leaf of this size with a long name: length, name, and 0 behind it
unfoldable pub long_name_bytes : Order → ℕ → List ℕ → List ℕ
long_name_bytes order size name = concat (digits order 2 (length name) ∷ name ∷ replicate (size - 2 - length name) 0 ∷ [])
