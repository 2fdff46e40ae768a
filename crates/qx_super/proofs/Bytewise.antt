-- The checksum a byte at a time, as the table goes.
use Rattle.std.specs.Prelude.{ℕ, zero, suc, ◌*◌, ◌^◌, bit_xor}
use Rattle.qx_super.specs.Checksum.{shift}

-- a remainder times x^n
unfoldable pub shifts : ℕ → ℕ → ℕ
shifts zero r = r
shifts (suc n) r = shift (shifts n r)

-- the checksum with one more byte: the byte is added in the highest place, and eight shifts bring it through
unfoldable pub with_byte : ℕ → ℕ → ℕ
with_byte r byte = shifts 8 (bit_xor r (byte * 2 ^ 24))
