-- The checksum of a superblock: the remainder of a division of polynomials over bits, one bit at a time, the highest first.
use Rattle.std.specs.Prelude.{ℕ, ◌*◌, ◌-◌, ◌^◌, List, [], ◌∷◌, ◌++◌, fold, replicate, nat_lt, bit_xor, if◌then◌else◌}
use Rattle.std.specs.List.{flat_map}
use Rattle.std.specs.Int.{bit_at}

-- the divisor without its highest power, x^32
abbrev pub divisor : ℕ
divisor = 0x04C11DB7

-- a remainder times x, as a remainder
unfoldable pub shift : ℕ → ℕ
shift r = if nat_lt r (2 ^ 31) then 2 * r else bit_xor (2 * r - 2 ^ 32) divisor

-- the remainder after one more bit of the dividend
unfoldable pub divided : ℕ → ℕ → ℕ
divided r bit = bit_xor (shift r) bit

-- what is left when all bits of the dividend were taken, from 0 on
abbrev pub remainder : List ℕ → ℕ
remainder bits = fold divided 0 bits

-- the bits of a byte, the highest first
abbrev pub bits_of : ℕ → List ℕ
bits_of b = bit_at b 7 ∷ bit_at b 6 ∷ bit_at b 5 ∷ bit_at b 4 ∷ bit_at b 3 ∷ bit_at b 2 ∷ bit_at b 1 ∷ bit_at b 0 ∷ []

-- the dividend: the bytes' bits, and 32 bits 0
abbrev pub dividend : List ℕ → List ℕ
dividend bytes = flat_map bits_of bytes ++ replicate 32 0

-- the checksum of bytes
unfoldable pub checksum_of : List ℕ → ℕ
checksum_of bytes = remainder (dividend bytes)
