-- The checksum of a long name, with its bytes read in one of two ways.
use Rattle.std.specs.Prelude.{ℕ, ◌+◌, ◌-◌, ◌^◌, ◌/◌, ◌%◌, Bool, ◌||◌, List, fold, nat_lt, ◌==◌, bit_xor, if◌then◌else◌}

-- the sum after one more byte, which counts as this value
abbrev pub next_sum : ℕ → ℕ → ℕ
next_sum sum value = bit_xor ((sum / 2 + value) % 2 ^ 32) (if sum % 2 == 1 then 2 ^ 31 else 0)

-- a byte as a signed one, modulo 2^32
abbrev pub signed_value : ℕ → ℕ
signed_value byte = if nat_lt byte 128 then byte else byte + 2 ^ 32 - 256

-- the checksum of a name's bytes
unfoldable pub name_sum_of : List ℕ → ℕ
name_sum_of name = fold next_sum 0 name

-- and that which takes them as signed ones
unfoldable pub name_sum_signed_of : List ℕ → ℕ
name_sum_signed_of name = fold (λ sum byte. next_sum sum (signed_value byte)) 0 name

-- a sum is the name's in one of the two ways
abbrev pub sum_fits : ℕ → List ℕ → Bool
sum_fits sum name = (sum == name_sum_of name) || (sum == name_sum_signed_of name)
