-- Numbers and modes as words.
use Rattle.std.specs.Prelude.{◌≡◌, ℕ, ◌+◌, ◌*◌, ◌-◌, ◌≤◌, Bool, true, ◌&&◌, List, length, fold, nat_le, decimal}
use Rattle.std.specs.List.{list_all}

-- a number is decimal, without sign or leading zero, and within bounds
abbrev pub IsNumber : ℕ → ℕ → List ℕ → ℕ → Type 0
IsNumber low high word n = (word ≡ decimal n) × (low ≤ n) × (n ≤ high)

-- `0` to `7`
abbrev pub is_octal_digit : ℕ → Bool
is_octal_digit c = nat_le 48 c && nat_le c 55

-- the value of octal digits
abbrev pub octal_value : List ℕ → ℕ
octal_value word = fold (λ v c. 8 * v + (c - 48)) 0 word

-- a mode has one to four octal digits
abbrev pub IsMode : List ℕ → ℕ → Type 0
IsMode word m = (list_all is_octal_digit word ≡ true) × (1 ≤ length word) × (length word ≤ 4) × (m ≡ octal_value word)
