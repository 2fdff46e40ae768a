-- Byte words: bytes written so that a word has no blank in it.
use Rattle.std.specs.Prelude.{◌≡◌, ℕ, ◌+◌, ◌*◌, ◌-◌, ◌<◌, Bool, true, not, ◌&&◌, ◌||◌, List, [], ◌∷◌, ◌++◌, length, Option, Some, None, nat_le, ◌==◌, if◌then◌else◌}

-- a byte that stands for itself: 0x21 to 0x7E but `\`, and 0x80 to 0xFF
abbrev pub is_plain : ℕ → Bool
is_plain b = (nat_le 0x21 b && nat_le b 0x7E && not (b == 92)) || (nat_le 0x80 b && nat_le b 0xFF)

-- the value of a hexadecimal digit, of either case
abbrev pub hex_value : ℕ → Option ℕ
hex_value c =
    if nat_le 48 c && nat_le c 57 then Some (c - 48)
    else if nat_le 97 c && nat_le c 102 then Some (c - 87)
    else if nat_le 65 c && nat_le c 70 then Some (c - 55)
    else None

-- what stands for one byte: the byte itself where it is plain, or `\` and two hexadecimal digits
pub data StandsFor : List ℕ → ℕ → Type 0 where
  itself : (b : ℕ) → is_plain b ≡ true → StandsFor (b ∷ []) b
  escaped : (high low h l : ℕ) → hex_value high ≡ Some h → hex_value low ≡ Some l → StandsFor (92 ∷ high ∷ low ∷ []) (16 * h + l)

-- what stands for bytes one after another
pub data Spells : List ℕ → List ℕ → Type 0 where
  nothing : Spells [] []
  more : {front rest bytes : List ℕ} {b : ℕ} → StandsFor front b → Spells rest bytes → Spells (front ++ rest) (b ∷ bytes)

-- a byte word stands for some bytes, and isn't empty
abbrev pub IsByteWord : List ℕ → List ℕ → Type 0
IsByteWord word bytes = (0 < length word) × Spells word bytes
