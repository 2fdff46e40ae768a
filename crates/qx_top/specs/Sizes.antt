-- Sizes as words, and the numbers of a volume that is asked for.
use Rattle.std.specs.Prelude.{ℕ, ◌*◌, ◌-◌, ◌/◌, ◌^◌, min, max, Bool, false, ◌&&◌, ◌==◌, List, [], ◌∷◌, length, take, codes, nat_lt, Option, Some, None, Result, if◌then◌else◌}
use Rattle.std.specs.List.{ends_with}
use Rattle.std.specs.Str.{all_ascii_digits}
use Rattle.std.specs.Str.Parse.{digits_value}
use Rattle.qx_fields.specs.declared.order.Order.TheVariants.{Little}
use Rattle.qx_geom.specs.declared.geometry.GeomFault.{GeomFault}
use Rattle.qx_geom.specs.declared.geometry.Geometry.{Geometry}
use Rattle.qx_geom.specs.Layout.{geometry_of}
use Rattle.qx_make.specs.declared.options.MakeOptions.{MakeOptions}
use Rattle.qx_top.specs.declared.sizes.VolumeOptions.{VolumeOptions}

-- the word is decimal digits, one at least
abbrev pub is_number : List ℕ → Bool
is_number [] = false
is_number (digit ∷ digits) = all_ascii_digits (digit ∷ digits)

-- so many units as the digits say, where they are digits and the product is below 2^64
unfoldable pub units_of : ℕ → List ℕ → Option ℕ
units_of unit digits =
    if is_number digits && nat_lt (digits_value 10 digits * unit) (2 ^ 64) then Some (digits_value 10 digits * unit) else None

-- the word ends in this suffix
abbrev pub ends_in : List ℕ → List ℕ → Bool
ends_in word suffix = ends_with (λ a b. a == b) word suffix

-- the word without its last byte
abbrev pub but_last : List ℕ → List ℕ
but_last word = take (length word - 1) word

-- the bytes that a word says, if it does: digits, with K, M or G behind them for 2^10, 2^20 or 2^30 bytes
unfoldable pub size_of : List ℕ → Option ℕ
size_of word =
    if ends_in word (codes "K") then units_of (2 ^ 10) (but_last word)
    else if ends_in word (codes "M") then units_of (2 ^ 20) (but_last word)
    else if ends_in word (codes "G") then units_of (2 ^ 30) (but_last word)
    else units_of 1 word

-- ---- the numbers of a volume

-- its inodes, where none are asked for: one for each whole 4096 bytes, at least 16 and at most 2^20
abbrev pub inodes_of : ℕ → ℕ
inodes_of size = min (max (size / 4096) 16) 1048576

-- what a size alone asks for: blocks of 512 bytes, and numbers in little order
abbrev pub options_by_size : ℕ → VolumeOptions
options_by_size size = record { size = size; blocksize = 512; inodes = inodes_of size; order = Little }

-- the volume's numbers, or why they are those of none
abbrev pub volume_of : VolumeOptions → Result Geometry GeomFault
volume_of options = geometry_of options.size options.blocksize options.inodes

-- what the maker is asked for at a moment
abbrev pub options_of : VolumeOptions → ℕ → MakeOptions
options_of options moment =
    record {
      size = options.size;
      blocksize = options.blocksize;
      inodes = options.inodes;
      order = options.order;
      moment = moment;
    }
