-- Numbers as bytes in one of two orders.
use Rattle.std.specs.Prelude.{ℕ, ◌+◌, ◌*◌, List, length, map, slice_range}
use Rattle.std.specs.List.{flat_map, range_with_len, replace_range}
use Rattle.byteorder.specs.Endian.{big_number, little_number, big_bytes, little_bytes}
use Rattle.qx_fields.specs.declared.order.Order.{Order}
use Rattle.qx_fields.specs.declared.order.Order.TheVariants.{Little, Big}

-- the number that n bytes spell
abbrev pub number : Order → ℕ → List ℕ → ℕ
number Little n bytes = little_number n bytes
number Big n bytes = big_number n bytes

-- the n bytes that spell a number
abbrev pub digits : Order → ℕ → ℕ → List ℕ
digits Little n x = little_bytes n x
digits Big n x = big_bytes n x

-- the bytes that spell numbers of n bytes each, one after another
abbrev pub all_digits : Order → ℕ → List ℕ → List ℕ
all_digits order n xs = flat_map (digits order n) xs

-- the number of n bytes at a place
unfoldable pub field : Order → ℕ → List ℕ → ℕ → ℕ
field order n bytes at = number order n (slice_range bytes at (at + n))

-- so many numbers of n bytes each, one after another from a place on
unfoldable pub fields : Order → ℕ → ℕ → List ℕ → ℕ → List ℕ
fields order n count bytes at = map (λ k. field order n bytes (at + n * k)) (range_with_len 0 count)

-- the bytes with a number of n bytes at a place
unfoldable pub put_field : Order → ℕ → List ℕ → ℕ → ℕ → List ℕ
put_field order n bytes at x = replace_range bytes at (at + n) (digits order n x)

-- the bytes with numbers of n bytes each, one after another from a place on
unfoldable pub put_fields : Order → ℕ → List ℕ → ℕ → List ℕ → List ℕ
put_fields order n bytes at xs = replace_range bytes at (at + n * length xs) (all_digits order n xs)
