-- What directory records and long names are written as, piece by piece, and that they are read back.
use Rattle.std.proofs.Common.{◌≡◌, ℕ, ◌+◌, ◌-◌, ◌<◌, ◌≤◌, ◌^◌, true, false, List, [], ◌∷◌, ◌++◌, length, replicate, drop, Some, refl, ap, sym, ◌∙◌, arith, lit<, append-nil}
use Rattle.std.specs.Prelude.{slice_range, slice_index, ◌==◌, nat_le}
use Rattle.std.proofs.lemmas.List.{length-replicate, drop-replicate}
use Rattle.std.proofs.lemmas.Bool.Decides.{nat_tests}
use Rattle.qx_bytes.proofs.Pieces.{Piece, joined, length-joined, range_of_piece, byte_of_range}
use Rattle.qx_fields.specs.declared.order.Order.{Order}
use Rattle.qx_fields.specs.declared.order.Order.TheVariants.{Little, Big}
use Rattle.qx_fields.specs.Number.{digits, field}
use Rattle.qx_fields.proofs.Fields.{length_digits, field_spelled}
use Rattle.qx_records.specs.NameRecord.{Long, Short, Unused, raw_in, long_name_in}
use Rattle.qx_records.specs.WrittenNames.{short_bytes, long_bytes, long_name_bytes}

-- a number of so many bytes
abbrev pub spelled : Order → ℕ → ℕ → Piece
spelled order n x = record { wide = n; bytes = digits order n x; long = length_digits order n x }

-- one byte
abbrev pub single : ℕ → Piece
single x = record { wide = 1; bytes = x ∷ []; long = refl }

-- so many bytes 0
abbrev pub blank : ℕ → Piece
blank n = record { wide = n; bytes = replicate n 0; long = length-replicate n 0 }

-- bytes as they are
abbrev pub plain : List ℕ → Piece
plain bytes = record { wide = length bytes; bytes = bytes; long = refl }

-- bytes 0 that are left behind a name
pub zeros_behind : (size at count : ℕ) → drop {A = ℕ} count (drop at (replicate size 0)) ≡ replicate (size - at - count) 0 ++ []
zeros_behind size at count =
    ap (λ (l : List ℕ). drop count l) (drop-replicate {X = ℕ} at size 0)
    ∙ drop-replicate {X = ℕ} count (size - at) 0
    ∙ sym (append-nil (replicate (size - at - count) 0))

-- ---- what is read where the fields of a record stand

module _ (order : Order) (bytes : List ℕ) where
  -- a row with its name
  pub raw_short : (inode count : ℕ) (name : List ℕ) → field order 4 bytes 0 ≡ inode → slice_index bytes 4 ≡ count → slice_range bytes 5 (5 + count) ≡ name → 0 < inode → 0 < count → count ≤ 27 → raw_in order bytes ≡ Short inode name
  unfolding raw_in
  raw_short inode count name inode_read count_read name_read used named short =
      let no_zero : (inode == 0) ≡ false = grind (arith, nat_tests) in
      let some : (count == 0) ≡ false = grind (arith, nat_tests) in
      let fits : nat_le count 27 ≡ true = grind (arith, nat_tests) in
      rw (inode_read, count_read, no_zero, some, fits, name_read) refl

  -- a row with a long name
  pub raw_long : (inode number sum : ℕ) → field order 4 bytes 0 ≡ inode → slice_index bytes 4 ≡ 255 → field order 4 bytes 8 ≡ number → field order 4 bytes 12 ≡ sum → 0 < inode → raw_in order bytes ≡ Long inode number sum
  unfolding raw_in
  raw_long inode number sum inode_read count_read number_read sum_read used =
      let no_zero : (inode == 0) ≡ false = grind (arith, nat_tests) in
      rw (inode_read, count_read, no_zero, number_read, sum_read) refl

  -- no row
  pub raw_unused : field order 4 bytes 0 ≡ 0 → raw_in order bytes ≡ Unused
  unfolding raw_in
  raw_unused inode_read = rw inode_read refl

  -- a long name
  pub long_name_read : (count : ℕ) (name : List ℕ) → field order 2 bytes 0 ≡ count → slice_range bytes 2 (2 + count) ≡ name → 0 < count → count ≤ 510 → long_name_in order bytes ≡ Some name
  unfolding long_name_in
  long_name_read count name count_read name_read named short =
      let some : (count == 0) ≡ false = grind (arith, nat_tests) in
      let fits : nat_le count 510 ≡ true = grind (arith, nat_tests) in
      rw (count_read, some, fits, name_read) refl

-- ---- the pieces

module _ (order : Order) (inode : ℕ) (name : List ℕ) where
  abbrev pub short_pieces : List Piece
  short_pieces = spelled order 4 inode ∷ single (length name) ∷ plain name ∷ blank (27 - length name) ∷ []

  pub short_bytes-is : short_bytes order inode name ≡ joined short_pieces []
  unfolding short_bytes
  short_bytes-is = refl

  pub length_short_bytes : length name ≤ 27 → length (short_bytes order inode name) ≡ 32
  length_short_bytes short = ap (λ (l : List ℕ). length l) short_bytes-is ∙ length-joined short_pieces [] ∙ (let e : 4 + (1 + (length name + (27 - length name + 0))) + 0 ≡ 32 = omega arith in e)

  pub raw_in-short_bytes : 0 < inode → inode < 2 ^ 32 → 0 < length name → length name ≤ 27 → raw_in order (short_bytes order inode name) ≡ Short inode name
  raw_in-short_bytes used small named short =
      let bytes = joined short_pieces [] in
      ap (λ (l : List ℕ). raw_in order l) short_bytes-is
      ∙ raw_short order bytes inode (length name) name
      (field_spelled order 4 inode bytes 0 small (range_of_piece 0 short_pieces [] (lit< tt)))
      (byte_of_range bytes 4 (length name) (range_of_piece 1 short_pieces [] (lit< tt)))
      (ap (λ (to : ℕ). slice_range bytes 5 to) (let e : 5 + length name ≡ 4 + (1 + (length name + 0)) = omega arith in e) ∙ range_of_piece 2 short_pieces [] (lit< tt))
      used named short

module _ (order : Order) (inode number sum : ℕ) where
  abbrev pub long_pieces : List Piece
  long_pieces = spelled order 4 inode ∷ single 255 ∷ blank 3 ∷ spelled order 4 number ∷ spelled order 4 sum ∷ blank 16 ∷ []

  pub long_bytes-is : long_bytes order inode number sum ≡ joined long_pieces []
  unfolding long_bytes
  long_bytes-is = refl

  pub length_long_bytes : length (long_bytes order inode number sum) ≡ 32
  length_long_bytes = ap (λ (l : List ℕ). length l) long_bytes-is ∙ length-joined long_pieces []

  pub raw_in-long_bytes : 0 < inode → inode < 2 ^ 32 → number < 2 ^ 32 → sum < 2 ^ 32 → raw_in order (long_bytes order inode number sum) ≡ Long inode number sum
  raw_in-long_bytes used small number_small sum_small =
      let bytes = joined long_pieces [] in
      ap (λ (l : List ℕ). raw_in order l) long_bytes-is
      ∙ raw_long order bytes inode number sum
      (field_spelled order 4 inode bytes 0 small (range_of_piece 0 long_pieces [] (lit< tt)))
      (byte_of_range bytes 4 255 (range_of_piece 1 long_pieces [] (lit< tt)))
      (field_spelled order 4 number bytes 8 number_small (range_of_piece 3 long_pieces [] (lit< tt)))
      (field_spelled order 4 sum bytes 12 sum_small (range_of_piece 4 long_pieces [] (lit< tt)))
      used

module _ (order : Order) (size : ℕ) (name : List ℕ) where
  abbrev pub long_name_pieces : List Piece
  long_name_pieces = spelled order 2 (length name) ∷ plain name ∷ blank (size - 2 - length name) ∷ []

  pub long_name_bytes-is : long_name_bytes order size name ≡ joined long_name_pieces []
  unfolding long_name_bytes
  long_name_bytes-is = refl

  pub length_long_name_bytes : 2 + length name ≤ size → length (long_name_bytes order size name) ≡ size
  length_long_name_bytes room = ap (λ (l : List ℕ). length l) long_name_bytes-is ∙ length-joined long_name_pieces [] ∙ (let e : 2 + (length name + (size - 2 - length name + 0)) + 0 ≡ size = omega arith in e)

  pub long_name_in-long_name_bytes : 0 < length name → length name ≤ 510 → long_name_in order (long_name_bytes order size name) ≡ Some name
  long_name_in-long_name_bytes named short =
      let bytes = joined long_name_pieces [] in
      ap (λ (l : List ℕ). long_name_in order l) long_name_bytes-is
      ∙ long_name_read order bytes (length name) name
      (field_spelled order 2 (length name) bytes 0 (omega arith) (range_of_piece 0 long_name_pieces [] (lit< tt)))
      (ap (λ (to : ℕ). slice_range bytes 2 to) (let e : 2 + length name ≡ 2 + (length name + 0) = omega arith in e) ∙ range_of_piece 1 long_name_pieces [] (lit< tt))
      named short

-- bytes 0 are no row
zero_at_first : (order : Order) → field order 4 (replicate 32 0) 0 ≡ 0
unfolding field
zero_at_first Little = refl
zero_at_first Big = refl

pub raw_in-zeros : (order : Order) → raw_in order (replicate 32 0) ≡ Unused
raw_in-zeros order = raw_unused order (replicate 32 0) (zero_at_first order)
