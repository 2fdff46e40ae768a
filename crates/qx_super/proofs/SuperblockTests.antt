-- What a valid superblock has passed, and on what that depends.
use Rattle.std.proofs.Common.{◌≡◌, ◌≢◌, ℕ, zero, suc, ◌+◌, ◌≤◌, ◌<◌, Bool, true, false, not, ◌&&◌, List, drop, Option, Some, None, Ok, Err, refl, ap, sym, ◌∙◌, arith, if◌then◌else◌}
use Rattle.std.specs.Prelude.{◌==◌, nat_le}
use Rattle.std.specs.Result.{result_ok}
use Rattle.std.proofs.lemmas.Bool.{ne_eqb, leb-true, le-leb}
use Rattle.qx_fields.specs.declared.order.Order.{Order}
use Rattle.qx_fields.specs.declared.order.Order.TheVariants.{Little, Big}
use Rattle.qx_fields.specs.Number.{field}
use Rattle.qx_geom.specs.Layout.{is_block_size}
use Rattle.qx_super.specs.Checksum.{checksum_of}
use Rattle.qx_super.specs.Superblock.{Superblock, fields_in, order_of, fits_device, second_place_of, valid_in, superblock_of, has_checksum_in, has_right_checksum}
use Rattle.qx_super.specs.declared.superblock.SuperFault.TheVariants.{Magic, Checksum, Geometry}

-- the tests that a valid superblock passed, one by one
record Passed (order : Option Order) (bytes : List ℕ) (len : ℕ) (s : Superblock) : Type 0 where
  sum : has_checksum_in order bytes ≡ true
  fits : fits_device s len ≡ true
  again : (other : ℕ) → fits_device s other ≡ true → valid_in order bytes other ≡ Ok s

-- what two tests in a row say of a value that passed both
both_passed : (sum fits : Bool) (v s : Superblock) → (if sum then (if fits then Ok v else Err Geometry) else Err Checksum) ≡ Ok s → (sum ≡ true) × (fits ≡ true) × (v ≡ s)
both_passed true true v s e = (refl, refl, cc e)
both_passed true false v s e = absurd (cc e)
both_passed false fits v s e = absurd (cc e)

passed : (order : Option Order) (bytes : List ℕ) (len : ℕ) (s : Superblock) → valid_in order bytes len ≡ Ok s → Passed order bytes len s
passed None bytes len s e = absurd (cc e)
passed (Some order) bytes len s e =
    let three = both_passed (field order 4 bytes 4 == checksum_of (drop 8 bytes)) (fits_device (fields_in order bytes) len) (fields_in order bytes) s e in
    record {
      sum = three.0;
      fits = ap (λ (v : Superblock). fits_device v len) (sym three.2) ∙ three.1;
      again = λ other fits.
          ap (λ (b : Bool). if b then (if fits_device (fields_in order bytes) other then Ok (fields_in order bytes) else Err Geometry) else Err Checksum) three.0
          ∙ ap (λ (v : Superblock). if fits_device v other then Ok v else Err Geometry) three.2
          ∙ ap (λ (b : Bool). if b then Ok s else Err Geometry) fits;
    }

-- the parts of a test of three
three_true : (a b c : Bool) → (a && (b && c)) ≡ true → (a ≡ true) × (b ≡ true) × (c ≡ true)
three_true true true true e = (refl, refl, refl)
three_true true true false e = absurd (cc e)
three_true true false c e = absurd (cc e)
three_true false b c e = absurd (cc e)

-- a number that is not found to be 0 is above it
above_zero : (n : ℕ) → not (n == 0) ≡ true → 0 < n
above_zero zero e = absurd (cc e)
above_zero (suc n) e = omega arith

module _ (bytes : List ℕ) (len : ℕ) (s : Superblock) (valid : superblock_of bytes len ≡ Ok s) where
  tests : Passed (order_of bytes) bytes len s
  tests = passed (order_of bytes) bytes len s valid

  -- the three tests of the geometry
  geometry : (is_block_size s.blocksize ≡ true) × (not (s.num_blocks == 0) ≡ true) × (nat_le (second_place_of s + 512) len ≡ true)
  geometry = three_true (is_block_size s.blocksize) (not (s.num_blocks == 0)) (nat_le (second_place_of s + 512) len) tests.fits

  pub valid-checksum : has_right_checksum bytes ≡ true
  valid-checksum = tests.sum

  pub valid-blocksize : is_block_size s.blocksize ≡ true
  valid-blocksize = geometry.0

  pub valid-blocks : 0 < s.num_blocks
  valid-blocks = above_zero s.num_blocks geometry.1

  pub valid-room : second_place_of s + 512 ≤ len
  valid-room = leb-true (second_place_of s + 512) len geometry.2

  -- it is valid on every device that has room for it
  pub valid-elsewhere : (other : ℕ) → second_place_of s + 512 ≤ other → superblock_of bytes other ≡ Ok s
  valid-elsewhere other room =
      tests.again other (ap (λ (b : Bool). b && (not (s.num_blocks == 0) && nat_le (second_place_of s + 512) other)) geometry.0
      ∙ ap (λ (b : Bool). b && nat_le (second_place_of s + 512) other) geometry.1
      ∙ le-leb (second_place_of s + 512) other room)

-- one of two tests fails
wrong_sum : (sum fits : Bool) (v : Superblock) → (sum ≡ true → ⊥) → result_ok (if sum then (if fits then Ok v else Err Geometry) else Err Checksum) ≡ None
wrong_sum true fits v wrong = absurd (wrong refl)
wrong_sum false fits v wrong = refl

without_sum : (order : Option Order) (bytes : List ℕ) (len : ℕ) → (has_checksum_in order bytes ≡ true → ⊥) → result_ok (valid_in order bytes len) ≡ None
without_sum None bytes len wrong = refl
without_sum (Some order) bytes len wrong =
    wrong_sum (field order 4 bytes 4 == checksum_of (drop 8 bytes)) (fits_device (fields_in order bytes) len) (fields_in order bytes) wrong

-- bytes without a right checksum are no superblock
pub superblock_of-wrong : (bytes : List ℕ) (len : ℕ) → (has_right_checksum bytes ≡ true → ⊥) → result_ok (superblock_of bytes len) ≡ None
superblock_of-wrong bytes len wrong = without_sum (order_of bytes) bytes len wrong

-- other bytes than the magic's in both orders
pub superblock_of-other : (bytes : List ℕ) (len : ℕ) → field Little 4 bytes 0 ≢ 0x68191122 → field Big 4 bytes 0 ≢ 0x68191122 → superblock_of bytes len ≡ Err Magic
unfolding order_of
superblock_of-other bytes len little big =
    ap (λ (b : Bool). valid_in (if b then Some Little else (if field Big 4 bytes 0 == 0x68191122 then Some Big else None)) bytes len) (ne_eqb (field Little 4 bytes 0) 0x68191122 little)
    ∙ ap (λ (b : Bool). valid_in (if b then Some Big else None) bytes len) (ne_eqb (field Big 4 bytes 0) 0x68191122 big)
