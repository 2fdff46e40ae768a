-- When bytes are a valid superblock.
use Rattle.std.specs.Prelude.{Result}
use Rattle.std.specs.Result.{result_ok}
use Rattle.std.proofs.Common.{◌≡◌, ℕ, ◌-◌, Bool, true, List, Ok, Err, Option, Some, length, take, drop, sym, ap, ◌∙◌, eq-eqb, arith, length-drop, if◌then◌else◌}
use Rattle.std.proofs.lemmas.List.{take_all}
use Rattle.qx_fields.specs.declared.order.Order.{Order}
use Rattle.qx_fields.specs.Number.{field}
use Rattle.qx_super.specs.declared.superblock.SuperFault.TheVariants.{Checksum, Geometry}
use Rattle.qx_super.specs.Checksum.{checksum_of}
use Rattle.qx_super.specs.Superblock.{fields_in, order_of, fits_device, valid_in, superblock_of, Superblock}
use Rattle.qx_super.specs.declared.superblock.SuperFault.{SuperFault}

-- the bytes from 8 on, as the code takes them
pub from_eight : (bytes : List ℕ) → take (length bytes - 8) (drop 8 bytes) ≡ drop 8 bytes
from_eight bytes = take_all (length bytes - 8) (drop 8 bytes) (omega (arith, length-drop 8 bytes))

-- all three tests passed
pub superblock_of_valid : (order : Order) (bytes : List ℕ) (len : ℕ) → Some order ≡ order_of bytes
    → field order 4 bytes 4 ≡ checksum_of (take (length bytes - 8) (drop 8 bytes)) → fits_device (fields_in order bytes) len ≡ true
    → superblock_of bytes len ≡ Ok (fields_in order bytes)
superblock_of_valid order bytes len magic sum fits =
    ap (λ (o : Option Order). valid_in o bytes len) (sym magic)
    ∙ ap (λ (b : Bool). if b then (if fits_device (fields_in order bytes) len then Ok (fields_in order bytes) else Err Geometry) else Err Checksum)
    (eq-eqb (field order 4 bytes 4) (checksum_of (drop 8 bytes)) (sum ∙ ap checksum_of (from_eight bytes)))
    ∙ ap (λ (b : Bool). if b then Ok (fields_in order bytes) else Err Geometry) fits

-- of a result that has a value it is the value
pub ok_of : (r : Result Superblock SuperFault) (s : Superblock) → result_ok r ≡ Some s → r ≡ Ok s
ok_of (Ok x) s e = cc
ok_of (Err f) s e = absurd (cc)
