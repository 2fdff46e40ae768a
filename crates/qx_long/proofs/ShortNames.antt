-- A long name has 1 to 510 bytes.
use Rattle.std.proofs.Common.{◌≡◌, ℕ, ◌+◌, ◌-◌, ◌<◌, ◌≤◌, List, length, Option, Some, None, arith, refl, sym, ◌∙◌, ap, subst, Bor, drop, length-take-le}
use Rattle.std.proofs.lemmas.List.{length-drop}
use Rattle.std.specs.Option.{option_copied}
use Rattle.std.specs.Prelude.{Bool, true, false, not, ◌&&◌, ◌==◌, nat_le, if◌then◌else◌, slice_range, IfSome}
use Rattle.std.proofs.lemmas.Bool.{eqb-false, leb-true}
use Rattle.qx_fields.specs.declared.order.Order.{Order}
use Rattle.qx_fields.specs.Number.{field}
use Rattle.qx_records.specs.NameRecord.{long_name_in}

-- so many bytes
abbrev pub IsNameLength : ℕ → Type 0
IsNameLength n = (0 < n) × (n ≤ 510)

-- what isn't 0
positive : (n : ℕ) → (n == 0) ≡ false → 0 < n
positive n some = let other : n ≡ 0 → ⊥ = eqb-false n 0 some in omega arith

-- by the two tests on the length
by_tests : (a b : Bool) (count : ℕ) (bytes name : List ℕ) → (count == 0) ≡ a → nat_le count 510 ≡ b → 512 ≤ length bytes → (if not a && b then Some (slice_range bytes 2 (2 + count)) else None) ≡ Some name → IsNameLength (length name)
by_tests true b count bytes name some few long is = absurd (cc)
by_tests false false count bytes name some few long is = absurd (cc)
by_tests false true count bytes name some few long is =
    let same : slice_range bytes 2 (2 + count) ≡ name = cc in
    let low : count ≤ 510 = leb-true count 510 few in
    let all : 2 + count - 2 ≡ count = omega arith in
    let room : 2 + count - 2 ≤ length (drop 2 bytes) = omega (arith, length-drop 2 bytes, low, long) in
    let here : length (slice_range bytes 2 (2 + count)) ≡ count = length-take-le (2 + count - 2) (drop 2 bytes) room ∙ all in
    subst IsNameLength (sym here ∙ ap length same) (positive count some, low)

-- the long name that a leaf has
pub name_short : (order : Order) (bytes name : List ℕ) → 512 ≤ length bytes → long_name_in order bytes ≡ Some name → IsNameLength (length name)
unfolding long_name_in
name_short order bytes name long is = by_tests (field order 2 bytes 0 == 0) (nat_le (field order 2 bytes 0) 510) (field order 2 bytes 0) bytes name refl refl long is

-- as it is lent
pub lent_short : (order : Order) (name : Option (Bor (List ℕ))) (bytes : List ℕ) → 512 ≤ length bytes → option_copied name ≡ long_name_in order bytes → IfSome name (λ lent. IsNameLength (length lent.now))
lent_short order None bytes long is = tt
lent_short order (Some lent) bytes long is = name_short order bytes lent.now long (sym is)
