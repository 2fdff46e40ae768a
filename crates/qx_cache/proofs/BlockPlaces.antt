-- Where blocks lie on a device, and what a write elsewhere leaves of them.
use Rattle.std.proofs.Common.{◌≡◌, ◌≢◌, ℕ, ◌+◌, ◌-◌, ◌*◌, ◌<◌, ◌≤◌, ◌⊎◌, inl, inr, false, List, length, drop, length-drop, refl, sym, ◌∙◌, ap, subst, arith}
use Rattle.std.specs.Prelude.{IsTrue, IfSome, Some}
use Rattle.std.proofs.lemmas.Bool.{cases_lt}
use Rattle.std.proofs.lemmas.List.{length-take}
use Rattle.qx_bytes.proofs.Puts.{range_put_apart}
use Rattle.qx_outside.specs.Outside.{Outside}
use Rattle.qx_outside.specs.Trail.{bytes_of}
use Rattle.qx_outside.specs.Calls.{FailsToWrite, Writes}
use Rattle.qx_cache.specs.CacheState.{block_place, device_block}

-- a later number is a block further at least
next_product : (a b size : ℕ) → a < b → a * size + size ≤ b * size
next_product a b size less = grind arith

-- places ascend with the numbers
pub place-ascends : (size a b : ℕ) → a ≤ b → block_place size a ≤ block_place size b
place-ascends size a b less = elim (cases_lt a b) [
  | inl below ↦ omega (arith, next_product a b size below)
  | inr above ↦ let same : a ≡ b = omega arith in let equal : block_place size a ≡ block_place size b = ap (block_place size) same in omega arith
]

-- a block ends before any with a later number
pub place-next : (size a b : ℕ) → a < b → block_place size a + size ≤ block_place size b
place-next size a b less = omega (arith, next_product a b size less)

-- two blocks lie apart
pub places-apart : (size a b : ℕ) → a ≢ b → (block_place size a + size ≤ block_place size b) ⊎ (block_place size b + size ≤ block_place size a)
places-apart size a b differ = elim (cases_lt a b) [
  | inl below ↦ inl (place-next size a b below)
  | inr above ↦ inr (place-next size b a (omega arith))
]

-- a block within the device has as many bytes as it should
pub length-device_block : (device : List ℕ) (size b : ℕ) → block_place size b + size ≤ length device → length (device_block device size b) ≡ size
length-device_block device size b within =
    omega (arith, length-take (block_place size b + size - block_place size b) (drop (block_place size b) device), length-drop (block_place size b) device)

-- a write that failed is a write
pub failed-writes : (at : ℕ) (asked : List ℕ) (old new : Outside) → FailsToWrite at asked old new → Writes at asked old new
failed-writes at asked old new f = record {
  before = f.before;
  step = λ told. elim (f.step told) [ inl same ↦ inl same | inr w ↦ inr (w.0, (false, w.1, w.2)) ];
}

-- a block that lies apart from a write has the bytes that it had
pub block-apart : (at : ℕ) (asked : List ℕ) (old new : Outside) → (IsTrue old.tells → old.extent ≡ Some (length (bytes_of old.history)))
    → Writes at asked old new → IfSome old.extent (λ len. at + length asked ≤ len) → IsTrue new.tells → (size b : ℕ)
    → (block_place size b + size ≤ at) ⊎ (at + length asked ≤ block_place size b) → device_block (bytes_of new.history) size b ≡ device_block (bytes_of old.history) size b
block-apart at asked old new is w within told size b apart =
    let room : at + length asked ≤ length (bytes_of old.history) = subst (λ o. IfSome o (λ len. at + length asked ≤ len)) (is (w.before told)) within in
    elim (w.step told) [
      | inl same ↦ ap (λ h. device_block (bytes_of h) size b) same
      | inr done ↦
          let left : List ℕ = done.0 in
          let long : length left ≡ length asked = done.1.1 in
          let lies : (block_place size b + size ≤ at) ⊎ (at + length left ≤ block_place size b) = subst (λ n. (block_place size b + size ≤ at) ⊎ (at + n ≤ block_place size b)) (sym long) apart in
          ap (λ h. device_block (bytes_of h) size b) done.1.2
          ∙ range_put_apart (bytes_of old.history) left at (length left) (block_place size b) size refl lies (omega arith)
    ]
