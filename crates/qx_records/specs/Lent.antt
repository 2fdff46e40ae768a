-- A part of bytes that are lent, which is lent on.
use Rattle.std.specs.Prelude.{◌≡◌, ℕ, ◌+◌, List, length, slice_range}
use Rattle.std.specs.Borrow.{Bor}

-- the part is the bytes of the whole from a place on: the same memory, so many bytes further, and what stands there
pub record IsLentFrom (whole : Bor (List ℕ)) (at : ℕ) (part : Bor (List ℕ)) : Type 0 where
  pub memory : part.ref_ptr.0 ≡ whole.ref_ptr.0
  pub address : part.ref_ptr.1 ≡ whole.ref_ptr.1 + at
  pub bytes : part.now ≡ slice_range whole.now at (at + length part.now)
