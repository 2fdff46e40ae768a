-- Entries without long names.
use Rattle.std.specs.Prelude.{◌≡◌, ℕ, None, slice_get, unwrap_or}
use Rattle.qx_model.specs.Directories.{long_of_slot}
use Rattle.qx_model.specs.Tree.{Entry, Unused, slots_of_body}

-- no row of an entry has a long-name number
abbrev pub HasNoNumbers : Entry → Type 0
HasNoNumbers x = (k : ℕ) → long_of_slot (unwrap_or (slice_get (slots_of_body x.body) k) Unused) ≡ None
