-- The numbers by which kinds are told outside.
use Rattle.std.specs.Prelude.{ℕ, Option, Some, None}
use Rattle.qx_records.specs.InodeRecord.{kind_of}
use Rattle.qx_records.specs.declared.kind.Kind.{Kind}
use Rattle.qx_records.specs.declared.kind.Kind.TheVariants.{Directory, File, Link, Special}

-- the number of a kind
abbrev pub number_of : Kind → ℕ
number_of Directory = 1
number_of File = 2
number_of Link = 3
number_of Special = 4

-- and 0 for none
abbrev pub number_or_none : Option Kind → ℕ
number_or_none (Some kind) = number_of kind
number_or_none None = 0

-- the number of a mode's kind
abbrev pub kind_number_of : ℕ → ℕ
kind_number_of mode = number_or_none (kind_of mode)
