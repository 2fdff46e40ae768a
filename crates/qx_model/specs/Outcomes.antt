-- A value or the first refusal, so that a definition by `do` reads like Rust with `?`.
use Rattle.std.specs.Prelude.{Bool, true, false, Result, Ok, Err}

infixl 1 ◌>>=◌
infixl 1 ◌>>◌
-- the rest, of the value; or the refusal
abbrev pub ◌>>=◌ : {A B E : Type 0} → Result A E → (A → Result B E) → Result B E
Ok x >>= rest = rest x
Err e >>= rest = Err e

-- the same, where the rest wants no value
abbrev pub ◌>>◌ : {A B E : Type 0} → Result A E → Result B E → Result B E
Ok x >> rest = rest
Err e >> rest = Err e

-- refused where the test holds
abbrev pub refuse_if : {E : Type 0} → Bool → E → Result (Unit {0}) E
refuse_if true e = Err e
refuse_if false e = Ok tt
