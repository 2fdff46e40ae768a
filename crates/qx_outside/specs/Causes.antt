-- Counts of faults, and the failures that they explain.
use Rattle.std.specs.Prelude.{◌≡◌, IfSome, ℕ, ◌+◌, ◌-◌, ◌≤◌, ◌^◌, min, Option, None, Some, Result, Err, OnErr, OnOk}

-- the count rose by one, or stands at its last value
abbrev pub Rose : ℕ → ℕ → Type 0
Rose before now = now ≡ min (before + 1) (2 ^ 64 - 1)

-- the count never falls, an `Err` comes only where it rose, by one failure alone, and an `Ok` only where it stands
pub record HasCause {T E : Type 0} (before now : ℕ) (result : Result T E) : Type 0 where
  pub later : before ≤ now
  pub failed : OnErr result (Rose before now)
  pub kept : OnOk result (now ≡ before)

-- the count never falls, this error comes only where it rose, and anything else is answered only where it stands
pub record IsCausedBy {T E : Type 0} (fault : E) (before now : ℕ) (result : Result T E) : Type 0 where
  pub later : before ≤ now
  pub failed : result ≡ Err fault → Rose before now
  pub kept : (result ≡ Err fault → ⊥) → now ≡ before

-- what is told after was told before, and R stands between
abbrev pub Becomes : {A : Type 0} → Option A → Option A → (A → A → Type 0) → Type 0
Becomes old None R = Unit {0}
Becomes None (Some new) R = ⊥
Becomes (Some old) (Some new) R = R old new

-- what is told after was told before, and is the same
pub record StaysWhereTold {A : Type 0} (old new : Option A) : Type 0 where
  pub same : IfSome new (λ a. old ≡ Some a)
