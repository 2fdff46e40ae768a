-- A bound on the length of a device, where it is told.
use Rattle.std.proofs.Common.{◌≡◌, ℕ, Option, None, Some, subst}
use Rattle.std.specs.Prelude.{IfSome}
use Rattle.qx_outside.specs.Causes.{StaysWhereTold}

-- what follows from a fact of the length holds as well
pub told_weaker : (len : Option ℕ) (P Q : ℕ → Type 0) → ((n : ℕ) → P n → Q n) → IfSome len P → IfSome len Q
told_weaker None P Q f told = tt
told_weaker (Some n) P Q f told = f n told

-- a fact of the length holds after calls that keep it
pub told_after : (before now : Option ℕ) (P : ℕ → Type 0) → StaysWhereTold before now → IfSome before P → IfSome now P
told_after before None P stays told = tt
told_after None (Some n) P stays told = absurd (cc stays.same)
told_after (Some m) (Some n) P stays told = subst P (let same : m ≡ n = cc stays.same in same) told

-- so it does after two
pub told_stays : (a b c : Option ℕ) → StaysWhereTold a b → StaysWhereTold b c → StaysWhereTold a c
told_stays a b None first second = record { same = tt }
told_stays a None (Some n) first second = absurd (cc second.same)
told_stays a (Some m) (Some n) first second = record { same = (let same : Some m ≡ Some n = second.same in subst (λ (o : Option ℕ). a ≡ o) same first.same) }

-- a length that was answered, and stays, is the device's
pub answered_is : (before now : Option ℕ) (n len : ℕ) → StaysWhereTold before now → now ≡ Some n → IfSome before (λ m. len ≡ m) → len ≡ n
answered_is before None n len stays told answered = absurd (cc told)
answered_is None (Some k) n len stays told answered = absurd (cc stays.same)
answered_is (Some m) (Some k) n len stays told answered = cc (stays.same, told, answered)
