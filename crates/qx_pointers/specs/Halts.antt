-- What an answer of a part of the walk says.
use Rattle.std.specs.Prelude.{◌≡◌, ℕ, Result, Ok, Err, OnErr, Option, Some, None}
use Rattle.qx_outside.specs.Causes.{HasCause}
use Rattle.qx_outside.specs.Outside.{Outside}
use Rattle.qx_view.specs.declared.findings.Finding.{Finding}
use Rattle.qx_pointers.specs.declared.halt.Halt.{Halt}
use Rattle.qx_pointers.specs.declared.halt.Halt.TheVariants as halts
use Rattle.qx_pointers.specs.Shown.{JustReads}

-- the walk halts at this finding, if it halts at one
abbrev pub HaltsAt : Option Finding → Halt → Type 0
HaltsAt f (halts.Finding found) = f ≡ Some found
HaltsAt f halts.Device = Unit {0}
HaltsAt f halts.NoMemory = Unit {0}

-- an Ok where there is no finding, and else a halt at the finding, want of memory and faults aside
abbrev pub Answers : {T : Type 0} → Option Finding → Result T Halt → Type 0
Answers f (Ok x) = f ≡ None
Answers f (Err halt) = HaltsAt f halt

-- a part of the walk that tests nothing: it reads so often at most, and halts only where the device fails
pub record Asks {T : Type 0} (most : ℕ) (old new : Outside) (result : Result T Halt) : Type 0 where
  pub reads : JustReads 0 most old new
  pub cause : HasCause old.dev_faults new.dev_faults result
  pub device : OnErr result (result ≡ Err halts.Device)
