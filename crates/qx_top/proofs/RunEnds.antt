-- How a run ends where no call failed.
use Rattle.std.proofs.Common.{◌≡◌, ◌≢◌, ◌<◌, ◌⊎◌, inl, inr, ℕ, List, arith}
use Rattle.std.specs.Prelude.{Option, Some, None, Result, Ok, Err}
use Rattle.std.proofs.lemmas.Bool.{cases_eq}
use Rattle.qx_geom.specs.declared.geometry.GeomFault.{GeomFault}
use Rattle.qx_geom.specs.declared.geometry.Geometry.{Geometry}
use Rattle.qx_outside.specs.Outside.{Outside}
use Rattle.qx_top.specs.declared.sizes.VolumeOptions.{VolumeOptions}
use Rattle.qx_top.specs.Run.{Does, EndsByNumbers, HasCauses, IsComplete, MakesOrRefuses}
use Rattle.qx_top.specs.Sizes.{volume_of}
use Rattle.qx_top.specs.Volumes.{MakesVolume, with_moment, without_moment}
use Rattle.qx_top.specs.Words.{Asked, supers, verdict, volume}

-- a status that is none of the others is 0, 2 or 5
read_ends : (n : ℕ) → n < 6 → n ≢ 1 → n ≢ 3 → n ≢ 4 → (n ≡ 0) ⊎ ((n ≡ 2) ⊎ (n ≡ 5))
read_ends n below one three four = elim (cases_eq n 0) [
  | inl zero ↦ inl zero
  | inr not_zero ↦ elim (cases_eq n 2) [ inl two ↦ inr (inl two) | inr not_two ↦ inr (inr (omega (arith, below, one, three, four, not_zero, not_two))) ]
]

-- without 5 it is 0 or 2
supers_ends : (n : ℕ) → n ≢ 5 → (n ≡ 0) ⊎ ((n ≡ 2) ⊎ (n ≡ 5)) → (n ≡ 0) ⊎ (n ≡ 2)
supers_ends n no_five (inl zero) = inl zero
supers_ends n no_five (inr other) = elim other [ inl two ↦ inr two | inr five ↦ absurd (no_five five) ]

-- a volume is made, or refused
made_ends : (image : List ℕ) (options : VolumeOptions) (g : Geometry) (status : ℕ) (old new : Outside) → MakesVolume image options g status old new → status ≢ 3 → status ≢ 4 → status ≡ 0
made_ends image options g status old new (without_moment four idle leaves) no_device no_console = absurd (no_console four)
made_ends image options g status old new (with_moment moment makes) no_device no_console = elim makes.ends [
  | inl zero ↦ zero
  | inr other ↦ elim other [ inl three ↦ absurd (no_device three) | inr four ↦ absurd (no_console four) ]
]

numbers_end : (r : Result Geometry GeomFault) (image : List ℕ) (options : VolumeOptions) (status : ℕ) (old new : Outside) → MakesOrRefuses r image options status old new → status ≢ 3 → status ≢ 4 → EndsByNumbers r status
numbers_end (Ok g) image options status old new does no_device no_console = made_ends image options g status old new does no_device no_console
numbers_end (Err fault) image options status old new does no_device no_console = does.says.owes no_console

pub complete_run : (asked : Option Asked) (status : ℕ) (old new : Outside) → Does asked status old new → HasCauses asked status old new → IsComplete asked status old new
complete_run None status old new does c = λ no_device no_console. does.says.owes (λ four. no_console (c.faults.console.failed four))
complete_run (Some (supers image)) status old new does c = λ no_device no_console.
    supers_ends status c.memory (read_ends status c.exits c.words (λ three. no_device (c.faults.device three)) (λ four. no_console (c.faults.console.failed four)))
complete_run (Some (verdict image)) status old new does c = λ no_device no_console.
    read_ends status c.exits c.words (λ three. no_device (c.faults.device three)) (λ four. no_console (c.faults.console.failed four))
complete_run (Some (volume image options)) status old new does c = λ no_device no_console.
    numbers_end (volume_of options) image options status old new does (λ three. no_device (c.faults.device three)) (λ four. no_console (c.faults.console.failed four))
