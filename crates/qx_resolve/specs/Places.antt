-- Directories to which paths lead, and places that they name.
use Rattle.std.specs.Prelude.{◌≡◌, ◌⊎◌, ℕ, not, List, Option, Result, Ok, Err}
use Rattle.qx_model.specs.declared.refusal.Refusal.{Refusal}
use Rattle.qx_model.specs.declared.refusal.Refusal.TheVariants.{NotDir}
use Rattle.qx_model.specs.Directories.{is_directory}
use Rattle.qx_model.specs.Outcomes.{◌>>=◌, ◌>>◌, refuse_if}
use Rattle.qx_model.specs.Paths as paths
use Rattle.qx_model.specs.Tree.{Tree}
use Rattle.qx_resolve.specs.Answers.{IsStopped}
use Rattle.qx_resolve.specs.declared.paths.Place.{Place}

-- an inode that has to be a directory
abbrev pub if_directory : Tree → ℕ → Result ℕ Refusal
if_directory t n = do
  refuse_if (not (is_directory t n)) NotDir
  Ok n

-- the directory to which a path leads, its last link followed
abbrev pub directory_led_to : Tree → Option ℕ → List ℕ → Result ℕ Refusal
directory_led_to t base bytes = do
  n ← paths.inode_at t base paths.Followed bytes
  if_directory t n

-- what a place is
abbrev pub place_of : Place → paths.Place
place_of p = record { directory = p.directory; name = p.name.now }

-- the place is what the tree says, or reading stopped
abbrev pub AnswersPlace : Result Place Refusal → Result paths.Place Refusal → Type 0
AnswersPlace (Ok p) says = says ≡ Ok (place_of p)
AnswersPlace (Err e) says = IsStopped e ⊎ (says ≡ Err e)
