-- Where a walk along names ends that stops before a link.
use Rattle.std.specs.Prelude.{◌≡◌, ◌⊎◌, ℕ, List, Result, Ok, Err}
use Rattle.qx_path.specs.Names.{names_in}
use Rattle.qx_model.specs.declared.refusal.Refusal.{Refusal}
use Rattle.qx_model.specs.Tree.{Tree}
use Rattle.qx_model.specs.Paths.{Jump}
use Rattle.qx_resolve.specs.Answers.{IsLinkTo, IsStopped}
use Rattle.qx_resolve.specs.declared.walking.Walked.{Walked}
use Rattle.qx_resolve.specs.declared.walking.Walked.TheVariants as walks

-- it ends where the tree says, or reading stopped; at a link it goes on by the jump, from the directory with the names behind it
abbrev pub Walks : Tree → Jump → Result Walked Refusal → Result ℕ Refusal → Type 0
Walks t jump (Ok (walks.At n)) says = says ≡ Ok n
Walks t jump (Ok (walks.Link directory link rest)) says = (target : List ℕ) × IsLinkTo t link target × (says ≡ jump directory target (names_in rest.now))
Walks t jump (Err e) says = IsStopped e ⊎ (says ≡ Err e)
