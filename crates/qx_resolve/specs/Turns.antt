-- How a walk goes on at a link.
use Rattle.std.specs.Prelude.{◌≡◌, ◌⊎◌, ℕ, ◌++◌, List, Result, Ok, Err}
use Rattle.qx_path.specs.Names.{names_in}
use Rattle.qx_path.specs.PathParts.{PathParts}
use Rattle.qx_model.specs.declared.refusal.Refusal.{Refusal}
use Rattle.qx_model.specs.Paths.{LastLink, start_in, walk}
use Rattle.qx_resolve.specs.Answers.{IsStopped}
use Rattle.qx_model.specs.Tree.{Tree}
use Rattle.qx_resolve.specs.declared.following.Turn.{Turn}
use Rattle.qx_resolve.specs.declared.following.Turn.TheVariants as turns
use Rattle.qx_resolve.specs.declared.links.Onward.{Onward}

-- through the path that the target is, from the directory of the link or from the root, then by the names behind; or the target's refusal, or reading stopped
abbrev pub Follows : ℕ → List (List ℕ) → Result Onward Refusal → Result PathParts Refusal → Type 0
Follows directory behind (Ok next) says = (p : PathParts) × (says ≡ Ok p) × (next.at ≡ start_in p directory) × (names_in next.bytes.items ≡ p.names ++ behind)
Follows directory behind (Err e) says = IsStopped e ⊎ (says ≡ Err e)

-- a walk that may follow one link more than so many has ended, or goes on with so many behind the link
abbrev pub Turns : Tree → LastLink → ℕ → Result Turn Refusal → Result ℕ Refusal → Type 0
Turns t last links (Ok (turns.Ends n)) says = says ≡ Ok n
Turns t last links (Ok (turns.Goes next)) says = says ≡ walk links t last next.at (names_in next.bytes.items)
Turns t last links (Err e) says = IsStopped e ⊎ (says ≡ Err e)

-- a walk that may follow so many links; as a word of its own, since a literal number of links would be written out in each goal
unfoldable pub walk_within : ℕ → Tree → LastLink → ℕ → List (List ℕ) → Result ℕ Refusal
walk_within links t last at names = walk links t last at names
