-- What is found of a tree by reading blocks, where memory may be wanting and the device may fail.
use Rattle.std.specs.Prelude.{◌≡◌, ◌⊎◌, ℕ, List, Result, Ok, Err, Some}
use Rattle.qx_model.specs.declared.refusal.Refusal.{Refusal}
use Rattle.qx_model.specs.declared.refusal.Refusal.TheVariants as refusals
use Rattle.qx_model.specs.Tree.{Entry, Link, Tree, entry_of}
use Rattle.qx_model.specs.Paths as paths
use Rattle.qx_resolve.specs.declared.leads.Lead.{Lead}
use Rattle.qx_resolve.specs.declared.leads.Lead.TheVariants as leads
use Rattle.qx_resolve.specs.declared.last.LastLink.{LastLink}
use Rattle.qx_resolve.specs.declared.last.LastLink.TheVariants as lasts

-- a refusal that says nothing of the tree
abbrev pub IsStopped : Refusal → Type 0
IsStopped e = (e ≡ refusals.Device) ⊎ (e ≡ refusals.NoMemory)

-- the answer is what the tree says, or reading stopped
abbrev pub Answers : {A : Type 0} → Result A Refusal → Result A Refusal → Type 0
Answers (Ok a) says = says ≡ Ok a
Answers (Err e) says = IsStopped e ⊎ (says ≡ Err e)

-- what is done with a link at the end of a path
abbrev pub last_of : LastLink → paths.LastLink
last_of lasts.Followed = paths.Followed
last_of lasts.Itself = paths.Itself

-- inode n is a link to this target
abbrev pub IsLinkTo : Tree → ℕ → List ℕ → Type 0
IsLinkTo t n target = (e : Entry) × (entry_of t n ≡ Some e) × (e.body ≡ Link target)

-- where a name leads is what the tree says, or reading stopped; of a link that is followed its inode is known, and no target read yet
abbrev pub Leads : Tree → Result Lead Refusal → Result paths.Lead Refusal → Type 0
Leads t (Ok (leads.To n)) says = says ≡ Ok (paths.To n)
Leads t (Ok (leads.Through n)) says = (target : List ℕ) × IsLinkTo t n target × (says ≡ Ok (paths.Through target))
Leads t (Err e) says = IsStopped e ⊎ (says ≡ Err e)
