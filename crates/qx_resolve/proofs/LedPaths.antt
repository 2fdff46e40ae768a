-- Where a path leads, part by part.
use Rattle.std.proofs.Common.{◌≡◌, ℕ, List, Bool, not, inl, inr, refl, sym, ap, ◌∙◌, subst}
use Rattle.std.specs.Prelude.{◌⊎◌, Option, Some, None, Result, Ok, Err, option_and_then, is_some}
use Rattle.qx_path.specs.PathParts.{PathParts}
use Rattle.qx_model.specs.declared.refusal.Refusal.{Refusal}
use Rattle.qx_model.specs.declared.refusal.Refusal.TheVariants.{NotDir}
use Rattle.qx_model.specs.Directories.{parent_of_body}
use Rattle.qx_model.specs.Outcomes.{◌>>=◌, ◌>>◌, refuse_if}
use Rattle.qx_model.specs.Paths as paths
use Rattle.qx_model.specs.Tree.{Entry, Tree, entry_of}
use Rattle.qx_resolve.specs.Answers.{Answers, IsStopped}
use Rattle.qx_resolve.specs.Places.{if_directory}
use Rattle.qx_resolve.specs.Turns.{walk_within}
use Rattle.qx_resolve.proofs.WalkedTurns.{within_is}

-- ---- an inode

module _ (t : Tree) (base : Option ℕ) (last : paths.LastLink) (bytes : List ℕ) where
  pub led_from : (p : PathParts) (from : ℕ) → paths.parsed bytes ≡ Ok p → paths.start_of_walk p base ≡ Ok from → paths.inode_at t base last bytes ≡ walk_within paths.links_allowed t last from p.names
  led_from p from is begins =
      ap (λ r. r >>= λ (q : PathParts). paths.start_of_walk q base >>= λ (n : ℕ). paths.walk paths.links_allowed t last n q.names) is
      ∙ ap (λ r. r >>= λ (n : ℕ). paths.walk paths.links_allowed t last n p.names) begins
      ∙ sym (within_is t last from p.names paths.links_allowed)

  pub led_unparsed : (e : Refusal) → paths.parsed bytes ≡ Err e → paths.inode_at t base last bytes ≡ Err e
  led_unparsed e is = ap (λ r. r >>= λ (q : PathParts). paths.start_of_walk q base >>= λ (n : ℕ). paths.walk paths.links_allowed t last n q.names) is

  pub led_unbegun : (p : PathParts) (e : Refusal) → paths.parsed bytes ≡ Ok p → paths.start_of_walk p base ≡ Err e → paths.inode_at t base last bytes ≡ Err e
  led_unbegun p e is begins =
      ap (λ r. r >>= λ (q : PathParts). paths.start_of_walk q base >>= λ (n : ℕ). paths.walk paths.links_allowed t last n q.names) is
      ∙ ap (λ r. r >>= λ (n : ℕ). paths.walk paths.links_allowed t last n p.names) begins

-- ---- a directory

-- what is refused before is refused, and what is found is asked for its kind
pub found_directory : (t : Tree) (says : Result ℕ Refusal) (n : ℕ) (r : Result ℕ Refusal) → says ≡ Ok n → r ≡ if_directory t n → Answers r (says >>= if_directory t)
found_directory t says n r is same = subst (Answers r) (sym (ap (λ x. x >>= if_directory t) is ∙ sym same)) (itself r)
  where
    itself : (r : Result ℕ Refusal) → Answers r r
    itself (Ok n) = refl
    itself (Err e) = inr refl

pub no_directory : (t : Tree) (says : Result ℕ Refusal) (e : Refusal) → Answers (Err e) says → Answers (Err e) (says >>= if_directory t)
no_directory t says e (inl stopped) = inl stopped
no_directory t says e (inr is) = inr (ap (λ x. x >>= if_directory t) is)

-- the kind says whether it is one
pub directory_is : (t : Tree) (n : ℕ) (e : Entry) → entry_of t n ≡ Some e → (b : Bool) → is_some (parent_of_body e.body) ≡ b → if_directory t n ≡ (refuse_if (not b) NotDir >> Ok n)
directory_is t n e is b kind = ap (λ (o : Option Entry). refuse_if (not (is_some (option_and_then (λ (x : Entry). parent_of_body x.body) o))) NotDir >> Ok n) is ∙ ap (λ k. refuse_if (not k) NotDir >> Ok n) kind

pub directory_none : (t : Tree) (n : ℕ) → entry_of t n ≡ None → if_directory t n ≡ Err NotDir
directory_none t n is = ap (λ (o : Option Entry). refuse_if (not (is_some (option_and_then (λ (x : Entry). parent_of_body x.body) o))) NotDir >> Ok n) is

-- ---- a name at the end

module _ (t : Tree) (base : Option ℕ) (n : paths.Named) where
  -- the directory of a name is the one to which the walk of its parents comes
  pub parent_from : (from : ℕ) → paths.start_of_walk n.parents base ≡ Ok from → paths.parent_at t base n ≡ (walk_within paths.links_allowed t paths.Followed from n.parents.names >>= if_directory t)
  parent_from from begins =
      ap (λ r. r >>= λ (m : ℕ). paths.walk paths.links_allowed t paths.Followed m n.parents.names >>= if_directory t) begins
      ∙ ap (λ r. r >>= if_directory t) (sym (within_is t paths.Followed from n.parents.names paths.links_allowed))

  pub parent_unbegun : (e : Refusal) → paths.start_of_walk n.parents base ≡ Err e → paths.parent_at t base n ≡ Err e
  parent_unbegun e begins = ap (λ r. r >>= λ (m : ℕ). paths.walk paths.links_allowed t paths.Followed m n.parents.names >>= if_directory t) begins

module _ (t : Tree) (base : Option ℕ) where
  -- how a place is found once the directory is, the name, and the path
  abbrev at_directory : paths.Named → ℕ → Result paths.Place Refusal
  at_directory n d = Ok (record { directory = d; name = n.name })

  abbrev at_name : paths.Named → Result paths.Place Refusal
  at_name n = paths.parent_at t base n >>= at_directory n

  abbrev at_path : PathParts → Result paths.Place Refusal
  at_path p = paths.named p >>= at_name

  module _ (bytes : List ℕ) where
    pub place_unparsed : (e : Refusal) → paths.parsed bytes ≡ Err e → paths.place_at t base bytes ≡ Err e
    place_unparsed e is = ap (λ r. r >>= at_path) is

    module _ (p : PathParts) (is : paths.parsed bytes ≡ Ok p) where
      pub place_unnamed : (e : Refusal) → paths.named p ≡ Err e → paths.place_at t base bytes ≡ Err e
      place_unnamed e missing = ap (λ r. r >>= at_path) is ∙ ap (λ r. r >>= at_name) missing

      module _ (n : paths.Named) (last : paths.named p ≡ Ok n) where
        -- a place is the directory of its name, and the name
        place_by : paths.place_at t base bytes ≡ (paths.parent_at t base n >>= at_directory n)
        place_by = ap (λ r. r >>= at_path) is ∙ ap (λ r. r >>= at_name) last

        pub place_is : (d : ℕ) → paths.parent_at t base n ≡ Ok d → paths.place_at t base bytes ≡ Ok (record { directory = d; name = n.name })
        place_is d stands = place_by ∙ ap (λ r. r >>= at_directory n) stands

        pub place_nowhere : (e : Refusal) → Answers (Err e) (paths.parent_at t base n) → IsStopped e ⊎ (paths.place_at t base bytes ≡ Err e)
        place_nowhere e (inl stopped) = inl stopped
        place_nowhere e (inr refused) = inr (place_by ∙ ap (λ r. r >>= at_directory n) refused)
