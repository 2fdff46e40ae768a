-- A walk along names, name by name.
use Rattle.std.proofs.Common.{◌≡◌, ◌∷◌, ℕ, List, refl, ap, ◌∙◌}
use Rattle.std.specs.Prelude.{Result, Ok, Err}
use Rattle.qx_model.specs.declared.refusal.Refusal.{Refusal}
use Rattle.qx_model.specs.Outcomes.{◌>>=◌}
use Rattle.qx_model.specs.Tree.{Tree}
use Rattle.qx_model.specs.Paths as paths

-- how a walk goes on behind one name
abbrev behind : Tree → paths.LastLink → paths.Jump → ℕ → List (List ℕ) → paths.Lead → Result ℕ Refusal
behind t last jump at rest (paths.To n) = paths.walk_by t last jump n rest
behind t last jump at rest (paths.Through target) = jump at target rest

module _ (t : Tree) (last : paths.LastLink) (jump : paths.Jump) (at : ℕ) (name : List ℕ) (rest : List (List ℕ)) where
  -- a walk by its first name
  by_name : paths.walk_by t last jump at (name ∷ rest) ≡ (paths.lead t (paths.is_followed last rest) at name >>= behind t last jump at rest)
  by_name = refl

  pub walk_to : (n : ℕ) → paths.lead t (paths.is_followed last rest) at name ≡ Ok (paths.To n) → paths.walk_by t last jump at (name ∷ rest) ≡ paths.walk_by t last jump n rest
  walk_to n is = by_name ∙ ap (λ r. r >>= behind t last jump at rest) is

  pub walk_through : (target : List ℕ) → paths.lead t (paths.is_followed last rest) at name ≡ Ok (paths.Through target) → paths.walk_by t last jump at (name ∷ rest) ≡ jump at target rest
  walk_through target is = by_name ∙ ap (λ r. r >>= behind t last jump at rest) is

  pub walk_refused : (e : Refusal) → paths.lead t (paths.is_followed last rest) at name ≡ Err e → paths.walk_by t last jump at (name ∷ rest) ≡ Err e
  walk_refused e is = by_name ∙ ap (λ r. r >>= behind t last jump at rest) is
