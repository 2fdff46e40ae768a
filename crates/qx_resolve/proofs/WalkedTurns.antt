-- A walk that goes on behind a link.
use Rattle.std.proofs.Common.{◌≡◌, ℕ, suc, ◌+◌, ◌-◌, ◌<◌, ◌≤◌, ◌++◌, List, refl, sym, ap, ◌∙◌, Ok, Err, arith, inl, inr}
use Rattle.std.specs.Prelude.{◌⊎◌, Result}
use Rattle.qx_path.specs.PathParts.{PathParts}
use Rattle.qx_model.specs.declared.refusal.Refusal.{Refusal}
use Rattle.qx_resolve.specs.Answers.{IsStopped}
use Rattle.qx_model.specs.Outcomes.{◌>>=◌}
use Rattle.qx_model.specs.declared.refusal.Refusal.TheVariants.{LinkLoop}
use Rattle.qx_model.specs.Tree.{Tree}
use Rattle.qx_resolve.specs.Turns.{walk_within}
use Rattle.qx_model.specs.Paths.{Jump, LastLink, links_allowed, parsed, start_in, walk, walk_by}

-- how a walk follows a link that may follow so many more
abbrev pub jump_by : ℕ → Tree → LastLink → Jump
jump_by links t last at target rest = parsed target >>= λ (p : PathParts). walk links t last (start_in p at) (p.names ++ rest)

-- where no link may be followed
abbrev pub no_jump : Jump
no_jump = λ at target rest. Err LinkLoop

-- where the target is a path
pub walk_behind : (links : ℕ) (t : Tree) (last : LastLink) (directory at : ℕ) (target : List ℕ) (rest names : List (List ℕ)) (p : PathParts)
    → parsed target ≡ Ok p → at ≡ start_in p directory → names ≡ p.names ++ rest → jump_by links t last directory target rest ≡ walk links t last at names
walk_behind links t last directory at target rest names p is from joined =
    ap (λ r. r >>= λ (q : PathParts). walk links t last (start_in q directory) (q.names ++ rest)) is
    ∙ ap (λ n. walk links t last n (p.names ++ rest)) (sym from)
    ∙ ap (λ (l : List (List ℕ)). walk links t last at l) (sym joined)

-- a refusal of a part is that of the whole
pub refused_as : (e : Refusal) (says other : Result ℕ Refusal) → says ≡ other → IsStopped e ⊎ (other ≡ Err e) → IsStopped e ⊎ (says ≡ Err e)
refused_as e says other same (inl stopped) = inl stopped
refused_as e says other same (inr is) = inr (same ∙ is)

-- ---- so many links

module _ (t : Tree) (last : LastLink) (at : ℕ) (names : List (List ℕ)) where
  pub within_is : (links : ℕ) → walk_within links t last at names ≡ walk links t last at names
  unfolding walk_within
  within_is links = refl

  -- where not all have been followed, one more may be
  pub within_more : (followed : ℕ) → followed < 16 → walk_within (16 - followed) t last at names ≡ walk (suc (16 - (followed + 1))) t last at names
  within_more followed more = within_is (16 - followed) ∙ ap (λ n. walk n t last at names) (let e : 16 - followed ≡ suc (16 - (followed + 1)) = omega (arith, more) in e)

  -- and where all have been, none
  pub within_none : (followed : ℕ) → 16 ≤ followed → walk_within (16 - followed) t last at names ≡ walk_by t last no_jump at names
  within_none followed all = within_is (16 - followed) ∙ ap (λ n. walk n t last at names) (let e : 16 - followed ≡ 0 = omega (arith, all) in e)

  -- before the first link one more than 15 may be followed
  pub within_first : walk_within links_allowed t last at names ≡ walk (suc 15) t last at names
  within_first = within_is 16
