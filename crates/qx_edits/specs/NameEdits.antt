-- A Longfile's content gets a name, or loses one.
use Rattle.std.specs.Prelude.{◌≡◌, ◌≢◌, ℕ, ◌+◌, ◌*◌, not, max, List, filter, Option, Some, None, ◌==◌}
use Rattle.qx_fields.specs.declared.order.Order.{Order}
use Rattle.qx_geom.specs.Positions.{with_number}
use Rattle.qx_nodes.specs.LongNames.{name_in}
use Rattle.qx_nodes.specs.NodeContents.{IsSameContent, NodeContent}

-- number k has this name, below a size that doesn't fall, and each other number what it had
pub record AddsName (order : Order) (blocksize k : ℕ) (name : List ℕ) (a b : NodeContent) : Type 0 where
  pub size : b.size ≡ max a.size ((k + 1) * blocksize)
  pub present : b.present ≡ with_number a.present k
  pub here : name_in order blocksize b k ≡ Some name
  pub others : (j : ℕ) → j ≢ k → name_in order blocksize b j ≡ name_in order blocksize a j

-- number k has no leaf, and each other number what it had
pub record DropsName (order : Order) (blocksize k : ℕ) (a b : NodeContent) : Type 0 where
  pub size : b.size ≡ a.size
  pub present : b.present ≡ filter (λ j. not (j == k)) a.present
  pub others : (j : ℕ) → j ≢ k → name_in order blocksize b j ≡ name_in order blocksize a j

-- where a number is given, it gets the name
abbrev pub GetsName : Order → ℕ → Option ℕ → List ℕ → NodeContent → NodeContent → Type 0
GetsName order blocksize None name a b = IsSameContent blocksize a b
GetsName order blocksize (Some k) name a b = AddsName order blocksize k name a b

-- where a number is given, it loses its name
abbrev pub LosesName : Order → ℕ → Option ℕ → NodeContent → NodeContent → Type 0
LosesName order blocksize None a b = IsSameContent blocksize a b
LosesName order blocksize (Some k) a b = DropsName order blocksize k a b
