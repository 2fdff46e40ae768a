-- The positions of a node, and those that it has after a change. All by the numbers of the present leaves, so that a size of 2^48 costs nothing.
use Rattle.std.specs.Prelude.{◌≡◌, ℕ, ◌/◌, ◌^◌, ◌==◌, Bool, true, false, not, ◌&&◌, List, [], ◌∷◌, map, filter, fold, Option, Some, None, nat_le, nat_lt, if◌then◌else◌}
use Rattle.qx_geom.specs.Layout.{levels_for}
use Rattle.qx_geom.specs.Lists.{is_in}
use Rattle.qx_geom.specs.Pointer.{ceil_div, per_block}

-- a node's levels, and its present leaves in ascending order
pub record Shape : Type 0 where
  pub levels : ℕ
  pub present : List ℕ

-- the shape of a node of this size, whose levels are the least
abbrev pub shape_of : ℕ → ℕ → List ℕ → Shape
shape_of blocksize size present = record { levels = levels_for blocksize (ceil_div size blocksize); present = present }

-- ---- positions

-- the index, at a level, of the block above a leaf
abbrev pub index_above : ℕ → ℕ → ℕ → ℕ
index_above blocksize level leaf = leaf / per_block blocksize ^ level

-- a list without what equals the one before it, which at first is x
abbrev pub once_after : ℕ → List ℕ → List ℕ
once_after x [] = []
once_after x (y ∷ ys) = if x == y then once_after x ys else y ∷ once_after y ys

-- each number of an ascending list once
abbrev pub each_once : List ℕ → List ℕ
each_once [] = []
each_once (x ∷ xs) = x ∷ once_after x xs

-- the indices of the positions of a level, in ascending order; none above the node's levels
abbrev pub at_level : ℕ → Shape → ℕ → List ℕ
at_level blocksize shape k = if nat_le k shape.levels then each_once (map (index_above blocksize k) shape.present) else []

-- whether a node has the position of this level and index
abbrev pub has_position : ℕ → Shape → ℕ → ℕ → Bool
has_position blocksize shape k j = is_in (at_level blocksize shape k) j

-- a node has the position of this level and index
abbrev pub HasPosition : ℕ → Shape → ℕ → ℕ → Type 0
HasPosition blocksize shape k j = has_position blocksize shape k j ≡ true

-- ---- after a change

-- an ascending list with x in it
abbrev pub with_number : List ℕ → ℕ → List ℕ
with_number [] x = x ∷ []
with_number (y ∷ ys) x = if nat_lt x y then x ∷ y ∷ ys else if x == y then y ∷ ys else y ∷ with_number ys x

-- the number is the one that is named
abbrev pub is_named : Option ℕ → ℕ → Bool
is_named None x = false
is_named (Some y) x = x == y

-- the old leaves that lie below the new end and aren't taken out
abbrev pub kept_leaves : List ℕ → ℕ → Option ℕ → List ℕ
kept_leaves present new_leaves gone = filter (λ i. nat_lt i new_leaves && not (is_named gone i)) present

-- the present leaves after a change: the kept and the written ones, each once
unfoldable pub present_after : List ℕ → ℕ → List ℕ → Option ℕ → List ℕ
present_after present new_leaves written gone = fold with_number (kept_leaves present new_leaves gone) written

-- the shape after a change to a new size that writes leaves and may take one out
abbrev pub shape_after : ℕ → Shape → ℕ → List ℕ → Option ℕ → Shape
shape_after blocksize old size written gone = shape_of blocksize size (present_after old.present (ceil_div size blocksize) written gone)
