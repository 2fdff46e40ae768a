-- The positions of a node that a change touches, and how many fresh blocks it takes. Old shape before new shape.
use Rattle.std.specs.Prelude.{◌≡◌, ℕ, suc, ◌+◌, ◌/◌, ◌==◌, Bool, true, false, not, ◌&&◌, ◌||◌, List, ◌++◌, length, filter, sum_by, Option, nat_lt}
use Rattle.std.specs.List.{list_any, range_with_len}
use Rattle.qx_geom.specs.Lists.{is_in}
use Rattle.qx_geom.specs.Pointer.{per_block}
use Rattle.qx_geom.specs.Positions.{HasPosition, Shape, at_level, has_position, index_above, shape_after}

-- ---- touched positions

-- the least set of positions of the new node that has: each written leaf; each position that the old node lacks; each pointer position that has lost a child; each pointer position with a touched child
pub data IsTouched (blocksize : ℕ) (old new : Shape) (written : List ℕ) : ℕ → ℕ → Type 0 where
  written_leaf : {i : ℕ} → HasPosition blocksize new 0 i → is_in written i ≡ true → IsTouched blocksize old new written 0 i
  new_position : {k j : ℕ} → HasPosition blocksize new k j → ¬ (HasPosition blocksize old k j) → IsTouched blocksize old new written k j
  lost_child : {k j : ℕ} (c : ℕ) → HasPosition blocksize new (suc k) j → c / per_block blocksize ≡ j → HasPosition blocksize old k c → ¬ (HasPosition blocksize new k c)
      → IsTouched blocksize old new written (suc k) j
  touched_child : {k j : ℕ} (c : ℕ) → HasPosition blocksize new (suc k) j → c / per_block blocksize ≡ j → IsTouched blocksize old new written k c
      → IsTouched blocksize old new written (suc k) j

-- the leaves of the first shape that the second lacks
abbrev pub leaves_without : Shape → Shape → List ℕ
leaves_without first second = filter (λ i. not (is_in second.present i)) first.present

-- the leaves that are written, that came and that went
abbrev pub changed_leaves : Shape → Shape → List ℕ → List ℕ
changed_leaves old new written = written ++ (leaves_without new old ++ leaves_without old new)

-- a position of the new node is touched: its level is new, or a leaf below it changed
abbrev pub is_touched : ℕ → Shape → Shape → List ℕ → ℕ → ℕ → Bool
is_touched blocksize old new written k j = nat_lt old.levels k || list_any (λ i. index_above blocksize k i == j) (changed_leaves old new written)

-- ---- fresh blocks

-- every position's block is private
abbrev pub all_private : ℕ → ℕ → Bool
all_private k j = true

-- no position's block is private
abbrev pub none_private : ℕ → ℕ → Bool
none_private k j = false

-- a position takes a fresh block: it is new, or it is touched and its block isn't private
abbrev pub is_fresh : ℕ → Shape → Shape → List ℕ → (ℕ → ℕ → Bool) → ℕ → ℕ → Bool
is_fresh blocksize old new written private k j = not (has_position blocksize old k j) || (is_touched blocksize old new written k j && not (private k j))

-- the indices of a level that take a fresh block
abbrev pub fresh_at : ℕ → Shape → Shape → List ℕ → (ℕ → ℕ → Bool) → ℕ → List ℕ
fresh_at blocksize old new written private k = filter (is_fresh blocksize old new written private k) (at_level blocksize new k)

-- how many fresh blocks a change takes, over all levels
unfoldable pub need_of : ℕ → Shape → Shape → List ℕ → (ℕ → ℕ → Bool) → ℕ
need_of blocksize old new written private = sum_by (λ k. length (fresh_at blocksize old new written private k)) (range_with_len 0 (new.levels + 1))

-- the need of a change to a new size that writes leaves and may take one out
abbrev pub need_of_change : ℕ → Shape → ℕ → List ℕ → Option ℕ → (ℕ → ℕ → Bool) → ℕ
need_of_change blocksize old size written gone private = need_of blocksize old (shape_after blocksize old size written gone) written private
