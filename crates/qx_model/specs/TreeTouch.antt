-- The positions of a tree that an edit touches, and those that take a fresh block.
use Rattle.std.specs.Prelude.{◌≡◌, ℕ, ◌/◌, suc, ◌⊎◌, Bool, true, false, List, map, filter, flat_map, position, Option}
use Rattle.qx_geom.specs.Lists.{is_in}
use Rattle.qx_geom.specs.Pointer.{per_block}
use Rattle.qx_geom.specs.Touch.{fresh_at}
use Rattle.qx_geom.specs.Touch as node
use Rattle.qx_model.specs.Tree.{Tree}
use Rattle.qx_model.specs.Owners.{Owner, is_same_owner}
use Rattle.qx_model.specs.Edits.{Edit, Leaf}
use Rattle.qx_model.specs.TreePositions.{HasPosition, Position, is_same_position, owners_of, positions_by, shape_in}

-- the leaves of one owner among those written
abbrev pub written_in : Owner → List Leaf → List ℕ
written_in o leaves = map (λ (l : Leaf). l.index) (filter (λ (l : Leaf). is_same_owner l.owner o) leaves)

-- ---- touched positions

-- the position of this level and index in the same node
abbrev pub in_same_node : Position → ℕ → ℕ → Position
in_same_node p level index = record p { level = level; index = index }

-- the least set of positions of the new tree that has: each written leaf; each position that the old tree lacks; each pointer position that has lost a child; each pointer position with a touched child
pub data IsTouched (blocksize : ℕ) (old : Tree) (e : Edit) : Position → Type 0 where
  written_leaf : {p : Position} → HasPosition blocksize e.tree p → p.level ≡ 0 → is_in (written_in p.owner e.written) p.index ≡ true → IsTouched blocksize old e p
  new_position : {p : Position} → HasPosition blocksize e.tree p → ¬ (HasPosition blocksize old p) → IsTouched blocksize old e p
  lost_child : {p : Position} (k c : ℕ) → HasPosition blocksize e.tree p → p.level ≡ suc k → c / per_block blocksize ≡ p.index
      → HasPosition blocksize old (in_same_node p k c) → ¬ (HasPosition blocksize e.tree (in_same_node p k c)) → IsTouched blocksize old e p
  touched_child : {p : Position} (k c : ℕ) → HasPosition blocksize e.tree p → p.level ≡ suc k → c / per_block blocksize ≡ p.index
      → IsTouched blocksize old e (in_same_node p k c) → IsTouched blocksize old e p

-- each leaf that an edit writes is present afterwards
abbrev pub WritesPresent : ℕ → Edit → Type 0
WritesPresent blocksize e = (o : Owner) (i : ℕ) → is_in (written_in o e.written) i ≡ true → is_in (shape_in blocksize e.tree o).present i ≡ true

-- whether an edit touches a position, by its node alone
abbrev pub is_touched : ℕ → Tree → Edit → Position → Bool
is_touched blocksize old e p =
    node.is_touched blocksize (shape_in blocksize old p.owner) (shape_in blocksize e.tree p.owner) (written_in p.owner e.written) p.level p.index

-- ---- fresh positions

-- a position takes a fresh block: it is touched, and it is new or its block isn't private
abbrev pub TakesFresh : ℕ → Tree → Edit → (Position → Bool) → Position → Type 0
TakesFresh blocksize old e private p = IsTouched blocksize old e p × (¬ (HasPosition blocksize old p) ⊎ (private p ≡ false))

-- whether the block at a position of an owner's node is the working tree's alone
abbrev pub private_in : (Position → Bool) → Owner → ℕ → ℕ → Bool
private_in private o k j = private (record { owner = o; level = k; index = j })

-- the positions of an owner's node that take a fresh block: new ones, and touched ones whose block isn't private
abbrev pub fresh_in_node : ℕ → Tree → Edit → (Position → Bool) → Owner → List Position
fresh_in_node blocksize old e private o =
    let before = shape_in blocksize old o in
    let after = shape_in blocksize e.tree o in
    positions_by (fresh_at blocksize before after (written_in o e.written) (private_in private o)) o after

-- the positions of a tree that take a fresh block, in order of owner, level and index
unfoldable pub fresh_positions : ℕ → Tree → Edit → (Position → Bool) → List Position
fresh_positions blocksize old e private = flat_map (fresh_in_node blocksize old e private) (owners_of e.tree)

-- where a position stands in a list
abbrev pub rank_in : List Position → Position → Option ℕ
rank_in xs p = position (is_same_position p) xs
