-- All that is met from a node's pointers, on paths to leaves below its size.
use Rattle.std.specs.Prelude.{◌≡◌, ℕ, zero, suc, ◌+◌, ◌*◌, ◌^◌, ◌/◌, ◌<◌, ◌≤◌, Bool, ◌||◌, List, [], ◌∷◌, map, filter, nat_le, nat_lt, ◌==◌, if◌then◌else◌, slice_index_or, Contains}
use Rattle.qx_geom.specs.declared.root.Root.{Root}
use Rattle.qx_geom.specs.Lists.{parts_below}
use Rattle.qx_geom.specs.Pointer.{absent, per_block}
use Rattle.qx_nodes.specs.BlockMap.{BlockMap, word}
use Rattle.qx_nodes.specs.Leaves.{Leaf, Block, Hole, Damage, leaves_below}

-- one pointer that is met: the position to which it leads, the leaves being level 0, and its block
pub record Visit : Type 0 where
  pub level : ℕ
  pub index : ℕ
  pub block : ℕ

-- what is met from the pointer to block `index` of a level on, depth first; `last` leaves lie below the size
abbrev pub visits_under : BlockMap → ℕ → ℕ → ℕ → ℕ → List Visit
visits_under m last zero index p =
    if p == absent || nat_le last index then [] else record { level = 0; index = index; block = p } ∷ []
visits_under m last (suc l) index p =
    if p == absent || nat_le last (index * per_block m.size ^ suc l) then []
    else record { level = suc l; index = index; block = p }
    ∷ (if nat_lt p m.count then parts_below (per_block m.size) (λ w. visits_under m last l (index * per_block m.size + w) (word m p w)) else [])

-- what is met from a node's pointers, in order
abbrev pub visits_of : BlockMap → Root → List Visit
visits_of m node = parts_below 16 (λ j. visits_under m (leaves_below m node) node.levels j (slice_index_or node.pointers j absent))

-- a pointer to a leaf
abbrev pub is_leaf : Visit → Bool
is_leaf v = v.level == 0

-- the present leaves' numbers, in ascending order
abbrev pub present_of : BlockMap → Root → List ℕ
present_of m node = map (λ v. v.index) (filter is_leaf (visits_of m node))

-- the same bytes stand in each block of these visits
abbrev pub AgreesOn : BlockMap → (ℕ → List ℕ) → List Visit → Type 0
AgreesOn m bytes visits = (v : Visit) → Contains visits v → m.bytes v.block ≡ bytes v.block

-- what a leaf says stands among the visits: its block, or what is no block's number
abbrev pub IsMet : ℕ → ℕ → Leaf → List Visit → Type 0
IsMet i count (Block b) visits = Contains visits (record { level = 0; index = i; block = b })
IsMet i count Hole visits = Unit {0}
IsMet i count Damage visits = (v : Visit) × Contains visits v × (count ≤ v.block)

-- leaf i lies below the size of a node whose levels reach it
pub record LiesBelow (m : BlockMap) (node : Root) (i : ℕ) : Type 0 where
  pub positive : 0 < per_block m.size
  pub below : i < leaves_below m node
  pub reached : i / per_block m.size ^ node.levels < 16
