-- What is seen below a pointer of a node.
use Rattle.std.specs.Prelude.{◌≡◌, ◌+◌, ◌*◌, ◌^◌, ◌<◌, ◌≤◌, ◌&&◌, ℕ, Option, None, zero, suc, Bool, false, not, ◌||◌, List, [], ◌∷◌, map, filter, length, nat_le, ◌==◌, if◌then◌else◌}
use Rattle.std.specs.List.{find, list_any}
use Rattle.std.specs.Option.{option_map, option_or}
use Rattle.qx_geom.specs.Lists.{each_below}
use Rattle.qx_geom.specs.Pointer.{absent, ceil_div, per_block}
use Rattle.qx_geom.specs.declared.root.Root.{Root}
use Rattle.qx_nodes.specs.BlockMap.{BlockMap, word}
use Rattle.qx_nodes.specs.Leaves.{leaves_below}
use Rattle.qx_nodes.specs.Visits.{Visit, is_leaf, visits_of, visits_under}
use Rattle.qx_nodes.specs.ForeignNodes.{has_strays, has_bare_block}
use Rattle.qx_pointers.specs.declared.node.LeafPlace.{LeafPlace}
use Rattle.qx_pointers.specs.declared.node.Part.{Part}
use Rattle.qx_pointers.specs.declared.source.Shape.{Shape}

-- where a leaf stands
abbrev pub place_of : Visit → LeafPlace
place_of v = record { index = v.index; block = v.block }

-- the leaves among these visits, in order, where they are kept
abbrev pub kept_leaves : Bool → List Visit → List LeafPlace
kept_leaves keeps visits = if keeps then map place_of (filter is_leaf visits) else []

-- a node has five levels at most, and they reach its size
pub record IsInReach (shape : Shape) (node : Root) : Type 0 where
  pub levels : node.levels ≤ 5
  pub size : ceil_div node.size shape.blocksize ≤ 16 * per_block shape.blocksize ^ node.levels

-- a leaf is a block's, and lies below the size of its node
pub record IsPlaced (shape : Shape) (node : Root) (leaf : LeafPlace) : Type 0 where
  pub block : leaf.block < shape.count
  pub index : leaf.index < ceil_div node.size shape.blocksize

-- the visit to the last of so many leaves
abbrev pub is_end : ℕ → Visit → Bool
is_end last v = is_leaf v && (v.index + 1 == last)

-- the block of the last leaf among these visits, where it is present
abbrev pub end_of : ℕ → List Visit → Option ℕ
end_of last visits = option_map (λ v. v.block) (find (is_end last) visits)

-- a pointer block at this pointer or below it has no present leaf
abbrev pub has_bare_under : BlockMap → ℕ → ℕ → ℕ → ℕ → Bool
has_bare_under m last zero index p = false
has_bare_under m last (suc l) index p =
    if p == absent || nat_le last (index * per_block m.size ^ suc l) then false
    else not (list_any is_leaf (visits_under m last (suc l) index p))
    || list_any (λ w. has_bare_under m last l (index * per_block m.size + w) (word m p w)) (each_below (per_block m.size) (λ w. w))

-- a leaf is a block's, and one of so many
pub record IsLeafOf (count last : ℕ) (leaf : LeafPlace) : Type 0 where
  pub block : leaf.block < count
  pub index : leaf.index < last

-- what is seen where nothing is
abbrev pub nothing : Part
nothing = record { leaves = 0; strays = false; bare = false; end = None }

-- what is seen in one place and then in another
abbrev pub joined : Part → Part → Part
joined a b = record { leaves = a.leaves + b.leaves; strays = a.strays || b.strays; bare = a.bare || b.bare; end = option_or a.end b.end }

-- the visit to a leaf
abbrev pub leaf_at : ℕ → ℕ → Visit
leaf_at index block = record { level = 0; index = index; block = block }

-- what is seen of a leaf alone
abbrev pub leaf_part : ℕ → Visit → Part
leaf_part last leaf = record { leaves = 1; strays = false; bare = false; end = end_of last (leaf ∷ []) }

-- what is seen of these visits, where a pointer among them is a stray or not, and a block is bare or not
pub record IsSeen (last : ℕ) (visits : List Visit) (stray hollow : Bool) (part : Part) : Type 0 where
  pub leaves : part.leaves ≡ length (filter is_leaf visits)
  pub strays : part.strays ≡ stray
  pub bare : part.bare ≡ hollow
  pub end : part.end ≡ end_of last visits

-- what is seen of a whole node
pub record IsWhole (m : BlockMap) (node : Root) (part : Part) : Type 0 where
  pub leaves : part.leaves ≡ length (filter is_leaf (visits_of m node))
  pub strays : part.strays ≡ has_strays m node
  pub bare : part.bare ≡ has_bare_block m node
  pub end : part.end ≡ end_of (leaves_below m node) (visits_of m node)
