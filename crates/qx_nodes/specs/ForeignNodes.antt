-- Nodes that aren't as this project writes them.
use Rattle.std.specs.Prelude.{ℕ, zero, suc, ◌+◌, ◌*◌, ◌^◌, ◌/◌, Bool, not, ◌&&◌, ◌||◌, List, nat_le, ◌==◌, slice_index_or}
use Rattle.std.specs.List.{list_any}
use Rattle.qx_geom.specs.declared.root.Root.{Root}
use Rattle.qx_geom.specs.Layout.{levels_for}
use Rattle.qx_geom.specs.Lists.{each_below}
use Rattle.qx_geom.specs.Pointer.{absent, per_block}
use Rattle.qx_nodes.specs.BlockMap.{BlockMap, word}
use Rattle.qx_nodes.specs.Leaves.{leaves_below}
use Rattle.qx_nodes.specs.Visits.{Visit, visits_of}

-- this pointer, or one below it, leads past the size and isn't absent
abbrev pub is_stray_under : BlockMap → ℕ → ℕ → ℕ → ℕ → Bool
is_stray_under m last zero index p = not (p == absent) && nat_le last index
is_stray_under m last (suc l) index p =
    not (p == absent) && (nat_le last (index * per_block m.size ^ suc l)
    || list_any (λ w. is_stray_under m last l (index * per_block m.size + w) (word m p w)) (each_below (per_block m.size) (λ w. w)))

-- a node has such a pointer
abbrev pub has_strays : BlockMap → Root → Bool
has_strays m node = list_any (λ j. is_stray_under m (leaves_below m node) node.levels j (slice_index_or node.pointers j absent)) (each_below 16 (λ j. j))

-- a present leaf stands below this block
abbrev pub has_leaf_below : BlockMap → List Visit → Visit → Bool
has_leaf_below m visits v = list_any (λ u. (u.level == 0) && (u.index / per_block m.size ^ v.level == v.index)) visits

-- a node has a pointer block with no present leaf
abbrev pub has_bare_block : BlockMap → Root → Bool
has_bare_block m node = list_any (λ v. not (has_leaf_below m (visits_of m node) v)) (visits_of m node)

-- a node isn't as this project writes it
abbrev pub is_foreign_node : BlockMap → Root → Bool
is_foreign_node m node = not (node.levels == levels_for m.size (leaves_below m node)) || (has_strays m node || has_bare_block m node)
