-- A leaf below the size that isn't present reads as 0.
use Rattle.std.proofs.Common.{◌≡◌, ℕ, refl}
use Rattle.std.specs.Prelude.{Contains, replicate}
use Rattle.qx_geom.specs.declared.root.Root.{Root}
use Rattle.qx_nodes.proofs.LeafPaths.{node_leaf_met}
use Rattle.qx_nodes.proofs.MetLeaves.{leaf_member}
use Rattle.qx_nodes.specs.BlockMap.{BlockMap}
use Rattle.qx_nodes.specs.Content.{bytes_at_leaf, leaf_bytes}
use Rattle.qx_nodes.specs.Leaves.{Block, Damage, Hole, Leaf, leaf_of}
use Rattle.qx_nodes.specs.Visits.{IsMet, LiesBelow, present_of, visits_of}

-- such a leaf reads as 0
pub absent_bytes : (m : BlockMap) (node : Root) (i : ℕ) → LiesBelow m node i → (Contains (present_of m node) i → ⊥) → leaf_bytes m node i ≡ replicate m.size 0
absent_bytes m node i below absent = go (leaf_of m node i) (node_leaf_met m node i below)
  where
    go : (x : Leaf) → IsMet i m.count x (visits_of m node) → bytes_at_leaf m x ≡ replicate m.size 0
    go (Block b) met = absurd (absent (leaf_member (visits_of m node) (record { level = 0; index = i; block = b }) met refl))
    go Hole met = refl
    go Damage met = refl
