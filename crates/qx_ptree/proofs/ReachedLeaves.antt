-- A node's present leaves lie below its own pointers.
use Rattle.std.proofs.Common.{◌≡◌, ℕ, ◌*◌, ◌/◌, ◌^◌, ◌<◌, ◌∙◌, sym, true, arith}
use Rattle.std.specs.Prelude.{Contains, slice_index_or}
use Rattle.std.proofs.Math.Nat.{div-lt_iff_lt-mul, one-le-pow}
use Rattle.qx_geom.proofs.ImagesAndFilters.{Contains-in}
use Rattle.qx_geom.proofs.Members.{parts-Contains}
use Rattle.qx_geom.specs.declared.root.Root.{Root}
use Rattle.qx_geom.specs.Lists.{is_in}
use Rattle.qx_geom.specs.Pointer.{absent, per_block}
use Rattle.qx_nodes.proofs.DistinctPositions.{LiesUnder, visits_lie}
use Rattle.qx_nodes.proofs.MetLeaves.{leaf_visit}
use Rattle.qx_nodes.specs.BlockMap.{BlockMap}
use Rattle.qx_nodes.specs.Leaves.{leaves_below}
use Rattle.qx_nodes.specs.Visits.{Visit, present_of, visits_of, visits_under}

-- a node's levels reach its present leaves
pub present-reached : (m : BlockMap) (node : Root) → 0 < per_block m.size → (i : ℕ) → is_in (present_of m node) i ≡ true → i < 16 * per_block m.size ^ node.levels
present-reached m node some i there =
    let P : ℕ = per_block m.size in
    let met : (v : Visit) × Contains (visits_of m node) v × (v.level ≡ 0) × (v.index ≡ i) = leaf_visit (visits_of m node) i (Contains-in (present_of m node) i there) in
    let v : Visit = met.0 in
    let at : (j : ℕ) × (j < 16) × Contains (visits_under m (leaves_below m node) node.levels j (slice_index_or node.pointers j absent)) v =
    parts-Contains 16 (λ j. visits_under m (leaves_below m node) node.levels j (slice_index_or node.pointers j absent)) v met.1 in
    let lies : LiesUnder P node.levels at.0 v = visits_lie m (leaves_below m node) node.levels at.0 (slice_index_or node.pointers at.0 absent) v some at.2 in
    let up : lies.up ≡ node.levels = omega (arith, lies.level, met.2) in
    let index : i / P ^ node.levels ≡ at.0 = sym (λ t. met.3 t / P ^ up t) ∙ lies.index in
    let low : i / P ^ node.levels < 16 = omega (arith, at.1) in
    (div-lt_iff_lt-mul (one-le-pow node.levels P some)).0 low
