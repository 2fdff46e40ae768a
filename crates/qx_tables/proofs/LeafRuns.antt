-- Leaves that stand side by side: where each of them stands, and that there is room for all.
use Rattle.std.proofs.Common.{◌≡◌, ℕ, zero, suc, ◌+◌, ◌-◌, ◌*◌, ◌<◌, ◌≤◌, List, [], ◌∷◌, length, ◌∙◌, ap, arith}
use Rattle.std.specs.Prelude.{All, ◌==◌, true}
use Rattle.std.proofs.Math.Nat.{add-mul, mul-le-mul_right}
use Rattle.std.proofs.lemmas.Bool.{eqb-true}
use Rattle.std.proofs.lemmas.List.Elements.{All-get_or, Contains-get_or}
use Rattle.qx_geom.proofs.Truths.{and_left, and_right}
use Rattle.qx_geom.specs.declared.root.Root.{Root}
use Rattle.qx_geom.specs.Lists.{IsAscending}
use Rattle.qx_geom.specs.Pointer.{ceil_div}
use Rattle.qx_pointers.specs.declared.node.LeafPlace.{LeafPlace}
use Rattle.qx_pointers.specs.declared.source.Shape.{Shape}
use Rattle.qx_pointers.specs.Parts.{IsPlaced}
use Rattle.qx_tables.proofs.LeafLists.{number_listed, numbers_of}
use Rattle.qx_tables.specs.Tables.{IsRun, is_behind, leaf_in}

-- where numbers ascend, the leaf at an earlier place has the lesser
pub ascends : (leaves : List LeafPlace) (j k : ℕ) → IsAscending (numbers_of leaves) → j < k → k < length leaves → (leaf_in leaves j).index < (leaf_in leaves k).index
ascends [] j k up low room = absurd (omega (arith, room))
ascends (p ∷ leaves) j zero up low room = absurd (omega (arith, low))
ascends (p ∷ leaves) zero (suc k) up low room = up.0 (leaf_in leaves k).index (number_listed leaves (leaf_in leaves k) (Contains-get_or leaves k _ (let next : k < length leaves = omega (arith, room) in next)))
ascends (p ∷ leaves) (suc j) (suc k) up low room = ascends leaves j k up.1 (omega (arith, low)) (omega (arith, room))

-- a leaf of a run stands as many places behind its first as it comes later
pub run_at : (leaves : List LeafPlace) (from count k : ℕ) → IsRun leaves from count → k < count
    → ((leaf_in leaves (from + k)).index ≡ (leaf_in leaves from).index + k) × ((leaf_in leaves (from + k)).block ≡ (leaf_in leaves from).block + k)
run_at leaves from count zero run low =
    let here : from + zero ≡ from = omega arith in
    let is : leaf_in leaves (from + zero) ≡ leaf_in leaves from = ap (leaf_in leaves) here in
    let index : (leaf_in leaves (from + zero)).index ≡ (leaf_in leaves from).index + zero = ap (λ (p : LeafPlace). p.index) is ∙ omega arith in
    let block : (leaf_in leaves (from + zero)).block ≡ (leaf_in leaves from).block + zero = ap (λ (p : LeafPlace). p.block) is ∙ omega arith in
    (index, block)
run_at leaves from count (suc k) run low =
    let before = run_at leaves from count k run (omega (arith, low)) in
    let leaf : LeafPlace = leaf_in leaves (from + k) in
    let next : LeafPlace = leaf_in leaves (from + k + 1) in
    let behind : is_behind leaf next ≡ true = run.each k (omega (arith, low)) in
    let index : next.index ≡ leaf.index + 1 = eqb-true next.index (leaf.index + 1) (and_left (next.index == leaf.index + 1) (next.block == leaf.block + 1) behind) in
    let block : next.block ≡ leaf.block + 1 = eqb-true next.block (leaf.block + 1) (and_right (next.index == leaf.index + 1) (next.block == leaf.block + 1) behind) in
    let index_on : next.index ≡ (leaf_in leaves from).index + suc k = omega (arith, index, before.0) in
    let block_on : next.block ≡ (leaf_in leaves from).block + suc k = omega (arith, block, before.1) in
    let place : from + suc k ≡ from + k + 1 = omega arith in
    let is : leaf_in leaves (from + suc k) ≡ next = ap (leaf_in leaves) place in
    (ap (λ (p : LeafPlace). p.index) is ∙ index_on, ap (λ (p : LeafPlace). p.block) is ∙ block_on)

module _ (shape : Shape) (node : Root) (leaves : List LeafPlace) (from count : ℕ) (placed : All (IsPlaced shape node) leaves) (run : IsRun leaves from count) where
  -- its last leaf is a block, and lies below the size
  last_placed : IsPlaced shape node (leaf_in leaves (from + (count - 1)))
  last_placed = All-get_or (IsPlaced shape node) leaves (from + (count - 1)) _ (omega (arith, run.some, run.inside)) placed

  -- so all are blocks
  pub run_blocks : (leaf_in leaves from).block + count ≤ shape.count
  run_blocks = omega (arith, run.some, last_placed.block, (run_at leaves from count (count - 1) run (omega (arith, run.some))).1)

  -- and have room among the bytes of all leaves
  pub run_room : (leaf_in leaves from).index * shape.blocksize + count * shape.blocksize ≤ ceil_div node.size shape.blocksize * shape.blocksize
  run_room =
      let first : ℕ = (leaf_in leaves from).index in
      let below : first + count ≤ ceil_div node.size shape.blocksize = omega (arith, run.some, last_placed.index, (run_at leaves from count (count - 1) run (omega (arith, run.some))).0) in
      let room : (first + count) * shape.blocksize ≤ ceil_div node.size shape.blocksize * shape.blocksize = mul-le-mul_right shape.blocksize below in
      omega (arith, room, add-mul first count shape.blocksize)
