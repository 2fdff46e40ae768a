-- The records of a leaf by their numbers.
use Rattle.std.proofs.Common.{◌≡◌, ℕ, ◌+◌, ◌-◌, ◌*◌, ◌/◌, ◌^◌, ◌<◌, ◌≤◌, inl, inr, sym, subst, arith}
use Rattle.qx_geom.specs.declared.root.Root.{Root}
use Rattle.qx_geom.specs.Pointer.{ceil_div, reach}
use Rattle.qx_geom.proofs.LevelCounts.{ceil_div-below, ceil_div-le}
use Rattle.qx_blocks.specs.BlockState.{IsBlockSize}
use Rattle.qx_ptree.specs.Trees.{HasLevels}
use Rattle.qx_ptree.proofs.PartBounds.{power-few}
use Rattle.qx_ptree.proofs.PointerCounts.{size_positive}
use Rattle.qx_lookup.specs.Rows.{records_end}

-- what holds at each of the sizes holds
each_size : (P : ℕ → Type 0) (size : ℕ) → IsBlockSize size → P 512 → P 1024 → P 2048 → P 4096 → P size
each_size P size sized a b c d = elim sized [
  | inl is ↦ subst P (sym is) a
  | inr k ↦ elim k [ inl is ↦ subst P (sym is) b | inr k ↦ elim k [ inl is ↦ subst P (sym is) c | inr is ↦ subst P (sym is) d ] ]
]

-- those of a leaf that begins below a directory's size: their numbers are small, and they are no more than a leaf has
pub record LeafBounds (size bytes index : ℕ) : Type 0 where
  pub next : index + 1 ≤ bytes
  pub behind : (index + 1) * (size / 32) ≤ bytes / 32 + 128
  pub begins : index * (size / 32) ≤ bytes / 32
  pub some : index * (size / 32) ≤ records_end size bytes index
  pub few : 32 * (records_end size bytes index - index * (size / 32)) ≤ size

pub leaf_bounds : (size bytes index : ℕ) → IsBlockSize size → index < ceil_div bytes size → LeafBounds size bytes index
leaf_bounds size bytes index sized below =
    each_size (λ z. index * z < bytes → LeafBounds z bytes index) size sized
    (λ low. record { next = omega (arith, low); behind = omega (arith, low); begins = omega (arith, low); some = omega (arith, low); few = omega (arith, low) })
    (λ low. record { next = omega (arith, low); behind = omega (arith, low); begins = omega (arith, low); some = omega (arith, low); few = omega (arith, low) })
    (λ low. record { next = omega (arith, low); behind = omega (arith, low); begins = omega (arith, low); some = omega (arith, low); few = omega (arith, low) })
    (λ low. record { next = omega (arith, low); behind = omega (arith, low); begins = omega (arith, low); some = omega (arith, low); few = omega (arith, low) })
    (ceil_div-below bytes size index (size_positive size sized) below)

-- a leaf of a node has a small number
pub leaf_few : (size index : ℕ) (node : Root) → IsBlockSize size → HasLevels size node → index < ceil_div node.size size → index < 2 ^ 54
leaf_few size index node sized levels below =
    let most : ceil_div node.size size ≤ reach size node.levels = ceil_div-le node.size size (reach size node.levels) (size_positive size sized) levels.reached in
    omega (arith, below, most, power-few size node.levels sized levels.most)

-- a hole before a leaf that begins below a directory's size begins with a record below it
pub hole_low : (size bytes from index : ℕ) → IsBlockSize size → index < ceil_div bytes size → from < index → from * (size / 32) < bytes / 32
hole_low size bytes from index sized below before =
    each_size (λ z. index * z < bytes → from * (z / 32) < bytes / 32) size sized
    (λ low. omega (arith, low, before)) (λ low. omega (arith, low, before)) (λ low. omega (arith, low, before)) (λ low. omega (arith, low, before))
    (ceil_div-below bytes size index (size_positive size sized) below)

-- the first record of a leaf is in the leaf
pub first_of_leaf : (size leaf : ℕ) → IsBlockSize size → leaf * (size / 32) * 32 / size ≡ leaf
first_of_leaf size leaf sized = each_size (λ z. leaf * (z / 32) * 32 / z ≡ leaf) size sized (omega arith) (omega arith) (omega arith) (omega arith)

-- few leaves have few records
pub few_records : (size from : ℕ) → IsBlockSize size → from ≤ 2 ^ 54 → from * (size / 32) < 2 ^ 64
few_records size from sized few = each_size (λ z. from * (z / 32) < 2 ^ 64) size sized (omega (arith, few)) (omega (arith, few)) (omega (arith, few)) (omega (arith, few))
