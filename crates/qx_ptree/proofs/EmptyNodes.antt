-- A node of nothing.
use Rattle.std.proofs.Common.{◌≡◌, ℕ, ◌+◌, ◌-◌, ◌/◌, ◌<◌, ◌≤◌, [], refl, ap, arith}
use Rattle.std.specs.Prelude.{false, not, ◌||◌, ◌==◌}
use Rattle.std.proofs.lemmas.Nat.{div_below}
use Rattle.qx_fields.specs.declared.order.Order.{Order}
use Rattle.qx_geom.specs.declared.root.Root.{Root}
use Rattle.qx_geom.specs.Layout.{levels_for}
use Rattle.qx_geom.specs.Pointer.{ceil_div}
use Rattle.qx_geom.proofs.LeastLevels.{levels_for-le}
use Rattle.qx_nodes.specs.BlockMap.{BlockMap}
use Rattle.qx_nodes.specs.Visits.{visits_of}
use Rattle.qx_blocks.specs.BlockState.{BlockState, IsBlockSize}
use Rattle.qx_ptree.specs.Trees.{AreApart, IsNode, IsRegular, IsWorking, empty_node}
use Rattle.qx_ptree.proofs.PointerCounts.{size_positive}

-- it has no leaf
no_leaves : (b : ℕ) → 0 < b → ceil_div 0 b ≡ 0
no_leaves b some = let low : (0 + b - 1) / b < 1 = div_below (0 + b - 1) b 1 some (omega arith) in omega arith

-- no level is needed
no_levels : (b : ℕ) → 0 < b → levels_for b (ceil_div 0 b) ≡ 0
no_levels b some =
    let none : levels_for b (ceil_div 0 b) ≤ 0 = levels_for-le b (ceil_div 0 b) 0 (omega (arith, no_leaves b some)) in
    omega arith

-- so it is as this project writes nodes
empty-regular : (order : Order) (m : BlockState) → IsBlockSize m.holdings.size → IsRegular order m empty_node
empty-regular order m is = record {
  plain = ap (λ l. not (0 == l) || false) (no_levels m.holdings.size (size_positive m.holdings.size is));
  apart = λ u v c d e. absurd (omega (arith, c.1));
}

-- it has no block
empty-works : (order : Order) (m : BlockState) → IsWorking order m empty_node
empty-works order m v c = absurd (omega (arith, c.1))

-- it meets none
pub empty-visits : (m : BlockMap) → visits_of m empty_node ≡ []
empty-visits m = refl

-- so it is apart from every node
pub empty-apart : (order : Order) (m : BlockState) (node : Root) → AreApart order m empty_node node × AreApart order m node empty_node
empty-apart order m node = (λ u v c d same. absurd (omega (arith, c.1)), λ u v c d same. absurd (omega (arith, d.1)))

-- and it can be changed
pub empty-node : (order : Order) (m : BlockState) → IsBlockSize m.holdings.size → IsNode order m empty_node
empty-node order m is = record { levels = record { most = omega arith; reached = omega arith }; works = λ _. empty-works order m; regular = λ _. empty-regular order m is }
