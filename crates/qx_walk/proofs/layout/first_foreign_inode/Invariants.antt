use Rattle.std.proofs.Common.{◌≡◌, ℕ, ◌≤◌, false}
use Rattle.qx_nodes.specs.BlockMap.{BlockMap}
use Rattle.qx_view.specs.Images.{Roots}
use Rattle.qx_view.specs.Sound.{fails_inodes}
use Rattle.qx_view.specs.Walk.{walked_inodes}
use Rattle.qx_walk.specs.Trees.{IsWalked}
use Rattle.qx_walk.proofs.layout.first_foreign_inode.Given as goal

abbrev pub invariant-loop-place : goal.invariant-loop-place
invariant-loop-place l = (m : BlockMap) (r : Roots) → IsWalked m r l.walked → (k : ℕ) → k ≤ l.place → fails_inodes m r (walked_inodes m r) k ≡ false
