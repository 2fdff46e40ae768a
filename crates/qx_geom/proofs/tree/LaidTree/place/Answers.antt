use Rattle.std.proofs.Common.{◌≡◌, ◌≤◌, ℕ, sym, ap, arith}
use Rattle.qx_geom.specs.Layout.{below_level, levels_for}
use Rattle.qx_geom.proofs.LevelCounts.{levels_for-some, level_count-last, index-within, pointer_place-is, pointer_place-last}
use Rattle.qx_geom.proofs.tree.LaidTree.place.Goals as goal

-- a lower level has the block
pub returns-then-index-count-clause-place : goal.returns-then-index-count-clause-place
returns-then-index-count-clause-place c =
    sym (pointer_place-is c.args.self.blocksize c.args.self.leaves c.args.self.block_size c.loop-level.level c.loop-level.index c.args.behind (omega arith) (omega arith) (omega arith) (omega arith))

pub returns-then-index-count-clause-index : goal.returns-then-index-count-clause-index
returns-then-index-count-clause-index c = index-within c.args.self.blocksize c.args.self.leaves c.args.self.block_size c.loop-level.index c.loop-level.level (omega arith) (omega arith)

-- the last level has it
pub returns-clause-above : goal.returns-clause-above
returns-clause-above c = omega (arith, levels_for-some c.args.self.blocksize c.args.self.leaves c.args.self.block_size (omega arith))

pub returns-clause-place : goal.returns-clause-place
returns-clause-place c =
    let b = c.args.self.blocksize in let n = c.args.self.leaves in
    let some : 1 ≤ c.levels-levels.result = returns-clause-above c in
    let here : c.loop-level.level ≡ levels_for b n = omega arith in
    let below : below_level b n c.loop-level.level ≡ below_level b n (levels_for b n) = ap (λ (k : ℕ). below_level b n k) here in
    let place = pointer_place-last b n c.args.self.block_size c.loop-level.index c.args.behind (omega arith) c.requires (omega arith) in
    cc

pub returns-clause-index : goal.returns-clause-index
returns-clause-index c =
    let b = c.args.self.blocksize in let n = c.args.self.leaves in
    let some : 1 ≤ c.levels-levels.result = returns-clause-above c in
    let here : c.loop-level.level ≡ levels_for b n = omega arith in
    let below : below_level b n c.loop-level.level ≡ below_level b n (levels_for b n) = ap (λ (k : ℕ). below_level b n k) here in
    index-within b n c.args.self.block_size c.loop-level.index (levels_for b n) (omega arith) (level_count-last b n c.args.self.block_size c.loop-level.index c.args.behind c.requires (omega arith))
