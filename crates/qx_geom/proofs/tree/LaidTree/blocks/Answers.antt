use Rattle.std.proofs.Common.{◌+◌, ◌∙◌, ap, arith, suc, ℕ, add-one}
use Rattle.qx_geom.specs.Layout.{below_level, tree_blocks}
use Rattle.qx_geom.proofs.LevelCounts.{below_level-le}
use Rattle.qx_geom.proofs.tree.LaidTree.blocks.Goals as goal

pub returns-clause-blocks : goal.returns-clause-blocks
unfolding tree_blocks
returns-clause-blocks c =
    let b = c.args.self.blocksize in let n = c.args.self.leaves in
    c.below.ensures ∙ ap (λ (k : ℕ). below_level b n k) (add-one c.levels.result) ∙ ap (λ (k : ℕ). below_level b n (suc k)) c.levels.ensures.levels

pub returns-clause-few : goal.returns-clause-few
returns-clause-few c = omega (arith, below_level-le c.args.self.blocksize c.args.self.leaves c.args.self.block_size (c.levels.result + 1) 3 (omega arith))
