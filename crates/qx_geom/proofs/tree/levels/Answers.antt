use Rattle.std.proofs.Common.{sym, arith}
use Rattle.qx_geom.proofs.LeastLevels.{levels_for-is}
use Rattle.qx_geom.proofs.tree.levels.Goals as goal

pub returns-then-leaves-reached : goal.returns-then-leaves-reached
returns-then-leaves-reached c = sym (levels_for-is c.args.blocksize c.args.leaves c.loop-level.level (omega arith) (omega arith) c.loop-level.invariant.fewer)

pub returns : goal.returns
returns c = sym (levels_for-is c.args.blocksize c.args.leaves 5 (omega arith) c.requires.reached (λ k less. c.loop-level.invariant.fewer k (omega arith)))
