use Rattle.std.proofs.Common.{◌<◌, arith}
use Rattle.qx_geom.proofs.BlockSizes.{power_pos, power-fits}
use Rattle.qx_geom.proofs.LevelCounts.{ceil_div-is}
use Rattle.qx_geom.proofs.tree.LaidTree.count.Goals as goal

pub pow-reached-requires : goal.pow-reached-requires
pow-reached-requires c = power-fits c.args.self.blocksize c.from.result c.args.self.block_size (omega arith)

pub div_ceil-requires : goal.div_ceil-requires
div_ceil-requires c = let some = power_pos c.args.self.blocksize c.from.result c.args.self.block_size in omega arith

pub returns-clause-count : goal.returns-clause-count
returns-clause-count c =
    let power = power_pos c.args.self.blocksize c.from.result c.args.self.block_size in let some : 0 < c.pow-reached.result = omega arith in
    let rounded = ceil_div-is c.args.self.leaves c.pow-reached.result some in
    cc
