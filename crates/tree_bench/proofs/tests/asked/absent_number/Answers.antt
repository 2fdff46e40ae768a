use Rattle.std.proofs.Common.{◌≡◌, ◌∙◌, ℕ, ap, arith}
use Rattle.std.specs.Int.{div_ceil}
use Rattle.qx_geom.specs.Pointer.{ceil_div}
use Rattle.qx_geom.proofs.LevelCounts.{ceil_div-is}
use Rattle.qx_blocks.specs.BlockState.{BlockState}
use Rattle.qx_ptree.proofs.PointerCounts.{size_positive}
use Rattle.qx_ptree.specs.Trees.{block_map}
use Rattle.qx_ptree.proofs.FirstHoles.{past_lacks}
use Rattle.tree_bench.proofs.tests.asked.absent_number.Goals as goal

-- the first number past the size is one
pub first_absent-requires-clause-room : goal.first_absent-requires-clause-room
first_absent-requires-clause-room g c = λ told.
    let m : BlockState = g.B.Blocks.state c.args.blocks.now in
    let past : ℕ = ceil_div c.args.long.now.size m.holdings.size in
    let same : c.div_ceil.result ≡ past =
    c.div_ceil.ensures ∙ ap (div_ceil c.args.long.now.size) c.size.ensures.size ∙ ceil_div-is c.args.long.now.size m.holdings.size (size_positive m.holdings.size c.size.ensures.consistent.size) in
    record { number = past; fits = omega (arith, same); absent = past_lacks (block_map c.args.order m) c.args.long.now past (omega arith) }
