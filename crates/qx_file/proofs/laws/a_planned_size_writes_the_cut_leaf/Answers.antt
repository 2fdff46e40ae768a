use Rattle.std.proofs.Common.{arith}
use Rattle.qx_geom.proofs.BlockSizes.{block_size-bounds}
use Rattle.qx_file.proofs.PlannedChanges.{cut_below, cut_can, cut_from, cut_none, cut_to, size_is_change}
use Rattle.qx_file.proofs.laws.a_planned_size_writes_the_cut_leaf.Goals as goal

pub returns-clause-change : goal.returns-clause-change
returns-clause-change c = λ node size b last is ends. size_is_change node size b last is ends

pub returns-clause-written : goal.returns-clause-written
returns-clause-written c = λ node size b i last is cuts.
    (cut_to node size b i last (omega (arith, (block_size-bounds b is).size_from)) cuts, cut_from node size b i last (omega (arith, (block_size-bounds b is).size_from)) cuts)

pub returns-clause-none : goal.returns-clause-none
returns-clause-none c = λ node size b i last cuts. cut_none node size b i last cuts

pub returns-clause-below : goal.returns-clause-below
returns-clause-below c = λ node size b last is cuts. cut_below node size b last (omega (arith, (block_size-bounds b is).size_from)) cuts

pub returns-clause-can : goal.returns-clause-can
returns-clause-can c = λ order m node root size last k cuts levels is ready. cut_can order m node root size last k cuts levels is ready
