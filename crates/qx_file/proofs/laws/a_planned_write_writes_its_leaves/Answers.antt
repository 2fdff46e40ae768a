use Rattle.std.proofs.Common.{arith}
use Rattle.qx_geom.proofs.BlockSizes.{block_size-bounds}
use Rattle.qx_file.proofs.PlannedChanges.{write_below, write_can, write_from, write_is_change, write_to}
use Rattle.qx_file.proofs.laws.a_planned_write_writes_its_leaves.Goals as goal

pub returns-clause-change : goal.returns-clause-change
returns-clause-change c = λ node at count b is more fits ends. write_is_change node at count b is more fits ends

pub returns-clause-written : goal.returns-clause-written
returns-clause-written c = λ node at count b i is more.
    (write_to node at count b i (omega (arith, (block_size-bounds b is).size_from)) more, write_from node at count b i (omega (arith, (block_size-bounds b is).size_from)) more)

pub returns-clause-below : goal.returns-clause-below
returns-clause-below c = λ node at count b is. write_below node at count b is

pub returns-clause-can : goal.returns-clause-can
returns-clause-can c = λ order m node root at count k more levels size ready. write_can order m node root at count k more levels size ready
