use Rattle.std.proofs.Common.{arith}
use Rattle.qx_ptree.specs.ReadyLeaves.{IsWrittenBy}
use Rattle.qx_file.proofs.KeptPointers.{above_itself}
use Rattle.qx_file.proofs.PutNodes.{others_put, shared_stays}
use Rattle.qx_file.proofs.laws.what_is_put_leaves_others.Goals as goal

pub returns-clause-others : goal.returns-clause-others
returns-clause-others c = λ order m n node change at bytes blocks within own puts.
    others_put order m n node at bytes blocks (λ i has. own.own 0 i (omega arith) (above_itself m.holdings.size (IsWrittenBy change) i (within i has))) puts

pub returns-clause-written : goal.returns-clause-written
returns-clause-written c = others_put

pub returns-clause-shared : goal.returns-clause-shared
returns-clause-shared c = λ order m n node at b bytes s can puts shared. shared_stays order m n node at bytes s can puts b shared
