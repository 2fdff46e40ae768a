use Rattle.qx_ptree.specs.ReadyLeaves.{IsWrittenBy}
use Rattle.qx_ptree.proofs.StayingLeaves.{ready_stays, stand_stays, stay_others, stay_taken}
use Rattle.qx_ptree.proofs.laws.what_leaves_written_leaves.Goals as goal

pub returns-clause-taken : goal.returns-clause-taken
returns-clause-taken c = λ order fresh m n node change blocks t ready stand.
    (ready_stays order m n node (IsWrittenBy change) blocks ready stand (stay_taken fresh m n blocks t), stand_stays order m n node (IsWrittenBy change) blocks ready stand (stay_taken fresh m n blocks t))

pub returns-clause-others : goal.returns-clause-others
returns-clause-others c = λ order changed m n node change blocks l out ready stand.
    (ready_stays order m n node (IsWrittenBy change) blocks ready stand (stay_others m n changed blocks l out), stand_stays order m n node (IsWrittenBy change) blocks ready stand (stay_others m n changed blocks l out))
