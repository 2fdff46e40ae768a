use Rattle.qx_ptree.specs.ReadyLeaves.{IsWrittenBy}
use Rattle.qx_file.proofs.CommittedFiles.{put_node}
use Rattle.qx_file.proofs.KeptPointers.{ready_kept, stand_kept}
use Rattle.qx_file.proofs.PutContent.{regular_after, visits_after, works_after}
use Rattle.qx_file.proofs.PutNodes.{pointers_put, told_put}
use Rattle.qx_file.proofs.laws.what_is_put_leaves_the_pointers.Goals as goal

pub returns-clause-visits : goal.returns-clause-visits
returns-clause-visits c = λ order m n node at bytes s can once puts. visits_after order m n node at bytes s can once puts

pub returns-clause-works : goal.returns-clause-works
returns-clause-works c = λ order m n node at bytes s can once puts works. works_after order m n node at bytes s can once puts works

pub returns-clause-regular : goal.returns-clause-regular
returns-clause-regular c = λ order m n node at bytes s can puts works regular. regular_after order m n node at bytes s can regular.apart puts works regular

pub returns-clause-told : goal.returns-clause-told
returns-clause-told c = told_put

pub returns-clause-pointers : goal.returns-clause-pointers
returns-clause-pointers c = λ order m n node at k j bytes is can puts. pointers_put order m n node at bytes is can puts k j

pub returns-clause-node : goal.returns-clause-node
returns-clause-node c = put_node

pub returns-clause-ready : goal.returns-clause-ready
returns-clause-ready c = λ order m n node change at bytes within puts ready.
    ready_kept order m n node (IsWrittenBy change) ready puts.holdings (λ b out. puts.others b (λ i has. out i (within i has)))

pub returns-clause-stand : goal.returns-clause-stand
returns-clause-stand c = λ order m n node change at bytes blocks within puts ready stand.
    stand_kept order m n node (IsWrittenBy change) blocks ready puts.holdings (λ b out. puts.others b (λ i has. out i (within i has))) stand
