use Rattle.qx_ptree.proofs.ApartNodes.{apart_stays, apart_turned}
use Rattle.qx_ptree.proofs.laws.nodes_stay_apart.Goals as goal

pub returns-clause-kept : goal.returns-clause-kept
returns-clause-kept c = apart_stays

pub returns-clause-back : goal.returns-clause-back
returns-clause-back c = apart_turned
