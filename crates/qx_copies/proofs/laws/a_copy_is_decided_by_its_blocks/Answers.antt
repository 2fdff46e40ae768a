use Rattle.qx_copies.proofs.CopyLocality.{ids_on, meets_back, own_on, represents_on}
use Rattle.qx_copies.proofs.laws.a_copy_is_decided_by_its_blocks.Goals as goal

pub returns-clause-tree : goal.returns-clause-tree
returns-clause-tree c = λ m bytes c t size held is. represents_on m bytes c held t size is

pub returns-clause-own : goal.returns-clause-own
returns-clause-own c = λ m bytes c t size held is own. own_on m bytes c held t size is own

pub returns-clause-ids : goal.returns-clause-ids
returns-clause-ids c = λ m bytes c k block size held is. ids_on m bytes c held k block size is

pub returns-clause-met : goal.returns-clause-met
returns-clause-met c = λ m bytes c b held met. meets_back m bytes c held b met
