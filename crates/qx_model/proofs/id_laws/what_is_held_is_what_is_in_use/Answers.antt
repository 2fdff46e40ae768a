use Rattle.qx_model.proofs.HeldIds.{used_count, used_list}
use Rattle.qx_model.proofs.id_laws.what_is_held_is_what_is_in_use.Goals as goal

pub returns-clause-some : goal.returns-clause-some
returns-clause-some c = used_list

pub returns-clause-count : goal.returns-clause-count
returns-clause-count c = used_count
