use Rattle.qx_model.proofs.RefusedActs.{end_drops_holds, refusal_leaves, refusal_leaves_sessions}
use Rattle.qx_model.proofs.turn_laws.a_refusal_leaves_tree_and_sessions.Goals as goal

pub returns-clause-working : goal.returns-clause-working
returns-clause-working c = refusal_leaves

pub returns-clause-sessions : goal.returns-clause-sessions
returns-clause-sessions c = refusal_leaves_sessions

pub returns-clause-end : goal.returns-clause-end
returns-clause-end c = end_drops_holds
