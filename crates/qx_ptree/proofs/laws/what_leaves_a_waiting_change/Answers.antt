use Rattle.qx_ptree.specs.WorkState.{blocks_of}
use Rattle.qx_ptree.proofs.WaitingChanges.{apart_back, apart_each, can_left, left_others, left_taken, left_then, own_held, own_others, own_taken, own_then}
use Rattle.qx_ptree.proofs.laws.what_leaves_a_waiting_change.Goals as goal

pub returns-clause-apart : goal.returns-clause-apart
returns-clause-apart c = λ p q h b. (apart_each p q h b, apart_back (blocks_of p) (blocks_of q) (apart_each p q h) b)

pub returns-clause-own_taken : goal.returns-clause-own_taken
returns-clause-own_taken c = λ fresh p m n t. own_taken fresh p m n t

pub returns-clause-own_others : goal.returns-clause-own_others
returns-clause-own_others c = λ changed p m n l out. own_others changed p m n l out

pub returns-clause-own_then : goal.returns-clause-own_then
returns-clause-own_then c = λ p m n o f g. own_then p m n o f g

pub returns-clause-can : goal.returns-clause-can
returns-clause-can c = λ p m n left can. can_left p m n left can

pub returns-clause-held : goal.returns-clause-held
returns-clause-held c = λ order old now p s works t prepared. own_held order old now p s works t prepared

pub returns-clause-taken : goal.returns-clause-taken
returns-clause-taken c = λ order fresh p m n s told works held t. left_taken order fresh p m n s told works held t

pub returns-clause-others : goal.returns-clause-others
returns-clause-others c = λ order changed p m n l own met. left_others order changed p m n l own met

pub returns-clause-then : goal.returns-clause-then
returns-clause-then c = λ order p m n o f g. left_then order p m n o f g
