use Rattle.qx_model.proofs.FewNotices.{few_notices}
use Rattle.qx_model.proofs.turn_laws.a_turn_tells_at_most_three_things.Goals as goal

pub returns : goal.returns
returns c = few_notices
