use Rattle.qx_view.proofs.ActiveHalf.{active_half_held, held_or_outside}
use Rattle.qx_view.proofs.laws.the_active_half_is_held.Goals as goal

pub returns-clause-held : goal.returns-clause-held
returns-clause-held c = active_half_held

pub returns-clause-others : goal.returns-clause-others
returns-clause-others c = held_or_outside
