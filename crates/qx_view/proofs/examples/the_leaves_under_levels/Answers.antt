use Rattle.std.proofs.Common.{refl}
use Rattle.qx_fields.specs.Number.{field, fields}
use Rattle.qx_view.proofs.examples.the_leaves_under_levels.Goals as goal

pub returns-clause-none : goal.returns-clause-none
unfolding field fields
returns-clause-none c = refl

pub returns-clause-one : goal.returns-clause-one
unfolding field fields
returns-clause-one c = refl

pub returns-clause-two : goal.returns-clause-two
unfolding field fields
returns-clause-two c = refl

pub returns-clause-three : goal.returns-clause-three
unfolding field fields
returns-clause-three c = refl

pub returns-clause-four : goal.returns-clause-four
unfolding field fields
returns-clause-four c = refl

pub returns-clause-five : goal.returns-clause-five
unfolding field fields
returns-clause-five c = refl

pub returns-clause-first : goal.returns-clause-first
unfolding field fields
returns-clause-first c = refl

pub returns-clause-last_of_the_first : goal.returns-clause-last_of_the_first
unfolding field fields
returns-clause-last_of_the_first c = refl

pub returns-clause-hole : goal.returns-clause-hole
unfolding field fields
returns-clause-hole c = refl

pub returns-clause-past_the_pointers : goal.returns-clause-past_the_pointers
unfolding field fields
returns-clause-past_the_pointers c = refl

pub returns-clause-damage : goal.returns-clause-damage
unfolding field fields
returns-clause-damage c = refl
