use Rattle.std.proofs.Common.{refl}
use Rattle.qx_fields.specs.Number.{field}
use Rattle.qx_records.specs.NameRecord.{long_name_in}
use Rattle.qx_records.proofs.examples.the_long_names_of_leaves.Goals as goal

pub returns-clause-none : goal.returns-clause-none
unfolding field long_name_in
returns-clause-none c = refl

pub returns-clause-three : goal.returns-clause-three
unfolding field long_name_in
returns-clause-three c = refl

pub returns-clause-longest : goal.returns-clause-longest
unfolding field long_name_in
returns-clause-longest c = refl

pub returns-clause-too_long : goal.returns-clause-too_long
unfolding field long_name_in
returns-clause-too_long c = refl
