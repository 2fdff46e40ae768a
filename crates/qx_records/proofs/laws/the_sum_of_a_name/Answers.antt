use Rattle.std.proofs.Common.{refl}
use Rattle.qx_records.specs.NameSum.{name_sum_of, name_sum_signed_of}
use Rattle.qx_records.proofs.laws.the_sum_of_a_name.Goals as goal

pub returns-clause-unsigned : goal.returns-clause-unsigned
unfolding name_sum_of
returns-clause-unsigned c = refl

pub returns-clause-signed : goal.returns-clause-signed
unfolding name_sum_signed_of
returns-clause-signed c = refl
