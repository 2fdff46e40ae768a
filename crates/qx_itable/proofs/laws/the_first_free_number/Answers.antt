use Rattle.std.proofs.Common.{arith}
use Rattle.qx_itable.proofs.NumberedInodes.{free-first, free-none, free-least, none-free, all-live}
use Rattle.qx_itable.proofs.laws.the_first_free_number.Goals as goal

pub returns-clause-number : goal.returns-clause-number
returns-clause-number c = λ t n found. ((free-first t n found).from, omega (arith, (free-first t n found).below))

pub returns-clause-free : goal.returns-clause-free
returns-clause-free c = free-none

pub returns-clause-least : goal.returns-clause-least
returns-clause-least c = free-least

pub returns-clause-none : goal.returns-clause-none
returns-clause-none c = λ t. (none-free t, all-live t)
