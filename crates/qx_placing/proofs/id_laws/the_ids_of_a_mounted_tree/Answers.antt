use Rattle.qx_placing.proofs.FirstReadings.{first_apart, read_first}
use Rattle.qx_placing.proofs.id_laws.the_ids_of_a_mounted_tree.Goals as goal

pub returns-clause-apart : goal.returns-clause-apart
returns-clause-apart c = λ order m c t v serial moment rep own same. first_apart order m c t v serial moment rep own same

pub returns-clause-read : goal.returns-clause-read
returns-clause-read c = λ order m c t v serial moment rep own same held shared. read_first order m c t v serial moment rep own same held shared
