use Rattle.std.specs.Prelude.{None, Some}
use Rattle.qx_copies.specs.Examples.{top_inode}
use Rattle.qx_copies.proofs.SmallCopies.{no_second, no_status, own, represents}
use Rattle.qx_copies.proofs.examples.the_copy_of_a_new_volume.Goals as goal

pub returns-clause-tree : goal.returns-clause-tree
returns-clause-tree c = represents

pub returns-clause-own : goal.returns-clause-own
returns-clause-own c = own

pub returns-clause-other_number : goal.returns-clause-other_number
returns-clause-other_number c = no_second None

pub returns-clause-twice : goal.returns-clause-twice
returns-clause-twice c = no_second (Some top_inode)

pub returns-clause-other_status : goal.returns-clause-other_status
returns-clause-other_status c = no_status
