use Rattle.qx_shell.proofs.DurableRuns.{ends_durable, leaves_its_tree, one_allowed}
use Rattle.qx_shell.proofs.end_laws.a_run_that_ends_well_leaves_its_tree.Goals as goal

pub returns-clause-durable : goal.returns-clause-durable
returns-clause-durable c = ends_durable

pub returns-clause-one : goal.returns-clause-one
returns-clause-one c = one_allowed

pub returns-clause-tree : goal.returns-clause-tree
returns-clause-tree c = leaves_its_tree
