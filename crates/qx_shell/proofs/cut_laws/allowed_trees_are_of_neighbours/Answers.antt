use Rattle.qx_shell.proofs.AllowedTrees.{allowed_neighbours}
use Rattle.qx_shell.proofs.cut_laws.allowed_trees_are_of_neighbours.Goals as goal

pub returns : goal.returns
returns c = allowed_neighbours
