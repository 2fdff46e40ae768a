use Rattle.qx_geom.proofs.SystemBlocks.{IsPointerBlock-above, IsTreeBlock-pointer, tree_block-below}
use Rattle.qx_geom.proofs.laws.a_tree_stands_in_its_half.Goals as goal

pub returns-clause-above : goal.returns-clause-above
returns-clause-above c = λ g which tree level index block e. IsPointerBlock-above g which tree e level index block

pub returns-clause-placed : goal.returns-clause-placed
returns-clause-placed c = λ g which tree block e. IsTreeBlock-pointer g which tree e block

pub returns-clause-to : goal.returns-clause-to
returns-clause-to c = λ g which tree level index block e. tree_block-below g which tree e level index block
