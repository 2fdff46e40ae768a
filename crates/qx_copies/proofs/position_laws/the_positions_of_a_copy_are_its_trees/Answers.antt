use Rattle.qx_copies.proofs.CopyPositions.{ids_placed, one_stands, position_stands, stands_position}
use Rattle.qx_copies.proofs.position_laws.the_positions_of_a_copy_are_its_trees.Goals as goal

pub returns-clause-stands : goal.returns-clause-stands
returns-clause-stands c = λ m c t rep own p has. position_stands m c t rep own p has

pub returns-clause-others : goal.returns-clause-others
returns-clause-others c = λ m c t rep own p b s. stands_position m c t rep own p b s

pub returns-clause-one : goal.returns-clause-one
returns-clause-one c = λ m c p b d s u. one_stands m c p b d s u

pub returns-clause-ids : goal.returns-clause-ids
returns-clause-ids c = λ m c k block rep own placed. ids_placed m c k block rep own placed
