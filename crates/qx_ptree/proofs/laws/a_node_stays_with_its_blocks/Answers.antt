use Rattle.std.proofs.Common.{ap}
use Rattle.qx_ptree.specs.Alterations.{fresh_count}
use Rattle.qx_ptree.proofs.KeptNodes.{alteration_kept, content_kept, kept_then, leaf_kept, piece_kept, pointers_kept, regular_kept, told_kept, visits_kept, working_kept}
use Rattle.qx_ptree.proofs.laws.a_node_stays_with_its_blocks.Goals as goal

pub returns-clause-visits : goal.returns-clause-visits
returns-clause-visits c = λ order m n node k. visits_kept order m n node k

pub returns-clause-works : goal.returns-clause-works
returns-clause-works c = λ order m n node k works. working_kept order m n node k works

pub returns-clause-regular : goal.returns-clause-regular
returns-clause-regular c = λ order m n node s k works r. regular_kept order m n node k s works r

pub returns-clause-leaves : goal.returns-clause-leaves
returns-clause-leaves c = λ order m n node i k below. leaf_kept order m n node k i below

pub returns-clause-then : goal.returns-clause-then
returns-clause-then c = kept_then

pub returns-clause-told : goal.returns-clause-told
returns-clause-told c = λ order m n node s k is. told_kept order m n node s k is

pub returns-clause-pointers : goal.returns-clause-pointers
returns-clause-pointers c = λ order m n node l j s k is. pointers_kept order m n node s k is l j

pub returns-clause-alteration : goal.returns-clause-alteration
returns-clause-alteration c = λ order m n node change s k is. alteration_kept order m n node s k is change

pub returns-clause-need : goal.returns-clause-need
returns-clause-need c = λ order m n node change s k is. ap fresh_count (alteration_kept order m n node s k is change)

pub returns-clause-content : goal.returns-clause-content
returns-clause-content c = content_kept

pub returns-clause-piece : goal.returns-clause-piece
returns-clause-piece c = piece_kept
