use Rattle.qx_nodes.specs.NodeContents.{node_content}
use Rattle.qx_ptree.specs.Trees.{block_map}
use Rattle.qx_placing.proofs.LaidCopies.{laid_own, laid_stands, leaves_few, tail_same}
use Rattle.qx_placing.proofs.copy_laws.a_copy_of_laid_nodes_stands_for_what_it_shows.Goals as goal

pub returns-clause-stands : goal.returns-clause-stands
returns-clause-stands c = λ order m c nodes laid has t bounded low rooted shows. laid_stands order m c nodes laid has t bounded low rooted shows

pub returns-clause-own : goal.returns-clause-own
returns-clause-own c = λ order m c nodes laid has t whole used inodes tails. laid_own order m c nodes laid has t whole used inodes tails

pub returns-clause-tail : goal.returns-clause-tail
returns-clause-tail c = λ order m x held pos same. tail_same m.holdings.size held (node_content (block_map order m) x) pos same

pub returns-clause-leaves : goal.returns-clause-leaves
returns-clause-leaves c = leaves_few
