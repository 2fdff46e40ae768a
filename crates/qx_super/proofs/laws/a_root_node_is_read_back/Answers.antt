use Rattle.qx_super.proofs.WrittenRoots.{length_root_bytes, root_of-root_bytes}
use Rattle.qx_super.proofs.laws.a_root_node_is_read_back.Goals as goal

pub returns-clause-long : goal.returns-clause-long
returns-clause-long c = λ order root fits. length_root_bytes order root fits.sixteen

pub returns-clause-node : goal.returns-clause-node
returns-clause-node c = root_of-root_bytes
