use Rattle.qx_nodes.proofs.NamesOfLeaves.{name_by_bytes}
use Rattle.qx_nodes.proofs.laws.a_name_is_what_its_leaf_says.Goals as goal

pub returns : goal.returns
returns c = name_by_bytes
