use Rattle.qx_nodes.proofs.NamesOfLeaves.{name_by_content}
use Rattle.qx_nodes.proofs.laws.a_long_name_is_read_by_its_content.Goals as goal

pub returns : goal.returns
returns c = name_by_content
