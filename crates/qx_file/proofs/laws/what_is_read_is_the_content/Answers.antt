use Rattle.qx_file.proofs.ReadBytes.{read_part}
use Rattle.qx_file.proofs.laws.what_is_read_is_the_content.Goals as goal

pub returns : goal.returns
returns c = read_part
