use Rattle.qx_path.proofs.JoinedNames.{names-joined}
use Rattle.qx_path.proofs.laws.names_of_joined_bytes.Goals as goal

pub returns : goal.returns
returns c = names-joined
