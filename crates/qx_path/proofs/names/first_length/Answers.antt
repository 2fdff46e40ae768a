use Rattle.qx_path.proofs.FirstNames.{first_length-position}
use Rattle.qx_path.proofs.names.first_length.Goals as goal

pub returns : goal.returns
returns c = cc (c.unwrap_or.ensures, c.first_slash.ensures, first_length-position c.args.bytes.now)
