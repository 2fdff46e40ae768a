use Rattle.qx_nodes.proofs.ContentLocality.{byte_local, content_local, piece_local}
use Rattle.qx_nodes.proofs.laws.what_is_met_decides_content.Goals as goal

pub returns-clause-byte : goal.returns-clause-byte
returns-clause-byte c = byte_local

pub returns-clause-content : goal.returns-clause-content
returns-clause-content c = content_local

pub returns-clause-piece : goal.returns-clause-piece
returns-clause-piece c = piece_local
