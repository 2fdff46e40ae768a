use Rattle.qx_nodes.proofs.PiecesOfContent.{piece_in_content}
use Rattle.qx_nodes.proofs.laws.a_piece_is_a_part_of_the_content.Goals as goal

pub returns : goal.returns
returns c = piece_in_content
