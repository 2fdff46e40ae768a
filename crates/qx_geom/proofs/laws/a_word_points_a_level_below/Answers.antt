use Rattle.qx_geom.proofs.SystemBlocks.{system_word_of-is}
use Rattle.qx_geom.proofs.laws.a_word_points_a_level_below.Goals as goal

pub returns : goal.returns
returns c = λ g which tree level index block word e. system_word_of-is g which tree e level index block word
