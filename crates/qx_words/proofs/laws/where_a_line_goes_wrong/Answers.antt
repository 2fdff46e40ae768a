use Rattle.qx_words.proofs.FoundLines.{found_wrong}
use Rattle.qx_words.proofs.LineFaults.{goes_wrong, one_wrong}
use Rattle.qx_words.proofs.laws.where_a_line_goes_wrong.Goals as goal

pub returns-clause-one : goal.returns-clause-one
returns-clause-one c = one_wrong

pub returns-clause-found : goal.returns-clause-found
returns-clause-found c line at = (goes_wrong line at, found_wrong line at)
