use Rattle.qx_words.proofs.ReadLines.{read_whole_line}
use Rattle.qx_words.proofs.SpelledLines.{line_taken}
use Rattle.qx_words.proofs.laws.one_reading.Goals as goal

pub returns-clause-one : goal.returns-clause-one
returns-clause-one c line l k first second = let a = read_whole_line line l first in let b = read_whole_line line k second in cc

pub returns-clause-found : goal.returns-clause-found
returns-clause-found c line l = (line_taken line l, read_whole_line line l)
