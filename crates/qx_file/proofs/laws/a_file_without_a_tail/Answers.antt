use Rattle.qx_file.proofs.ChangedContents.{no_tail, tail_after, tail_hole, tail_kept, tail_put, tail_whole, tail_zeros}
use Rattle.qx_file.proofs.laws.a_file_without_a_tail.Goals as goal

pub returns-clause-past : goal.returns-clause-past
returns-clause-past c = λ order m node k is none past. no_tail order m node is none k past

pub returns-clause-whole : goal.returns-clause-whole
returns-clause-whole c = tail_whole

pub returns-clause-hole : goal.returns-clause-hole
returns-clause-hole c = tail_hole

pub returns-clause-grown : goal.returns-clause-grown
returns-clause-grown c = λ order old now m p w s a none tail grows. tail_after order old now m p w s a none tail grows

pub returns-clause-put : goal.returns-clause-put
returns-clause-put c = λ order m n node at bytes is can puts room none. tail_put order m n node at bytes is can puts room none

pub returns-clause-zeros : goal.returns-clause-zeros
returns-clause-zeros c = tail_zeros

pub returns-clause-kept : goal.returns-clause-kept
returns-clause-kept c = tail_kept
