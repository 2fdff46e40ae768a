use Rattle.qx_ptree.proofs.CommittedHoldings.{holds-free, holds-frees, holds-held, holds-private, holds-shared, holds-works}
use Rattle.qx_ptree.proofs.laws.what_a_commit_makes_of_blocks.Goals as goal

pub returns-clause-works : goal.returns-clause-works
returns-clause-works c = holds-works

pub returns-clause-held : goal.returns-clause-held
returns-clause-held c = λ m p b s. holds-held m p s b

pub returns-clause-private : goal.returns-clause-private
returns-clause-private c = λ m p b s. holds-private m p s b

pub returns-clause-free : goal.returns-clause-free
returns-clause-free c = holds-free

pub returns-clause-frees : goal.returns-clause-frees
returns-clause-frees c = λ m p b s gone alone. holds-frees m p s b gone alone

pub returns-clause-shared : goal.returns-clause-shared
returns-clause-shared c = λ m p b s can shared. holds-shared m p s b can shared
