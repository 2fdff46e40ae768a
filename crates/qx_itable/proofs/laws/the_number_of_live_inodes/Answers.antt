use Rattle.std.proofs.Common.{None, arith}
use Rattle.qx_itable.specs.TableState.{if_live}
use Rattle.qx_itable.proofs.NumberedInodes.{live-set}
use Rattle.qx_itable.proofs.laws.the_number_of_live_inodes.Goals as goal

pub returns-clause-set : goal.returns-clause-set
returns-clause-set c = λ t n inode from_one within. live-set t.inodes n (if_live inode) from_one within

pub returns-clause-cleared : goal.returns-clause-cleared
returns-clause-cleared c = λ t n from_one within. omega (arith, live-set t.inodes n None from_one within)
