use Rattle.std.proofs.Common.{None}
use Rattle.qx_itable.specs.TableState.{if_live}
use Rattle.qx_itable.proofs.NumberedInodes.{number-set, number-apart}
use Rattle.qx_itable.proofs.laws.a_number_has_what_it_was_given.Goals as goal

pub returns-clause-set : goal.returns-clause-set
returns-clause-set c = λ t n inode from_one within. number-set t.inodes n (if_live inode) from_one within

pub returns-clause-cleared : goal.returns-clause-cleared
returns-clause-cleared c = λ t n from_one within. number-set t.inodes n None from_one within

pub returns-clause-set_apart : goal.returns-clause-set_apart
returns-clause-set_apart c = λ t n other inode from_one positive apart. number-apart t.inodes n (if_live inode) from_one other positive apart

pub returns-clause-cleared_apart : goal.returns-clause-cleared_apart
returns-clause-cleared_apart c = λ t n other from_one positive apart. number-apart t.inodes n None from_one other positive apart
