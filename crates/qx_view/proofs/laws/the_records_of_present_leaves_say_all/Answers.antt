use Rattle.std.proofs.Common.{refl}
use Rattle.qx_view.proofs.HoleRecords.{given_by_present, tests_by_present}
use Rattle.qx_view.specs.Sound.{long_number}
use Rattle.qx_view.specs.Walk.{named_inode}
use Rattle.qx_view.proofs.laws.the_records_of_present_leaves_say_all.Goals as goal

pub returns-clause-tests : goal.returns-clause-tests
returns-clause-tests c m r d p node names listed size whole fit = tests_by_present m node size whole fit r d p names listed

pub returns-clause-inodes : goal.returns-clause-inodes
returns-clause-inodes c m longfile node size whole fit = given_by_present m node size whole fit (named_inode m longfile) refl

pub returns-clause-numbers : goal.returns-clause-numbers
returns-clause-numbers c m node size whole fit = given_by_present m node size whole fit long_number refl
