use Rattle.std.proofs.Common.{ap}
use Rattle.qx_view.proofs.HoleRecords.{hole_unused}
use Rattle.qx_view.specs.Sound.{long_number}
use Rattle.qx_view.specs.Walk.{named_inode, record_tests}
use Rattle.qx_view.proofs.laws.records_in_holes_say_nothing.Goals as goal

pub returns-clause-unused : goal.returns-clause-unused
returns-clause-unused c = hole_unused

pub returns-clause-tests : goal.returns-clause-tests
returns-clause-tests c m r at names listed node k size fit hole = ap (record_tests m r at names listed) (hole_unused m node k size fit hole)

pub returns-clause-inode : goal.returns-clause-inode
returns-clause-inode c m longfile node k size fit hole = ap (named_inode m longfile) (hole_unused m node k size fit hole)

pub returns-clause-number : goal.returns-clause-number
returns-clause-number c m node k size fit hole = ap long_number (hole_unused m node k size fit hole)
