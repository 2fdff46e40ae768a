use Rattle.qx_shell.proofs.MountedCuts.{found_clean, found_mounts, mounts_found}
use Rattle.qx_shell.proofs.cut_laws.what_a_cut_leaves_can_be_mounted.Goals as goal

pub returns-clause-mounts : goal.returns-clause-mounts
returns-clause-mounts c = found_mounts

pub returns-clause-begins : goal.returns-clause-begins
returns-clause-begins c = mounts_found

pub returns-clause-clean : goal.returns-clause-clean
returns-clause-clean c = found_clean
