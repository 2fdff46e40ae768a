use Rattle.qx_edits.proofs.WholeEdits.{directory_is_whole, file_whole, link_whole}
use Rattle.qx_edits.proofs.whole_laws.new_inodes_are_whole.Goals as goal

pub returns-clause-file : goal.returns-clause-file
returns-clause-file c = file_whole

pub returns-clause-directory : goal.returns-clause-directory
returns-clause-directory c = directory_is_whole

pub returns-clause-link : goal.returns-clause-link
returns-clause-link c = link_whole
