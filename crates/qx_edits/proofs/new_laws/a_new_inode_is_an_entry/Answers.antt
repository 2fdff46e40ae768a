use Rattle.qx_edits.proofs.NewEntries.{new_dir, new_file, new_target}
use Rattle.qx_edits.proofs.new_laws.a_new_inode_is_an_entry.Goals as goal

pub returns-clause-file : goal.returns-clause-file
returns-clause-file c = new_file

pub returns-clause-directory : goal.returns-clause-directory
returns-clause-directory c = new_dir

pub returns-clause-link : goal.returns-clause-link
returns-clause-link c = new_target
