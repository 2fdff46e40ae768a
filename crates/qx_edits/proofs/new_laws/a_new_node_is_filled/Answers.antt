use Rattle.qx_edits.proofs.NewEntries.{directory_filled, target_filled}
use Rattle.qx_edits.proofs.new_laws.a_new_node_is_filled.Goals as goal

pub returns-clause-directory : goal.returns-clause-directory
returns-clause-directory c = λ order blocksize n parent change a b holds over empty some_n fits_n some_p fits_p size written none is.
    directory_filled order blocksize n parent change a b holds over empty some_n fits_n some_p fits_p size written none is

pub returns-clause-link : goal.returns-clause-link
returns-clause-link c = λ blocksize target change a b pos over empty size written none is. target_filled blocksize target change a b pos over empty size written none is
