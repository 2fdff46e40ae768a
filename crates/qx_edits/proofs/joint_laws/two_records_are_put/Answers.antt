use Rattle.qx_edits.proofs.JointPuts.{two_put}
use Rattle.qx_edits.proofs.joint_laws.two_records_are_put.Goals as goal

pub returns : goal.returns
returns c = λ order blocksize k j first second bytes others change a b holds over whole low most size written none wide says wide_others says_others is.
    two_put order blocksize k j first second bytes others change a b holds over whole low most size written none wide says wide_others says_others is
