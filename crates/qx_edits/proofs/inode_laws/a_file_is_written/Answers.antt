use Rattle.qx_model.specs.Edits.{content_changed, unchanged}
use Rattle.std.proofs.Common.{refl}
use Rattle.qx_edits.proofs.ShownFiles.{sized_shown, written_links, written_shown}
use Rattle.qx_edits.proofs.ShownInodes.{attr_shown}
use Rattle.qx_edits.proofs.inode_laws.a_file_is_written.Goals as goal

pub returns-clause-written : goal.returns-clause-written
returns-clause-written c = λ order s before after old new t f at b bytes change pos shows live body sets others over past size written none is.
    written_shown order s before after old new t f pos shows live body sets others over past at b bytes change size written none is

pub returns-clause-timed : goal.returns-clause-timed
returns-clause-timed c = λ order s before after old new t f at pos shows sets same. attr_shown order s.blocksize before after old new (unchanged t) f.inode (content_changed s.moment) pos shows (λ a. refl) sets same

pub returns-clause-sized : goal.returns-clause-sized
returns-clause-sized c = λ order s before after old new t f size at bytes change pos shows live body sets others over past is_size written none behind is.
    sized_shown order s before after old new t f pos shows live body sets others over past size at bytes change is_size written none behind is

pub returns-clause-links : goal.returns-clause-links
returns-clause-links c = written_links
