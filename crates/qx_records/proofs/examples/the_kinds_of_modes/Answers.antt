use Rattle.std.proofs.Common.{refl}
use Rattle.qx_records.specs.InodeRecord.{kind_of}
use Rattle.qx_records.proofs.examples.the_kinds_of_modes.Goals as goal

pub returns-clause-directory : goal.returns-clause-directory
unfolding kind_of
returns-clause-directory c = refl

pub returns-clause-file : goal.returns-clause-file
unfolding kind_of
returns-clause-file c = refl

pub returns-clause-link : goal.returns-clause-link
unfolding kind_of
returns-clause-link c = refl

pub returns-clause-pipe : goal.returns-clause-pipe
unfolding kind_of
returns-clause-pipe c = refl

pub returns-clause-character_device : goal.returns-clause-character_device
unfolding kind_of
returns-clause-character_device c = refl

pub returns-clause-block_device : goal.returns-clause-block_device
unfolding kind_of
returns-clause-block_device c = refl

pub returns-clause-socket : goal.returns-clause-socket
unfolding kind_of
returns-clause-socket c = refl

pub returns-clause-nothing : goal.returns-clause-nothing
unfolding kind_of
returns-clause-nothing c = refl

pub returns-clause-other : goal.returns-clause-other
unfolding kind_of
returns-clause-other c = refl
