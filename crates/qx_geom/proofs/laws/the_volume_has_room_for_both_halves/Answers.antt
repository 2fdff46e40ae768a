use Rattle.qx_geom.proofs.VolumeNumbers.{IsGeometry-keeps}
use Rattle.qx_geom.proofs.laws.the_volume_has_room_for_both_halves.Goals as goal

pub returns-clause-parts : goal.returns-clause-parts
returns-clause-parts c = λ g e. (IsGeometry-keeps g e).parts

pub returns-clause-room : goal.returns-clause-room
returns-clause-room c = λ g e. (IsGeometry-keeps g e).room

pub returns-clause-few : goal.returns-clause-few
returns-clause-few c = λ g e. (IsGeometry-keeps g e).blocks_to
