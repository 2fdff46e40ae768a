use Rattle.qx_geom.proofs.VolumeNumbers.{IsGeometry-of}
use Rattle.qx_geom.proofs.laws.the_geometry_of_a_device_is_a_volumes.Goals as goal

pub returns : goal.returns
returns c = IsGeometry-of
