use Rattle.qx_outside.proofs.PuttingMoments.{IsPutting-rest, image_putting-size, image_putting-apart, IsPartOf-asked}
use Rattle.qx_outside.proofs.laws.what_an_image_has_while_bytes_are_put.Goals as goal

pub returns-clause-rest : goal.returns-clause-rest
returns-clause-rest c = IsPutting-rest

pub returns-clause-size : goal.returns-clause-size
returns-clause-size c = image_putting-size

pub returns-clause-apart : goal.returns-clause-apart
returns-clause-apart c = image_putting-apart

pub returns-clause-asked : goal.returns-clause-asked
returns-clause-asked c = IsPartOf-asked
