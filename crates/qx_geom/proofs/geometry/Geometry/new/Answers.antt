use Rattle.std.proofs.Common.{◌≡◌, ◌-◌, ◌/◌, true, arith}
use Rattle.std.proofs.lemmas.Bool.Decides.{nat_tests}
use Rattle.qx_geom.specs.Layout.{blocks_in, is_block_size, geometry_of}
use Rattle.qx_geom.proofs.VolumeNumbers.{half_of-room}
use Rattle.qx_geom.proofs.geometry.Geometry.new.Goals as goal

-- so many blocks are not too few
pub returns-then-blocks-gt-MAX_BLOCKS-clause-numbers : goal.returns-then-blocks-gt-MAX_BLOCKS-clause-numbers
unfolding geometry_of
returns-then-blocks-gt-MAX_BLOCKS-clause-numbers c =
    let sized : is_block_size c.args.blocksize ≡ true = grind (arith, nat_tests) in
    let blocks : (c.rounded_down-len4.result - 0x4000) / c.from.result ≡ blocks_in c.args.len c.args.blocksize = cc in
    let room = half_of-room c.args.len c.args.blocksize c.args.inodes sized (omega arith) (omega arith) in
    grind (arith, nat_tests)
