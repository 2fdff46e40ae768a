use Rattle.std.proofs.Common.{arith}
use Rattle.std.proofs.lemmas.Bool.{OnTrue_from, leb-true}
use Rattle.qx_geom.proofs.VolumeNumbers.{IsGeometry-keeps}
use Rattle.qx_make.proofs.BlankLeaves.{blank_blocks, index_least}
use Rattle.qx_make.proofs.blocks.are_blank.Goals as goal

pub overflow_add-leaf : goal.overflow_add-leaf
overflow_add-leaf c = let v = IsGeometry-keeps c.args.volume.now.geometry c.requires.geometry in record { fits = omega (arith, v.room, v.blocks_to, v.parts) }

pub overflow_add-result : goal.overflow_add-result
overflow_add-result c =
    let v = IsGeometry-keeps c.args.volume.now.geometry c.requires.geometry in
    let index = index_least c.args.volume.now.geometry.half c.args.first c.index_in_half-index.result c.index_in_half-index.ensures in
    record { fits = omega (arith, v.room, v.blocks_to, c.requires.blocks, index) }

pub overflow_add-result-then-leaf-index : goal.overflow_add-result-then-leaf-index
overflow_add-result-then-leaf-index c = let v = IsGeometry-keeps c.args.volume.now.geometry c.requires.geometry in record { fits = omega (arith, v.room, v.blocks_to, v.parts) }

pub returns-then-leaf-index : goal.returns-then-leaf-index
returns-then-leaf-index c = OnTrue_from _ _ (λ enough.
    blank_blocks c.args.volume.now.geometry c.requires.geometry c.args.volume.now.order c.args.volume.now.moment c.args.first c.args.count c.index_in_half-index.result
    c.index_in_half-index.ensures (omega (arith, c.if-leaf-index.true)) (leb-true _ _ enough))
