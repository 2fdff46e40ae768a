use Rattle.std.proofs.Common.{arith, sym, ◌∙◌}
use Rattle.qx_blockset.specs.Members.{has}
use Rattle.qx_geom.specs.Layout.{first_block}
use Rattle.qx_walk.proofs.OtherHalf.{range_any, range_none}
use Rattle.qx_geom.proofs.VolumeNumbers.{IsGeometry-keeps}
use Rattle.qx_walk.proofs.halves.has_block_of_half.Goals as goal

pub overflow_add-block-end : goal.overflow_add-block-end
overflow_add-block-end c = record { fits = omega (arith, c.first_block-first.ensures.room, (IsGeometry-keeps c.args.geometry.now c.requires.geometry).blocks_to) }

pub returns-then-has : goal.returns-then-has
returns-then-has c =
    sym (range_any (λ b. has c.args.met.now b) (first_block c.args.geometry.now c.args.which) c.args.geometry.now.half c.loop-block.block (omega (arith, c.first_block-first.ensures.first)) (omega (arith, c.first_block-first.ensures.first)) (sym c.has.ensures ∙ c.if-has.true))

pub returns : goal.returns
returns c =
    sym (range_none (λ b. has c.args.met.now b) (first_block c.args.geometry.now c.args.which) c.args.geometry.now.half (λ b low high. c.loop-block.invariant b (omega (arith, low, c.first_block-first.ensures.first)) (omega (arith, high, c.first_block-first.ensures.first))))
