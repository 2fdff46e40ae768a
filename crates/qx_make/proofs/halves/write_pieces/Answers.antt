use Rattle.std.proofs.Common.{rules, ℕ, ◌*◌, ◌/◌, ◌≤◌, ◌<◌, refl, ◌∙◌, arith, length-append, length-drop, length-take}
use Rattle.std.proofs.Math.Nat.{div-mul-le_self, le-div_iff_mul-le, mul-le-mul_right}
use Rattle.qx_geom.proofs.BlockSizes.{block_size-bounds}
use Rattle.qx_geom.proofs.VolumeNumbers.{IsGeometry-keeps}
use Rattle.qx_outside.proofs.ToldLengths.{told_stays}
use Rattle.qx_make.proofs.BlockPuts.{no_piece, one_piece, piece_fails, pieces_done}
use Rattle.qx_make.proofs.halves.write_pieces.Goals as goal

pub overflow_mul-blocks : goal.overflow_mul-blocks
overflow_mul-blocks g c = let v = IsGeometry-keeps c.args.volume.now.geometry c.requires.geometry in record { fits = omega (arith, v.room, v.blocks_to) }

pub overflow_add-blocks : goal.overflow_add-blocks
overflow_add-blocks g c = let v = IsGeometry-keeps c.args.volume.now.geometry c.requires.geometry in record { fits = omega (arith, v.room, v.blocks_to) }

pub loop-first-init : goal.loop-first-init
loop-first-init g c = record {
  begun = λ bytes long. no_piece c.args.volume.now.geometry c.requires.geometry c.args.volume.now.order c.args.volume.now.moment bytes long (g.D.Dev.outside c.args.host.now);
  others = search rules;
  faults = refl;
  buffer = refl;
  within = omega arith;
}

pub nonzero_div-size : goal.nonzero_div-size
nonzero_div-size g c = let v = IsGeometry-keeps c.args.volume.now.geometry c.requires.geometry in let bounds = block_size-bounds c.args.volume.now.geometry.blocksize v.block_size in omega (arith, bounds.size_from)

pub write_piece-requires-clause-blocks : goal.write_piece-requires-clause-blocks
write_piece-requires-clause-blocks g c = omega (arith, c.min-count.ensures, c.loop-first-test.true)

pub returns-in_err-write_piece-clause-stage : goal.returns-in_err-write_piece-clause-stage
returns-in_err-write_piece-clause-stage g c = λ bytes long.
    piece_fails c.args.volume.now.geometry c.requires.geometry c.args.volume.now.order c.args.volume.now.moment bytes long c.from_residual.result c.loop-first.first c.min-count.result (g.D.Dev.outside c.args.host.now) (g.D.Dev.outside c.loop-first.host) (g.D.Dev.outside c.write_piece.new.host) c.from_residual.ensures.0
    (omega (arith, c.min-count.ensures, c.loop-first-test.true)) c.write_piece.ensures.step (c.loop-first.invariant.begun bytes long)

pub overflow_add-first : goal.overflow_add-first
overflow_add-first g c = let v = IsGeometry-keeps c.args.volume.now.geometry c.requires.geometry in record { fits = omega (arith, v.room, v.blocks_to, c.min-count.ensures, c.loop-first-test.true) }

pub loop-first-smaller : goal.loop-first-smaller
loop-first-smaller g c =
    let v = IsGeometry-keeps c.args.volume.now.geometry c.requires.geometry in
    let bounds = block_size-bounds c.args.volume.now.geometry.blocksize v.block_size in
    let some : 1 ≤ 65536 / c.args.volume.now.geometry.blocksize = (le-div_iff_mul-le (let pos : 0 < c.args.volume.now.geometry.blocksize = omega (arith, bounds.size_from) in pos)).1 (omega (arith, bounds.size_to)) in
    omega (arith, some, c.min-count.ensures, c.loop-first-test.true)

pub loop-first-preserved : goal.loop-first-preserved
loop-first-preserved g c = record {
  begun = λ bytes long. one_piece c.args.volume.now.geometry c.requires.geometry c.args.volume.now.order c.args.volume.now.moment bytes long c.loop-first.first c.min-count.result (g.D.Dev.outside c.args.host.now) (g.D.Dev.outside c.loop-first.host) (g.D.Dev.outside c.write_piece.new.host)
      (omega (arith, c.min-count.ensures, c.loop-first-test.true)) c.in_ok-write_piece.ensures.ok c.write_piece.ensures.step (c.loop-first.invariant.begun bytes long);
  others = record {
    extent_same = told_stays _ _ _ c.loop-first.invariant.others.extent_same c.write_piece.ensures.others.extent_same;
    paths = c.write_piece.ensures.others.paths ∙ c.loop-first.invariant.others.paths;
    reads = c.write_piece.ensures.others.reads ∙ c.loop-first.invariant.others.reads;
    console = c.write_piece.ensures.others.console ∙ c.loop-first.invariant.others.console;
  };
  faults = search (rules, c.write_piece.ensures.cause.kept, c.loop-first.invariant.faults);
  buffer =
      (let whole : 65536 / c.args.volume.now.geometry.blocksize * c.args.volume.now.geometry.blocksize ≤ 65536 = div-mul-le_self 65536 c.args.volume.now.geometry.blocksize in
      let few : c.min-count.result * c.args.volume.now.geometry.blocksize ≤ 65536 / c.args.volume.now.geometry.blocksize * c.args.volume.now.geometry.blocksize = mul-le-mul_right c.args.volume.now.geometry.blocksize (let least : c.min-count.result ≤ 65536 / c.args.volume.now.geometry.blocksize = omega (arith, c.min-count.ensures) in least) in
      omega (arith, length-append {A = ℕ}, length-drop (c.min-count.result * c.args.volume.now.geometry.blocksize) c.loop-first.buffer, c.loop-first.invariant.buffer, c.write_piece.auto.buffer, length-take (c.min-count.result * c.args.volume.now.geometry.blocksize) c.loop-first.buffer, whole, few));
  within = omega (arith, c.min-count.ensures, c.loop-first-test.true);
}

pub returns-clause-stage : goal.returns-clause-stage
returns-clause-stage g c = λ bytes long.
    pieces_done c.args.volume.now.geometry c.requires.geometry c.args.volume.now.order c.args.volume.now.moment bytes long tt c.loop-first.first (g.D.Dev.outside c.args.host.now) (g.D.Dev.outside c.loop-first.host) (omega (arith, c.loop-first-test.false, c.loop-first.invariant.within)) (c.loop-first.invariant.begun bytes long)
