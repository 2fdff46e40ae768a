use Rattle.std.proofs.Common.{◌+◌, ◌*◌, length, sym, subst, arith}
use Rattle.std.specs.Prelude.{Some}
use Rattle.qx_walk.specs.Bitmaps.{IsFirst, is_wrong_in}
use Rattle.qx_walk.proofs.WrongBits.{wrong_byte}
use Rattle.qx_walk.proofs.bitmap.first_wrong_in.Goals as goal

pub returns-then-bytes-index : goal.returns-then-bytes-index
returns-then-bytes-index c =
    subst (λ t. IsFirst (is_wrong_in c.args.geometry.now c.args.met.now c.args.begin c.args.bytes.now) (c.args.begin * 8) ((c.args.begin + length c.args.bytes.now) * 8) (Some ((c.args.begin + c.loop-index.index) * 8 + t))) (sym c.from.ensures)
    (wrong_byte c.args.geometry.now c.args.met.now c.args.begin c.args.bytes.now c.loop-index.index c.bitmap_byte-wanted.result c.bitmap_byte-wanted.ensures.bits (omega arith) (omega (arith, c.type_inv.bytes c.loop-index.index)) (omega arith) c.if-bytes-index.true c.loop-index.invariant)
