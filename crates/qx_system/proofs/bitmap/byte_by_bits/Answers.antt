use Rattle.std.proofs.Common.{◌≡◌, ◌+◌, ◌*◌, sym, ◌∙◌, ap, subst, arith}
use Rattle.qx_system.specs.SystemBytes.{is_taken}
use Rattle.qx_system.proofs.TakenBits.{IsFilledTo, filled_one, filled_zero}
use Rattle.qx_system.proofs.bitmap.byte_by_bits.Goals as goal
use Rattle.qx_system.proofs.bitmap.byte_by_bits.Goals.{then-is_bit_set, else-is_bit_set}

pub loop-bit-preserved : goal.loop-bit-preserved
loop-bit-preserved g c =
    let held = g.H.Held.held c.args.held.now in
    let asked : is_taken c.args.geometry.now held (c.args.place * 8 + c.loop-bit.bit) ≡ c.is_bit_set.result
    = sym (c.is_bit_set.ensures ∙ ap (λ j. is_taken c.args.geometry.now held (c.args.place * 8 + j)) c.from.ensures) in
    elim c.if-is_bit_set.branch [
      | then-is_bit_set w ↦ subst (λ byte. IsFilledTo c.args.geometry.now held c.args.place (c.loop-bit.bit + 1) byte) (sym w.byte-is)
          (filled_one c.args.geometry.now held c.args.place c.loop-bit.bit c.loop-bit.byte (omega arith) (asked ∙ w.if-is_bit_set.true) c.loop-bit.invariant)
      | else-is_bit_set w ↦ subst (λ byte. IsFilledTo c.args.geometry.now held c.args.place (c.loop-bit.bit + 1) byte) (sym w.byte-is)
          (filled_zero c.args.geometry.now held c.args.place c.loop-bit.bit c.loop-bit.byte (asked ∙ w.if-is_bit_set.false) c.loop-bit.invariant)
    ]
