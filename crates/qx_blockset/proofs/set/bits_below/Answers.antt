use Rattle.std.proofs.Common.{◌%◌, ◌∙◌, ap, arith}
use Rattle.std.specs.Int.{bit_at}
use Rattle.std.proofs.lemmas.Nat.Bits.{bit_at_ones, bit_at_ones_above}
use Rattle.qx_blockset.proofs.FirstAbsent.{low_ones}
use Rattle.qx_blockset.proofs.set.bits_below.Goals as goal

pub returns-then-place-from : goal.returns-then-place-from
returns-then-place-from c = record {
  below = λ k h under. ap (λ x. bit_at x k) (low_ones (c.args.from % 64) (omega arith)) ∙ bit_at_ones (c.args.from % 64) k (omega arith);
  above = λ k h over. ap (λ x. bit_at x k) (low_ones (c.args.from % 64) (omega arith)) ∙ bit_at_ones_above (c.args.from % 64) k (omega arith);
}
