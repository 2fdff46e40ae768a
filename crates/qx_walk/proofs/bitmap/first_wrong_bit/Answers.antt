use Rattle.std.proofs.Common.{rules, ◌≡◌, ℕ, ◌+◌, ◌*◌, sym, ◌∙◌, ap, subst, arith}
use Rattle.std.specs.Prelude.{None, Some}
use Rattle.qx_geom.proofs.VolumeNumbers.{IsGeometry-keeps}
use Rattle.qx_walk.specs.Bitmaps.{IsFirst, is_wrong_bit, is_wrong_in}
use Rattle.qx_walk.proofs.BitmapLeaves.{leaf_right, leaf_wrong}
use Rattle.qx_walk.proofs.FirstNumbers.{first_is}
use Rattle.qx_pointers.proofs.ShownBlocks.{shown_size, shows_before}
use Rattle.qx_walk.proofs.bitmap.first_wrong_bit.Goals as goal

pub overflow_add-first : goal.overflow_add-first
overflow_add-first g c = let v = IsGeometry-keeps c.args.geometry.now c.requires.met.volume.volume in record { fits = omega (arith, c.first_block-first.ensures.room, v.parts, v.blocks_to, c.loop-leaf-test.true) }

pub first_wrong_in_leaf-requires-clause-block : goal.first_wrong_in_leaf-requires-clause-block
first_wrong_in_leaf-requires-clause-block g c = let v = IsGeometry-keeps c.args.geometry.now c.requires.met.volume.volume in omega (arith, c.first_block-first.ensures.room, v.parts, c.loop-leaf-test.true, c.requires.met.volume.count)

pub returns-in-Some-clause-bit : goal.returns-in-Some-clause-bit
returns-in-Some-clause-bit g c = λ m shows.
    let size : m.size ≡ c.args.shape.blocksize = shown_size c.args.shape (g.D.Dev.outside c.first_wrong_in_leaf.new.host) m shows in
    let begin : ℕ = c.from.result * c.from-in-loop-leaf.result in
    leaf_wrong m c.args.geometry.now c.args.which c.args.met.now c.loop-leaf.leaf (c.first_block-first.result + c.loop-leaf.leaf) (c.from.result * c.from-in-loop-leaf.result)
    (record { stands = ap (λ n. n + c.loop-leaf.leaf) c.first_block-first.ensures.first; first = λ i. c.from.ensures i * (c.from-in-loop-leaf.ensures ∙ sym size) i }) c.args.geometry.now.bitmap_leaves c.in-Some.at c.loop-leaf-test.true
    (c.loop-leaf.invariant.bits m (shows_before c.args.shape (g.D.Dev.outside c.loop-leaf.host) (g.D.Dev.outside c.first_wrong_in_leaf.new.host) m c.first_wrong_in_leaf.ensures.asks.reads shows))
    (subst (λ n. IsFirst (is_wrong_in c.args.geometry.now c.args.met.now begin (m.bytes (c.first_block-first.result + c.loop-leaf.leaf))) (begin * 8) ((begin + n) * 8) (Some c.in-Some.at)) (sym size)
    (subst (λ o. IsFirst (is_wrong_in c.args.geometry.now c.args.met.now begin (m.bytes (c.first_block-first.result + c.loop-leaf.leaf))) (begin * 8) ((begin + c.args.shape.blocksize) * 8) o) c.in-Some.is (c.in_ok-at.ensures.bit m shows)))

pub loop-leaf-preserved : goal.loop-leaf-preserved
loop-leaf-preserved g c = record {
  asks = search (rules, arith);
  bits = λ m shows.
      let size : m.size ≡ c.args.shape.blocksize = shown_size c.args.shape (g.D.Dev.outside c.first_wrong_in_leaf.new.host) m shows in
      let begin : ℕ = c.from.result * c.from-in-loop-leaf.result in
      leaf_right m c.args.geometry.now c.args.which c.args.met.now c.loop-leaf.leaf (c.first_block-first.result + c.loop-leaf.leaf) (c.from.result * c.from-in-loop-leaf.result)
      (record { stands = ap (λ n. n + c.loop-leaf.leaf) c.first_block-first.ensures.first; first = λ i. c.from.ensures i * (c.from-in-loop-leaf.ensures ∙ sym size) i })
      (c.loop-leaf.invariant.bits m (shows_before c.args.shape (g.D.Dev.outside c.loop-leaf.host) (g.D.Dev.outside c.first_wrong_in_leaf.new.host) m c.first_wrong_in_leaf.ensures.asks.reads shows))
      (subst (λ n. IsFirst (is_wrong_in c.args.geometry.now c.args.met.now begin (m.bytes (c.first_block-first.result + c.loop-leaf.leaf))) (begin * 8) ((begin + n) * 8) None) (sym size)
      (subst (λ o. IsFirst (is_wrong_in c.args.geometry.now c.args.met.now begin (m.bytes (c.first_block-first.result + c.loop-leaf.leaf))) (begin * 8) ((begin + c.args.shape.blocksize) * 8) o) c.in_default.is (c.in_ok-at.ensures.bit m shows)));
}

pub returns-clause-bit : goal.returns-clause-bit
returns-clause-bit g c = λ m shows.
    let end : c.loop-leaf.leaf ≡ c.args.geometry.now.bitmap_leaves = omega arith in
    first_is (is_wrong_bit m c.args.geometry.now c.args.which c.args.met.now) (c.args.geometry.now.bitmap_leaves * m.size * 8) None
    (λ b low high. c.loop-leaf.invariant.bits m shows b (omega (arith, high, ap (λ n. n * m.size * 8) end)))
