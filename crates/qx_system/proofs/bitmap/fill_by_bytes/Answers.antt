use Rattle.std.proofs.Common.{ℕ, ◌+◌, ◌*◌, arith}
use Rattle.std.proofs.lemmas.List.FromFn.{fill_by_all}
use Rattle.qx_system.specs.SystemBytes.{bitmap_byte, bitmap_leaf_bytes}
use Rattle.qx_system.proofs.BitmapLeaves.{leaf_low}
use Rattle.qx_system.proofs.bitmap.fill_by_bytes.Goals as goal

pub bitmap_byte-requires-clause-place : goal.bitmap_byte-requires-clause-place
bitmap_byte-requires-clause-place g c =
    let low = leaf_low c.args.geometry.now c.requires.geometry c.args.leaf c.requires.leaf in
    rw (c.from.ensures, c.from-2.ensures) (omega (arith, low, c.loop-index-test.true, c.requires.into))

pub returns : goal.returns
unfolding bitmap_leaf_bytes
returns g c =
    let size = c.args.geometry.now.blocksize in
    fill_by_all (λ (k : ℕ). bitmap_byte c.args.geometry.now (g.H.Held.held c.args.held.now) (c.args.leaf * size + k)) c.loop-index.into size 0 (omega arith) (λ k low. c.loop-index.invariant k (omega arith))
