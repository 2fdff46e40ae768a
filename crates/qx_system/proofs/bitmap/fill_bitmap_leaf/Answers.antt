use Rattle.std.proofs.Common.{ℕ, ap, arith, replicate, ◌∙◌}
use Rattle.qx_system.proofs.BitmapLeaves.{halves_leaf, leaf_low, own_leaf}
use Rattle.qx_system.proofs.bitmap.fill_bitmap_leaf.Goals as goal

pub overflow_mul-first : goal.overflow_mul-first
overflow_mul-first g c = rw (c.from.ensures, c.from-2.ensures) (let low = leaf_low c.args.geometry.now c.requires.geometry c.args.leaf c.requires.leaf in record { fits = omega (arith, low) })

pub overflow_add-end : goal.overflow_add-end
overflow_add-end g c = rw (c.from.ensures, c.from-2.ensures, c.from-3.ensures) (let low = leaf_low c.args.geometry.now c.requires.geometry c.args.leaf c.requires.leaf in record { fits = omega (arith, low) })

pub returns-then-end-halves : goal.returns-then-end-halves
returns-then-end-halves g c =
    let below = rw (c.from.ensures, c.from-2.ensures, c.from-3.ensures) at c.if-end-halves.true in
    c.fill.ensures.after (λ y e. cc)
    ∙ ap (λ (n : ℕ). replicate n 255) c.requires.into
    ∙ halves_leaf c.args.geometry.now (g.H.Held.held c.args.held.now) c.args.leaf (omega (arith, below, c.from-halves.ensures))

pub returns-then-end-count : goal.returns-then-end-count
returns-then-end-count g c =
    let from = rw (c.from.ensures, c.from-2.ensures) at c.if-halves-first.true in
    let to = rw (c.from.ensures, c.from-2.ensures, c.from-3.ensures) at c.if-end-count.true in
    own_leaf c.args.geometry.now (g.H.Held.held c.args.held.now) c.args.leaf c.fill-then-end-count.new.into
    (omega (arith, c.fill-then-end-count.auto.into, c.requires.into))
    (omega (arith, from, c.from-halves.ensures)) (omega (arith, to, c.from-count.ensures))
    (λ k low. omega (arith, c.type_inv.into k))
    (λ i k within low. rw (c.from.ensures, c.from-2.ensures) at c.fill-then-end-count.ensures i k (omega (arith, within, c.requires.into)) low)
