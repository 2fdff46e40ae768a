use Rattle.std.proofs.Math.Nat.{pow-le-pow_right}
use Rattle.std.proofs.Common.{rules, ◌≡◌, ◌^◌, ◌<◌, ◌≤◌, length, sym, ◌∙◌, ap, subst, true, arith}
use Rattle.std.specs.Prelude.{Ok, Err, if◌then◌else◌}
use Rattle.std.proofs.lemmas.Result.{err_from_is_err_and}
use Rattle.qx_geom.proofs.BlockSizes.{block_size-bounds}
use Rattle.qx_geom.specs.Pointer.{ceil_div, per_block}
use Rattle.qx_nodes.specs.Content.{levels_fit, root_fits}
use Rattle.qx_nodes.specs.Leaves.{leaves_below}
use Rattle.qx_pointers.proofs.ShownBlocks.{shown_count, shown_size}
use Rattle.qx_pointers.proofs.WholeNode.{SeesNode, node_gone, node_kept, node_seen}
use Rattle.qx_pointers.proofs.node.walk_node.Goals as goal

pub returns-in_err-whole-clause-tests : goal.returns-in_err-whole-clause-tests
returns-in_err-whole-clause-tests g c = λ m s.
    let shape = c.args.visitor.now.shape in
    let node = c.args.node.now in
    let sixteen : length node.pointers ≡ 16 = search rules in
    let last : c.div_ceil-last.result ≡ ceil_div node.size shape.blocksize = search rules in
    let below : c.div_ceil-last.result ≡ leaves_below m node = last ∙ ap (ceil_div node.size) (sym (shown_size shape (g.D.Dev.outside c.visit_each.new.host) m s)) in
    let fit : (if c.args.visitor.now.bounded then root_fits m node else levels_fit m node) ≡ true = sym (c.fits.ensures.fits m (shown_size shape (g.D.Dev.outside c.visit_each.new.host) m s) (shown_count shape (g.D.Dev.outside c.visit_each.new.host) m s)) ∙ c.if-not-fits.false in
    let p = err_from_is_err_and c.from_residual.result c.from_residual.ensures.1 in
    rw (p.1, p.2) (node_gone m c.args.visitor.now node c.div_ceil-last.result below sixteen _ (Err c.in_err-whole.field-0.0) c.args.met.now c.visit_each.new.met c.args.leaves.now.items c.visit_each.new.leaves.items fit (c.in_err-whole.ensures.sees m s))

pub returns-clause-tests : goal.returns-clause-tests
returns-clause-tests g c = λ m s.
    let shape = c.args.visitor.now.shape in
    let node = c.args.node.now in
    let sixteen : length node.pointers ≡ 16 = search rules in
    let last : c.div_ceil-last.result ≡ ceil_div node.size shape.blocksize = search rules in
    let below : c.div_ceil-last.result ≡ leaves_below m node = last ∙ ap (ceil_div node.size) (sym (shown_size shape (g.D.Dev.outside c.visit_each.new.host) m s)) in
    let fit : (if c.args.visitor.now.bounded then root_fits m node else levels_fit m node) ≡ true = sym (c.fits.ensures.fits m (shown_size shape (g.D.Dev.outside c.visit_each.new.host) m s) (shown_count shape (g.D.Dev.outside c.visit_each.new.host) m s)) ∙ c.if-not-fits.false in
    node_gone m c.args.visitor.now node c.div_ceil-last.result below sixteen _ (Ok c.in_ok-whole.whole) c.args.met.now c.visit_each.new.met c.args.leaves.now.items c.visit_each.new.leaves.items fit (c.in_ok-whole.ensures.sees m s)

pub returns-clause-part : goal.returns-clause-part
returns-clause-part g c = λ m s.
    let shape = c.args.visitor.now.shape in
    let node = c.args.node.now in
    let sixteen : length node.pointers ≡ 16 = search rules in
    let last : c.div_ceil-last.result ≡ ceil_div node.size shape.blocksize = search rules in
    let below : c.div_ceil-last.result ≡ leaves_below m node = last ∙ ap (ceil_div node.size) (sym (shown_size shape (g.D.Dev.outside c.visit_each.new.host) m s)) in
    let bounds = block_size-bounds shape.blocksize shape.sized in
    let pos : 0 < per_block m.size = omega (arith, bounds.pointers_from, ap per_block (shown_size shape (g.D.Dev.outside c.visit_each.new.host) m s)) in
    node_seen m c.args.visitor.now node c.div_ceil-last.result below sixteen c.in_ok-whole.whole c.args.met.now c.visit_each.new.met c.args.leaves.now.items c.visit_each.new.leaves.items pos (c.in_ok-whole.ensures.sees m s)

pub returns-clause-leaves : goal.returns-clause-leaves
returns-clause-leaves g c = λ m s.
    let shape = c.args.visitor.now.shape in
    let node = c.args.node.now in
    let sixteen : length node.pointers ≡ 16 = search rules in
    let last : c.div_ceil-last.result ≡ ceil_div node.size shape.blocksize = search rules in
    let below : c.div_ceil-last.result ≡ leaves_below m node = last ∙ ap (ceil_div node.size) (sym (shown_size shape (g.D.Dev.outside c.visit_each.new.host) m s)) in
    node_kept m c.args.visitor.now node c.div_ceil-last.result below sixteen c.in_ok-whole.whole c.args.met.now c.visit_each.new.met c.visit_each.new.leaves.items
    (subst (λ z. SeesNode m c.args.visitor.now node c.div_ceil-last.result below sixteen (Ok c.in_ok-whole.whole) c.args.met.now c.visit_each.new.met z c.visit_each.new.leaves.items) c.requires.leaves (c.in_ok-whole.ensures.sees m s))

pub returns-clause-bounds : goal.returns-clause-bounds
returns-clause-bounds g c =
    let shape = c.args.visitor.now.shape in
    let bounds = block_size-bounds shape.blocksize shape.sized in
    let power : per_block shape.blocksize ^ c.args.node.now.levels ≤ per_block shape.blocksize ^ 5 = pow-le-pow_right (omega (arith, bounds.pointers_from)) (c.fits.ensures.levels c.if-not-fits.false) in
    omega (arith, c.fits.ensures.reached c.if-not-fits.false, power)
