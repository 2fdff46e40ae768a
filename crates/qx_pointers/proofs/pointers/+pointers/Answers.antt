use Rattle.std.proofs.Common.{rules, ◌≡◌, ◌<◌, ◌≤◌, ◌+◌, ◌-◌, ◌*◌, ◌^◌, ◌/◌, ℕ, suc, List, length, refl, sym, ◌∙◌, ap, subst, add-one, arith}
use Rattle.std.specs.Prelude.{Ok, Err, IfSome, true, ◌||◌, nat_eq}
use Rattle.std.proofs.lemmas.Bool.{eq-eqb, eqb-true}
use Rattle.std.proofs.lemmas.Grind.{get_or_default_zero}
use Rattle.std.proofs.lemmas.Result.{err_from_is_err_and}
use Rattle.qx_geom.proofs.Truths.{not_so}
use Rattle.qx_geom.specs.Lists.{each_below}
use Rattle.qx_geom.specs.Pointer.{absent, per_block}
use Rattle.qx_nodes.specs.BlockMap.{word}
use Rattle.qx_pointers.proofs.BlockPassage.{pointer_tests, sees_absent, sees_block, sees_block_halts, sees_stray, sees_unmarked}
use Rattle.qx_pointers.proofs.SeenParts.{few_more, or_some, sees_next, sees_next_halts}
use Rattle.qx_pointers.proofs.ShownBlocks.{fits_still, shown_count, shown_size, shows_before}
use Rattle.qx_pointers.proofs.Spans.{Lower, lower, reached_few, span_pos}
use Rattle.qx_pointers.specs.declared.node.Part.{Part}
use Rattle.qx_pointers.specs.Marks.{GoesThrough}
use Rattle.qx_pointers.specs.Passage.{Sees, bare_beside, strays_beside, visits_beside}
use Rattle.qx_pointers.specs.Shown.{Fits}
use Rattle.qx_pointers.proofs.pointers.+pointers.Goals as goal

pub visit-returns-then-block-eq-ABSENT-clause-sees :
    goal.visit-returns-then-block-eq-ABSENT-clause-sees
visit-returns-then-block-eq-ABSENT-clause-sees g t c = λ m s.
    sees_absent m c.args.visitor.now c.args.last c.args.position.level c.args.position.index c.args.block c.nothing.result c.args.met.now c.args.leaves.now.items c.if-block-eq-ABSENT.true c.nothing.ensures

pub visit-returns-then-last-position-clause-sees :
    goal.visit-returns-then-last-position-clause-sees
visit-returns-then-last-position-clause-sees g t c = λ m s.
    let span : c.args.position.span ≡ per_block m.size ^ c.args.position.level = c.requires.span ∙ ap (λ z. per_block z ^ c.args.position.level) (sym (shown_size c.args.visitor.now.shape (g.D.Dev.outside c.args.host.now) m s)) in
    sees_stray m c.args.visitor.now c.args.last c.args.position.level c.args.position.index c.args.block c.nothing-then-last-position.result c.args.met.now c.args.leaves.now.items c.if-block-eq-ABSENT.false
    (subst (λ z. c.args.last ≤ c.args.position.index * z) span c.if-last-position.true) c.nothing-then-last-position.ensures

pub visit-returns-in_err-mark-clause-sees : goal.visit-returns-in_err-mark-clause-sees
visit-returns-in_err-mark-clause-sees g t c = λ m s.
    let span : c.args.position.span ≡ per_block m.size ^ c.args.position.level = c.requires.span ∙ ap (λ z. per_block z ^ c.args.position.level) (sym (shown_size c.args.visitor.now.shape (g.D.Dev.outside c.args.host.now) m s)) in
    let p = err_from_is_err_and c.from_residual.result c.from_residual.ensures.1 in
    rw (p.1, p.2) (sees_unmarked m c.args.visitor.now c.args.last c.args.position.level c.args.position.index c.args.block c.in_err-mark.field-0.0 c.args.met.now c.mark.new.met c.args.leaves.now.items c.if-block-eq-ABSENT.false
    (subst (λ z. c.args.position.index * z < c.args.last) span c.if-last-position.false)
    (subst (λ z. GoesThrough {T = Unit {0}} (pointer_tests c.args.visitor.now.inode z c.args.block) (Err c.in_err-mark.field-0.0) c.args.met.now c.mark.new.met) (sym (shown_count c.args.visitor.now.shape (g.D.Dev.outside c.args.host.now) m s)) c.in_err-mark.ensures.tests))

pub visit-overflow_mul-first : goal.visit-overflow_mul-first
visit-overflow_mul-first g t c =
    let low : Lower c.args.visitor.now.shape.blocksize c.args.position.level c.args.position.index c.args.position.span c.from-2.result = lower c.args.visitor.now.shape.blocksize c.args.position.level c.args.position.index c.args.position.span c.from-2.result c.args.visitor.now.shape.sized c.if-position-eq0.false c.from-2.ensures c.requires.span c.requires.room in
    omega (arith, low.first)

pub visit-visit_each-requires : goal.visit-visit_each-requires
visit-visit_each-requires g t c κs within =
    let low : Lower c.args.visitor.now.shape.blocksize c.args.position.level c.args.position.index c.args.position.span c.from.result = lower c.args.visitor.now.shape.blocksize c.args.position.level c.args.position.index c.args.position.span c.from.result c.args.visitor.now.shape.sized c.if-position-eq0.false c.from.ensures c.requires.span c.requires.room in
    let span : c.args.position.span / c.from.result ≡ per_block c.args.visitor.now.shape.blocksize ^ (c.args.position.level - 1) = low.span in
    let many : c.from-2.result ≡ c.from.result = c.from-2.ensures ∙ sym c.from.ensures in
    let long : length c.read_pointers.new.into ≡ c.from.result = search rules in
    let room : (c.args.position.index * c.from-2.result + length c.read_pointers.new.into) * (c.args.position.span / c.from.result) ≤ 2 ^ 54 = subst (λ z. z * (c.args.position.span / c.from.result) ≤ 2 ^ 54) (λ i. c.args.position.index * sym many i + sym long i) low.room in
    let fits : Fits c.args.visitor.now.shape (g.D.Dev.outside c.read_pointers.new.host) = fits_still c.args.visitor.now.shape (g.D.Dev.outside c.args.host.now) (g.D.Dev.outside c.read_pointers.new.host) c.read_pointers.ensures.looks.reads c.requires.fits in
    search (rules, span, room, fits, arith)

pub visit-returns-in_err-below-clause-sees : goal.visit-returns-in_err-below-clause-sees
visit-returns-in_err-below-clause-sees g t c = λ m s.
    let shape = c.args.visitor.now.shape in
    let size : m.size ≡ shape.blocksize = shown_size shape (g.D.Dev.outside c.visit_each.new.host) m s in
    let count : m.count ≡ shape.count = shown_count shape (g.D.Dev.outside c.visit_each.new.host) m s in
    let span : c.args.position.span ≡ per_block m.size ^ c.args.position.level = c.requires.span ∙ ap (λ z. per_block z ^ c.args.position.level) (sym size) in
    let p = err_from_is_err_and c.from_residual-in_err-below.result c.from_residual-in_err-below.ensures.1 in
    rw (p.1, p.2) (sees_block_halts m c.args.visitor.now c.args.last c.args.position.level (c.args.position.level - 1) c.args.position.index c.args.block (c.args.position.index * c.from-2.result) c.read_pointers.new.into c.in_err-below.field-0.0 c.args.met.now c.mark.new.met c.visit_each.new.met c.args.leaves.now.items c.visit_each.new.leaves.items
    c.if-position-eq0.false refl c.if-block-eq-ABSENT.false
    (subst (λ z. c.args.position.index * z < c.args.last) span c.if-last-position.false)
    (subst (λ z. c.args.block < z) (sym count) c.in_ok-mark.ensures.below)
    (ap (λ z. c.args.position.index * z) (c.from-2.ensures ∙ ap per_block (sym size)))
    (subst (λ z. c.read_pointers.new.into ≡ each_below (per_block z) (λ w. word m c.args.block w)) (sym size) (c.in_ok-read_pointers.ensures.pointers m (shows_before shape (g.D.Dev.outside c.read_pointers.new.host) (g.D.Dev.outside c.visit_each.new.host) m c.visit_each.ensures.follows.looks.reads s)))
    (subst (λ z. GoesThrough {T = Unit {0}} (pointer_tests c.args.visitor.now.inode z c.args.block) (Ok tt) c.args.met.now c.mark.new.met) (sym count) c.in_ok-mark.ensures.tests)
    (c.in_err-below.ensures.sees m s))

pub visit-returns-then-below-eq0-clause-sees : goal.visit-returns-then-below-eq0-clause-sees
visit-returns-then-below-eq0-clause-sees g t c = λ m s.
    let shape = c.args.visitor.now.shape in
    let size : m.size ≡ shape.blocksize = shown_size shape (g.D.Dev.outside c.visit_each.new.host) m s in
    let count : m.count ≡ shape.count = shown_count shape (g.D.Dev.outside c.visit_each.new.host) m s in
    let span : c.args.position.span ≡ per_block m.size ^ c.args.position.level = c.requires.span ∙ ap (λ z. per_block z ^ c.args.position.level) (sym size) in
    sees_block m c.args.visitor.now c.args.last c.args.position.level (c.args.position.level - 1) c.args.position.index c.args.block (c.args.position.index * c.from-2.result) c.read_pointers.new.into c.in_ok-below.below (nat_eq c.in_ok-below.below.leaves 0) c.args.met.now c.mark.new.met c.visit_each.new.met c.args.leaves.now.items c.visit_each.new.leaves.items
    c.if-position-eq0.false refl c.if-block-eq-ABSENT.false
    (subst (λ z. c.args.position.index * z < c.args.last) span c.if-last-position.false)
    (subst (λ z. c.args.block < z) (sym count) c.in_ok-mark.ensures.below)
    (ap (λ z. c.args.position.index * z) (c.from-2.ensures ∙ ap per_block (sym size)))
    (subst (λ z. c.read_pointers.new.into ≡ each_below (per_block z) (λ w. word m c.args.block w)) (sym size) (c.in_ok-read_pointers.ensures.pointers m (shows_before shape (g.D.Dev.outside c.read_pointers.new.host) (g.D.Dev.outside c.visit_each.new.host) m c.visit_each.ensures.follows.looks.reads s)))
    (subst (λ z. GoesThrough {T = Unit {0}} (pointer_tests c.args.visitor.now.inode z c.args.block) (Ok tt) c.args.met.now c.mark.new.met) (sym count) c.in_ok-mark.ensures.tests)
    (c.in_ok-below.ensures.sees m s)
    (let e : nat_eq c.in_ok-below.below.leaves 0 ≡ true = eq-eqb c.in_ok-below.below.leaves 0 c.if-below-eq0.true in e ∙ sym (ap (λ b. b || c.in_ok-below.below.bare) e))

pub visit-returns-else-below-eq0-clause-sees : goal.visit-returns-else-below-eq0-clause-sees
visit-returns-else-below-eq0-clause-sees g t c = λ m s.
    let shape = c.args.visitor.now.shape in
    let size : m.size ≡ shape.blocksize = shown_size shape (g.D.Dev.outside c.visit_each.new.host) m s in
    let count : m.count ≡ shape.count = shown_count shape (g.D.Dev.outside c.visit_each.new.host) m s in
    let span : c.args.position.span ≡ per_block m.size ^ c.args.position.level = c.requires.span ∙ ap (λ z. per_block z ^ c.args.position.level) (sym size) in
    sees_block m c.args.visitor.now c.args.last c.args.position.level (c.args.position.level - 1) c.args.position.index c.args.block (c.args.position.index * c.from-2.result) c.read_pointers.new.into c.in_ok-below.below c.in_ok-below.below.bare c.args.met.now c.mark.new.met c.visit_each.new.met c.args.leaves.now.items c.visit_each.new.leaves.items
    c.if-position-eq0.false refl c.if-block-eq-ABSENT.false
    (subst (λ z. c.args.position.index * z < c.args.last) span c.if-last-position.false)
    (subst (λ z. c.args.block < z) (sym count) c.in_ok-mark.ensures.below)
    (ap (λ z. c.args.position.index * z) (c.from-2.ensures ∙ ap per_block (sym size)))
    (subst (λ z. c.read_pointers.new.into ≡ each_below (per_block z) (λ w. word m c.args.block w)) (sym size) (c.in_ok-read_pointers.ensures.pointers m (shows_before shape (g.D.Dev.outside c.read_pointers.new.host) (g.D.Dev.outside c.visit_each.new.host) m c.visit_each.ensures.follows.looks.reads s)))
    (subst (λ z. GoesThrough {T = Unit {0}} (pointer_tests c.args.visitor.now.inode z c.args.block) (Ok tt) c.args.met.now c.mark.new.met) (sym count) c.in_ok-mark.ensures.tests)
    (c.in_ok-below.ensures.sees m s)
    (sym (ap (λ b. b || c.in_ok-below.below.bare) (not_so (nat_eq c.in_ok-below.below.leaves 0) (λ t'. c.if-below-eq0.false (eqb-true c.in_ok-below.below.leaves 0 t')))))

pub visit_each-overflow_add-position : goal.visit_each-overflow_add-position
visit_each-overflow_add-position g t c =
    let few : c.args.first.index + length c.args.blocks.now ≤ 2 ^ 54 = reached_few _ c.args.first.span (2 ^ 54) (span_pos c.args.visitor.now.shape.blocksize c.args.first.level c.args.first.span c.args.visitor.now.shape.sized c.requires.span) c.requires.room in
    omega (arith, few, c.loop-place-test.true)

pub visit_each-returns-in_err-part-clause-sees : goal.visit_each-returns-in_err-part-clause-sees
visit_each-returns-in_err-part-clause-sees g t c = λ m s.
    let p = err_from_is_err_and c.from_residual.result c.from_residual.ensures.1 in
    rw (p.1, p.2) (sees_next_halts m c.args.visitor.now c.args.last c.args.first.level c.args.first.index c.args.blocks.now c.loop-place.place (length c.args.blocks.now) _ _ _ _ _ c.loop-place.all c.in_err-part.field-0.0 c.args.met.now c.loop-place.met c.visit.new.met c.args.leaves.now.items c.loop-place.leaves.items c.visit.new.leaves.items
    c.loop-place-test.true (sym (get_or_default_zero c.args.blocks.now c.loop-place.place absent c.loop-place-test.true))
    (c.loop-place.invariant.sees m (shows_before c.args.visitor.now.shape (g.D.Dev.outside c.loop-place.host) (g.D.Dev.outside c.visit.new.host) m c.visit.ensures.follows.looks.reads s)) (c.in_err-part.ensures.sees m s))

pub visit_each-loop-place-preserved : goal.visit_each-loop-place-preserved
visit_each-loop-place-preserved g t c =
    let visitor = c.args.visitor.now in
    let last : ℕ = c.args.last in
    let level : ℕ = c.args.first.level in
    let first : ℕ = c.args.first.index in
    let blocks : List ℕ = c.args.blocks.now in
    let place : ℕ = c.loop-place.place in
    record {
      sees = λ m s. subst (λ k. Sees m visitor last (visits_beside m last level first blocks k) (strays_beside m last level first blocks k) (bare_beside m last level first blocks k) (Ok c.joined-all.result) c.args.met.now c.visit.new.met c.args.leaves.now.items c.visit.new.leaves.items) (sym (add-one place))
          (subst (λ z. Sees m visitor last (visits_beside m last level first blocks (suc place)) (strays_beside m last level first blocks (suc place)) (bare_beside m last level first blocks (suc place)) (Ok z) c.args.met.now c.visit.new.met c.args.leaves.now.items c.visit.new.leaves.items) (sym c.joined-all.ensures)
          (sees_next m visitor last level first blocks place _ c.loop-place.all c.in_ok-part.part c.args.met.now c.loop-place.met c.visit.new.met c.args.leaves.now.items c.loop-place.leaves.items c.visit.new.leaves.items
          (sym (get_or_default_zero blocks place absent c.loop-place-test.true))
          (c.loop-place.invariant.sees m (shows_before visitor.shape (g.D.Dev.outside c.loop-place.host) (g.D.Dev.outside c.visit.new.host) m c.visit.ensures.follows.looks.reads s)) (c.in_ok-part.ensures.sees m s)));
      few = few_more place c.args.first.span c.loop-place.all.leaves c.in_ok-part.part.leaves c.joined-all.result.leaves c.loop-place.invariant.few c.in_ok-part.ensures.few (ap (λ (z : Part). z.leaves) c.joined-all.ensures);
      placed = c.in_ok-part.ensures.placed;
      end = subst (λ (z : Part). IfSome z.end (λ block. block < visitor.shape.count)) (sym c.joined-all.ensures) (or_some c.loop-place.all.end c.in_ok-part.part.end (λ block. block < visitor.shape.count) c.loop-place.invariant.end c.in_ok-part.ensures.end);
      follows = search (rules, c.visit.ensures.follows, c.loop-place.invariant.follows);
    }

pub visit_each-returns-clause-sees : goal.visit_each-returns-clause-sees
visit_each-returns-clause-sees g t c = λ m s.
    let blocks : List ℕ = c.args.blocks.now in
    let all : c.loop-place.place ≡ length blocks = omega (arith, c.loop-place-test.false, c.loop-place.auto.place-end) in
    subst (λ k. Sees m c.args.visitor.now c.args.last (visits_beside m c.args.last c.args.first.level c.args.first.index blocks k) (strays_beside m c.args.last c.args.first.level c.args.first.index blocks k) (bare_beside m c.args.last c.args.first.level c.args.first.index blocks k) (Ok c.loop-place.all) c.args.met.now c.loop-place.met c.args.leaves.now.items c.loop-place.leaves.items) all (c.loop-place.invariant.sees m s)
