use Rattle.std.proofs.Common.{◌≡◌, ◌≢◌, ◌+◌, ◌≤◌, inl, inr, IsTrue, length, arith, subst, sym, ◌∙◌}
use Rattle.std.proofs.lemmas.Result.{on_ok_weaker}
use Rattle.qx_geom.specs.Pointer.{absent, per_block}
use Rattle.qx_blocks.specs.BlockState.{BlockState}
use Rattle.qx_ptree.proofs.PlannedPointers.{own_first, planned_first, planned_leads, planned_step}
use Rattle.qx_ptree.proofs.PointerCounts.{words_bounds}
use Rattle.qx_ptree.proofs.pointers.pointers_below.Goals as goal

pub read_pointers-requires-clause-leads : goal.read_pointers-requires-clause-leads
read_pointers-requires-clause-leads g c told =
    let m : BlockState = g.B.Blocks.state c.args.blocks.now in
    subst (λ q. q ≢ absent → IsTrue (m.holdings.works q)) (sym (c.requires.pointer told))
    (planned_leads m c.args.plan.now c.args.level c.args.index (record { consistent = c.requires.consistent; met = c.requires.plan; told = told }))

pub returns-then-level-plan-clause-pointers : goal.returns-then-level-plan-clause-pointers
returns-then-level-plan-clause-pointers g c =
    let m : BlockState = g.B.Blocks.state c.args.blocks.now in
    let other : c.args.level ≡ c.args.plan.now.node.levels + 1 → c.args.index ≢ 0 = λ e. elim c.then-level-plan.either [ inl no_more ↦ absurd (no_more e) | inr more ↦ more.1 ] in
    on_ok_weaker c.read_pointers.result
    (λ words told w low.
    let m_told : IsTrue m.tells = subst (λ x. IsTrue x.tells) (c.read_pointers.ensures.reads.keeps.told told) told in
    words told w low
    ∙ planned_step m c.args.plan.now c.args.level c.args.index w c.args.pointer c.requires.consistent c.requires.level (omega (arith, low, c.requires.room)) other (c.requires.pointer m_told))
    c.read_pointers.ensures.pointers

pub slice_bounds-copy_from_slice-end : goal.slice_bounds-copy_from_slice-end
slice_bounds-copy_from_slice-end g c =
    let words : 128 ≤ per_block (g.B.Blocks.state c.args.blocks.now).holdings.size = (words_bounds _ c.requires.consistent.size).0 in
    let room : 16 ≤ length c.fill.new.self = omega (arith, words, c.fill.ensures.len, c.requires.room) in
    room

pub returns-clause-pointers : goal.returns-clause-pointers
returns-clause-pointers g c told w low =
    own_first c.args.plan.now.node.pointers c.fill.new.self c.copy_from_slice.new.self (length c.args.into.now) w c.args.plan.now.sixteen c.copy_from_slice.ensures.after (c.fill.ensures.after (λ y e. e)) low
    ∙ planned_first (g.B.Blocks.state c.args.blocks.now) c.args.plan.now c.args.level c.args.index w c.if-level-plan.false c.if-index-ne0.false
