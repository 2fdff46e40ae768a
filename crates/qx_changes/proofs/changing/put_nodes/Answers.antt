use Rattle.std.proofs.Common.{◌≡◌, ◌-◌, ◌<◌, ◌∙◌, ℕ, suc, List, ◌∷◌, length, get_or, ap, sym, arith}
use Rattle.std.specs.Prelude.{drop}
use Rattle.std.proofs.Math.Seq.{drop-cons}
use Rattle.qx_batch.specs.declared.batch.Waiting.{Waiting}
use Rattle.qx_working.specs.declared.working.Working.{Working}
use Rattle.qx_working.specs.States.{with_node_at}
use Rattle.qx_changes.specs.Made.{with_waiting}
use Rattle.qx_changes.proofs.changing.put_nodes.Goals as goal

-- one change more has its node
one_more : (w : Working) (ws : List Waiting) (k left : ℕ) (x : Waiting) (state after : Working) → suc k ≡ left → x ≡ get_or ws k x → k < length ws
    → state ≡ with_waiting w (drop left ws) → after ≡ with_node_at state x.plan.owner x.prep.root → after ≡ with_waiting w (drop k ws)
one_more w ws k left x state after next is low so now =
    now ∙ ap (λ s. with_node_at s x.plan.owner x.prep.root) (so ∙ ap (λ j. with_waiting w (drop j ws)) (sym next))
    ∙ sym (ap (with_waiting w) (drop-cons ws k x low ∙ ap (λ y. y ∷ drop (suc k) ws) (sym is)))

pub loop-left-preserved : goal.loop-left-preserved
loop-left-preserved c = record {
  within = omega (arith, c.loop-left.invariant.within);
  state = one_more c.args.state.now c.args.batch.now (c.loop-left.left - 1) c.loop-left.left c.index-waiting-left.result c.loop-left.state c.put_node.new.self
      (omega (arith, c.loop-left-test.true)) (c.index-waiting-left.is ∙ ap (λ ws. get_or ws (c.loop-left.left - 1) c.index-waiting-left.result) c.waiting-waiting.ensures) (omega (arith, c.loop-left.invariant.within, c.loop-left-test.true))
      c.loop-left.invariant.state (c.put_node.ensures ∙ ap (with_node_at c.loop-left.state c.index-waiting-left.result.plan.owner) c.root.ensures);
}
