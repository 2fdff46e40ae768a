use Rattle.std.proofs.Common.{◌≡◌, ℕ, ◌+◌, ◌<◌, List, [], ◌∷◌, length, take, get_or, inl, inr, sym, ◌∙◌, subst, arith}
use Rattle.std.specs.Prelude.{Contains}
use Rattle.std.proofs.lemmas.List.{take_all, take_more}
use Rattle.std.proofs.lemmas.List.Elements.{Contains-append_cases}
use Rattle.qx_geom.proofs.Members.{Contains-cases}
use Rattle.qx_ptree.specs.WorkState.{Preparation, blocks_of}
use Rattle.qx_ptree.proofs.WaitingChanges.{IsApart, apart_each}
use Rattle.qx_batch.specs.declared.batch.Waiting.{Waiting}
use Rattle.qx_batch.specs.Batches.{IsApartFrom}
use Rattle.qx_batch.proofs.batch.Batch.is_apart.Goals as goal

-- one more change that is apart
more_apart : (ws : List Waiting) (i : ℕ) (w : Waiting) (p : Preparation) → i < length ws → w ≡ get_or ws i w → IsApartFrom (take i ws) p → IsApart (blocks_of w.prep) (blocks_of p) → IsApartFrom (take (i + 1) ws) p
more_apart ws i w p low is before own v c = elim (Contains-append_cases (take i ws) (get_or ws i w ∷ []) v (subst (λ xs. Contains xs v) (take_more ws i w low) c)) [
  | inl older ↦ before v older
  | inr last ↦ elim (Contains-cases (get_or ws i w) v [] last) [
    | inl same ↦ subst (λ (x : Waiting). IsApart (blocks_of x.prep) (blocks_of p)) (is ∙ same) own
    | inr none ↦ absurd (omega (arith, none.1))
  ]
]

pub loop-waiting-preserved : goal.loop-waiting-preserved
loop-waiting-preserved c = more_apart c.deref-waiting-items.result.now c.loop-waiting.waiting-index c.waiting-item.result c.args.prep.now c.loop-waiting-test.true c.waiting-item.is c.loop-waiting.invariant
    (apart_each c.waiting-item.result.prep c.args.prep.now (sym c.apart.ensures ∙ c.if-not-apart.false))

pub returns : goal.returns
returns c = λ t v in'. c.loop-waiting.invariant v
    (subst (λ xs. Contains xs v) (sym (take_all c.loop-waiting.waiting-index c.deref-waiting-items.result.now c.loop-waiting-test.false ∙ c.deref-waiting-items.ensures.value ∙ c.self.view_is)) in')
