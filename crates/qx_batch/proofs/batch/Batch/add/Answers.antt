use Rattle.std.proofs.Common.{◌≡◌, [], ◌∷◌, ◌++◌, List, ◌∙◌, ap, subst}
use Rattle.std.specs.Prelude.{Bool, true, is_ok, if◌then◌else◌}
use Rattle.qx_ptree.specs.WorkState.{Preparation}
use Rattle.qx_batch.specs.declared.batch.Waiting.{Waiting}
use Rattle.qx_batch.specs.Batches.{IsApartFrom}
use Rattle.qx_batch.proofs.batch.Batch.add.Goals as goal

-- an element behind a list that was reserved for
pushed : (inside reserved after before : List Waiting) (w : Waiting) (ok : Bool) → after ≡ (if ok then reserved ++ w ∷ [] else reserved) → ok ≡ true → reserved ≡ inside → inside ≡ before → after ≡ before ++ w ∷ []
pushed inside reserved after before w ok is good same view = is ∙ ap (λ b. if b then reserved ++ w ∷ [] else reserved) good ∙ ap (λ ws. ws ++ w ∷ []) (same ∙ view)

pub returns-then-not-is_apart-clause-err : goal.returns-then-not-is_apart-clause-err
returns-then-not-is_apart-clause-err g c = c.abandon.ensures.back (g.B.Blocks.state c.args.blocks.now) [] c.in_ok-prep.ensures.ok.takes

pub returns-clause-added : goal.returns-clause-added
returns-clause-added g c =
    let p : Preparation = c.in_ok-prep.prep in
    let w : Waiting = record { plan = c.args.plan.now; prep = p } in
    record {
      prep = p;
      is = pushed c.self.inside.waiting.items c.reserve.new.self.items c.push.new.self.items c.args.self.now w (is_ok c.push.result) c.push.ensures.items c.if-is_err.ensures.negation c.in_ok-reserve.ensures.items c.self.view_is;
      prepares = c.in_ok-prep.ensures.ok;
      apart = subst (λ ws. IsApartFrom ws p) (c.in_ok-reserve.ensures.items ∙ c.self.view_is) (c.is_apart.ensures c.if-not-is_apart.false);
    }
