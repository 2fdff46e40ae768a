use Rattle.std.proofs.Common.{ℕ, List, [], ◌∷◌, Ok, refl, ◌∙◌, arith}
use Rattle.qx_make.specs.Stages.{Stage, after_stage, rest_stage, zero_stage}
use Rattle.qx_make.proofs.StagesInOrder.{perform_fails, perform_one, perform_then}
use Rattle.qx_make.proofs.TornAreas.{length-zeroed}
use Rattle.qx_make.proofs.making.zero_both.Goals as goal

module _ (bytes : List ℕ) (one last : ℕ) where
  -- the stages
  first : Stage
  first = zero_stage bytes one

  second : Stage
  second = zero_stage (after_stage (zero_stage bytes one)) last

  end : Stage
  end = rest_stage (after_stage (zero_stage (after_stage (zero_stage bytes one)) last))

pub returns-in_err-zero_area-clause-stages : goal.returns-in_err-zero_area-clause-stages
unfolding first second end
returns-in_err-zero_area-clause-stages g c = λ bytes long.
    let one = c.args.one in
    let last = c.args.last in
    let p = perform_one (first bytes one last ∷ second bytes one last ∷ end bytes one last ∷ []) (first bytes one last) (second bytes one last) (0, omega arith, refl) (1, omega arith, refl) refl c.zero_area.result (g.D.Dev.outside c.args.host.now) (g.D.Dev.outside c.zero_area.new.host) (c.zero_area.ensures.stage bytes long) in
    perform_fails (first bytes one last ∷ second bytes one last ∷ end bytes one last ∷ []) bytes (after_stage (first bytes one last)) (after_stage (second bytes one last)) c.zero_area.result c.from_residual.result (g.D.Dev.outside c.args.host.now) (g.D.Dev.outside c.zero_area.new.host) c.from_residual.ensures.0 p

pub returns-clause-stages : goal.returns-clause-stages
unfolding first second end
returns-clause-stages g c = λ bytes long.
    let one = c.args.one in
    let last = c.args.last in
    let begun = perform_one (first bytes one last ∷ second bytes one last ∷ end bytes one last ∷ []) (first bytes one last) (second bytes one last) (0, omega arith, refl) (1, omega arith, refl) refl (Ok tt) (g.D.Dev.outside c.args.host.now) (g.D.Dev.outside c.zero_area.new.host) (c.in_ok-zero_area.ensures.stage bytes long) in
    let ended = perform_one (first bytes one last ∷ second bytes one last ∷ end bytes one last ∷ []) (second bytes one last) (end bytes one last) (1, omega arith, refl) (2, omega arith, refl) refl c.zero_area-2.result (g.D.Dev.outside c.zero_area.new.host) (g.D.Dev.outside c.zero_area-2.new.host) (c.zero_area-2.ensures.stage (after_stage (zero_stage bytes one)) (length-zeroed bytes one ∙ long)) in
    perform_then (first bytes one last ∷ second bytes one last ∷ end bytes one last ∷ []) bytes (after_stage (first bytes one last)) (after_stage (second bytes one last)) tt c.zero_area-2.result (g.D.Dev.outside c.args.host.now) (g.D.Dev.outside c.zero_area.new.host) (g.D.Dev.outside c.zero_area-2.new.host) begun ended
