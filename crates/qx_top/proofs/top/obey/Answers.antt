use Rattle.std.proofs.Common.{◌≡◌, rules, sym, subst}
use Rattle.std.specs.Prelude.{Option, Some, option_map}
use Rattle.qx_top.specs.Run.{IsSafe, made_by}
use Rattle.qx_top.specs.Says.{code_of}
use Rattle.qx_top.specs.Words.{Asked, asked_in, supers, verdict}
use Rattle.qx_top.proofs.ReadRuns.{safe_says, safe_supers, safe_verdict}
use Rattle.qx_top.proofs.top.obey.Goals as goal

pub returns-in-None-clause-any_moment : goal.returns-in-None-clause-any_moment
returns-in-None-clause-any_moment g c = rw c.in-None.is (safe_says (code_of c.say.result) (g.H.Dev.outside c.args.host.now) (g.H.Dev.outside c.say.new.host) _ _ c.say.ensures.says)

pub returns-in-Some-Supers-clause-any_moment : goal.returns-in-Some-Supers-clause-any_moment
returns-in-Some-Supers-clause-any_moment g c =
    let asked : option_map asked_in c.args.asked ≡ Some (supers c.in-Some-Supers.image.now) = search rules in
    subst (λ (a : Option Asked). IsSafe (made_by a) (g.H.Dev.outside c.args.host.now) (g.H.Dev.outside c.report_supers.new.host)) (sym asked)
    (safe_supers (code_of c.report_supers.result) (g.H.Dev.outside c.args.host.now) (g.H.Dev.outside c.report_supers.new.host) c.report_supers.ensures.does.0)

pub returns-in-Some-Verdict-clause-any_moment : goal.returns-in-Some-Verdict-clause-any_moment
returns-in-Some-Verdict-clause-any_moment g c =
    let asked : option_map asked_in c.args.asked ≡ Some (verdict c.in-Some-Verdict.image.now) = search rules in
    subst (λ (a : Option Asked). IsSafe (made_by a) (g.H.Dev.outside c.args.host.now) (g.H.Dev.outside c.report_verdict.new.host)) (sym asked)
    (safe_verdict (code_of c.report_verdict.result) (g.H.Dev.outside c.args.host.now) (g.H.Dev.outside c.report_verdict.new.host) c.report_verdict.ensures.does.0)
