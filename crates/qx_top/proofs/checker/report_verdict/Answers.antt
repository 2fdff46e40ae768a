use Rattle.std.proofs.Common.{◌≡◌, IsTrue, Err, subst, ◌∙◌, rules}
use Rattle.qx_check.specs.Verdicts.{SaysVerdict}
use Rattle.qx_check.specs.declared.verdict.CheckFault.TheVariants as faults
use Rattle.qx_outside.specs.Causes.{Rose}
use Rattle.qx_outside.specs.Trail.{History, bytes_of}
use Rattle.qx_top.specs.declared.reports.Report.{Report}
use Rattle.qx_top.specs.Run.{ReportsVerdict}
use Rattle.qx_top.specs.Says.{Says, code_of}
use Rattle.qx_top.proofs.VerdictRuns.{says_answer}
use Rattle.qx_top.proofs.checker.report_verdict.Given.{Over}
use Rattle.qx_top.proofs.checker.report_verdict.Goals as goal

-- where the checker failed for the device, a device call failed
failed : (g : Over) (c : goal.After-say-2 g) → c.check.result ≡ Err faults.Device → Rose (g.H.Dev.outside c.args.host.now).dev_faults (g.H.Dev.outside c.say-2.new.host).dev_faults
failed g c is = let rose = c.check.ensures.looks.looks.cause.failed is in search rules

reported : (g : Over) (c : goal.After-say-2 g) → ReportsVerdict (code_of c.say-2.result) (g.H.Dev.outside c.args.host.now) (g.H.Dev.outside c.say-2.new.host)
reported g c =
    let answer = c.check.result in
    let same : IsTrue (g.H.Dev.outside c.check.new.host).tells → (g.H.Dev.outside c.check.new.host).history ≡ (g.H.Dev.outside c.args.host.now).history = λ t. c.check.ensures.looks.looks.reads.same t ∙ c.attach.ensures.step.step (c.check.ensures.looks.looks.reads.before t) in
    let said = subst (λ (r : Report). Says r.line (code_of r.status) (code_of c.say-2.result) (g.H.Dev.outside c.check.new.host) (g.H.Dev.outside c.say-2.new.host)) c.report_on_answer-report.ensures c.say-2.ensures.says in
    says_answer (code_of c.say-2.result) (g.H.Dev.outside c.args.host.now) (g.H.Dev.outside c.check.new.host) (g.H.Dev.outside c.say-2.new.host)
    (λ t. c.attach.ensures.step.before (c.check.ensures.looks.looks.reads.before t)) same answer
    (λ t. subst (λ (h : History). SaysVerdict (bytes_of h) answer) (c.attach.ensures.step.step (c.check.ensures.looks.looks.reads.before (c.say-2.ensures.says.before t))) (c.check.ensures.says (c.say-2.ensures.says.before t)))
    (failed g c) said

pub returns-clause-does : goal.returns-clause-does
returns-clause-does g c = (reported g c, search rules)
