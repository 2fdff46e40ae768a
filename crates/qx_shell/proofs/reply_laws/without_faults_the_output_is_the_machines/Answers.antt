use Rattle.std.proofs.Common.{◌++◌, ap, ◌∙◌}
use Rattle.qx_outside.specs.Trail.{input}
use Rattle.qx_shell.specs.Ends.{limit_text}
use Rattle.qx_shell.specs.Occasions.{is_input_over}
use Rattle.qx_shell.proofs.DurableRuns.{six_at_limit, zero_at_last}
use Rattle.qx_shell.proofs.QuietScripts.{script_output}
use Rattle.qx_shell.proofs.reply_laws.without_faults_the_output_is_the_machines.Goals as goal

pub returns-clause-texts : goal.returns-clause-texts
returns-clause-texts c how h status r quiet = script_output r.start r.moments (is_input_over h.deeds) (input h) r.made r.reach r.turns quiet

pub returns-clause-whole : goal.returns-clause-whole
returns-clause-whole c how h r quiet = (zero_at_last h r.made r.reach r.ends).put ∙ script_output r.start r.moments (is_input_over h.deeds) (input h) r.made r.reach r.turns quiet

pub returns-clause-limit : goal.returns-clause-limit
returns-clause-limit c how h r quiet =
    six_at_limit h r.made r.reach r.ends
    ∙ ap (λ x. x ++ limit_text) (script_output r.start r.moments (is_input_over h.deeds) (input h) r.made r.reach r.turns quiet)
