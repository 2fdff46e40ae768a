use Rattle.std.proofs.Common.{◌<◌, length, sym, ap, subst}
use Rattle.qx_outside.specs.Trail.{input}
use Rattle.qx_shell.specs.Occasions.{is_input_over}
use Rattle.qx_shell.proofs.DurableRuns.{over_turns, zero_at_last}
use Rattle.qx_shell.proofs.RunEnds.{script_puts}
use Rattle.qx_shell.proofs.reply_laws.a_silent_run_is_refused.Goals as goal

pub returns : goal.returns
returns c how h r some =
    subst (λ n. 0 < n) (sym (ap length (zero_at_last h r.made r.reach r.ends).put)) (script_puts r.start r.moments (is_input_over h.deeds) (input h) r.made some (over_turns how h r))
