use Rattle.std.proofs.Common.{rules, refl, arith}
use Rattle.qx_long.proofs.ShortNames.{lent_short}
use Rattle.qx_long.proofs.names.get.Goals as goal

pub returns-in_ok-read-in-Some : goal.returns-in_ok-read-in-Some
returns-in_ok-read-in-Some g c =
    ((refl, λ _. tt, search (rules, arith)), record { short = lent_short c.args.order c.read-in-Some.result _ (search (rules, arith)) c.read-in-Some.ensures.name; leaves = tt })
