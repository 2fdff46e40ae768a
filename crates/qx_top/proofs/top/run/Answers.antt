use Rattle.std.proofs.Common.{rules}
use Rattle.qx_top.specs.Run.{Does, HasCauses}
use Rattle.qx_top.specs.Words.{asked_of, texts_of}
use Rattle.qx_top.proofs.RunEnds.{complete_run}
use Rattle.qx_top.proofs.top.run.Goals as goal

pub returns-clause-complete : goal.returns-clause-complete
returns-clause-complete g c =
    let asked = asked_of (texts_of c.args.words.now) in
    let does : Does asked c.code.result (g.H.Dev.outside c.args.host) (g.H.Dev.outside c.obey-status.new.host) = search rules in
    let causes : HasCauses asked c.code.result (g.H.Dev.outside c.args.host) (g.H.Dev.outside c.obey-status.new.host) = search rules in
    complete_run asked c.code.result (g.H.Dev.outside c.args.host) (g.H.Dev.outside c.obey-status.new.host) does causes
