use Rattle.qx_path.proofs.JoinedNames.{ends-at_slash, ends-earlier, ends-nowhere}
use Rattle.qx_path.proofs.names.before_last_slash.Goals as goal

pub loop-front-preserved : goal.loop-front-preserved
loop-front-preserved c = ends-earlier c.loop-front.front.now c.args.bytes.now c.in-len1-up.len_at_least c.if-byte-eq47.false c.loop-front.invariant

pub returns-then-byte-eq47 : goal.returns-then-byte-eq47
returns-then-byte-eq47 c = ends-at_slash c.loop-front.front.now c.args.bytes.now c.in-len1-up.len_at_least c.if-byte-eq47.true c.requires c.loop-front.invariant

pub returns : goal.returns
returns c = ends-nowhere c.loop-front.front.now c.args.bytes.now c.in_default.len_below c.loop-front.invariant
