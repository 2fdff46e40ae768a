use Rattle.std.proofs.Common.{◌≤◌, ℕ, List, length, arith}
use Rattle.qx_make.specs.Stages.{old_places, zeroed}
use Rattle.qx_outside.specs.Trail.{resized}
use Rattle.qx_make.proofs.BytesAt.{length-resized}
use Rattle.qx_make.proofs.StagesOfMake.{old_fails, sizing_fails, volume_ends}
use Rattle.qx_make.proofs.making.replace.Goals as goal

pub returns-in_err-clear_old-clause-stages : goal.returns-in_err-clear_old-clause-stages
returns-in_err-clear_old-clause-stages g c = λ old.
    old_fails c.args.geometry.now c.args.order c.args.moment c.args.size old c.clear_old.result c.from_residual.result (g.D.Dev.outside c.args.host.now) (g.D.Dev.outside c.clear_old.new.host) c.from_residual.ensures.0 (c.clear_old.ensures.stages old)

pub returns-in_err-set_len-clause-stages : goal.returns-in_err-set_len-clause-stages
returns-in_err-set_len-clause-stages g c = λ old.
    sizing_fails c.args.geometry.now c.args.order c.args.moment c.args.size old tt c.from_residual-in_err-set_len.result (g.D.Dev.outside c.args.host.now) (g.D.Dev.outside c.clear_old.new.host) (g.D.Dev.outside c.set_len.new.self) c.from_residual-in_err-set_len.ensures.0 (c.in_ok-clear_old.ensures.stages old) c.in_err-set_len.ensures.err

pub returns-clause-stages : goal.returns-clause-stages
returns-clause-stages g c = λ old.
    let whole : List ℕ = resized (zeroed old (old_places old)) c.args.size in
    let long : c.args.geometry.now.len4 ≤ length whole = omega (arith, c.requires.size, length-resized (zeroed old (old_places old)) c.args.size) in
    volume_ends c.args.geometry.now c.args.order c.args.moment c.args.size old tt tt c.write_volume.result (g.D.Dev.outside c.args.host.now) (g.D.Dev.outside c.clear_old.new.host) (g.D.Dev.outside c.set_len.new.self) (g.D.Dev.outside c.write_volume.new.host)
    (c.in_ok-clear_old.ensures.stages old) c.in_ok-set_len.ensures.ok (c.write_volume.ensures.stages whole long)
