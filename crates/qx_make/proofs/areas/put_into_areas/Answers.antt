use Rattle.qx_make.proofs.AreaPuts.{both_done, both_fail, first_fails, first_told, second_fails, second_told}
use Rattle.qx_make.proofs.areas.put_into_areas.Goals as goal

pub write_at-requires : goal.write_at-requires
write_at-requires g c = rw c.area.ensures (first_told c.args.geometry.now c.requires.geometry c.args.first.now c.args.second.now c.requires.first c.requires.second (g.D.Dev.outside c.args.host.now).extent c.requires.len)

pub returns-in_err-write_at-clause-stage : goal.returns-in_err-write_at-clause-stage
returns-in_err-write_at-clause-stage g c = λ bytes long.
    first_fails c.args.geometry.now c.requires.geometry c.args.first.now c.args.second.now c.requires.first c.requires.second bytes long c.from_residual.result (g.D.Dev.outside c.args.host.now) (g.D.Dev.outside c.write_at.new.self) c.from_residual.ensures.0 (rw c.area.ensures at c.write_at.ensures.step)

pub write_at-requires-2 : goal.write_at-requires-2
write_at-requires-2 g c = rw c.area-2.ensures (second_told c.args.geometry.now c.requires.geometry c.args.first.now c.args.second.now c.requires.first c.requires.second (g.D.Dev.outside c.args.host.now).extent (g.D.Dev.outside c.write_at.new.self).extent c.write_at.ensures.others.extent_same c.requires.len)

pub returns-in_err-write_at-2-clause-stage : goal.returns-in_err-write_at-2-clause-stage
returns-in_err-write_at-2-clause-stage g c = λ bytes long.
    second_fails c.args.geometry.now c.requires.geometry c.args.first.now c.args.second.now c.requires.first c.requires.second bytes long c.from_residual-in_err-write_at-2.result (g.D.Dev.outside c.args.host.now) (g.D.Dev.outside c.write_at.new.self) (g.D.Dev.outside c.write_at-2.new.self) c.from_residual-in_err-write_at-2.ensures.0
    (rw c.area.ensures at c.in_ok-write_at.ensures.ok) (rw c.area.ensures at c.write_at.ensures.step) (rw c.area-2.ensures at c.write_at-2.ensures.step)

pub returns-in_err-sync-clause-stage : goal.returns-in_err-sync-clause-stage
returns-in_err-sync-clause-stage g c = λ bytes long.
    both_fail c.args.geometry.now c.requires.geometry c.args.first.now c.args.second.now c.requires.first c.requires.second bytes long c.from_residual-in_err-sync.result (g.D.Dev.outside c.args.host.now) (g.D.Dev.outside c.write_at.new.self) (g.D.Dev.outside c.write_at-2.new.self) (g.D.Dev.outside c.sync.new.self) c.from_residual-in_err-sync.ensures.0
    (rw c.area.ensures at c.in_ok-write_at.ensures.ok) (rw c.area.ensures at c.write_at.ensures.step) (rw c.area-2.ensures at c.in_ok-write_at-2.ensures.ok) (rw c.area-2.ensures at c.write_at-2.ensures.step) c.sync.ensures.step

pub returns-clause-stage : goal.returns-clause-stage
returns-clause-stage g c = λ bytes long.
    both_done c.args.geometry.now c.requires.geometry c.args.first.now c.args.second.now c.requires.first c.requires.second bytes long tt (g.D.Dev.outside c.args.host.now) (g.D.Dev.outside c.write_at.new.self) (g.D.Dev.outside c.write_at-2.new.self) (g.D.Dev.outside c.sync.new.self)
    (rw c.area.ensures at c.in_ok-write_at.ensures.ok) (rw c.area.ensures at c.write_at.ensures.step) (rw c.area-2.ensures at c.in_ok-write_at-2.ensures.ok) (rw c.area-2.ensures at c.write_at-2.ensures.step) c.in_ok-sync.ensures.ok c.sync.ensures.step
