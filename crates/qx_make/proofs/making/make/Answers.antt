use Rattle.std.proofs.Common.{◌≡◌, refl, sym, subst, arith}
use Rattle.qx_geom.specs.declared.geometry.Geometry.{Geometry}
use Rattle.qx_geom.proofs.VolumeNumbers.{IsGeometry-keeps}
use Rattle.qx_outside.specs.Trail.{bytes_of}
use Rattle.qx_make.specs.Make.{HasMade}
use Rattle.qx_make.proofs.MadeVolumes.{asks_one_length, has_made, keeps_quiet, moments_idle, moments_made, room}
use Rattle.qx_make.proofs.making.make.Goals as goal

pub returns-in-Err-clause-any_moment : goal.returns-in-Err-clause-any_moment
returns-in-Err-clause-any_moment g c = moments_idle c.args.options.now (g.D.Dev.outside c.args.host.now)

pub replace-requires-clause-size : goal.replace-requires-clause-size
replace-requires-clause-size g c = room c.args.options.now c.in-Ok.geometry (sym c.in-Ok.ensures.numbers)

pub overflow_sub-result : goal.overflow_sub-result
overflow_sub-result g c = omega (arith, c.user-in-Ok-replace.ensures, (IsGeometry-keeps c.in-Ok.geometry c.in-Ok.ensures.geometry).room)

pub returns-in-Err-replace-clause-any_moment : goal.returns-in-Err-replace-clause-any_moment
returns-in-Err-replace-clause-any_moment g c =
    moments_made c.args.options.now c.in-Ok.geometry (sym c.in-Ok.ensures.numbers) c.replace.ensures.now c.replace.result (g.D.Dev.outside c.args.host.now) (g.D.Dev.outside c.replace.new.host) (c.replace.ensures.stages (bytes_of (g.D.Dev.outside c.args.host.now).history))

pub returns-in-Err-replace-clause-lengths : goal.returns-in-Err-replace-clause-lengths
returns-in-Err-replace-clause-lengths g c = λ told. asks_one_length c.args.options.now.size (g.D.Dev.outside c.args.host.now).history (g.D.Dev.outside c.replace.new.host).history ((c.replace.ensures.stages (bytes_of (g.D.Dev.outside c.args.host.now).history)).others told)

pub returns-in-Err-replace-clause-console : goal.returns-in-Err-replace-clause-console
returns-in-Err-replace-clause-console g c = λ told. keeps_quiet c.args.options.now.size (g.D.Dev.outside c.args.host.now).history (g.D.Dev.outside c.replace.new.host).history ((c.replace.ensures.stages (bytes_of (g.D.Dev.outside c.args.host.now).history)).others told)

pub returns-in-Ok-replace-clause-volume : goal.returns-in-Ok-replace-clause-volume
returns-in-Ok-replace-clause-volume g c = λ numbers e told.
    let old = bytes_of (g.D.Dev.outside c.args.host.now).history in
    let new = (g.D.Dev.outside c.replace.new.host).history in
    let same : c.in-Ok.geometry ≡ numbers = cc (e, c.in-Ok.ensures.numbers) in
    subst (λ (h : Geometry). HasMade c.args.options.now h old new) same
    (has_made c.args.options.now c.in-Ok.geometry (sym c.in-Ok.ensures.numbers) c.replace.ensures.now old new ((c.in-Ok-replace.ensures.stages old).kept_ok told refl))

pub returns-in-Ok-replace-clause-any_moment : goal.returns-in-Ok-replace-clause-any_moment
returns-in-Ok-replace-clause-any_moment g c =
    moments_made c.args.options.now c.in-Ok.geometry (sym c.in-Ok.ensures.numbers) c.replace.ensures.now c.replace.result (g.D.Dev.outside c.args.host.now) (g.D.Dev.outside c.replace.new.host) (c.replace.ensures.stages (bytes_of (g.D.Dev.outside c.args.host.now).history))

pub returns-in-Ok-replace-clause-lengths : goal.returns-in-Ok-replace-clause-lengths
returns-in-Ok-replace-clause-lengths g c = λ told. asks_one_length c.args.options.now.size (g.D.Dev.outside c.args.host.now).history (g.D.Dev.outside c.replace.new.host).history ((c.replace.ensures.stages (bytes_of (g.D.Dev.outside c.args.host.now).history)).others told)

pub returns-in-Ok-replace-clause-console : goal.returns-in-Ok-replace-clause-console
returns-in-Ok-replace-clause-console g c = λ told. keeps_quiet c.args.options.now.size (g.D.Dev.outside c.args.host.now).history (g.D.Dev.outside c.replace.new.host).history ((c.replace.ensures.stages (bytes_of (g.D.Dev.outside c.args.host.now).history)).others told)
