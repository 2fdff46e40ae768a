use Rattle.std.proofs.Common.{◌≡◌, ◌∙◌, sym, subst}
use Rattle.std.specs.Prelude.{Result, Ok}
use Rattle.qx_geom.specs.declared.geometry.GeomFault.{GeomFault}
use Rattle.qx_geom.specs.declared.geometry.Geometry.{Geometry}
use Rattle.qx_top.specs.Run.{IsSafe, MakesOrRefuses, options_if}
use Rattle.qx_top.specs.Says.{code_of}
use Rattle.qx_top.specs.Sizes.{volume_of}
use Rattle.qx_top.proofs.ReadRuns.{safe_says}
use Rattle.qx_top.proofs.maker.make_volume.Goals as goal

pub returns-in-Err-clause-any_moment : goal.returns-in-Err-clause-any_moment
returns-in-Err-clause-any_moment g c =
    subst (λ (r : Result Geometry GeomFault). IsSafe (options_if r c.args.options.now) (g.H.Dev.outside c.args.host.now) (g.H.Dev.outside c.say.new.host)) (sym c.in-Err.is ∙ c.new.ensures.numbers)
    (safe_says (code_of c.say.result) (g.H.Dev.outside c.args.host.now) (g.H.Dev.outside c.say.new.host) _ _ c.say.ensures.says)

pub returns-in-Ok-clause-does : goal.returns-in-Ok-clause-does
returns-in-Ok-clause-does g c =
    let is : volume_of c.args.options.now ≡ Ok c.in-Ok.field-0 = sym c.new.ensures.numbers ∙ c.in-Ok.is in
    subst (λ (r : Result Geometry GeomFault). MakesOrRefuses r c.args.image.now c.args.options.now (code_of c.make_on.result) (g.H.Dev.outside c.args.host.now) (g.H.Dev.outside c.make_on.new.host)) (sym is)
    (c.make_on.ensures.does c.in-Ok.field-0 is)
