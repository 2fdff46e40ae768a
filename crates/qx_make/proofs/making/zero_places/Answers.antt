use Rattle.std.proofs.Common.{ℕ, Option, [], ◌∷◌, ◌++◌, refl, arith, subst, sym}
use Rattle.qx_make.specs.Stages.{PerformsAll, after_stage, places_of_two, rest_stage, zero_stage, zero_stages, zeroed}
use Rattle.qx_make.proofs.StagesInOrder.{perform_one}
use Rattle.qx_make.proofs.making.zero_places.Goals as goal

pub returns-in-None-clause-stages : goal.returns-in-None-clause-stages
returns-in-None-clause-stages g c = λ bytes long.
    let first = zero_stage bytes c.args.one in
    let end = rest_stage (after_stage (zero_stage bytes c.args.one)) in
    let p = perform_one (first ∷ end ∷ []) first end (0, omega arith, refl) (1, omega arith, refl) refl c.zero_area.result (g.D.Dev.outside c.args.host.now) (g.D.Dev.outside c.zero_area.new.host) (c.zero_area.ensures.stage bytes long) in
    subst (λ (o : Option ℕ). PerformsAll bytes (zeroed bytes (places_of_two c.args.one o)) (zero_stages bytes (places_of_two c.args.one o) ++ rest_stage (zeroed bytes (places_of_two c.args.one o)) ∷ []) c.zero_area.result (g.D.Dev.outside c.args.host.now) (g.D.Dev.outside c.zero_area.new.host))
    (sym c.in-None.is) p
