use Rattle.std.proofs.Common.{◌≡◌, ℕ, List, [], ◌∷◌, ◌++◌, length, replicate, ap, sym, ◌∙◌, subst, IsTrue}
use Rattle.std.proofs.lemmas.List.{length-replicate}
use Rattle.qx_outside.specs.Trail.{bytes_of}
use Rattle.qx_make.specs.Stages.{PerformsAll, old_places, old_stages, places_by, places_of_two, rest_stage, zero_stages, zeroed}
use Rattle.qx_make.proofs.OldStages.{idles_then, reading_fails, then_stages}
use Rattle.qx_super.proofs.ActiveAreas.{choice_read}
use Rattle.qx_outside.proofs.ToldLengths.{answered_is}
use Rattle.qx_make.proofs.making.clear_old.Given.{Over}
use Rattle.qx_make.proofs.making.clear_old.Goals as goal

pub returns-in_err-len-clause-stages : goal.returns-in_err-len-clause-stages
returns-in_err-len-clause-stages g c = λ old.
    reading_fails old c.from_residual.result (g.D.Dev.outside c.args.host.now) (g.D.Dev.outside c.len.new.self) c.from_residual.ensures.0 c.len.ensures.step

pub returns-in_err-areas-clause-stages : goal.returns-in_err-areas-clause-stages
returns-in_err-areas-clause-stages g c = λ old.
    reading_fails old c.from_residual-in_err-areas.result (g.D.Dev.outside c.args.host.now) (g.D.Dev.outside c.areas.new.host) c.from_residual-in_err-areas.ensures.0
    (idles_then (g.D.Dev.outside c.args.host.now) (g.D.Dev.outside c.len.new.self) (g.D.Dev.outside c.areas.new.host) c.len.ensures.step c.areas.ensures.step)

-- the device's length, where it tells
long : (g : Over) (c : goal.After-zero_places g) → IsTrue (g.D.Dev.outside c.areas.new.host).tells → c.in_ok-len.len ≡ length (bytes_of (g.D.Dev.outside c.areas.new.host).history)
long g c told = answered_is _ _ _ _ c.areas.ensures.extent (g.met.D.Dev.extent_is c.areas.new.host told) c.in_ok-len.ensures.value

-- the places that are zeroed are those of its bytes
places : (g : Over) (c : goal.After-zero_places g) → IsTrue (g.D.Dev.outside c.areas.new.host).tells → places_of_two c.places_to_zero-one.result.0 c.places_to_zero-one.result.1 ≡ old_places (bytes_of (g.D.Dev.outside c.areas.new.host).history)
places g c told =
    c.places_to_zero-one.ensures ∙ ap places_by (c.choice.ensures ∙ choice_read (bytes_of (g.D.Dev.outside c.areas.new.host).history) _ (c.in_ok-areas.ensures.told told))

-- so they are zeroed by their stages
given : (g : Over) (c : goal.After-zero_places g) (old : List ℕ) → IsTrue (g.D.Dev.outside c.areas.new.host).tells → bytes_of (g.D.Dev.outside c.areas.new.host).history ≡ old
    → PerformsAll old (zeroed old (old_places old)) (old_stages old) c.zero_places.result (g.D.Dev.outside c.areas.new.host) (g.D.Dev.outside c.zero_places.new.host)
given g c old told is =
    subst (λ (at : List ℕ). PerformsAll old (zeroed old at) (zero_stages old at ++ rest_stage (zeroed old at) ∷ []) c.zero_places.result (g.D.Dev.outside c.areas.new.host) (g.D.Dev.outside c.zero_places.new.host))
    (places g c told ∙ ap old_places is) (c.zero_places.ensures.stages old (ap length (sym is) ∙ sym (long g c told)))

pub returns-clause-stages : goal.returns-clause-stages
returns-clause-stages g c = λ old.
    let some = c.zero_places.ensures.stages (replicate c.in_ok-len.len 0) (length-replicate c.in_ok-len.len 0) in
    then_stages old (zeroed old (old_places old)) (old_stages old) (g.D.Dev.outside c.args.host.now) (g.D.Dev.outside c.areas.new.host) (g.D.Dev.outside c.zero_places.new.host)
    (idles_then (g.D.Dev.outside c.args.host.now) (g.D.Dev.outside c.len.new.self) (g.D.Dev.outside c.areas.new.host) c.len.ensures.step c.areas.ensures.step)
    some.reaches.before c.zero_places.result (given g c old) some.others
