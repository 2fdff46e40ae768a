-- How a set knows the first place that it lacks.
use Rattle.qx_itable.specs.declared.live.LiveSet.TheInside.{Inside}
use Rattle.qx_itable.specs.FirstPlace.{IsFirstFrom}

-- the place that is kept is the first that isn't in the set, or the limit
pub record KnowsFirst (a : Inside) : Type 0 where
  pub first : IsFirstFrom a.places 0 a.first_absent
