-- Blocks that were met, as a set and as a list.
use Rattle.std.specs.Prelude.{◌≡◌, ◌<◌, ◌≤◌, ◌+◌, ℕ, List, Result, OnOk, length}
use Rattle.qx_blockset.specs.Members.{Members, count_of, has, limit_of}
use Rattle.qx_geom.specs.Lists.{is_in}
use Rattle.qx_view.specs.Walk.{Test, first_failing, gone_through}
use Rattle.qx_pointers.specs.declared.halt.Halt.{Halt}
use Rattle.qx_pointers.specs.declared.halt.Halt.TheVariants as halts
use Rattle.qx_pointers.specs.declared.node.LeafPlace.{LeafPlace}
use Rattle.qx_pointers.specs.Halts.{Answers}
use Rattle.qx_pointers.specs.Shown.{Looks}
use Rattle.qx_outside.specs.Outside.{Outside}

-- the set has those numbers of the list that lie below its limit
pub record Marks (set : Members) (numbers : List ℕ) : Type 0 where
  pub each : (b : ℕ) → b < limit_of set → has set b ≡ is_in numbers b

-- these tests were gone through: the answer is the first that fails, and the set has what was met
pub record GoesThrough {T : Type 0} (tests : List Test) (result : Result T Halt) (old new : Members) : Type 0 where
  pub answer : (met : List ℕ) → Marks old met → Answers (first_failing met tests) result
  pub marks : (met : List ℕ) → Marks old met → OnOk result (Marks new (gone_through met tests))

-- pointers were followed: what was met stays so, and for each block that is met no more than one leaf is kept and one read is Ok
pub record Follows {T : Type 0} (old new : Members) (leaves kept : List LeafPlace) (before after : Outside) (result : Result T Halt) : Type 0 where
  pub limit : limit_of new ≡ limit_of old
  pub more : count_of old ≤ count_of new
  pub few : length kept + count_of old ≤ length leaves + count_of new
  pub looks : Looks halts.Device (count_of old) (count_of new) before after result
