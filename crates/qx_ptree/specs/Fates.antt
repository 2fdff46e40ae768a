-- What a change does to each leaf of a node.
use Rattle.std.specs.Prelude.{◌≡◌, ℕ, ◌+◌, ◌*◌, ◌<◌, ◌≤◌, Bool, true, false, ◌&&◌, ◌||◌, List, ◌++◌, nat_le, nat_lt, if◌then◌else◌}
use Rattle.std.specs.List.{range_with_len}
use Rattle.std.specs.Option.{option_to_list}
use Rattle.qx_geom.specs.Pointer.{ceil_div, reach}
use Rattle.qx_geom.specs.Positions.{is_named}
use Rattle.qx_ptree.specs.declared.change.Change.{Change}
use Rattle.qx_ptree.specs.declared.change.Fate.{Fate}
use Rattle.qx_ptree.specs.declared.change.Fate.TheVariants.{Stays, Written, Goes}

-- leaf i is written
abbrev pub is_written : Change → ℕ → Bool
is_written c i = (nat_le c.first i && nat_lt i (c.first + c.count)) || is_named c.also i

-- the leaves that are written
abbrev pub written_by : Change → List ℕ
written_by c = range_with_len c.first c.count ++ option_to_list c.also

-- leaf i goes, where it is present; `leaves` lie below the new size
abbrev pub is_gone : ℕ → Change → ℕ → Bool
is_gone leaves c i = nat_le leaves i || is_named c.gone i

-- what becomes of leaf i
abbrev pub fate_of : ℕ → Change → ℕ → Fate
fate_of leaves c i = if is_written c i then Written else if is_gone leaves c i then Goes else Stays

-- how many leaves lie below the new size
abbrev pub leaves_after : ℕ → Change → ℕ
leaves_after blocksize c = ceil_div c.size blocksize

-- 5 levels reach the new size, the written leaves lie below it, one of them lies outside the range, and none is taken out
pub record IsChange (blocksize : ℕ) (c : Change) : Type 0 where
  pub reached : c.size ≤ reach blocksize 5 * blocksize
  pub below : (i : ℕ) → is_written c i ≡ true → i < leaves_after blocksize c
  pub apart : (i : ℕ) → is_named c.also i ≡ true → (nat_le c.first i && nat_lt i (c.first + c.count)) ≡ false
  pub stays : (i : ℕ) → is_named c.gone i ≡ true → is_written c i ≡ false
