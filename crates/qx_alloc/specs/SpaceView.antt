-- How the sets of three trees are kept.
use Rattle.std.specs.Prelude.{◌≡◌, ℕ, ◌<◌, ◌≤◌, ◌^◌, false, if◌then◌else◌}
use Rattle.qx_blockset.specs.Members.{has, limit_of}
use Rattle.qx_alloc.specs.declared.space.Space.TheInside.{Inside}
use Rattle.qx_alloc.specs.SpaceState.{SpaceState, is_held, none_of}

-- the sets that the fields stand for: what the frozen set has counts where there is a frozen tree alone
abbrev pub space_in : Inside → SpaceState
space_in a = record {
  first_user = a.first_user;
  working = a.working;
  frozen = if a.is_frozen then a.frozen else none_of a.frozen;
  durable = a.durable;
  is_frozen = a.is_frozen;
}

-- the sets are of one length, the kept union has the blocks that some tree holds and none of the system's, and the search for a free block begins at a user block
pub record IsInOrder (a : Inside) : Type 0 where
  pub few : limit_of a.working < 2 ^ 32
  pub frozen_long : limit_of a.frozen ≡ limit_of a.working
  pub durable_long : limit_of a.durable ≡ limit_of a.working
  pub taken_long : limit_of a.taken ≡ limit_of a.working
  pub taken_held : (b : ℕ) → has a.taken b ≡ is_held (space_in a) b
  pub users : (b : ℕ) → b < a.first_user → has a.taken b ≡ false
  pub begins : a.first_user ≤ a.hint
