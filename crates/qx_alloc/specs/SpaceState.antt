-- The blocks of a volume, as three trees hold them: the working one, the frozen one and the durable one.
use Rattle.std.specs.Prelude.{◌≡◌, ℕ, ◌-◌, ◌<◌, ◌≤◌, ◌^◌, Bool, true, false, not, ◌&&◌, ◌||◌, List, map, count_by, replicate, slice_set, nat_le}
use Rattle.std.specs.List.{range_with_len}
use Rattle.qx_blockset.specs.Members.{Members, has, limit_of}

-- the first block that is no system tree's, the blocks that each tree holds, and whether there is a frozen tree
pub record SpaceState : Type 0 where
  pub first_user : ℕ
  pub working : Members
  pub frozen : Members
  pub durable : Members
  pub is_frozen : Bool

-- how many blocks there are, those of the system among them
abbrev pub limit_in : SpaceState → ℕ
limit_in s = limit_of s.working

-- some tree holds the block
abbrev pub is_held : SpaceState → ℕ → Bool
is_held s b = has s.working b || has s.frozen b || has s.durable b

-- the working tree holds the block, and it alone
abbrev pub is_private_in : SpaceState → ℕ → Bool
is_private_in s b = has s.working b && not (has s.frozen b || has s.durable b)

-- the blocks that are no system tree's
abbrev pub user_blocks : SpaceState → List ℕ
user_blocks s = range_with_len s.first_user (limit_in s - s.first_user)

-- how many of them no tree holds
abbrev pub free_in : SpaceState → ℕ
free_in s = count_by (λ b. not (is_held s b)) (user_blocks s)

-- a block that is no system tree's and that no tree holds
pub record IsFree (s : SpaceState) (b : ℕ) : Type 0 where
  pub user : s.first_user ≤ b
  pub below : b < limit_in s
  pub unheld : is_held s b ≡ false

-- a set of none of these blocks
abbrev pub none_of : Members → Members
none_of held = replicate (limit_of held) false

-- those of the blocks from the first user block on
abbrev pub users_in : ℕ → Members → Members
users_in first_user held = map (λ b. nat_le first_user b && has held b) (range_with_len 0 (limit_of held))

-- the working and the durable tree hold these blocks but for the system's, and there is no frozen one
abbrev pub space_with : ℕ → Members → SpaceState
space_with first_user held = record {
  first_user = first_user;
  working = users_in first_user held;
  frozen = none_of held;
  durable = users_in first_user held;
  is_frozen = false;
}

-- the working tree holds block b as well
abbrev pub with_taken : SpaceState → ℕ → SpaceState
with_taken s b = record s { working = slice_set s.working b true }

-- the working tree no longer holds block b
abbrev pub without : SpaceState → ℕ → SpaceState
without s b = record s { working = slice_set s.working b false }

-- the working tree is frozen as it is
abbrev pub with_frozen : SpaceState → SpaceState
with_frozen s = record s { frozen = s.working; is_frozen = true }

-- the frozen tree is the durable one from now on
abbrev pub with_thawed : SpaceState → SpaceState
with_thawed s = record s { frozen = none_of s.frozen; durable = s.frozen; is_frozen = false }

-- what holds of the blocks at any moment
pub record IsConsistent (s : SpaceState) : Type 0 where
  pub few : limit_in s < 2 ^ 32
  pub frozen_long : limit_of s.frozen ≡ limit_in s
  pub durable_long : limit_of s.durable ≡ limit_in s
  pub users : (b : ℕ) → b < s.first_user → is_held s b ≡ false
  pub unfrozen : s.is_frozen ≡ false → s.frozen ≡ none_of s.working
