-- A cache of a device's blocks, as the layers above see it.
use Rattle.std.specs.Prelude.{ℕ, ◌+◌, ◌*◌, ◌==◌, Bool, false, not, ◌||◌, List, [], ◌∷◌, take, replicate, slice_range, Option, if◌then◌else◌, refl, unwrap_or}
use Rattle.std.specs.List.{filter}
use Rattle.std.specs.Option.{option_or}
use Rattle.std.specs.Ordering.{nat_cmp}
use Rattle.std.specs.FinMap.{FinMap, get, contains_key, insert, remove, empty, code}
use Rattle.std.specs.Coded.{Coded, code_by, coded×, coded_ℕ, coded_bool, coded_list}
use Rattle.qx_bytes.specs.SameLengths.{refit}
use Rattle.qx_outside.specs.Outside.{Outside}
use Rattle.qx_outside.specs.declared.event.Attachment.{Attachment}
use Rattle.qx_outside.specs.Trail.{bytes_of}
use Rattle.qx_alloc.specs.SpaceState.{SpaceState, free_in, is_held, is_private_in, limit_in}
use Rattle.qx_alloc.specs.SpaceState as space
use Rattle.qx_blockset.specs.Members.{Members, has}
use Rattle.qx_blocks.specs.BlockState.{BlockState}
use Rattle.qx_blocks.specs.Beside.{Beside}

-- the device, the block size, which tree holds which block, the changed blocks that the working tree alone holds and those of the frozen tree, each with its bytes, and the clean blocks that are kept, the last read first
pub record CacheState (H : Type 0) : Type 0 where
  pub host : H
  pub size : ℕ
  pub space : SpaceState
  pub changes : FinMap nat_cmp (List ℕ)
  pub frozen_changes : FinMap nat_cmp (List ℕ)
  pub kept : List ℕ

-- a space is stored as the tuple of its fields
abbrev pub space_code : Coded SpaceState
space_code =
    code_by (ℕ × (List Bool × (List Bool × (List Bool × Bool)))) (coded× coded_ℕ (coded× (coded_list coded_bool) (coded× (coded_list coded_bool) (coded× (coded_list coded_bool) coded_bool))))
    (λ s. (s.first_user, (s.working, (s.frozen, (s.durable, s.is_frozen))))) (λ t. record { first_user = t.0; working = t.1.0; frozen = t.1.1.0; durable = t.1.1.1.0; is_frozen = t.1.1.1.1 }) (λ _. refl)

-- changes are stored as a map
abbrev pub changes_code : Coded (FinMap nat_cmp (List ℕ))
changes_code = code coded_ℕ (coded_list coded_ℕ)

-- and a cache as the tuple of its fields
abbrev pub cache_code : {H : Type 0} → Coded H → Coded (CacheState H)
cache_code {H} host =
    code_by (H × (ℕ × (SpaceState × (FinMap nat_cmp (List ℕ) × (FinMap nat_cmp (List ℕ) × List ℕ))))) (coded× host (coded× coded_ℕ (coded× space_code (coded× changes_code (coded× changes_code (coded_list coded_ℕ))))))
    (λ c. (c.host, (c.size, (c.space, (c.changes, (c.frozen_changes, c.kept))))))
    (λ t. record { host = t.0; size = t.1.0; space = t.1.1.0; changes = t.1.1.1.0; frozen_changes = t.1.1.1.1.0; kept = t.1.1.1.1.1 }) (λ _. refl)

-- ---- the blocks

-- where block b begins on the device, in bytes: the first area takes what lies before
abbrev pub block_place : ℕ → ℕ → ℕ
block_place size b = 0x3000 + b * size

-- the bytes of block b on a device
abbrev pub device_block : List ℕ → ℕ → ℕ → List ℕ
device_block device size b = slice_range device (block_place size b) (block_place size b + size)

-- the bytes of block b, where it is changed
abbrev pub change_of : {H : Type 0} → CacheState H → ℕ → Option (List ℕ)
change_of c b = option_or (get c.changes b) (get c.frozen_changes b)

-- the bytes of block b over such a device: the changed ones, else the device's where some tree holds it
abbrev pub bytes_over : {H : Type 0} → List ℕ → CacheState H → ℕ → List ℕ
bytes_over device c b = unwrap_or (change_of c b) (if is_held c.space b then device_block device c.size b else [])

-- what the cache means as blocks: of those that the working tree alone holds, the changed ones are ready
abbrev pub state_of : {H : Type 0} → (H → Outside) → CacheState H → BlockState
state_of outside c = record {
  holdings = record {
    size = c.size;
    count = limit_in c.space;
    held = is_held c.space;
    works = has c.space.working;
    private = is_private_in c.space;
    ready = contains_key c.changes;
    free = free_in c.space;
  };
  tells = (outside c.host).tells;
  bytes = bytes_over (bytes_of (outside c.host).history) c;
  history = (outside c.host).history;
}

-- what no call on blocks changes: where the user blocks begin, the blocks of the frozen and of the durable tree, the changed ones of the frozen tree with their bytes, what was outside, and how often the console failed
pub record CacheAside : Type 0 where
  pub first_user : ℕ
  pub frozen : Members
  pub durable : Members
  pub is_frozen : Bool
  pub frozen_changes : FinMap nat_cmp (List ℕ)
  pub attached : Option (List Attachment)
  pub con_faults : ℕ

-- what a cache has of these
abbrev pub aside_of : {H : Type 0} → (H → Outside) → CacheState H → CacheAside
aside_of outside c = record {
  first_user = c.space.first_user;
  frozen = c.space.frozen;
  durable = c.space.durable;
  is_frozen = c.space.is_frozen;
  frozen_changes = c.frozen_changes;
  attached = (outside c.host).attached;
  con_faults = (outside c.host).con_faults;
}

-- what stands beside its blocks: this, and how often its device failed
abbrev pub beside_of : {H : Type 0} → (H → Outside) → CacheState H → Beside CacheAside
beside_of outside c = record { aside = aside_of outside c; faults = (outside c.host).dev_faults }

-- a new cache has no changes, and keeps no block
abbrev pub new_cache : {H : Type 0} → H → ℕ → SpaceState → CacheState H
new_cache host size space = record {
  host = host;
  size = size;
  space = space;
  changes = empty;
  frozen_changes = empty;
  kept = [];
}

-- ---- kept blocks

-- block b is among the kept ones
abbrev pub is_kept : List ℕ → ℕ → Bool
is_kept [] b = false
is_kept (k ∷ kept) b = (b == k) || is_kept kept b

-- the kept blocks but for b
abbrev pub kept_but : List ℕ → ℕ → List ℕ
kept_but kept b = filter (λ k. not (k == b)) kept

-- the kept blocks once b was read: there is room for one
abbrev pub kept_with : List ℕ → ℕ → List ℕ
kept_with kept b = take 1 (b ∷ kept_but kept b)

-- ---- what calls leave

-- all but the device is as it was
abbrev pub with_host : {H : Type 0} → CacheState H → H → CacheState H
with_host c host = record c { host = host }

-- the working tree took block b, whose bytes are 0
abbrev pub with_taken : {H : Type 0} → CacheState H → ℕ → CacheState H
with_taken c b = record c { space = space.with_taken c.space b; changes = insert c.changes b (replicate c.size 0); kept = kept_but c.kept b }

-- the working tree gave block b up
abbrev pub with_released : {H : Type 0} → CacheState H → ℕ → CacheState H
with_released c b = record c { space = space.without c.space b; changes = remove c.changes b }

-- block b, which the working tree alone holds, got these bytes
abbrev pub edited_in : {H : Type 0} → CacheState H → ℕ → List ℕ → CacheState H
edited_in c b bytes = record c { changes = insert c.changes b (refit (unwrap_or (get c.changes b) []) bytes) }

-- changed block b of the frozen tree stands on this device, and is changed no more
abbrev pub with_written : {H : Type 0} → CacheState H → H → ℕ → CacheState H
with_written c host b = record c { host = host; frozen_changes = remove c.frozen_changes b }

-- the working tree is frozen as it is, with its changes
abbrev pub with_frozen : {H : Type 0} → CacheState H → CacheState H
with_frozen c = record c { space = space.with_frozen c.space; changes = empty; frozen_changes = c.changes }

-- the frozen tree is the durable one from now on
abbrev pub with_thawed : {H : Type 0} → CacheState H → CacheState H
with_thawed c = record c { space = space.with_thawed c.space }
