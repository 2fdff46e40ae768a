-- What one call on a cache does.
use Rattle.std.specs.Prelude.{◌≡◌, ℕ, ◌+◌, ◌≤◌, ◌<◌, Bool, true, false, List, ◌⊎◌, length, IsTrue, is_some, Option, Some, None, Result, if◌then◌else◌}
use Rattle.std.specs.Option.{option_map}
use Rattle.std.specs.FinMap.{get}
use Rattle.qx_outside.specs.Outside.{Outside}
use Rattle.qx_outside.specs.Causes.{HasCause, StaysWhereTold}
use Rattle.qx_outside.specs.Trail.{wrote, bytes_of}
use Rattle.qx_outside.specs.Calls.{Did, FailsToWrite, Idles}
use Rattle.qx_patch.specs.PatchState.{IsLeast}
use Rattle.qx_alloc.specs.SpaceState.{limit_in}
use Rattle.qx_blockset.specs.Members.{has, Has}
use Rattle.qx_cache.specs.Coherence.{IsCoherent}
use Rattle.qx_cache.specs.CacheState.{CacheState, block_place, bytes_over, change_of, is_kept, kept_with, state_of, with_host, with_written}

-- the range lies outside the user blocks
abbrev pub IsOutsideUsers : {H : Type 0} → CacheState H → ℕ → ℕ → Type 0
IsOutsideUsers c at n = (at + n ≤ block_place c.size c.space.first_user) ⊎ (block_place c.size (limit_in c.space) ≤ at)

-- the cache once block b was read: a changed block is there, any other is kept then
abbrev pub after_read : {H : Type 0} → CacheState H → H → ℕ → CacheState H
after_read c host b = record c { host = host; kept = if is_some (change_of c b) then c.kept else kept_with c.kept b }

-- how many device reads were Ok once block b was read: one more, unless it is changed or kept
abbrev pub reads_after : {H : Type 0} → CacheState H → ℕ → Option ℕ → Option ℕ
reads_after c b reads = if is_some (change_of c b) then reads else if is_kept c.kept b then reads else option_map (λ n. n + 1) reads

-- block b was read, well or not: only the device and what is kept may differ, and the device was asked for no more than a read
pub record Reads {H : Type 0} (outside : H → Outside) (old : CacheState H) (b : ℕ) (good : Bool) (new : CacheState H) : Type 0 where
  pub ok : IsTrue good → new ≡ after_read old new.host b
  pub err : good ≡ false → new ≡ with_host old new.host
  pub reads : IsTrue good → (outside new.host).dev_reads ≡ reads_after old b (outside old.host).dev_reads
  pub reads_err : good ≡ false → (outside new.host).dev_reads ≡ (outside old.host).dev_reads
  pub extent_same : StaysWhereTold (outside old.host).extent (outside new.host).extent
  pub idles : Idles (outside old.host) (outside new.host)

-- the block that is written next: the least changed one of the frozen tree, which the working tree doesn't change and the durable tree never holds
pub record IsNext {H : Type 0} (c : CacheState H) (block : ℕ) (bytes : List ℕ) : Type 0 where
  pub least : IsLeast c.frozen_changes block
  pub has_bytes : get c.frozen_changes block ≡ Some bytes
  pub alone : get c.changes block ≡ None
  pub long : length bytes ≡ c.size
  pub user : c.space.first_user ≤ block
  pub below : block < limit_in c.space
  pub frozen : Has c.space.frozen block
  pub undurable : has c.space.durable block ≡ false

module _ {H : Type 0} (outside : H → Outside) where
  -- the next block's bytes were put at its place, and it is changed no more
  pub record WritesNext (old new : CacheState H) : Type 0 where
    pub block : ℕ
    pub bytes : List ℕ
    pub next : IsNext old block bytes
    pub did : Did (wrote (block_place old.size block) bytes bytes true) (outside old.host) (outside new.host)
    pub rest : new ≡ with_written old new.host block

  -- that failed: anything may stand at its place, and it is changed as before
  pub record FailsToWriteNext (old new : CacheState H) : Type 0 where
    pub block : ℕ
    pub bytes : List ℕ
    pub next : IsNext old block bytes
    pub failed : FailsToWrite (block_place old.size block) bytes (outside old.host) (outside new.host)
    pub rest : new ≡ with_host old new.host

  -- each block is held as before, and has the bytes that it had, where they are told
  pub record HasSameBlocks (old new : CacheState H) : Type 0 where
    pub holdings : (state_of outside new).holdings ≡ (state_of outside old).holdings
    pub bytes : IsTrue (outside new.host).tells → (b : ℕ) → bytes_over (bytes_of (outside new.host).history) new b ≡ bytes_over (bytes_of (outside old.host).history) old b

  -- something was asked of the host that left the blocks alone, and of the cache nothing else changed
  pub record OnlyAsks (old new : CacheState H) : Type 0 where
    pub rest : new ≡ with_host old new.host
    pub blocks : HasSameBlocks old new
    pub coherent : IsCoherent outside new

  -- a failure of the device has its cause in the count of its faults
  abbrev pub HasDeviceCause : {T E : Type 0} → CacheState H → CacheState H → Result T E → Type 0
  HasDeviceCause old new = HasCause (outside old.host).dev_faults (outside new.host).dev_faults

  -- so has one of the console or the clock
  abbrev pub HasConsoleCause : {T E : Type 0} → CacheState H → CacheState H → Result T E → Type 0
  HasConsoleCause old new = HasCause (outside old.host).con_faults (outside new.host).con_faults
