-- The state of the machine that a volume is: three copies of the tree, the clock of snapshots, and the sessions.
use Rattle.std.specs.Prelude.{ℕ, zero, suc, Bool, false, List, [], ◌∷◌, map, replicate, count_by, length, Option, Some, None, unwrap_or, option_and_then, slice_get, if◌then◌else◌}
use Rattle.qx_model.specs.Tree.{Tree}
use Rattle.qx_model.specs.Directories.{is_live}
use Rattle.qx_model.specs.Edits.{Setting}
use Rattle.qx_model.specs.TreePositions.{Position, positions_of}
use Rattle.qx_model.specs.TreeTouch.{rank_in}

-- ---- copies

-- a tree, and the id of the block at each of its positions; an id stands for one block, and is never used again
pub record Copy : Type 0 where
  pub tree : Tree
  pub ids : Position → ℕ

-- the copy of a snapshot, and its serial
pub record Snapshot : Type 0 where
  pub copy : Copy
  pub serial : ℕ

-- the snapshot that is in progress, and how many good steps are left
pub record Frozen : Type 0 where
  pub snapshot : Snapshot
  pub due : ℕ

-- ---- sessions

-- a session's current directory, where it has one, and whether it holds
pub record Session : Type 0 where
  pub directory : Option ℕ
  pub holds : Bool

-- how many sessions there are; they are numbered from 0
abbrev pub session_count : ℕ
session_count = 16

-- ---- the state

-- what stays while a volume is mounted
pub record Volume : Type 0 where
  -- the bytes of a block
  pub blocksize : ℕ
  -- all blocks, and those of them that are for users
  pub blocks : ℕ
  pub user : ℕ
  -- how many leaves the bitmap and the inodes of one half have
  pub system_leaves : ℕ
  -- how many inodes there are, live or not
  pub inodes : ℕ
  -- it is mounted for reading
  pub is_read_only : Bool
  -- how many blocks are free, where blocks have no ids, as in a foreign image
  pub free_without_ids : Option ℕ

-- the machine that a mounted volume is
pub record Machine : Type 0 where
  pub volume : Volume
  -- the copy that operations edit
  pub working : Copy
  -- the copy of the last snapshot done
  pub durable : Snapshot
  -- that of a snapshot in progress
  pub frozen : Option Frozen
  -- an id above all of theirs
  pub next_id : ℕ
  -- the moment of the last begin, and whether anything changed since
  pub last_begin : ℕ
  pub changed : Bool
  pub sessions : List Session

-- ---- the start

-- ids by the order of the positions
abbrev pub first_ids : ℕ → Tree → Position → ℕ
first_ids blocksize t p = unwrap_or (rank_in (positions_of blocksize t) p) 0

-- the copy of a tree that is found on a disk, each of whose blocks gets an id of its own
abbrev pub first_copy : ℕ → Tree → Copy
first_copy blocksize t = record { tree = t; ids = first_ids blocksize t }

-- a mount of this tree with this serial at a moment, which counts as the last begin: it is the working and the durable tree, nothing changed since, and all sessions stand at the root without a hold
abbrev pub start_of : Volume → Tree → ℕ → ℕ → Machine
start_of v t serial moment = record {
  volume = v;
  working = first_copy v.blocksize t;
  durable = record { copy = first_copy v.blocksize t; serial = serial };
  frozen = None;
  next_id = length (positions_of v.blocksize t);
  last_begin = moment;
  changed = false;
  sessions = replicate session_count (record { directory = Some 1; holds = false });
}

-- ---- readers and changes of sessions

-- the current directory of session k, where it has one
abbrev pub directory_of : Machine → ℕ → Option ℕ
directory_of s k = option_and_then (λ (x : Session). x.directory) (slice_get s.sessions k)

-- what an operation of session k is done under
abbrev pub setting_of : Machine → ℕ → ℕ → Setting
setting_of s k moment = record { blocksize = s.volume.blocksize; base = directory_of s k; moment = moment }

-- how many sessions hold
abbrev pub hold_count : Machine → ℕ
hold_count s = count_by (λ (x : Session). x.holds) s.sessions

-- a list with its element k changed, if it has one
abbrev pub changed_at : {A : Type 0} → ℕ → (A → A) → List A → List A
changed_at k change [] = []
changed_at zero change (x ∷ xs) = change x ∷ xs
changed_at (suc k) change (x ∷ xs) = x ∷ changed_at k change xs

-- with session k changed
abbrev pub with_session : ℕ → (Session → Session) → Machine → Machine
with_session k change s = record s { sessions = changed_at k change s.sessions }

-- a session that goes to a directory
abbrev pub gone_to : ℕ → Session → Session
gone_to d x = record x { directory = Some d }

-- a session that holds, or holds no more
abbrev pub holding : Bool → Session → Session
holding b x = record x { holds = b }

-- no session holds
abbrev pub without_holds : Machine → Machine
without_holds s = record s { sessions = map (holding false) s.sessions }

-- a session's directory, where it is still live
abbrev pub still_live : Tree → Option ℕ → Option ℕ
still_live t None = None
still_live t (Some d) = if is_live t d then Some d else None

-- a session whose directory was removed has none
abbrev pub left_in : Tree → Session → Session
left_in t x = record x { directory = still_live t x.directory }
