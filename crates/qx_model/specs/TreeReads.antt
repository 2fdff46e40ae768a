-- Where an act reads the tree. It calls the device for that and for the steps of snapshots, and wants memory for that and for their begins.
use Rattle.std.specs.Prelude.{ℕ, Bool, true, false, not, ◌&&◌, ◌||◌, List, Option, is_none, Result, is_ok, ◌==◌}
use Rattle.qx_model.specs.declared.operation.Op.{Op}
use Rattle.qx_model.specs.declared.operation.Op.TheVariants as op
use Rattle.qx_model.specs.declared.refusal.Refusal.{Refusal}
use Rattle.qx_model.specs.declared.turn.Act.{Act}
use Rattle.qx_model.specs.declared.turn.Act.TheVariants as act
use Rattle.qx_model.specs.declared.turn.VolEvent.{VolEvent}
use Rattle.qx_model.specs.Outcomes.{◌>>=◌, ◌>>◌}
use Rattle.qx_model.specs.Requests.{changes}
use Rattle.qx_model.specs.Paths.{named, parsed, start_of_walk}
use Rattle.qx_model.specs.Machine.{Machine, directory_of}
use Rattle.qx_model.specs.Decisions.{is_serial_end}
use Rattle.qx_model.specs.Plans.{lacks_session}

-- ---- paths by themselves

-- where the walk of a path begins, or the refusal that the path gets before anything is read
abbrev pub walk_start : Option ℕ → List ℕ → Result ℕ Refusal
walk_start base path = do
  p ← parsed path
  start_of_walk p base

-- the same of a path that ends in a name: its last name is looked at first
abbrev pub name_start : Option ℕ → List ℕ → Result ℕ Refusal
name_start base path = do
  p ← parsed path
  n ← named p
  start_of_walk n.parents base

-- the same of two paths, whose last names are both looked at before the first is walked
abbrev pub names_start : Option ℕ → List ℕ → List ℕ → Result ℕ Refusal
names_start base from to = do
  p ← parsed from
  q ← parsed to
  old ← named p
  _ ← named q
  start_of_walk old.parents base

-- where the first walk of an operation begins, or the refusal that it gets before anything is read
abbrev pub operation_start : Option ℕ → Op → Result ℕ Refusal
operation_start base (op.List path) = walk_start base path
operation_start base (op.Stat path) = walk_start base path
operation_start base (op.Read path at count) = walk_start base path
operation_start base (op.Create path) = name_start base path
operation_start base (op.Mkdir path) = name_start base path
operation_start base (op.Write path at bytes) = walk_start base path
operation_start base (op.Fill path at count byte) = walk_start base path
operation_start base (op.Truncate path size) = walk_start base path
operation_start base (op.Remove path) = name_start base path
operation_start base (op.RemoveDir path) = name_start base path
operation_start base (op.Rename from to) = names_start base from to
operation_start base (op.Link old new) = walk_start base old
operation_start base (op.Symlink target new) = parsed target >> name_start base new
operation_start base (op.ReadLink path) = walk_start base path
operation_start base (op.Chmod path mode) = walk_start base path
operation_start base (op.Chown path uid gid) = walk_start base path
operation_start base (op.Utime path atime mtime) = walk_start base path

-- ---- reads

-- a path of session k is walked
abbrev pub path_reads : Machine → ℕ → List ℕ → Bool
path_reads s k path = is_ok (walk_start (directory_of s k) path)

-- an operation of session k is decided by the tree of this machine: neither the mount nor the serial nor a path refuses it before
abbrev pub operation_reads : Machine → ℕ → Op → Bool
operation_reads s k o = not (changes o && (s.volume.is_read_only || is_serial_end s)) && is_ok (operation_start (directory_of s k) o)

-- an act that came to this machine by so many moves left no snapshot halfway: it made no move, or the snapshot that it moved last is done
abbrev pub is_between : ℕ → Machine → Bool
is_between moves s = (moves == 0) || is_none s.frozen

-- an act of session k that came to this machine by so many moves reads the tree there: an operation at each of its decisions, and where it ends; Cd and Fsync first of all
abbrev pub reads_after : ℕ → Machine → ℕ → Act → Bool
reads_after moves s k (act.Op o) = is_between moves s && operation_reads s k o
reads_after moves s k (act.Cd path) = (moves == 0) && path_reads s k path
reads_after moves s k (act.Fsync path) = (moves == 0) && path_reads s k path
reads_after moves s k act.Df = false
reads_after moves s k act.Hold = false
reads_after moves s k act.Unhold = false
reads_after moves s k act.Sync = false
reads_after moves s k act.Tick = false
reads_after moves s k act.End = false

-- an event's act reads the tree after so many of its moves
abbrev pub reads_tree : ℕ → Machine → VolEvent → Bool
reads_tree moves s e = not (lacks_session e) && reads_after moves s e.session e.act

-- ---- calls

-- an act of session k reads the tree or may move a snapshot, unless the mount or its paths refuse it
abbrev pub act_calls : Machine → ℕ → Act → Bool
act_calls s k (act.Op o) = not (changes o && s.volume.is_read_only) && is_ok (operation_start (directory_of s k) o)
act_calls s k (act.Cd path) = path_reads s k path
act_calls s k (act.Fsync path) = path_reads s k path
act_calls s k act.Df = false
act_calls s k act.Hold = false
act_calls s k act.Unhold = false
act_calls s k act.Tick = false
act_calls s k act.Sync = true
act_calls s k act.End = true

-- an event's act may call the device, or want memory
abbrev pub calls_outside : Machine → VolEvent → Bool
calls_outside s e = not (lacks_session e) && act_calls s e.session e.act
