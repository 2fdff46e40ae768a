-- What an act comes to where nothing outside fails: the moves of snapshots that it makes, its reply, and a last change.
use Rattle.std.specs.Prelude.{ℕ, Bool, true, false, not, ◌&&◌, List, [], ◌++◌, map, Result, Ok, Err, nat_le, ◌==◌, if◌then◌else◌}
use Rattle.qx_model.specs.declared.operation.Op.{Op}
use Rattle.qx_model.specs.declared.reply.Reply.{Reply}
use Rattle.qx_model.specs.declared.reply.Reply.TheVariants as reply
use Rattle.qx_model.specs.declared.refusal.Refusal.{Refusal}
use Rattle.qx_model.specs.declared.refusal.Refusal.TheVariants as refusal
use Rattle.qx_model.specs.declared.turn.Act.{Act}
use Rattle.qx_model.specs.declared.turn.Act.TheVariants as act
use Rattle.qx_model.specs.declared.turn.VolEvent.{VolEvent}
use Rattle.qx_model.specs.Outcomes.{◌>>=◌, ◌>>◌, refuse_if}
use Rattle.qx_model.specs.Requests.{changes}
use Rattle.qx_model.specs.Directories.{is_directory}
use Rattle.qx_model.specs.Paths.{Followed, Itself, inode_at}
use Rattle.qx_model.specs.Edits.{Edit}
use Rattle.qx_model.specs.Effects.{Answers, Edits, Effect, effect_reply}
use Rattle.qx_model.specs.Machine.{Machine, directory_of, gone_to, hold_count, holding, left_in, session_count, with_session, without_holds}
use Rattle.qx_model.specs.Space.{space_of, with_edit}
use Rattle.qx_model.specs.Snapshots.{Move, finishing, after_moves, whole_snapshot}
use Rattle.qx_model.specs.Decisions.{Attempt, Decision, Fits, Lacks, Refuses, attempt}

-- ---- plans

-- how the machine changes at the end of an act
pub data Ending : Type 0 where
  Stays : Ending
  Becomes : Edit → Ending
  -- session k stands in a directory, or holds or doesn't
  GoesTo : (k directory : ℕ) → Ending
  Holds : (k : ℕ) → Bool → Ending

-- from a machine: moves, then a reply and an ending
pub record Plan : Type 0 where
  pub from : Machine
  pub moves : List Move
  pub reply : Reply
  pub ending : Ending

-- the machine after an operation's edit: there is something to keep, and sessions in a removed directory have none
abbrev pub after_edit : Edit → Machine → Machine
after_edit e s = record (with_edit e s) { changed = true; sessions = map (left_in e.tree) s.sessions }

-- the machine after an ending
abbrev pub after_ending : Ending → Machine → Machine
after_ending Stays s = s
after_ending (Becomes e) s = after_edit e s
after_ending (GoesTo k d) s = with_session k (gone_to d) s
after_ending (Holds k b) s = with_session k (holding b) s

-- a reply alone
abbrev pub reply_only : Machine → Reply → Plan
reply_only s r = record { from = s; moves = []; reply = r; ending = Stays }

-- a refusal alone
abbrev pub refused : Machine → Refusal → Plan
refused s r = reply_only s (reply.Refused r)

-- done, with an ending
abbrev pub done_with : Machine → Ending → Plan
done_with s e = record { from = s; moves = []; reply = reply.Done; ending = e }

-- ---- operations

-- how an operation ends
abbrev pub effect_ending : Effect → Ending
effect_ending (Answers r) = Stays
effect_ending (Edits is_removing e) = Becomes e

-- what a decision is answered by
abbrev pub decision_reply : Decision → Reply
decision_reply (Refuses r) = reply.Refused r
decision_reply (Fits e) = effect_reply e
decision_reply (Lacks need free) = reply.Refused (refusal.NoSpace need free)

-- how a decision ends
abbrev pub decision_ending : Decision → Ending
decision_ending (Refuses r) = Stays
decision_ending (Fits e) = effect_ending e
decision_ending (Lacks need free) = Stays

-- the moves of an attempt, and what is decided after them
abbrev pub plan_of : Machine → Attempt → Plan
plan_of s a = record { from = s; moves = a.moves; reply = decision_reply a.decision; ending = decision_ending a.decision }

-- an operation; nothing changes on a mount for reading
abbrev pub operating : Machine → ℕ → ℕ → Op → Plan
operating s k moment o = if changes o && s.volume.is_read_only then refused s refusal.ReadOnly else plan_of s (attempt s k moment o)

-- ---- syncs

-- a whole snapshot, where there is something to keep
abbrev pub snapshot_if_changed : Machine → List Move
snapshot_if_changed s = if s.changed then whole_snapshot s else []

-- a snapshot in progress is finished, then one more is made where there is still something to keep
abbrev pub sync_moves : ℕ → Machine → List Move
sync_moves moment s = finishing s ++ snapshot_if_changed (after_moves moment s (finishing s))

-- refused while sessions hold
abbrev pub syncing : ℕ → Machine → Plan
syncing moment s =
    if hold_count s == 0 then record { from = s; moves = sync_moves moment s; reply = reply.Done; ending = Stays }
    else refused s (refusal.Held (hold_count s))

-- a sync where a path leads somewhere
abbrev pub syncing_path : ℕ → Machine → Result ℕ Refusal → Plan
syncing_path moment s (Err r) = refused s r
syncing_path moment s (Ok n) = syncing moment s

-- ---- current directories

-- the directory to which a path of session k leads
abbrev pub directory_at : Machine → ℕ → List ℕ → Result ℕ Refusal
directory_at s k path = do
  n ← inode_at s.working.tree (directory_of s k) Followed path
  refuse_if (not (is_directory s.working.tree n)) refusal.NotDir
  Ok n

-- session k goes there, unless it is refused
abbrev pub changing_directory : Machine → ℕ → Result ℕ Refusal → Plan
changing_directory s k (Err r) = refused s r
changing_directory s k (Ok d) = done_with s (GoesTo k d)

-- ---- all acts

-- an act of a session that there is
abbrev pub planned : Machine → ℕ → ℕ → Act → Plan
planned s k moment (act.Op o) = operating s k moment o
planned s k moment (act.Cd path) = changing_directory s k (directory_at s k path)
planned s k moment act.Df = reply_only s (reply.Space (space_of s))
planned s k moment act.Hold = done_with s (Holds k true)
planned s k moment act.Unhold = done_with s (Holds k false)
planned s k moment act.Sync = syncing moment s
planned s k moment (act.Fsync path) = syncing_path moment s (inode_at s.working.tree (directory_of s k) Itself path)
planned s k moment act.Tick = reply_only s reply.Done
planned s k moment act.End = syncing moment (without_holds s)

-- the act is the end, which asks for no session
abbrev pub is_end : Act → Bool
is_end act.End = true
is_end _ = false

-- an event names no session that there is
abbrev pub lacks_session : VolEvent → Bool
lacks_session e = nat_le session_count e.session && not (is_end e.act)

-- what an event comes to
unfoldable pub plan : Machine → VolEvent → Plan
plan s e = if lacks_session e then refused s refusal.NoSession else planned s e.session e.moment e.act
