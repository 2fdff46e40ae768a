-- A plan begins at the machine that there is; the end drops the holds first.
use Rattle.std.proofs.Common.{◌≡◌, ℕ}
use Rattle.std.specs.Prelude.{Bool, true, false, not, ◌&&◌, Result, Ok, Err, nat_le, ◌==◌, if◌then◌else◌}
use Rattle.qx_model.specs.declared.operation.Op.{Op}
use Rattle.qx_model.specs.declared.reply.Reply.TheVariants as reply
use Rattle.qx_model.specs.declared.refusal.Refusal.{Refusal}
use Rattle.qx_model.specs.declared.refusal.Refusal.TheVariants as refusal
use Rattle.qx_model.specs.declared.turn.Act.{Act}
use Rattle.qx_model.specs.declared.turn.Act.TheVariants as act
use Rattle.qx_model.specs.declared.turn.VolEvent.{VolEvent}
use Rattle.qx_model.specs.Requests.{changes}
use Rattle.qx_model.specs.Paths.{Itself, inode_at}
use Rattle.qx_model.specs.Machine.{Machine, directory_of, hold_count, session_count, without_holds}
use Rattle.qx_model.specs.Decisions.{attempt}
use Rattle.qx_model.specs.Plans.{Plan, Stays, changing_directory, directory_at, is_end, lacks_session, operating, plan, plan_of, planned, refused, sync_moves, syncing, syncing_path}

-- a fact that holds of the machine, and without the holds, holds where the plan begins
module _ (P : Machine → Type 0) where
  from_operating : (s : Machine) (k moment : ℕ) (o : Op) → P s → P (operating s k moment o).from
  from_operating s k moment o h = go (changes o && s.volume.is_read_only)
    where
      go : (b : Bool) → P (let p : Plan = if b then refused s refusal.ReadOnly else plan_of s (attempt s k moment o) in p.from)
      go true = h
      go false = h

  from_syncing : (moment : ℕ) (s : Machine) → P s → P (syncing moment s).from
  from_syncing moment s h = go (hold_count s == 0)
    where
      go : (b : Bool) → P (let p : Plan = if b then record { from = s; moves = sync_moves moment s; reply = reply.Done; ending = Stays } else refused s (refusal.Held (hold_count s)) in p.from)
      go true = h
      go false = h

  from_directory : (s : Machine) (k : ℕ) (r : Result ℕ Refusal) → P s → P (changing_directory s k r).from
  from_directory s k (Err r) h = h
  from_directory s k (Ok d) h = h

  from_path : (moment : ℕ) (s : Machine) (r : Result ℕ Refusal) → P s → P (syncing_path moment s r).from
  from_path moment s (Err r) h = h
  from_path moment s (Ok n) h = from_syncing moment s h

  from_planned : (s : Machine) (k moment : ℕ) (a : Act) → P (without_holds s) → P s → P (planned s k moment a).from
  from_planned s k moment (act.Op o) d h = from_operating s k moment o h
  from_planned s k moment (act.Cd path) d h = from_directory s k (directory_at s k path) h
  from_planned s k moment act.Df d h = h
  from_planned s k moment act.Hold d h = h
  from_planned s k moment act.Unhold d h = h
  from_planned s k moment act.Sync d h = from_syncing moment s h
  from_planned s k moment (act.Fsync path) d h = from_path moment s (inode_at s.working.tree (directory_of s k) Itself path) h
  from_planned s k moment act.Tick d h = h
  from_planned s k moment act.End d h = from_syncing moment (without_holds s) d

  -- what holds of a machine, with or without holds, holds where its plan begins
  pub plan_from : (s : Machine) (e : VolEvent) → (P s → P (without_holds s)) → P s → P (plan s e).from
  unfolding plan
  plan_from s e dropped h = go (nat_le session_count e.session && not (is_end e.act))
    where
      go : (b : Bool) → P (let p : Plan = if b then refused s refusal.NoSession else planned s e.session e.moment e.act in p.from)
      go true = h
      go false = from_planned s e.session e.moment e.act (dropped h) h

  from_other : (s : Machine) (k moment : ℕ) (a : Act) → is_end a ≡ false → P s → P (planned s k moment a).from
  from_other s k moment (act.Op o) other h = from_operating s k moment o h
  from_other s k moment (act.Cd path) other h = from_directory s k (directory_at s k path) h
  from_other s k moment act.Df other h = h
  from_other s k moment act.Hold other h = h
  from_other s k moment act.Unhold other h = h
  from_other s k moment act.Sync other h = from_syncing moment s h
  from_other s k moment (act.Fsync path) other h = from_path moment s (inode_at s.working.tree (directory_of s k) Itself path) h
  from_other s k moment act.Tick other h = h
  from_other s k moment act.End other h = absurd (cc)

  -- and one of the machine alone, unless it is the end
  pub plan_from_unless_end : (s : Machine) (e : VolEvent) → is_end e.act ≡ false → P s → P (plan s e).from
  unfolding plan
  plan_from_unless_end s e other h = go (lacks_session e)
    where
      go : (b : Bool) → P (let p : Plan = if b then refused s refusal.NoSession else planned s e.session e.moment e.act in p.from)
      go true = h
      go false = from_other s e.session e.moment e.act other h
