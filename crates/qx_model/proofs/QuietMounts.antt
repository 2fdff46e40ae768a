-- A turn of a mount for reading changes no tree.
use Rattle.std.proofs.Common.{◌≡◌, ℕ, zero, suc, List, [], ◌++◌, refl, sym, ap, ◌∙◌, subst}
use Rattle.std.specs.Prelude.{Bool, true, false, not, ◌&&◌, Option, Some, None, Result, Ok, Err, filter_map, is_none, is_some, nat_le, ok_or, replicate, slice_range, take, ◌+◌, ◌-◌, ◌==◌, if◌then◌else◌}
use Rattle.qx_model.specs.declared.operation.Op.{Op}
use Rattle.qx_model.specs.declared.operation.Op.TheVariants as op
use Rattle.qx_model.specs.declared.refusal.Refusal.{Refusal}
use Rattle.qx_model.specs.declared.refusal.Refusal.TheVariants as refusal
use Rattle.qx_model.specs.declared.reply.Reply.{Reply}
use Rattle.qx_model.specs.declared.reply.Reply.TheVariants as reply
use Rattle.qx_model.specs.declared.turn.Act.{Act}
use Rattle.qx_model.specs.declared.turn.Act.TheVariants as act
use Rattle.qx_model.specs.declared.turn.VolEvent.{VolEvent}
use Rattle.qx_model.specs.declared.turn.Turn.{Turn}
use Rattle.qx_model.specs.Requests.{changes}
use Rattle.qx_model.specs.Outcomes.{◌>>=◌, ◌>>◌, refuse_if}
use Rattle.qx_model.specs.Tree.{Tree, entry_of, slots_of}
use Rattle.qx_model.specs.Directories.{is_directory}
use Rattle.qx_model.specs.Paths.{Followed, Itself, inode_at}
use Rattle.qx_model.specs.Edits.{Setting}
use Rattle.qx_model.specs.Effects.{Answers, Edits, Effect}
use Rattle.qx_model.specs.Answering.{file_at, list, read, read_link, row_view, stat, stat_view, target_of_body}
use Rattle.qx_model.specs.Operate.{operate}
use Rattle.qx_model.specs.Machine.{Machine, Volume, directory_of, hold_count, session_count, setting_of, start_of, without_holds}
use Rattle.qx_model.specs.Snapshots.{Move, Step, after_moves, due_of, finishing, interval, is_time_to_begin, stepped, whole_snapshot}
use Rattle.qx_model.specs.Decisions.{Attempt, Decision, Fits, Lacks, Refuses, after_finish, after_more, after_snapshot, attempt, decided, decision, first_attempt, is_lacking, is_serial_end}
use Rattle.qx_model.specs.Plans.{Becomes, Ending, GoesTo, Holds, Plan, Stays, after_ending, changing_directory, decision_ending, directory_at, is_end, operating, plan, plan_of, planned, refused, snapshot_if_changed, sync_moves, syncing, syncing_path}
use Rattle.qx_model.specs.Next.{ActFault, Faults, Next, Transition, act_result, after_act, begun_if, next_under, steps_made, timed_begin}
use Rattle.qx_model.specs.ReadingMounts.{HasCopiesOf, IsMountedForReading}

-- ---- machines that differ in sessions alone

-- all but the sessions is as before
record StaysAs (s t : Machine) : Type 0 where
  volume : t.volume ≡ s.volume
  working : t.working ≡ s.working
  durable : t.durable ≡ s.durable
  frozen : t.frozen ≡ s.frozen
  changed : t.changed ≡ s.changed

as_it_is : (s : Machine) → StaysAs s s
as_it_is s = record { volume = refl; working = refl; durable = refl; frozen = refl; changed = refl }

stays_on : (s t u : Machine) → StaysAs s t → StaysAs t u → StaysAs s u
stays_on s t u a b = record { volume = b.volume ∙ a.volume; working = b.working ∙ a.working; durable = b.durable ∙ a.durable; frozen = b.frozen ∙ a.frozen; changed = b.changed ∙ a.changed }

-- ---- operations that only read

-- what isn't an edit
pub data IsNoEdit : Result Effect Refusal → Type 0 where
  refuses : (r : Refusal) → IsNoEdit (Err r)
  answers : (r : Reply) → IsNoEdit (Ok (Answers r))

rest_reads : {A : Type 0} (x : Result A Refusal) (rest : A → Result Effect Refusal) → ((a : A) → IsNoEdit (rest a)) → IsNoEdit (x >>= rest)
rest_reads (Ok a) rest h = h a
rest_reads (Err r) rest h = refuses r

test_reads : (b : Bool) (r : Refusal) (rest : Result Effect Refusal) → IsNoEdit rest → IsNoEdit (refuse_if b r >> rest)
test_reads true r rest h = refuses r
test_reads false r rest h = h

list_reads : (s : Setting) (t : Tree) (path : List ℕ) → IsNoEdit (list s t path)
list_reads s t path =
    rest_reads (inode_at t s.base Followed path) (λ n. refuse_if (not (is_directory t n)) refusal.NotDir >> Ok (Answers (reply.Rows (filter_map row_view (slots_of t n)))))
    (λ n. test_reads (not (is_directory t n)) refusal.NotDir (Ok (Answers (reply.Rows (filter_map row_view (slots_of t n))))) (answers (reply.Rows (filter_map row_view (slots_of t n)))))

stat_reads : (s : Setting) (t : Tree) (path : List ℕ) → IsNoEdit (stat s t path)
stat_reads s t path =
    rest_reads (inode_at t s.base Itself path) (λ n. ok_or (entry_of t n) refusal.NoEntry >>= λ e. Ok (Answers (reply.Stat (stat_view t n e))))
    (λ n. rest_reads (ok_or (entry_of t n) refusal.NoEntry) (λ e. Ok (Answers (reply.Stat (stat_view t n e)))) (λ e. answers (reply.Stat (stat_view t n e))))

read_reads : (s : Setting) (t : Tree) (path : List ℕ) (at count : ℕ) → IsNoEdit (read s t path at count)
read_reads s t path at count =
    rest_reads (file_at s t path) (λ f. Ok (Answers (reply.Bytes (slice_range f.content at (at + count))))) (λ f. answers (reply.Bytes (slice_range f.content at (at + count))))

read_link_reads : (s : Setting) (t : Tree) (path : List ℕ) → IsNoEdit (read_link s t path)
read_link_reads s t path =
    rest_reads (inode_at t s.base Itself path) (λ n. ok_or (entry_of t n) refusal.NoEntry >>= λ e. (target_of_body e.body >>= λ target. Ok (Answers (reply.Target target))))
    (λ n. rest_reads (ok_or (entry_of t n) refusal.NoEntry) (λ e. target_of_body e.body >>= λ target. Ok (Answers (reply.Target target)))
    (λ e. rest_reads (target_of_body e.body) (λ target. Ok (Answers (reply.Target target))) (λ target. answers (reply.Target target))))

-- an operation that doesn't change makes no edit
pub reading_reads : (s : Setting) (t : Tree) (o : Op) → changes o ≡ false → IsNoEdit (operate s t o)
reading_reads s t (op.List path) h = list_reads s t path
reading_reads s t (op.Stat path) h = stat_reads s t path
reading_reads s t (op.Read path at count) h = read_reads s t path at count
reading_reads s t (op.ReadLink path) h = read_link_reads s t path
reading_reads s t (op.Create path) h = absurd (cc)
reading_reads s t (op.Mkdir path) h = absurd (cc)
reading_reads s t (op.Write path at bytes) h = absurd (cc)
reading_reads s t (op.Fill path at count byte) h = absurd (cc)
reading_reads s t (op.Truncate path size) h = absurd (cc)
reading_reads s t (op.Remove path) h = absurd (cc)
reading_reads s t (op.RemoveDir path) h = absurd (cc)
reading_reads s t (op.Rename from to) h = absurd (cc)
reading_reads s t (op.Link old new) h = absurd (cc)
reading_reads s t (op.Symlink target new) h = absurd (cc)
reading_reads s t (op.Chmod path mode) h = absurd (cc)
reading_reads s t (op.Chown path uid gid) h = absurd (cc)
reading_reads s t (op.Utime path atime mtime) h = absurd (cc)

-- ---- decisions

-- neither an edit nor want of room
IsCalm : Decision → Type 0
IsCalm (Refuses r) = Unit {0}
IsCalm (Fits (Answers r)) = Unit {0}
IsCalm (Fits (Edits is_removing e)) = ⊥
IsCalm (Lacks need free) = ⊥

decided_calm : (s : Machine) (r : Result Effect Refusal) → IsNoEdit r → IsCalm (decided s r)
unfolding IsCalm
decided_calm s r (refuses x) = tt
decided_calm s r (answers x) = tt

decision_calm : (s : Machine) (k moment : ℕ) (o : Op) → changes o ≡ false → IsCalm (decision s k moment o)
unfolding decision IsCalm
decision_calm s k moment o h = go (changes o && is_serial_end s)
  where
    go : (b : Bool) → IsCalm (if b then Refuses refusal.SerialEnd else decided s (operate (setting_of s k moment) s.working.tree o))
    go true = tt
    go false = decided_calm s (operate (setting_of s k moment) s.working.tree o) (reading_reads (setting_of s k moment) s.working.tree o h)

calm_fits : (d : Decision) → IsCalm d → is_lacking d ≡ false
unfolding IsCalm
calm_fits (Refuses r) h = refl
calm_fits (Fits e) h = refl
calm_fits (Lacks need free) h = absurd h

-- what doesn't lack room is decided once
pub decided_once : (s : Machine) (k moment : ℕ) (o : Op) → is_lacking (decision s k moment o) ≡ false → attempt s k moment o ≡ first_attempt s k moment o
decided_once s k moment o h = ap (after_snapshot k moment o) finished ∙ whole
  where
    a : Attempt
    a = first_attempt s k moment o

    finished : after_finish k moment o a ≡ a
    finished = ap (λ b. if b && is_some s.frozen then after_more k moment o a (finishing s) else a) h

    whole : after_snapshot k moment o a ≡ a
    whole = ap (λ b. if b && ((hold_count s == 0) && s.changed) then after_more k moment o a (whole_snapshot s) else a) h

-- ---- plans

-- an ending that edits nothing
IsCalmEnding : Ending → Type 0
IsCalmEnding Stays = Unit {0}
IsCalmEnding (Becomes e) = ⊥
IsCalmEnding (GoesTo k d) = Unit {0}
IsCalmEnding (Holds k b) = Unit {0}

-- a plan that moves no snapshot and edits nothing
record IsCalmPlan (s : Machine) (p : Plan) : Type 0 where
  from : StaysAs s p.from
  moves : p.moves ≡ []
  ending : IsCalmEnding p.ending

calm_ending : (d : Decision) → IsCalm d → IsCalmEnding (decision_ending d)
unfolding IsCalm IsCalmEnding
calm_ending (Refuses r) h = tt
calm_ending (Fits (Answers r)) h = tt
calm_ending (Fits (Edits is_removing e)) h = absurd h
calm_ending (Lacks need free) h = absurd h

still : (s : Machine) (p : Plan) → StaysAs s p.from → p.moves ≡ [] → p.ending ≡ Stays → IsCalmPlan s p
unfolding IsCalmEnding
still s p from moves is = record { from = from; moves = moves; ending = subst IsCalmEnding (sym is) tt }

attempt_calm : (s : Machine) (k moment : ℕ) (o : Op) → changes o ≡ false → IsCalmPlan s (plan_of s (attempt s k moment o))
attempt_calm s k moment o h =
    let d = decision_calm s k moment o h in
    subst (λ a. IsCalmPlan s (plan_of s a)) (sym (decided_once s k moment o (calm_fits (decision s k moment o) d))) (record { from = as_it_is s; moves = refl; ending = calm_ending (decision s k moment o) d })

operating_calm : (s : Machine) (k moment : ℕ) (o : Op) → s.volume.is_read_only ≡ true → IsCalmPlan s (operating s k moment o)
operating_calm s k moment o ro = go (changes o) refl
  where
    go : (b : Bool) → changes o ≡ b → IsCalmPlan s (operating s k moment o)
    go true is =
        subst (λ c. IsCalmPlan s (if c then refused s refusal.ReadOnly else plan_of s (attempt s k moment o))) (sym (ap (λ c. c && s.volume.is_read_only) is ∙ ro)) (still s (refused s refusal.ReadOnly) (as_it_is s) refl refl)
    go false is =
        subst (λ c. IsCalmPlan s (if c && s.volume.is_read_only then refused s refusal.ReadOnly else plan_of s (attempt s k moment o))) (sym is) (attempt_calm s k moment o is)

-- nothing is in progress and nothing to keep, so a sync makes no move
no_moves : (moment : ℕ) (s : Machine) → s.frozen ≡ None → s.changed ≡ false → sync_moves moment s ≡ []
no_moves moment s none same =
    let finished : finishing s ≡ [] = ap (λ o. replicate (due_of o) Step) none in
    ap (λ ms. ms ++ snapshot_if_changed (after_moves moment s ms)) finished ∙ ap (λ b. if b then whole_snapshot s else []) same

syncing_calm : (moment : ℕ) (s t : Machine) → StaysAs s t → s.frozen ≡ None → s.changed ≡ false → IsCalmPlan s (syncing moment t)
syncing_calm moment s t from none same = go (hold_count t == 0)
  where
    go : (b : Bool) → IsCalmPlan s (if b then record { from = t; moves = sync_moves moment t; reply = reply.Done; ending = Stays } else refused t (refusal.Held (hold_count t)))
    go true = still s (record { from = t; moves = sync_moves moment t; reply = reply.Done; ending = Stays }) from (no_moves moment t (from.frozen ∙ none) (from.changed ∙ same)) refl
    go false = still s (refused t (refusal.Held (hold_count t))) from refl refl

path_calm : (moment : ℕ) (s : Machine) (r : Result ℕ Refusal) → s.frozen ≡ None → s.changed ≡ false → IsCalmPlan s (syncing_path moment s r)
path_calm moment s (Err r) none same = still s (refused s r) (as_it_is s) refl refl
path_calm moment s (Ok n) none same = syncing_calm moment s s (as_it_is s) none same

directory_calm : (s : Machine) (k : ℕ) (r : Result ℕ Refusal) → IsCalmPlan s (changing_directory s k r)
unfolding IsCalmEnding
directory_calm s k (Err r) = record { from = as_it_is s; moves = refl; ending = tt }
directory_calm s k (Ok d) = record { from = as_it_is s; moves = refl; ending = tt }

planned_calm : (s : Machine) (k moment : ℕ) (a : Act) → IsMountedForReading s → IsCalmPlan s (planned s k moment a)
unfolding IsCalmEnding
planned_calm s k moment (act.Op o) m = operating_calm s k moment o m.read_only
planned_calm s k moment (act.Cd path) m = directory_calm s k (directory_at s k path)
planned_calm s k moment act.Df m = record { from = as_it_is s; moves = refl; ending = tt }
planned_calm s k moment act.Hold m = record { from = as_it_is s; moves = refl; ending = tt }
planned_calm s k moment act.Unhold m = record { from = as_it_is s; moves = refl; ending = tt }
planned_calm s k moment act.Sync m = syncing_calm moment s s (as_it_is s) m.no_snapshot m.unchanged
planned_calm s k moment (act.Fsync path) m = path_calm moment s (inode_at s.working.tree (directory_of s k) Itself path) m.no_snapshot m.unchanged
planned_calm s k moment act.Tick m = record { from = as_it_is s; moves = refl; ending = tt }
planned_calm s k moment act.End m = syncing_calm moment s (without_holds s) (record { volume = refl; working = refl; durable = refl; frozen = refl; changed = refl }) m.no_snapshot m.unchanged

plan_calm : (s : Machine) (e : VolEvent) → IsMountedForReading s → IsCalmPlan s (plan s e)
unfolding plan
plan_calm s e m = go (nat_le session_count e.session && not (is_end e.act))
  where
    go : (b : Bool) → IsCalmPlan s (if b then refused s refusal.NoSession else planned s e.session e.moment e.act)
    go true = still s (refused s refusal.NoSession) (as_it_is s) refl refl
    go false = planned_calm s e.session e.moment e.act m

-- ---- turns

-- no snapshot begins by itself
no_begin : (s : Machine) (fails : Bool) (moment : ℕ) → s.volume.is_read_only ≡ true → timed_begin fails moment s ≡ s
no_begin s fails moment ro =
    let never : is_time_to_begin s moment ≡ false = ap (λ b. not b && (is_none s.frozen && ((hold_count s == 0) && (s.changed && nat_le interval (moment - s.last_begin))))) ro in
    ap (λ b. begun_if b fails moment s) never

ending_calm : (e : Ending) (s : Machine) → IsCalmEnding e → StaysAs s (after_ending e s)
unfolding IsCalmEnding
ending_calm Stays s h = as_it_is s
ending_calm (Becomes e) s h = absurd h
ending_calm (GoesTo k d) s h = record { volume = refl; working = refl; durable = refl; frozen = refl; changed = refl }
ending_calm (Holds k b) s h = record { volume = refl; working = refl; durable = refl; frozen = refl; changed = refl }

take_none : (n : ℕ) → (let none : List Move = [] in take n none) ≡ []
take_none zero = refl
take_none (suc n) = refl

act_calm : (stop : Option ActFault) (moment : ℕ) (s : Machine) (p : Plan) → IsCalmPlan s p → StaysAs s (after_act stop moment p).machine
act_calm None moment s p c =
    subst (λ ms. StaysAs s (after_ending p.ending (after_moves moment p.from ms))) (sym c.moves) (stays_on s p.from (after_ending p.ending p.from) c.from (ending_calm p.ending p.from c.ending))
act_calm (Some stop) moment s p c =
    subst (λ ms. StaysAs s (after_moves moment p.from ms)) (sym (ap (take stop.moves) c.moves ∙ take_none stop.moves)) c.from

-- steps without a snapshot do nothing
steps_calm : (n moment : ℕ) (s : Machine) → s.frozen ≡ None → after_moves moment s (replicate n Step) ≡ s
steps_calm zero moment s none = refl
steps_calm (suc n) moment s none = ap (λ x. after_moves moment x (replicate n Step)) (ap (stepped s) none) ∙ steps_calm n moment s none

next_calm : (f : Faults) (s : Machine) (e : VolEvent) → IsMountedForReading s → StaysAs s (next_under f s e).machine
unfolding next_under
next_calm f s e m =
    let begun = timed_begin f.begin e.moment s in
    let same : begun ≡ s = no_begin s f.begin e.moment m.read_only in
    let calm : IsCalmPlan s (plan begun e) = subst (λ x. IsCalmPlan s (plan x e)) (sym same) (plan_calm s e m) in
    let a = act_result f s e in
    let acts : StaysAs s a.machine = act_calm f.act e.moment s (plan begun e) calm in
    subst (λ x. StaysAs s x) (sym (steps_calm (steps_made a.is_step_failed f.background a.machine) e.moment a.machine (acts.frozen ∙ m.no_snapshot))) acts

-- a turn of a mount for reading leaves it one
pub reading_stays : (s t : Machine) (e : VolEvent) (turn : Turn) → IsMountedForReading s → Next s e turn t → IsMountedForReading t
reading_stays s t e turn m n =
    let c = subst (λ (r : Transition). StaysAs s r.machine) n.ends (next_calm n.faults s e m) in
    record { read_only = ap (λ (v : Volume). v.is_read_only) c.volume ∙ m.read_only; no_snapshot = c.frozen ∙ m.no_snapshot; unchanged = c.changed ∙ m.unchanged }

-- and leaves its trees and ids
pub reading_keeps : (s t : Machine) (e : VolEvent) (turn : Turn) → IsMountedForReading s → Next s e turn t → HasCopiesOf s t
reading_keeps s t e turn m n =
    let c = subst (λ (r : Transition). StaysAs s r.machine) n.ends (next_calm n.faults s e m) in
    record { working = c.working; durable = c.durable }

-- a mount for reading is one
pub start_reads : (v : Volume) (t : Tree) (serial moment : ℕ) → v.is_read_only ≡ true → IsMountedForReading (start_of v t serial moment)
start_reads v t serial moment h = record { read_only = h; no_snapshot = refl; unchanged = refl }
