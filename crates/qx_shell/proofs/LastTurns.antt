-- Turns that sync, and the last turn of a run.
use Rattle.std.proofs.Common.{◌≡◌, ℕ, ◌<◌, List, [], ◌∷◌, ◌++◌, length, map, refl, sym, ap, ◌∙◌, subst, arith}
use Rattle.std.specs.Prelude.{Bool, true, false, not, ◌&&◌, Option, Some, None, Result, Ok, Err, flat_map, is_none, min, nat_le, replicate, ◌-◌, ◌==◌, if◌then◌else◌}
use Rattle.std.specs.List.{list_all}
use Rattle.std.proofs.lemmas.List.Folds.{sum_by-zero}
use Rattle.qx_model.specs.declared.notices.Notice.{Notice}
use Rattle.qx_model.specs.declared.notices.Notice.TheVariants as notice
use Rattle.qx_model.specs.declared.refusal.Refusal.{Refusal}
use Rattle.qx_model.specs.declared.refusal.Refusal.TheVariants as refusal
use Rattle.qx_model.specs.declared.reply.Reply.TheVariants as reply
use Rattle.qx_model.specs.declared.turn.Act.TheVariants as act
use Rattle.qx_model.specs.declared.turn.Turn.{Turn}
use Rattle.qx_model.specs.declared.turn.VolEvent.{VolEvent}
use Rattle.qx_model.specs.Paths.{Itself, inode_at}
use Rattle.qx_model.specs.Machine.{Machine, Session, directory_of, hold_count, holding, session_count, without_holds}
use Rattle.qx_model.specs.Snapshots.{Step, after_moves, background_limit, begun, due_of, interval, is_time_to_begin, told_along}
use Rattle.qx_model.specs.Plans.{Plan, Stays, after_ending, plan, planned, refused, sync_moves, syncing, syncing_path}
use Rattle.qx_model.specs.Next.{Cause, ReadFails, Transition, Faults, MemoryFails, Next, StepFails, ActFault, act_result, after_act, background_moves, begun_if, next, next_under, plan_under, refusal_of, steps_made, timed_begin, told_by_fault}
use Rattle.qx_words.specs.Scripts.{event_by}
use Rattle.qx_words.specs.Texts.{last_reply_text, last_text, notice_text, refusal_text}
use Rattle.qx_shell.specs.Ends.{IsRefusedStatus, IsStatusOf}
use Rattle.qx_shell.specs.NewestCopies.{IsMarked, IsAllDurable}
use Rattle.qx_shell.proofs.EmptyLists.{both_empty}
use Rattle.qx_shell.proofs.MarkedMachines.{from_marked}
use Rattle.qx_shell.proofs.SyncedMachines.{no_moves, silent_sync, steps_idle, sync_settles}

-- ---- plans

-- the plan of a sync that isn't refused
record IsSyncPlan (moment : ℕ) (p : Plan) : Type 0 where
  pub moves : p.moves ≡ sync_moves moment p.from
  pub ending : p.ending ≡ Stays
  pub reply : p.reply ≡ reply.Done

sync_plan : (moment : ℕ) (s : Machine) → IsSyncPlan moment (record { from = s; moves = sync_moves moment s; reply = reply.Done; ending = Stays })
sync_plan moment s = record { moves = refl; ending = refl; reply = refl }

-- a sync that is done is one
syncing_done : (moment : ℕ) (s : Machine) → (syncing moment s).reply ≡ reply.Done → IsSyncPlan moment (syncing moment s)
syncing_done moment s = go (hold_count s == 0)
  where
    go : (b : Bool) → (let p : Plan = if b then record { from = s; moves = sync_moves moment s; reply = reply.Done; ending = Stays } else refused s (refusal.Held (hold_count s)) in p.reply) ≡ reply.Done
        → IsSyncPlan moment (if b then record { from = s; moves = sync_moves moment s; reply = reply.Done; ending = Stays } else refused s (refusal.Held (hold_count s)))
    go true h = sync_plan moment s
    go false h = absurd (cc)

path_done : (moment : ℕ) (s : Machine) (r : Result ℕ Refusal) → (syncing_path moment s r).reply ≡ reply.Done → IsSyncPlan moment (syncing_path moment s r)
path_done moment s (Err r) h = absurd (cc)
path_done moment s (Ok n) h = syncing_done moment s h

-- no session holds where the holds are dropped
none_hold : (xs : List Session) → list_all (λ (x : Session). (if x.holds then 1 else 0) == 0) (map (holding false) xs) ≡ true
none_hold [] = refl
none_hold (x ∷ xs) = none_hold xs

dropped : (s : Machine) → (hold_count (without_holds s) == 0) ≡ true
dropped s = sum_by-zero (λ (x : Session). if x.holds then 1 else 0) (map (holding false) s.sessions) ∙ none_hold s.sessions

-- the end is such a sync, without the holds
record IsEndPlan (moment : ℕ) (s : Machine) (p : Plan) : Type 0 where
  pub from : p.from ≡ without_holds s
  pub sync : IsSyncPlan moment p

end_plan : (s : Machine) (k moment : ℕ) → IsEndPlan moment s (plan s (event_by k act.End moment))
unfolding plan
end_plan s k moment = go (nat_le session_count k)
  where
    w : Machine
    w = without_holds s

    ends : (b : Bool) → (hold_count w == 0) ≡ b → b ≡ true → IsEndPlan moment s (if b then record { from = w; moves = sync_moves moment w; reply = reply.Done; ending = Stays } else refused w (refusal.Held (hold_count w)))
    ends true is h = record { from = refl; sync = sync_plan moment w }
    ends false is h = absurd (cc)

    go : (b : Bool) → IsEndPlan moment s (if b && not true then refused s refusal.NoSession else planned s k moment act.End)
    go true = ends (hold_count w == 0) refl (dropped s)
    go false = ends (hold_count w == 0) refl (dropped s)

-- the plan of a `sync` that is done
sync_done : (s : Machine) (k moment : ℕ) → (plan s (event_by k act.Sync moment)).reply ≡ reply.Done → IsSyncPlan moment (plan s (event_by k act.Sync moment))
unfolding plan
sync_done s k moment = go (nat_le session_count k)
  where
    go : (b : Bool) → (let p : Plan = if b && not false then refused s refusal.NoSession else syncing moment s in p.reply) ≡ reply.Done → IsSyncPlan moment (if b && not false then refused s refusal.NoSession else syncing moment s)
    go true h = absurd (cc)
    go false h = syncing_done moment s h

-- and of an `fsync`
fsync_done : (s : Machine) (k moment : ℕ) (path : List ℕ) → (plan s (event_by k (act.Fsync path) moment)).reply ≡ reply.Done → IsSyncPlan moment (plan s (event_by k (act.Fsync path) moment))
unfolding plan
fsync_done s k moment path = go (nat_le session_count k)
  where
    p : Plan
    p = syncing_path moment s (inode_at s.working.tree (directory_of s k) Itself path)

    go : (b : Bool) → (let q : Plan = if b && not false then refused s refusal.NoSession else p in q.reply) ≡ reply.Done → IsSyncPlan moment (if b && not false then refused s refusal.NoSession else p)
    go true h = absurd (cc)
    go false h = path_done moment s (inode_at s.working.tree (directory_of s k) Itself path) h

-- ---- turns

-- where an act's moves lead that settle all, and no step behind them does anything
acted_settled : (moment : ℕ) (p : Plan) → IsMarked p.from → IsSyncPlan moment p → IsAllDurable (after_ending p.ending (after_moves moment p.from p.moves))
acted_settled moment p m y =
    subst (λ e. IsAllDurable (after_ending e (after_moves moment p.from p.moves))) (sym y.ending)
    (subst (λ ms. IsAllDurable (after_moves moment p.from ms)) (sym y.moves) (sync_settles moment p.from m))

-- a turn whose plan is a sync, where it is done
synced_next : (s : Machine) (e : VolEvent) (begin : Bool) (stop : Option ActFault) (background : Option ℕ) → IsMarked s
    → (let f : Faults = record { begin = begin; act = stop; background = background } in
    ((plan_under f s e).reply ≡ reply.Done → IsSyncPlan e.moment (plan_under f s e)) → (next_under f s e).turn.reply ≡ reply.Done → IsAllDurable (next_under f s e).machine)
unfolding next_under
synced_next s e begin None background m is done =
    let f : Faults = record { begin = begin; act = None; background = background } in
    let p = plan_under f s e in
    let a = act_result f s e in
    let all : IsAllDurable a.machine = acted_settled e.moment p (from_marked f s e m) (is done) in
    subst IsAllDurable (sym (steps_idle (steps_made a.is_step_failed background a.machine) e.moment a.machine all.none)) all
synced_next s e begin (Some stop) background m is done = absurd (clash (refusal_of stop.cause) done)
  where
    clash : (r : Refusal) → reply.Refused r ≡ reply.Done → ⊥
    clash r h = cc

synced_turn : (s t : Machine) (e : VolEvent) (turn : Turn) → IsMarked s → ((f : Faults) → (plan_under f s e).reply ≡ reply.Done → IsSyncPlan e.moment (plan_under f s e)) → Next s e turn t → turn.reply ≡ reply.Done → IsAllDurable t
synced_turn s t e turn m is n done =
    let f = n.faults in
    subst (λ (r : Transition). IsAllDurable r.machine) n.ends (synced_next s e f.begin f.act f.background m (is f) (subst (λ (r : Transition). r.turn.reply ≡ reply.Done) (sym n.ends) done))

-- the end, a `sync` and an `fsync` that are done leave all settled
pub end_settles : (s t : Machine) (k moment : ℕ) (turn : Turn) → IsMarked s → Next s (event_by k act.End moment) turn t → turn.reply ≡ reply.Done → IsAllDurable t
end_settles s t k moment turn m n done = synced_turn s t (event_by k act.End moment) turn m (λ f h. (end_plan (timed_begin f.begin moment s) k moment).sync) n done

pub sync_turn_settles : (s t : Machine) (k moment : ℕ) (turn : Turn) → IsMarked s → Next s (event_by k act.Sync moment) turn t → turn.reply ≡ reply.Done → IsAllDurable t
sync_turn_settles s t k moment turn m n done = synced_turn s t (event_by k act.Sync moment) turn m (λ f h. sync_done (timed_begin f.begin moment s) k moment h) n done

pub fsync_turn_settles : (s t : Machine) (k moment : ℕ) (path : List ℕ) (turn : Turn) → IsMarked s → Next s (event_by k (act.Fsync path) moment) turn t → turn.reply ≡ reply.Done → IsAllDurable t
fsync_turn_settles s t k moment path turn m n done = synced_turn s t (event_by k (act.Fsync path) moment) turn m (λ f h. fsync_done (timed_begin f.begin moment s) k moment path h) n done

-- ---- the last reply

-- what an act that is stopped answers gives a status
stopped_status : (c : Cause) → (status : ℕ) × IsRefusedStatus (refusal_of c) status
stopped_status StepFails = (3, refl)
stopped_status ReadFails = (3, refl)
stopped_status MemoryFails = (5, refl)

end_status_next : (s : Machine) (k moment : ℕ) (begin : Bool) (stop : Option ActFault) (background : Option ℕ) → (status : ℕ) × IsStatusOf (next_under (record { begin = begin; act = stop; background = background }) s (event_by k act.End moment)).turn.reply status
unfolding next_under
end_status_next s k moment begin None background = (0, subst (λ r. IsStatusOf r 0) (sym (end_plan (timed_begin begin moment s) k moment).sync.reply) refl)
end_status_next s k moment begin (Some stop) background = stopped_status stop.cause

-- the reply to the end gives a status
pub end_status : (s t : Machine) (k moment : ℕ) (turn : Turn) → Next s (event_by k act.End moment) turn t → (status : ℕ) × IsStatusOf turn.reply status
end_status s t k moment turn n = subst (λ (r : Transition). (status : ℕ) × IsStatusOf r.turn.reply status) n.ends (end_status_next s k moment n.faults.begin n.faults.act n.faults.background)

-- ---- texts

-- a refusal has a text
pub refusal_some : (r : Refusal) → 0 < length (refusal_text r)
unfolding refusal_text
refusal_some r = omega arith

notice_some : (n : Notice) → 0 < length (notice_text n)
unfolding notice_text
notice_some (notice.Snapshot serial) = omega arith
notice_some notice.Device = omega arith
notice_some notice.Memory = omega arith

-- no notices have no text, and no other
silent_notices : (ns : List Notice) → flat_map notice_text ns ≡ [] → ns ≡ []
silent_notices [] h = refl
silent_notices (n ∷ ns) h =
    let first = both_empty (notice_text n) (flat_map notice_text ns) h in
    let none : length (notice_text n) ≡ 0 = ap length first.0 in
    let some = notice_some n in
    absurd (omega arith)

-- a last turn without a text
record IsSilent (t : Turn) : Type 0 where
  pub reply : last_reply_text t.reply ≡ []
  pub notices : t.notices ≡ []

silent_turn : (t : Turn) → last_text t ≡ [] → IsSilent t
unfolding last_text
silent_turn t h =
    let parts = both_empty (last_reply_text t.reply) (flat_map notice_text t.notices) h in
    record { reply = parts.0; notices = silent_notices t.notices parts.1 }

not_silent : (r : Refusal) → refusal_text r ≡ [] → ⊥
not_silent r h = let none : length (refusal_text r) ≡ 0 = ap length h in let some = refusal_some r in absurd (omega arith)

-- ---- a silent end

-- what a last turn without a text leaves: nothing changed but the holds, and all was settled
record WasSettled (s t : Machine) : Type 0 where
  pub settled : IsAllDurable s
  pub same : t ≡ without_holds s

silent_plan : (moment : ℕ) (s : Machine) (time : Bool) → IsMarked (without_holds (begun_if time false moment s)) → told_along moment (without_holds (begun_if time false moment s)) (sync_moves moment (without_holds (begun_if time false moment s))) ≡ []
    → IsAllDurable (without_holds (begun_if time false moment s)) × (begun_if time false moment s ≡ s)
silent_plan moment s false m told = (silent_sync moment (without_holds s) m told, refl)
silent_plan moment s true m told = let z = silent_sync moment (without_holds (begun moment s)) m told in absurd (clash z.none)
  where
    clash : (begun moment s).frozen ≡ None → ⊥
    clash h = cc

-- the act of a silent end, where nothing fails
silent_act : (moment : ℕ) (s w : Machine) (p : Plan) → p.from ≡ w → IsSyncPlan moment p → IsAllDurable w → after_ending p.ending (after_moves moment p.from p.moves) ≡ w
silent_act moment s w p from y z =
    ap (λ e. after_ending e (after_moves moment p.from p.moves)) y.ending
    ∙ ap (λ ms. after_moves moment p.from ms) (y.moves ∙ ap (λ x. sync_moves moment x) from ∙ no_moves moment w z.none z.unchanged)
    ∙ from

silent_next : (s : Machine) (k moment : ℕ) (begin : Bool) (stop : Option ActFault) (background : Option ℕ) → IsMarked s
    → (let r : Transition = next_under (record { begin = begin; act = stop; background = background }) s (event_by k act.End moment) in IsSilent r.turn → WasSettled s r.machine)
unfolding next_under
silent_next s k moment begin (Some stop) background m q = absurd (not_silent (refusal_of stop.cause) q.reply)
silent_next s k moment true None background m q = absurd (cc)
silent_next s k moment false None background m q = record { settled = z; same = same }
  where
    e : VolEvent
    e = event_by k act.End moment

    f : Faults
    f = record { begin = false; act = None; background = background }

    b : Machine
    b = timed_begin false moment s

    p : Plan
    p = plan b e

    ends : IsEndPlan moment b p
    ends = end_plan b k moment

    told : told_along moment p.from p.moves ≡ []
    told = (both_empty (told_along moment p.from p.moves) (told_along moment (act_result f s e).machine (background_moves background (act_result f s e)) ++ told_by_fault background) q.notices).0

    told_sync : told_along moment (without_holds b) (sync_moves moment (without_holds b)) ≡ []
    told_sync = ap (λ (x : Machine). told_along moment x (sync_moves moment x)) (sym ends.from) ∙ ap (λ ms. told_along moment p.from ms) (sym ends.sync.moves) ∙ told

    marked : IsMarked (without_holds b)
    marked = subst IsMarked ends.from (from_marked f s e m)

    both : IsAllDurable (without_holds b) × (b ≡ s)
    both = silent_plan moment s (is_time_to_begin s moment) marked told_sync

    at_s : IsAllDurable (without_holds s)
    at_s = subst (λ (x : Machine). IsAllDurable (without_holds x)) both.1 both.0

    z : IsAllDurable s
    z = record { none = at_s.none; unchanged = at_s.unchanged; kept = at_s.kept }

    here : (act_result f s e).machine ≡ without_holds s
    here = silent_act moment s (without_holds b) p ends.from ends.sync both.0 ∙ ap without_holds both.1

    same : after_moves moment (act_result f s e).machine (background_moves background (act_result f s e)) ≡ without_holds s
    same = steps_idle (steps_made (act_result f s e).is_step_failed background (act_result f s e).machine) moment (act_result f s e).machine (ap (λ (x : Machine). x.frozen) here ∙ at_s.none) ∙ here

-- a last turn without a text found all settled, and changed nothing but the holds
pub silent_end : (s t : Machine) (k moment : ℕ) (turn : Turn) → IsMarked s → Next s (event_by k act.End moment) turn t → last_text turn ≡ [] → IsAllDurable s × (t ≡ without_holds s)
silent_end s t k moment turn m n h =
    let f = n.faults in
    let q : IsSilent (next_under f s (event_by k act.End moment)).turn = subst (λ (r : Transition). IsSilent r.turn) (sym n.ends) (silent_turn turn h) in
    let w = subst (λ (r : Transition). WasSettled s r.machine) n.ends (silent_next s k moment f.begin f.act f.background m q) in
    (w.settled, w.same)

-- ---- an end with nothing to do

never_time : (a b c d : Bool) → (a && (b && (c && (false && d)))) ≡ false
never_time false b c d = refl
never_time true false c d = refl
never_time true true false d = refl
never_time true true true d = refl

-- where nothing changed, no snapshot begins by itself
no_begin : (moment : ℕ) (s : Machine) → s.changed ≡ false → timed_begin false moment s ≡ s
no_begin moment s same =
    let time : ℕ → Bool → Bool = λ n x. not s.volume.is_read_only && (is_none s.frozen && ((hold_count s == 0) && (x && nat_le interval n))) in
    let never : is_time_to_begin s moment ≡ false =
    ap (time (moment - s.last_begin)) same ∙ never_time (not s.volume.is_read_only) (is_none s.frozen) (hold_count s == 0) (nat_le interval (moment - s.last_begin)) in
    ap (λ b. begun_if b false moment s) never

-- where a plan leads in which nothing fails
abbrev ended_by : ℕ → Plan → Transition
ended_by moment p =
    let a = after_act None moment p in
    let steps = background_moves None a in
    record { machine = after_moves moment a.machine steps; turn = record { reply = a.reply; notices = a.told ++ (told_along moment a.machine steps ++ []) } }

-- the end of a machine whose work is all durable drops the holds, and says no more than that it is done
pub settled_end : (s : Machine) (k moment : ℕ) → IsAllDurable s → next s (event_by k act.End moment) ≡ record { machine = without_holds s; turn = record { reply = reply.Done; notices = [] } }
unfolding next_under
settled_end s k moment z =
    ap (λ (x : Machine). ended_by moment (plan x (event_by k act.End moment))) (no_begin moment s z.unchanged)
    ∙ ap (ended_by moment) quiet
    ∙ ap by_steps (ap (λ o. min (due_of o) background_limit) z.none)
  where
    w : Machine
    w = without_holds s

    ends : IsEndPlan moment s (plan s (event_by k act.End moment))
    ends = end_plan s k moment

    no_move : (plan s (event_by k act.End moment)).moves ≡ []
    no_move = ends.sync.moves ∙ ap (λ (x : Machine). sync_moves moment x) ends.from ∙ no_moves moment w z.none z.unchanged

    quiet : plan s (event_by k act.End moment) ≡ record { from = w; moves = []; reply = reply.Done; ending = Stays }
    quiet = λ i. record { from = ends.from i; moves = no_move i; reply = ends.sync.reply i; ending = ends.sync.ending i }

    by_steps : ℕ → Transition
    by_steps n = record { machine = after_moves moment w (replicate n Step); turn = record { reply = reply.Done; notices = told_along moment w (replicate n Step) ++ [] } }
