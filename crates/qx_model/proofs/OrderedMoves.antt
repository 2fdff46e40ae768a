-- The moves of a turn come where they may: each begin where nothing is in progress, there is something to keep and no session holds, each step where a snapshot is.
use Rattle.std.proofs.Common.{◌≡◌, ℕ, zero, suc, ◌-◌, ◌<◌, ◌≤◌, ◌⊎◌, inl, inr, List, [], ◌∷◌, ◌++◌, take, refl, sym, ap, ◌∙◌, subst, arith}
use Rattle.std.specs.Prelude.{Bool, true, false, count_by, not, ◌&&◌, ◌||◌, Option, Some, None, Result, Ok, Err, is_none, is_some, min, nat_le, replicate, slice_get, ◌==◌, if◌then◌else◌}
use Rattle.std.proofs.lemmas.Bool.{eqb-true, leb-false, leb-true}
use Rattle.qx_geom.proofs.Truths.{and_left, and_right}
use Rattle.qx_model.specs.declared.operation.Op.{Op}
use Rattle.qx_model.specs.declared.refusal.Refusal.{Refusal}
use Rattle.qx_model.specs.declared.refusal.Refusal.TheVariants as refusal
use Rattle.qx_model.specs.declared.reply.Reply.TheVariants as reply
use Rattle.qx_model.specs.declared.turn.Act.{Act}
use Rattle.qx_model.specs.declared.turn.Act.TheVariants as act
use Rattle.qx_model.specs.declared.turn.VolEvent.{VolEvent}
use Rattle.qx_model.specs.Requests.{changes}
use Rattle.qx_model.specs.Paths.{Itself, inode_at}
use Rattle.qx_model.specs.Machine.{Frozen, Machine, Session, directory_of, hold_count, without_holds}
use Rattle.qx_model.specs.Snapshots.{Begin, Move, Step, after_moves, background_limit, begun, due_of, finishing, interval, is_last_step, is_time_to_begin, step_to, stepped, steps_wanted, whole_snapshot}
use Rattle.qx_model.specs.Decisions.{Attempt, after_finish, after_more, after_snapshot, attempt, first_attempt, is_lacking}
use Rattle.qx_model.specs.Plans.{Plan, Stays, changing_directory, directory_at, lacks_session, operating, plan, plan_of, planned, refused, snapshot_if_changed, sync_moves, syncing, syncing_path}
use Rattle.qx_model.specs.Next.{ActFault, ActResult, Faults, MayCome, MayFail, MayFailAfter, MayFailInAct, MemoryFails, act_result, background_moves, begun_if, moves_made, plan_under, steps_made, timed_begin}
use Rattle.qx_model.specs.TreeReads.{is_between, operation_reads, path_reads, reads_after, reads_tree}
use Rattle.qx_model.specs.MoveOrder.{MayMove}
use Rattle.qx_model.proofs.KeptSettings.{moves_leave}
use Rattle.qx_model.proofs.MoveRuns.{after_moves-append}

-- ---- moves one after another

-- moves that may come, and then more
may_append : (moment : ℕ) (ms ns : List Move) (s : Machine) → MayMove moment s ms → MayMove moment (after_moves moment s ms) ns → MayMove moment s (ms ++ ns)
may_append moment [] ns s h k = k
may_append moment (Begin ∷ ms) ns s h k = (h.0, h.1, h.2, may_append moment ms ns (begun moment s) h.3 k)
may_append moment (Step ∷ ms) ns s h k = (h.0, may_append moment ms ns (stepped s s.frozen) h.1 k)

-- the first of them
pub may_take : (moment : ℕ) (n : ℕ) (ms : List Move) (s : Machine) → MayMove moment s ms → MayMove moment s (take n ms)
may_take moment zero [] s h = tt
may_take moment zero (m ∷ ms) s h = tt
may_take moment (suc n) [] s h = tt
may_take moment (suc n) (Begin ∷ ms) s h = (h.0, h.1, h.2, may_take moment n ms (begun moment s) h.3)
may_take moment (suc n) (Step ∷ ms) s h = (h.0, may_take moment n ms (stepped s s.frozen) h.1)

-- ---- steps

-- a snapshot in progress has a step left, if there is one
unfoldable pub HasStep : Option Frozen → Type 0
HasStep None = Unit {0}
HasStep (Some p) = 0 < p.due

due_some : (o : Option Frozen) (n : ℕ) → suc n ≤ due_of o → is_some o ≡ true
due_some None n le = absurd (omega arith)
due_some (Some p) n le = refl

-- a step leaves the others due
due_left : (s : Machine) (o : Option Frozen) (n : ℕ) → suc n ≤ due_of o → n ≤ due_of (stepped s o).frozen
due_left s None n le = absurd (omega arith)
due_left s (Some p) n le = go (is_last_step p) refl
  where
    go : (b : Bool) → is_last_step p ≡ b → n ≤ due_of (step_to b s p).frozen
    go true is = let few = leb-true p.due 1 is in omega arith
    go false is = omega arith

-- as many steps as are due may come
pub steps_may : (moment : ℕ) (n : ℕ) (s : Machine) → n ≤ due_of s.frozen → MayMove moment s (replicate n Step)
steps_may moment zero s le = tt
steps_may moment (suc n) s le = (due_some s.frozen n le, steps_may moment n (stepped s s.frozen) (due_left s s.frozen n le))

last_done : (s : Machine) (o : Option Frozen) → due_of o ≡ 1 → (stepped s o).frozen ≡ None
last_done s None is = absurd (omega arith)
last_done s (Some p) is = go (is_last_step p) refl
  where
    go : (b : Bool) → is_last_step p ≡ b → (step_to b s p).frozen ≡ None
    go true h = refl
    go false h = let many = leb-false p.due 1 h in absurd (omega arith)

due_less : (s : Machine) (o : Option Frozen) (n : ℕ) → due_of o ≡ suc (suc n) → due_of (stepped s o).frozen ≡ suc n
due_less s None n is = absurd (omega arith)
due_less s (Some p) n is = go (is_last_step p) refl
  where
    go : (b : Bool) → is_last_step p ≡ b → due_of (step_to b s p).frozen ≡ suc n
    go true h = let few = leb-true p.due 1 h in absurd (omega arith)
    go false h = omega arith

-- the steps that are due finish a snapshot
finished : (moment : ℕ) (n : ℕ) (s : Machine) → due_of s.frozen ≡ suc n → (after_moves moment s (replicate (suc n) Step)).frozen ≡ None
finished moment zero s is = last_done s s.frozen is
finished moment (suc n) s is = finished moment n (stepped s s.frozen) (due_less s s.frozen n is)

none_due : (o : Option Frozen) → HasStep o → due_of o ≡ 0 → o ≡ None
unfolding HasStep
none_due None h is = refl
none_due (Some p) h is = absurd (omega arith)

-- so after a finish none is in progress
pub finishing_done : (moment : ℕ) (s : Machine) → HasStep s.frozen → (after_moves moment s (finishing s)).frozen ≡ None
finishing_done moment s h = go (due_of s.frozen) refl
  where
    go : (n : ℕ) → due_of s.frozen ≡ n → (after_moves moment s (replicate n Step)).frozen ≡ None
    go zero is = none_due s.frozen h is
    go (suc n) is = finished moment n s is

-- a whole snapshot may be made where none is in progress
whole_may : (moment : ℕ) (s : Machine) → s.frozen ≡ None → s.changed ≡ true → hold_count s ≡ 0 → MayMove moment s (whole_snapshot s)
whole_may moment s none is free = (none, is, free, steps_may moment (steps_wanted s) (begun moment s) (omega arith))

-- moves leave the holds
moves_hold : (moment : ℕ) (ms : List Move) (s : Machine) → hold_count (after_moves moment s ms) ≡ hold_count s
moves_hold moment ms s = let left = moves_leave moment ms s in ap (count_by (λ (x : Session). x.holds)) left.sessions

-- ---- attempts

-- an attempt stands where its moves lead, and they come where they may
record MayAttempt (s : Machine) (moment : ℕ) (a : Attempt) : Type 0 where
  stands : a.machine ≡ after_moves moment s a.moves
  may : MayMove moment s a.moves

more_may : (s : Machine) (k moment : ℕ) (o : Op) (a : Attempt) (more : List Move) → MayAttempt s moment a → MayMove moment a.machine more → MayAttempt s moment (after_more k moment o a more)
more_may s k moment o a more f g = record {
  stands = ap (λ m. after_moves moment m more) f.stands ∙ sym (after_moves-append moment a.moves more s);
  may = may_append moment a.moves more s f.may (subst (λ m. MayMove moment m more) f.stands g);
}

-- where it still lacks room after a finish, none is in progress
record MayFinish (s : Machine) (moment : ℕ) (a : Attempt) : Type 0 where
  attempt : MayAttempt s moment a
  none : is_lacking a.decision ≡ true → a.machine.frozen ≡ None

not_some : (o : Option Frozen) → is_some o ≡ false → o ≡ None
not_some None h = refl
not_some (Some p) h = absurd (cc)

finish_may : (s : Machine) (k moment : ℕ) (o : Op) → HasStep s.frozen → MayFinish s moment (after_finish k moment o (first_attempt s k moment o))
finish_may s k moment o h = go (is_lacking (first_attempt s k moment o).decision && is_some s.frozen) refl
  where
    none : (lacks : Bool) → (lacks && is_some s.frozen) ≡ false → lacks ≡ true → s.frozen ≡ None
    none true is h = not_some s.frozen is
    none false is h = absurd (cc)

    go : (b : Bool) → (is_lacking (first_attempt s k moment o).decision && is_some s.frozen) ≡ b
        → MayFinish s moment (if b then after_more k moment o (first_attempt s k moment o) (finishing s) else first_attempt s k moment o)
    go true is = record {
      attempt = more_may s k moment o (first_attempt s k moment o) (finishing s) (record { stands = refl; may = tt }) (steps_may moment (due_of s.frozen) s (omega arith));
      none = λ lacks. finishing_done moment s h;
    }
    go false is = record { attempt = record { stands = refl; may = tt }; none = none (is_lacking (first_attempt s k moment o).decision) is }

snapshot_may : (s : Machine) (k moment : ℕ) (o : Op) (a : Attempt) → MayFinish s moment a → MayMove moment s (after_snapshot k moment o a).moves
snapshot_may s k moment o a f = go (is_lacking a.decision && ((hold_count a.machine == 0) && a.machine.changed)) refl
  where
    go : (b : Bool) → (is_lacking a.decision && ((hold_count a.machine == 0) && a.machine.changed)) ≡ b
        → MayMove moment s (let x : Attempt = if b then after_more k moment o a (whole_snapshot a.machine) else a in x.moves)
    go true is =
        let none = f.none (and_left (is_lacking a.decision) ((hold_count a.machine == 0) && a.machine.changed) is) in
        let both = and_right (is_lacking a.decision) ((hold_count a.machine == 0) && a.machine.changed) is in
        let kept = and_right (hold_count a.machine == 0) a.machine.changed both in
        let free = eqb-true (hold_count a.machine) 0 (and_left (hold_count a.machine == 0) a.machine.changed both) in
        let more = more_may s k moment o a (whole_snapshot a.machine) f.attempt (whole_may moment a.machine none kept free) in
        more.may
    go false is = let at = f.attempt in at.may

-- ---- plans

operating_may : (s : Machine) (k moment : ℕ) (o : Op) → HasStep s.frozen → MayMove moment s (operating s k moment o).moves
operating_may s k moment o h = go (changes o && s.volume.is_read_only)
  where
    go : (b : Bool) → MayMove moment s (let p : Plan = if b then refused s refusal.ReadOnly else plan_of s (attempt s k moment o) in p.moves)
    go true = tt
    go false = snapshot_may s k moment o (after_finish k moment o (first_attempt s k moment o)) (finish_may s k moment o h)

sync_may : (moment : ℕ) (s : Machine) → HasStep s.frozen → hold_count s ≡ 0 → MayMove moment s (sync_moves moment s)
sync_may moment s h free =
    may_append moment (finishing s) (snapshot_if_changed (after_moves moment s (finishing s))) s (steps_may moment (due_of s.frozen) s (omega arith)) (go (after_moves moment s (finishing s)).changed refl)
  where
    go : (b : Bool) → (after_moves moment s (finishing s)).changed ≡ b → MayMove moment (after_moves moment s (finishing s)) (if b then whole_snapshot (after_moves moment s (finishing s)) else [])
    go true is = whole_may moment (after_moves moment s (finishing s)) (finishing_done moment s h) is (moves_hold moment (finishing s) s ∙ free)
    go false is = tt

-- the moves of a plan, from where it begins
MayPlan : ℕ → Plan → Type 0
MayPlan moment p = MayMove moment p.from p.moves

operating_from : (s : Machine) (k moment : ℕ) (o : Op) → HasStep s.frozen → MayPlan moment (operating s k moment o)
unfolding MayPlan
operating_from s k moment o h = go (changes o && s.volume.is_read_only) (operating_may s k moment o h)
  where
    go : (b : Bool) → MayMove moment s (let p : Plan = if b then refused s refusal.ReadOnly else plan_of s (attempt s k moment o) in p.moves)
        → MayPlan moment (if b then refused s refusal.ReadOnly else plan_of s (attempt s k moment o))
    go true m = m
    go false m = m

syncing_may : (moment : ℕ) (s : Machine) → HasStep s.frozen → MayPlan moment (syncing moment s)
unfolding MayPlan
syncing_may moment s h = go (hold_count s == 0) refl
  where
    go : (b : Bool) → (hold_count s == 0) ≡ b → MayPlan moment (if b then record { from = s; moves = sync_moves moment s; reply = reply.Done; ending = Stays } else refused s (refusal.Held (hold_count s)))
    go true is = sync_may moment s h (eqb-true (hold_count s) 0 is)
    go false is = tt

directory_may : (s : Machine) (k moment : ℕ) (r : Result ℕ Refusal) → MayPlan moment (changing_directory s k r)
unfolding MayPlan
directory_may s k moment (Err r) = tt
directory_may s k moment (Ok d) = tt

path_may : (moment : ℕ) (s : Machine) (r : Result ℕ Refusal) → HasStep s.frozen → MayPlan moment (syncing_path moment s r)
unfolding MayPlan
path_may moment s (Err r) h = tt
path_may moment s (Ok n) h = syncing_may moment s h

planned_may : (s : Machine) (k moment : ℕ) (a : Act) → HasStep s.frozen → MayPlan moment (planned s k moment a)
unfolding MayPlan
planned_may s k moment (act.Op o) h = operating_from s k moment o h
planned_may s k moment (act.Cd path) h = directory_may s k moment (directory_at s k path)
planned_may s k moment act.Df h = tt
planned_may s k moment act.Hold h = tt
planned_may s k moment act.Unhold h = tt
planned_may s k moment act.Sync h = syncing_may moment s h
planned_may s k moment (act.Fsync path) h = path_may moment s (inode_at s.working.tree (directory_of s k) Itself path) h
planned_may s k moment act.Tick h = tt
planned_may s k moment act.End h = syncing_may moment (without_holds s) h

-- they come where they may
pub plan_may : (s : Machine) (e : VolEvent) → HasStep s.frozen → MayMove e.moment (plan s e).from (plan s e).moves
unfolding plan MayPlan
plan_may s e h = go (lacks_session e)
  where
    go : (b : Bool) → MayPlan e.moment (if b then refused s refusal.NoSession else planned s e.session e.moment e.act)
    go true = tt
    go false = planned_may s e.session e.moment e.act h

-- ---- turns

-- a snapshot that begins has a step
pub wanted_step : (s : Machine) → 0 < steps_wanted s
unfolding steps_wanted
wanted_step s = omega arith

begin_step : (time fails : Bool) (moment : ℕ) (s : Machine) → HasStep s.frozen → HasStep (begun_if time fails moment s).frozen
unfolding HasStep
begin_step false fails moment s h = h
begin_step true false moment s h = wanted_step s
begin_step true true moment s h = h

-- so do those that an act makes
pub act_may : (f : Faults) (s : Machine) (e : VolEvent) → HasStep s.frozen → MayMove e.moment (plan_under f s e).from (moves_made f.act (plan_under f s e))
act_may f s e h = go f.act
  where
    go : (stop : Option ActFault) → MayMove e.moment (plan_under f s e).from (moves_made stop (plan_under f s e))
    go None = plan_may (timed_begin f.begin e.moment s) e (begin_step (is_time_to_begin s e.moment) f.begin e.moment s h)
    go (Some stop) =
        may_take e.moment stop.moves (plan_under f s e).moves (plan_under f s e).from (plan_may (timed_begin f.begin e.moment s) e (begin_step (is_time_to_begin s e.moment) f.begin e.moment s h))

few_steps : (failed : Bool) (background : Option ℕ) (a : ActResult) → a.is_step_failed ≡ failed → MayFailAfter background a → steps_made a.is_step_failed background a.machine ≤ due_of a.machine.frozen
few_steps failed background a is may = subst (λ b. steps_made b background a.machine ≤ due_of a.machine.frozen) (sym is) (go failed background may)
  where
    go : (b : Bool) (o : Option ℕ) → MayFailAfter o a → steps_made b o a.machine ≤ due_of a.machine.frozen
    go true o may = omega arith
    go false None may = omega arith
    go false (Some good) may = let below : good < min (due_of a.machine.frozen) background_limit = may.0 in omega arith

-- the background steps
pub background_may : (f : Faults) (s : Machine) (e : VolEvent) → MayCome f s e → MayMove e.moment (act_result f s e).machine (background_moves f.background (act_result f s e))
background_may f s e may =
    let a = act_result f s e in
    steps_may e.moment (steps_made a.is_step_failed f.background a.machine) a.machine (few_steps a.is_step_failed f.background a refl may.background)

none_is : (o : Option Frozen) → is_none o ≡ true → o ≡ None
none_is None h = refl
none_is (Some p) h = absurd (cc)

-- and the begin that comes by itself
pub timed_may : (s : Machine) (moment : ℕ) → is_time_to_begin s moment ≡ true → MayMove moment s (Begin ∷ [])
timed_may s moment time =
    let free = and_right (not s.volume.is_read_only) _ time in
    let none = and_left (is_none s.frozen) ((hold_count s == 0) && (s.changed && nat_le interval (moment - s.last_begin))) free in
    let rest = and_right (hold_count s == 0) (s.changed && nat_le interval (moment - s.last_begin)) (and_right (is_none s.frozen) ((hold_count s == 0) && (s.changed && nat_le interval (moment - s.last_begin))) free) in
    let holds = and_left (hold_count s == 0) (s.changed && nat_le interval (moment - s.last_begin)) (and_right (is_none s.frozen) ((hold_count s == 0) && (s.changed && nat_le interval (moment - s.last_begin))) free) in
    (none_is s.frozen none, and_left s.changed (nat_le interval (moment - s.last_begin)) rest, eqb-true (hold_count s) 0 holds, tt)

-- ---- want of memory

-- a begin comes where nothing is in progress
begins_at_none : (moment : ℕ) (n : ℕ) (ms : List Move) (s : Machine) → MayMove moment s ms → slice_get ms n ≡ Some Begin → (after_moves moment s (take n ms)).frozen ≡ None
begins_at_none moment zero [] s may h = absurd (cc)
begins_at_none moment (suc n) [] s may h = absurd (cc)
begins_at_none moment zero (Begin ∷ ms) s may h = may.0
begins_at_none moment zero (Step ∷ ms) s may h = absurd (cc)
begins_at_none moment (suc n) (Begin ∷ ms) s may h = begins_at_none moment n ms (begun moment s) may.3 h
begins_at_none moment (suc n) (Step ∷ ms) s may h = begins_at_none moment n ms (stepped s s.frozen) may.1 h

-- and an operation is decided there, or before all moves
reads_between : (n : ℕ) (s : Machine) (e : VolEvent) → reads_tree n s e ≡ true → (n ≡ 0) ⊎ (s.frozen ≡ None)
reads_between n s e h = by_act e.act (and_right (not (lacks_session e)) (reads_after n s e.session e.act) h)
  where
    at_once : (b : Bool) → ((n == 0) && b) ≡ true → (n ≡ 0) ⊎ (s.frozen ≡ None)
    at_once b h = inl (eqb-true n 0 (and_left (n == 0) b h))

    between : (b : Bool) → (n == 0) ≡ b → (b || is_none s.frozen) ≡ true → (n ≡ 0) ⊎ (s.frozen ≡ None)
    between true is h = inl (eqb-true n 0 is)
    between false is h = inr (none_is s.frozen h)

    by_act : (a : Act) → reads_after n s e.session a ≡ true → (n ≡ 0) ⊎ (s.frozen ≡ None)
    by_act (act.Op o) h = between (n == 0) refl (and_left (is_between n s) (operation_reads s e.session o) h)
    by_act (act.Cd path) h = at_once (path_reads s e.session path) h
    by_act (act.Fsync path) h = at_once (path_reads s e.session path) h
    by_act act.Df h = absurd (cc)
    by_act act.Hold h = absurd (cc)
    by_act act.Unhold h = absurd (cc)
    by_act act.Sync h = absurd (cc)
    by_act act.Tick h = absurd (cc)
    by_act act.End h = absurd (cc)

-- so an act wants memory between two snapshots
pub memory_between : (f : Faults) (s : Machine) (e : VolEvent) (stop : ActFault) → HasStep s.frozen → MayCome f s e → f.act ≡ Some stop → stop.cause ≡ MemoryFails
    → (stop.moves ≡ 0) ⊎ ((after_moves e.moment (plan_under f s e).from (take stop.moves (plan_under f s e).moves)).frozen ≡ None)
memory_between f s e stop h may is cause =
    let stops = subst (λ o. MayFailInAct o e (plan_under f s e)) is may.act in
    by_cause (subst (λ c. MayFail c e (plan_under f s e) stop.moves) cause stops.1)
  where
    by_cause : MayFail MemoryFails e (plan_under f s e) stop.moves → (stop.moves ≡ 0) ⊎ ((after_moves e.moment (plan_under f s e).from (take stop.moves (plan_under f s e).moves)).frozen ≡ None)
    by_cause (inl begins) =
        inr (begins_at_none e.moment stop.moves (plan_under f s e).moves (plan_under f s e).from (plan_may (timed_begin f.begin e.moment s) e (begin_step (is_time_to_begin s e.moment) f.begin e.moment s h)) begins)
    by_cause (inr reads) = reads_between stop.moves (after_moves e.moment (plan_under f s e).from (take stop.moves (plan_under f s e).moves)) e reads
