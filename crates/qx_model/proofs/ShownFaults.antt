-- A turn in which nothing fails outside tells of no fault, and an act that calls nothing outside is answered by none.
use Rattle.std.proofs.Common.{◌≡◌, ℕ, zero, suc, inl, inr, List, [], ◌∷◌, ◌++◌, take, refl, sym, ap, ◌∙◌, subst}
use Rattle.std.specs.Prelude.{Bool, true, false, not, ◌&&◌, ◌||◌, Option, Some, None, Result, Ok, Err, is_ok, is_some, slice_get, ◌==◌, if◌then◌else◌}
use Rattle.std.specs.List.{list_any}
use Rattle.qx_geom.proofs.Truths.{true_or_false}
use Rattle.qx_geom.specs.Room.{fits}
use Rattle.qx_model.specs.declared.notices.Notice.{Notice}
use Rattle.qx_model.specs.declared.operation.Op.{Op}
use Rattle.qx_model.specs.declared.refusal.Refusal.{Refusal}
use Rattle.qx_model.specs.declared.refusal.Refusal.TheVariants as refusal
use Rattle.qx_model.specs.declared.reply.Reply.TheVariants as reply
use Rattle.qx_model.specs.declared.turn.Act.{Act}
use Rattle.qx_model.specs.declared.turn.Act.TheVariants as act
use Rattle.qx_model.specs.declared.turn.VolEvent.{VolEvent}
use Rattle.qx_model.specs.declared.turn.Turn.{Turn}
use Rattle.qx_model.specs.Requests.{changes}
use Rattle.qx_model.specs.Outcomes.{◌>>◌, refuse_if}
use Rattle.qx_model.specs.Directories.{is_directory}
use Rattle.qx_model.specs.Paths.{Followed, Itself, inode_at}
use Rattle.qx_model.specs.Effects.{Answers, Edits, Effect}
use Rattle.qx_model.specs.Operate.{operate}
use Rattle.qx_model.specs.Machine.{Frozen, Machine, directory_of, hold_count, setting_of, without_holds}
use Rattle.qx_model.specs.Space.{free_count, need_of}
use Rattle.qx_model.specs.Snapshots.{Begin, Move, Step, after_moves, begun, finishing, is_last_step, is_time_to_begin, stepped, told_along, told_by_step, told_if, whole_snapshot}
use Rattle.qx_model.specs.Decisions.{Attempt, Fits, Lacks, Refuses, after_finish, after_more, after_snapshot, attempt, decided, decision, first_attempt, is_lacking, is_serial_end}
use Rattle.qx_model.specs.Plans.{Plan, Stays, changing_directory, decision_reply, directory_at, lacks_session, operating, plan, plan_of, planned, refused, sync_moves, syncing, syncing_path}
use Rattle.qx_model.specs.TreeReads.{act_calls, calls_outside, is_between, operation_start, reads_after, reads_tree, walk_start}
use Rattle.qx_model.specs.Next.{ActFault, Cause, Faults, MayCome, MayFail, MayFailInAct, MemoryFails, Next, ReadFails, StepFails, Transition, act_result, after_act, background_moves, begun_if, next, next_under, no_faults, plan_under, timed_begin}
use Rattle.qx_model.specs.Faults.{is_fault_notice, is_fault_reply, tells_of_fault}
use Rattle.qx_model.proofs.FaultlessAnswers.{Answered, Faultless, inode_faultless, operation_answered, rest_faultless, test_faultless, ok_faultless}
use Rattle.qx_model.proofs.PathRefusals.{operation_refused, walk_refused}
use Rattle.qx_model.proofs.QuietMounts.{decided_once}

-- ---- replies

decided_answered : (s : Machine) (r : Result Effect Refusal) → Answered r → is_fault_reply (decision_reply (decided s r)) ≡ false
unfolding Answered
decided_answered s (Err x) a = a
decided_answered s (Ok (Answers x)) a = a
decided_answered s (Ok (Edits is_removing e)) a = go (fits is_removing (need_of s e) (free_count s))
  where
    go : (b : Bool) → is_fault_reply (decision_reply (if b then Fits (Edits is_removing e) else Lacks (need_of s e) (free_count s))) ≡ false
    go true = refl
    go false = refl

decision_answered : (s : Machine) (k moment : ℕ) (o : Op) → is_fault_reply (decision_reply (decision s k moment o)) ≡ false
unfolding decision
decision_answered s k moment o = go (changes o && is_serial_end s)
  where
    go : (b : Bool) → is_fault_reply (decision_reply (if b then Refuses refusal.SerialEnd else decided s (operate (setting_of s k moment) s.working.tree o))) ≡ false
    go true = refl
    go false = decided_answered s (operate (setting_of s k moment) s.working.tree o) (operation_answered (setting_of s k moment) s.working.tree o)

-- an attempt decides as some machine does
attempt_answered : (s : Machine) (k moment : ℕ) (o : Op) → is_fault_reply (decision_reply (attempt s k moment o).decision) ≡ false
attempt_answered s k moment o = second (after_finish k moment o (first_attempt s k moment o)) (first (first_attempt s k moment o) (decision_answered s k moment o))
  where
    more : (a : Attempt) (ms : List Move) → is_fault_reply (decision_reply (after_more k moment o a ms).decision) ≡ false
    more a ms = decision_answered (after_moves moment a.machine ms) k moment o

    first : (a : Attempt) → is_fault_reply (decision_reply a.decision) ≡ false → is_fault_reply (decision_reply (after_finish k moment o a).decision) ≡ false
    first a h = go (is_lacking a.decision && is_some a.machine.frozen)
      where
        go : (b : Bool) → is_fault_reply (decision_reply (let x : Attempt = if b then after_more k moment o a (finishing a.machine) else a in x.decision)) ≡ false
        go true = more a (finishing a.machine)
        go false = h

    second : (a : Attempt) → is_fault_reply (decision_reply a.decision) ≡ false → is_fault_reply (decision_reply (after_snapshot k moment o a).decision) ≡ false
    second a h = go (is_lacking a.decision && ((hold_count a.machine == 0) && a.machine.changed))
      where
        go : (b : Bool) → is_fault_reply (decision_reply (let x : Attempt = if b then after_more k moment o a (whole_snapshot a.machine) else a in x.decision)) ≡ false
        go true = more a (whole_snapshot a.machine)
        go false = h

operating_answered : (s : Machine) (k moment : ℕ) (o : Op) → is_fault_reply (operating s k moment o).reply ≡ false
operating_answered s k moment o = go (changes o && s.volume.is_read_only)
  where
    go : (b : Bool) → is_fault_reply (let p : Plan = if b then refused s refusal.ReadOnly else plan_of s (attempt s k moment o) in p.reply) ≡ false
    go true = refl
    go false = attempt_answered s k moment o

syncing_answered : (moment : ℕ) (s : Machine) → is_fault_reply (syncing moment s).reply ≡ false
syncing_answered moment s = go (hold_count s == 0)
  where
    go : (b : Bool) → is_fault_reply (let p : Plan = if b then record { from = s; moves = sync_moves moment s; reply = reply.Done; ending = Stays } else refused s (refusal.Held (hold_count s)) in p.reply) ≡ false
    go true = refl
    go false = refl

directory_answered : (s : Machine) (k : ℕ) (r : Result ℕ Refusal) → Faultless r → is_fault_reply (changing_directory s k r).reply ≡ false
unfolding Faultless
directory_answered s k (Err r) f = f
directory_answered s k (Ok d) f = refl

path_answered : (moment : ℕ) (s : Machine) (r : Result ℕ Refusal) → Faultless r → is_fault_reply (syncing_path moment s r).reply ≡ false
unfolding Faultless
path_answered moment s (Err r) f = f
path_answered moment s (Ok n) f = syncing_answered moment s

directory_faultless : (s : Machine) (k : ℕ) (path : List ℕ) → Faultless (directory_at s k path)
directory_faultless s k path =
    rest_faultless (inode_at s.working.tree (directory_of s k) Followed path) (λ n. refuse_if (not (is_directory s.working.tree n)) refusal.NotDir >> Ok n) (inode_faultless s.working.tree (directory_of s k) Followed path)
    (λ n. test_faultless (not (is_directory s.working.tree n)) refusal.NotDir (Ok n) refl (ok_faultless n))

planned_answered : (s : Machine) (k moment : ℕ) (a : Act) → is_fault_reply (planned s k moment a).reply ≡ false
planned_answered s k moment (act.Op o) = operating_answered s k moment o
planned_answered s k moment (act.Cd path) = directory_answered s k (directory_at s k path) (directory_faultless s k path)
planned_answered s k moment act.Df = refl
planned_answered s k moment act.Hold = refl
planned_answered s k moment act.Unhold = refl
planned_answered s k moment act.Sync = syncing_answered moment s
planned_answered s k moment (act.Fsync path) =
    path_answered moment s (inode_at s.working.tree (directory_of s k) Itself path) (inode_faultless s.working.tree (directory_of s k) Itself path)
planned_answered s k moment act.Tick = refl
planned_answered s k moment act.End = syncing_answered moment (without_holds s)

plan_answered : (s : Machine) (e : VolEvent) → is_fault_reply (plan s e).reply ≡ false
unfolding plan
plan_answered s e = go (lacks_session e)
  where
    go : (b : Bool) → is_fault_reply (let p : Plan = if b then refused s refusal.NoSession else planned s e.session e.moment e.act in p.reply) ≡ false
    go true = refl
    go false = planned_answered s e.session e.moment e.act

-- ---- notices

-- no notice of a list tells of a fault
IsCalm : List Notice → Type 0
IsCalm ns = list_any is_fault_notice ns ≡ false

calm_append : (ns ms : List Notice) → IsCalm ns → IsCalm ms → IsCalm (ns ++ ms)
unfolding IsCalm
calm_append [] ms n m = m
calm_append (x ∷ ns) ms n m = go (is_fault_notice x) (λ h. calm_append ns ms h m) n
  where
    go : (b : Bool) → (IsCalm ns → IsCalm (ns ++ ms)) → (b || list_any is_fault_notice ns) ≡ false → (b || list_any is_fault_notice (ns ++ ms)) ≡ false
    go true more h = absurd (cc)
    go false more h = more h

step_calm : (o : Option Frozen) → IsCalm (told_by_step o)
unfolding IsCalm
step_calm None = refl
step_calm (Some p) = go (is_last_step p)
  where
    go : (last : Bool) → list_any is_fault_notice (told_if last p) ≡ false
    go true = refl
    go false = refl

moves_calm : (moment : ℕ) (ms : List Move) (s : Machine) → IsCalm (told_along moment s ms)
unfolding IsCalm
moves_calm moment [] s = refl
moves_calm moment (Begin ∷ ms) s = moves_calm moment ms (begun moment s)
moves_calm moment (Step ∷ ms) s = calm_append (told_by_step s.frozen) (told_along moment (stepped s s.frozen) ms) (step_calm s.frozen) (moves_calm moment ms (stepped s s.frozen))

-- a turn in which nothing fails tells of no fault
pub calm_turn : (s : Machine) (e : VolEvent) → tells_of_fault (next s e).turn ≡ false
unfolding next_under IsCalm
calm_turn s e =
    let a = act_result no_faults s e in
    let steps = background_moves None a in
    (λ i. plan_answered (timed_begin false e.moment s) e i || list_any is_fault_notice (a.told ++ (told_along e.moment a.machine steps ++ [])))
    ∙ calm_append a.told (told_along e.moment a.machine steps ++ []) (moves_calm e.moment (plan_under no_faults s e).moves (plan_under no_faults s e).from)
    (calm_append (told_along e.moment a.machine steps) [] (moves_calm e.moment steps a.machine) refl)

-- ---- acts that call nothing outside

and_none : (b : Bool) → (b && false) ≡ false
and_none true = refl
and_none false = refl

error_of : {A : Type 0} (x : Result A Refusal) → is_ok x ≡ false → (r : Refusal) × (x ≡ Err r)
error_of (Ok a) h = absurd (cc)
error_of (Err r) h = (r, refl)

-- an operation that its paths refuse lacks no room
refused_decision : (s : Machine) (k moment : ℕ) (o : Op) (r : Refusal) → operation_start (directory_of s k) o ≡ Err r → is_lacking (decision s k moment o) ≡ false
unfolding decision
refused_decision s k moment o r h = go (changes o && is_serial_end s)
  where
    go : (b : Bool) → is_lacking (if b then Refuses refusal.SerialEnd else decided s (operate (setting_of s k moment) s.working.tree o)) ≡ false
    go true = refl
    go false = ap (λ x. is_lacking (decided s x)) (operation_refused (setting_of s k moment) s.working.tree o r h)

-- the plan makes no move from the machine as it is, where the act reads nothing
pub record MakesNoCall (s : Machine) (e : VolEvent) (p : Plan) : Type 0 where
  pub moves : p.moves ≡ []
  pub from : p.from ≡ s
  pub reads : (n : ℕ) → reads_tree n s e ≡ false

record MakesNoMove (s : Machine) (p : Plan) : Type 0 where
  moves : p.moves ≡ []
  from : p.from ≡ s

operating_still : (s : Machine) (k moment : ℕ) (o : Op) → act_calls s k (act.Op o) ≡ false → MakesNoMove s (operating s k moment o)
operating_still s k moment o h = go (changes o && s.volume.is_read_only) h
  where
    go : (b : Bool) → (not b && is_ok (operation_start (directory_of s k) o)) ≡ false → MakesNoMove s (if b then refused s refusal.ReadOnly else plan_of s (attempt s k moment o))
    go true h = record { moves = refl; from = refl }
    go false h =
        let r = error_of (operation_start (directory_of s k) o) h in
        record { moves = ap (λ (a : Attempt). a.moves) (decided_once s k moment o (refused_decision s k moment o r.0 r.1)); from = refl }

planned_still : (s : Machine) (k moment : ℕ) (a : Act) → act_calls s k a ≡ false → MakesNoMove s (planned s k moment a)
planned_still s k moment (act.Op o) h = operating_still s k moment o h
planned_still s k moment (act.Cd path) h = go (directory_at s k path)
  where
    go : (r : Result ℕ Refusal) → MakesNoMove s (changing_directory s k r)
    go (Err r) = record { moves = refl; from = refl }
    go (Ok d) = record { moves = refl; from = refl }
planned_still s k moment act.Df h = record { moves = refl; from = refl }
planned_still s k moment act.Hold h = record { moves = refl; from = refl }
planned_still s k moment act.Unhold h = record { moves = refl; from = refl }
planned_still s k moment act.Tick h = record { moves = refl; from = refl }
planned_still s k moment (act.Fsync path) h =
    let r = error_of (walk_start (directory_of s k) path) h in
    subst (λ x. MakesNoMove s (syncing_path moment s x)) (sym (walk_refused s.working.tree (directory_of s k) Itself path r.0 r.1)) (record { moves = refl; from = refl })
planned_still s k moment act.Sync h = absurd (cc)
planned_still s k moment act.End h = absurd (cc)

unread : (n : ℕ) (s : Machine) (k : ℕ) (a : Act) → act_calls s k a ≡ false → reads_after n s k a ≡ false
unread n s k (act.Op o) h = go (is_between n s) (changes o) s.volume.is_read_only (is_serial_end s) (is_ok (operation_start (directory_of s k) o)) h
  where
    go : (between changing reading spent starts : Bool) → (not (changing && reading) && starts) ≡ false → (between && (not (changing && (reading || spent)) && starts)) ≡ false
    go false changing reading spent starts h = refl
    go true true true spent starts h = refl
    go true true false true starts h = refl
    go true true false false starts h = h
    go true false reading spent starts h = h
unread n s k (act.Cd path) h = ap (λ b. (n == 0) && b) h ∙ and_none (n == 0)
unread n s k (act.Fsync path) h = ap (λ b. (n == 0) && b) h ∙ and_none (n == 0)
unread n s k act.Df h = refl
unread n s k act.Hold h = refl
unread n s k act.Unhold h = refl
unread n s k act.Tick h = refl
unread n s k act.Sync h = refl
unread n s k act.End h = refl

plan_still : (s : Machine) (e : VolEvent) → calls_outside s e ≡ false → MakesNoCall s e (plan s e)
unfolding plan
plan_still s e h = go (lacks_session e) refl h
  where
    go : (b : Bool) → lacks_session e ≡ b → (not b && act_calls s e.session e.act) ≡ false → MakesNoCall s e (if b then refused s refusal.NoSession else planned s e.session e.moment e.act)
    go true is h = record { moves = refl; from = refl; reads = λ n. ap (λ b. not b && reads_after n s e.session e.act) is }
    go false is h =
        let still = planned_still s e.session e.moment e.act h in
        record { moves = still.moves; from = still.from; reads = λ n. ap (λ b. not b && reads_after n s e.session e.act) is ∙ unread n s e.session e.act h }

no_next : (n : ℕ) (m : Move) → (let none : List Move = [] in slice_get none n ≡ Some m) → ⊥
no_next zero m h = cc
no_next (suc n) m h = cc

take_none : (n : ℕ) → (let none : List Move = [] in take n none) ≡ []
take_none zero = refl
take_none (suc n) = refl

-- so nothing stops it
pub unstopped : (s : Machine) (e : VolEvent) (p : Plan) → MakesNoCall s e p → (cause : Cause) (n : ℕ) → MayFail cause e p n → ⊥
unstopped s e p none cause n may = go cause may
  where
    no_move : (m : Move) → slice_get p.moves n ≡ Some m → ⊥
    no_move m h = no_next n m (ap (λ ms. slice_get ms n) (sym none.moves) ∙ h)

    no_read : reads_tree n (after_moves e.moment p.from (take n p.moves)) e ≡ true → ⊥
    no_read h =
        let here : after_moves e.moment p.from (take n p.moves) ≡ s = ap (λ ms. after_moves e.moment p.from ms) (ap (take n) none.moves ∙ take_none n) ∙ none.from in
        true_or_false (reads_tree n s e) (subst (λ m. reads_tree n m e ≡ true) here h) (none.reads n)

    go : (c : Cause) → MayFail c e p n → ⊥
    go StepFails h = no_move Step h
    go ReadFails h = no_read h
    go MemoryFails (inl h) = no_move Begin h
    go MemoryFails (inr h) = no_read h

uncalled : (f : Faults) (s : Machine) (e : VolEvent) → MayCome f s e → calls_outside s e ≡ false → is_fault_reply (next_under f s e).turn.reply ≡ false
unfolding next_under
uncalled f s e may h = go f.act may.act
  where
    begun_alike : (time fails : Bool) → calls_outside (begun_if time fails e.moment s) e ≡ calls_outside s e
    begun_alike false fails = refl
    begun_alike true false = refl
    begun_alike true true = refl

    still : MakesNoCall (timed_begin f.begin e.moment s) e (plan_under f s e)
    still = plan_still (timed_begin f.begin e.moment s) e (begun_alike (is_time_to_begin s e.moment) f.begin ∙ h)

    go : (stop : Option ActFault) → MayFailInAct stop e (plan_under f s e) → is_fault_reply (after_act stop e.moment (plan_under f s e)).reply ≡ false
    go None may = plan_answered (timed_begin f.begin e.moment s) e
    go (Some stop) may = absurd (unstopped (timed_begin f.begin e.moment s) e (plan_under f s e) still stop.cause stop.moves may.1)

-- an act that calls nothing outside is answered by no fault
pub uncalled_answer : (s t : Machine) (e : VolEvent) (turn : Turn) → Next s e turn t → calls_outside s e ≡ false → is_fault_reply turn.reply ≡ false
uncalled_answer s t e turn n h = subst (λ (r : Transition). is_fault_reply r.turn.reply ≡ false) n.ends (uncalled n.faults s e n.may_come h)
