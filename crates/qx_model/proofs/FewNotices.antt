-- A turn tells at most three things: each snapshot that is done was in progress or began in the act, and an act begins one at most.
use Rattle.std.proofs.Common.{◌≡◌, ℕ, zero, suc, ◌+◌, ◌≤◌, List, [], ◌∷◌, ◌++◌, length, refl, ap, subst, arith, length-append}
use Rattle.std.specs.Prelude.{Bool, true, false, not, ◌&&◌, Option, Some, None, Result, Ok, Err, is_none, is_some, nat_le, replicate, take, ◌==◌, if◌then◌else◌}
use Rattle.qx_geom.proofs.Truths.{and_left, and_right}
use Rattle.qx_model.specs.declared.operation.Op.{Op}
use Rattle.qx_model.specs.declared.reply.Reply.TheVariants as reply
use Rattle.qx_model.specs.declared.refusal.Refusal.{Refusal}
use Rattle.qx_model.specs.declared.refusal.Refusal.TheVariants as refusal
use Rattle.qx_model.specs.declared.turn.Act.{Act}
use Rattle.qx_model.specs.declared.turn.Act.TheVariants as act
use Rattle.qx_model.specs.declared.turn.VolEvent.{VolEvent}
use Rattle.qx_model.specs.declared.turn.Turn.{Turn}
use Rattle.qx_model.specs.Requests.{changes}
use Rattle.qx_model.specs.Paths.{Itself, inode_at}
use Rattle.qx_model.specs.Machine.{Frozen, Machine, directory_of, hold_count, session_count, without_holds}
use Rattle.qx_model.specs.Snapshots.{Begin, Move, Step, after_moves, begun, due_of, finishing, is_last_step, is_time_to_begin, step_to, stepped, steps_wanted, told_along, told_by_step, told_if, whole_snapshot}
use Rattle.qx_model.specs.Decisions.{Attempt, after_finish, after_more, after_snapshot, attempt, first_attempt, is_lacking}
use Rattle.qx_model.specs.Plans.{Becomes, Ending, GoesTo, Holds, Plan, Stays, after_ending, changing_directory, directory_at, is_end, operating, plan, plan_of, planned, refused, snapshot_if_changed, sync_moves, syncing, syncing_path}
use Rattle.qx_model.specs.Next.{ActFault, Faults, MayCome, Next, Transition, act_result, after_act, background_moves, begun_if, next_under, steps_made, timed_begin, told_by_begin, told_by_fault}
use Rattle.qx_model.proofs.PlanStarts.{plan_from}

-- ---- moves

-- one snapshot, where one is in progress
pending : Option Frozen → ℕ
pending None = 0
pending (Some p) = 1

-- how many snapshots begin
begins : List Move → ℕ
begins [] = 0
begins (Begin ∷ ms) = suc (begins ms)
begins (Step ∷ ms) = begins ms

begins-append : (ms ns : List Move) → begins (ms ++ ns) ≡ begins ms + begins ns
unfolding begins
begins-append [] ns = omega arith
begins-append (Begin ∷ ms) ns = let rest = begins-append ms ns in omega arith
begins-append (Step ∷ ms) ns = begins-append ms ns

no_begins : (n : ℕ) → begins (replicate n Step) ≡ 0
unfolding begins
no_begins zero = refl
no_begins (suc n) = no_begins n

begins-take : (n : ℕ) (ms : List Move) → begins (take n ms) ≤ begins ms
unfolding begins
begins-take zero ms = omega arith
begins-take (suc n) [] = omega arith
begins-take (suc n) (Begin ∷ ms) = let less = begins-take n ms in omega arith
begins-take (suc n) (Step ∷ ms) = begins-take n ms

-- a step tells of the snapshot that it ends
step_bound : (s : Machine) (o : Option Frozen) → s.frozen ≡ o → length (told_by_step o) + pending (stepped s o).frozen ≤ pending o
unfolding pending
step_bound s None is = let none : pending s.frozen ≡ 0 = ap pending is in omega arith
step_bound s (Some p) is = go (is_last_step p)
  where
    go : (last : Bool) → length (told_if last p) + pending (step_to last s p).frozen ≤ 1
    go true = omega arith
    go false = omega arith

-- what moves tell is no more than the snapshots that were in progress or began
told_bound : (moment : ℕ) (ms : List Move) (s : Machine) → length (told_along moment s ms) + pending (after_moves moment s ms).frozen ≤ pending s.frozen + begins ms
unfolding pending begins
told_bound moment [] s = omega arith
told_bound moment (Begin ∷ ms) s = let rest = told_bound moment ms (begun moment s) in omega arith
told_bound moment (Step ∷ ms) s =
    let rest = told_bound moment ms (stepped s s.frozen) in
    let one = step_bound s s.frozen refl in
    omega (arith, length-append (told_by_step s.frozen) (told_along moment (stepped s s.frozen) ms))

-- ---- plans

whole_begins : (s : Machine) → begins (whole_snapshot s) ≡ 1
unfolding begins
whole_begins s = ap (λ n. suc n) (no_begins (steps_wanted s))

attempt_begins : (s : Machine) (k moment : ℕ) (o : Op) → begins (attempt s k moment o).moves ≤ 1
unfolding begins
attempt_begins s k moment o = second (after_finish k moment o (first_attempt s k moment o)) (first (first_attempt s k moment o) refl)
  where
    first : (a : Attempt) → begins a.moves ≡ 0 → begins (after_finish k moment o a).moves ≡ 0
    first a h = go (is_lacking a.decision && is_some a.machine.frozen)
      where
        go : (b : Bool) → begins (let r : Attempt = if b then after_more k moment o a (finishing a.machine) else a in r.moves) ≡ 0
        go true = let joined = begins-append a.moves (finishing a.machine) in let none = no_begins (due_of a.machine.frozen) in omega arith
        go false = h

    second : (a : Attempt) → begins a.moves ≡ 0 → begins (after_snapshot k moment o a).moves ≤ 1
    second a h = go (is_lacking a.decision && ((hold_count a.machine == 0) && a.machine.changed))
      where
        go : (b : Bool) → begins (let r : Attempt = if b then after_more k moment o a (whole_snapshot a.machine) else a in r.moves) ≤ 1
        go true = let joined = begins-append a.moves (whole_snapshot a.machine) in let one = whole_begins a.machine in omega arith
        go false = omega arith

sync_begins : (moment : ℕ) (s : Machine) → begins (sync_moves moment s) ≤ 1
unfolding begins
sync_begins moment s = let none = no_begins (due_of s.frozen) in let joined = begins-append (finishing s) (snapshot_if_changed t) in let one = rest t.changed in omega arith
  where
    t : Machine
    t = after_moves moment s (finishing s)

    rest : (b : Bool) → begins (if b then whole_snapshot t else []) ≤ 1
    rest true = let one = whole_begins t in omega arith
    rest false = omega arith

operating_begins : (s : Machine) (k moment : ℕ) (o : Op) → begins (operating s k moment o).moves ≤ 1
unfolding begins
operating_begins s k moment o = go (changes o && s.volume.is_read_only)
  where
    go : (b : Bool) → begins (let p : Plan = if b then refused s refusal.ReadOnly else plan_of s (attempt s k moment o) in p.moves) ≤ 1
    go true = omega arith
    go false = attempt_begins s k moment o

syncing_begins : (moment : ℕ) (s : Machine) → begins (syncing moment s).moves ≤ 1
unfolding begins
syncing_begins moment s = go (hold_count s == 0)
  where
    go : (b : Bool) → begins (let p : Plan = if b then record { from = s; moves = sync_moves moment s; reply = reply.Done; ending = Stays } else refused s (refusal.Held (hold_count s)) in p.moves) ≤ 1
    go true = sync_begins moment s
    go false = omega arith

directory_begins : (s : Machine) (k : ℕ) (r : Result ℕ Refusal) → begins (changing_directory s k r).moves ≤ 1
unfolding begins
directory_begins s k (Err r) = omega arith
directory_begins s k (Ok d) = omega arith

path_begins : (moment : ℕ) (s : Machine) (r : Result ℕ Refusal) → begins (syncing_path moment s r).moves ≤ 1
unfolding begins
path_begins moment s (Err r) = omega arith
path_begins moment s (Ok n) = syncing_begins moment s

planned_begins : (s : Machine) (k moment : ℕ) (a : Act) → begins (planned s k moment a).moves ≤ 1
unfolding begins
planned_begins s k moment (act.Op o) = operating_begins s k moment o
planned_begins s k moment (act.Cd path) = directory_begins s k (directory_at s k path)
planned_begins s k moment act.Df = omega arith
planned_begins s k moment act.Hold = omega arith
planned_begins s k moment act.Unhold = omega arith
planned_begins s k moment act.Sync = syncing_begins moment s
planned_begins s k moment (act.Fsync path) = path_begins moment s (inode_at s.working.tree (directory_of s k) Itself path)
planned_begins s k moment act.Tick = omega arith
planned_begins s k moment act.End = syncing_begins moment (without_holds s)

-- an act begins one snapshot at most
plan_begins : (s : Machine) (e : VolEvent) → begins (plan s e).moves ≤ 1
unfolding plan begins
plan_begins s e = go (nat_le session_count e.session && not (is_end e.act))
  where
    go : (b : Bool) → begins (let p : Plan = if b then refused s refusal.NoSession else planned s e.session e.moment e.act in p.moves) ≤ 1
    go true = omega arith
    go false = planned_begins s e.session e.moment e.act

-- ---- turns

-- want of memory is told where nothing is in progress
begin_bound : (s : Machine) (fails : Bool) (moment : ℕ) → (fails ≡ true → is_time_to_begin s moment ≡ true) → length (told_by_begin fails) + pending (timed_begin fails moment s).frozen ≤ 1
unfolding pending
begin_bound s false moment comes = at_most (timed_begin false moment s).frozen
  where
    at_most : (o : Option Frozen) → 0 + pending o ≤ 1
    at_most None = omega arith
    at_most (Some p) = omega arith
begin_bound s true moment comes =
    let time = comes refl in
    let none = and_left (is_none s.frozen) _ (and_right (not s.volume.is_read_only) _ time) in
    go (is_time_to_begin s moment) (empty s.frozen none)
  where
    empty : (o : Option Frozen) → is_none o ≡ true → pending o ≡ 0
    empty None h = refl
    empty (Some p) h = absurd (cc)

    go : (b : Bool) → pending s.frozen ≡ 0 → 1 + pending (begun_if b true moment s).frozen ≤ 1
    go true h = omega arith
    go false h = omega arith

ending_pending : (e : Ending) (s : Machine) → pending (after_ending e s).frozen ≡ pending s.frozen
ending_pending Stays s = refl
ending_pending (Becomes e) s = refl
ending_pending (GoesTo k d) s = refl
ending_pending (Holds k b) s = refl

act_bound : (stop : Option ActFault) (moment : ℕ) (p : Plan) → begins p.moves ≤ 1 → length (after_act stop moment p).told + pending (after_act stop moment p).machine.frozen ≤ pending p.from.frozen + 1
act_bound None moment p one = let told = told_bound moment p.moves p.from in let same = ending_pending p.ending (after_moves moment p.from p.moves) in omega arith
act_bound (Some stop) moment p one = let told = told_bound moment (take stop.moves p.moves) p.from in let less = begins-take stop.moves p.moves in omega arith

fault_bound : (o : Option ℕ) → length (told_by_fault o) ≤ 1
fault_bound None = omega arith
fault_bound (Some good) = omega arith

next_bound : (f : Faults) (s : Machine) (e : VolEvent) → MayCome f s e → length (next_under f s e).turn.notices ≤ 3
unfolding next_under
next_bound f s e may =
    let t = timed_begin f.begin e.moment s in
    let p = plan t e in
    let from : pending p.from.frozen ≡ pending t.frozen = plan_from (λ (m : Machine). pending m.frozen ≡ pending t.frozen) t e (λ h. h) refl in
    let a = act_result f s e in
    let steps = background_moves f.background a in
    let one = begin_bound s f.begin e.moment may.begin in
    let two = act_bound f.act e.moment p (plan_begins t e) in
    let three = told_bound e.moment steps a.machine in
    let none = no_begins (steps_made a.is_step_failed f.background a.machine) in
    let four = fault_bound f.background in
    omega (
      arith,
      length-append (told_by_begin f.begin) (a.told ++ (told_along e.moment a.machine steps ++ told_by_fault f.background)),
      length-append a.told (told_along e.moment a.machine steps ++ told_by_fault f.background),
      length-append (told_along e.moment a.machine steps) (told_by_fault f.background),
    )

-- a turn tells at most three things
pub few_notices : (s t : Machine) (e : VolEvent) (turn : Turn) → Next s e turn t → length turn.notices ≤ 3
few_notices s t e turn n = subst (λ (r : Transition). length r.turn.notices ≤ 3) n.ends (next_bound n.faults s e n.may_come)
