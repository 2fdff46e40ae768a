-- The trees that a cut may leave on the way through a turn are those of the machines before and after it.
use Rattle.std.proofs.Common.{◌≡◌, ℕ, zero, suc, ◌⊎◌, inl, inr, List, [], ◌∷◌, ◌++◌, take, length, refl, sym, ap, ◌∙◌, subst}
use Rattle.std.specs.Prelude.{Bool, true, false, not, ◌&&◌, Option, Some, None, Result, Ok, Err, Contains, replicate, nat_le, is_some, ◌==◌, if◌then◌else◌}
use Rattle.std.proofs.lemmas.List.Elements.{Contains-append_cases, Contains-append_left, Contains-append_right}
use Rattle.std.proofs.Math.Seq.{take-length}
use Rattle.qx_geom.proofs.Truths.{and_right, true_or_false}
use Rattle.qx_geom.proofs.Members.{Contains-cases, Contains-cons, Contains-head}
use Rattle.qx_model.specs.declared.operation.Op.{Op}
use Rattle.qx_model.specs.declared.refusal.Refusal.{Refusal}
use Rattle.qx_model.specs.declared.refusal.Refusal.TheVariants as refusal
use Rattle.qx_model.specs.declared.reply.Reply.TheVariants as reply
use Rattle.qx_model.specs.declared.turn.Act.{Act}
use Rattle.qx_model.specs.declared.turn.Act.TheVariants as act
use Rattle.qx_model.specs.declared.turn.VolEvent.{VolEvent}
use Rattle.qx_model.specs.Requests.{changes}
use Rattle.qx_model.specs.Paths.{Itself, inode_at}
use Rattle.qx_model.specs.Machine.{Frozen, Machine, directory_of, hold_count, session_count, without_holds}
use Rattle.qx_model.specs.Snapshots.{Begin, Move, Step, after_moves, begun, due_of, finishing, is_last_step, is_time_to_begin, step_to, steps_wanted, stepped, whole_snapshot}
use Rattle.qx_model.specs.Decisions.{Attempt, after_finish, after_more, after_snapshot, attempt, first_attempt, is_lacking}
use Rattle.qx_model.specs.Plans.{Becomes, Ending, GoesTo, Holds, Plan, Stays, after_ending, changing_directory, directory_at, is_end, operating, plan, plan_of, planned, refused, sync_moves, syncing, syncing_path}
use Rattle.qx_model.specs.Next.{ActFault, Faults, act_result, after_act, background_moves, begun_if, moves_made, next_under, plan_under, timed_begin}
use Rattle.qx_model.specs.Findable.{FoundTree, IsFoundAmong, IsOnTheWay, before, during_act, during_steps, found_frozen, found_in, found_of, in_act, in_steps}
use Rattle.qx_model.proofs.PlanStarts.{plan_from}
use Rattle.qx_model.proofs.ListMembers.{Contains-none}

-- ---- shapes of moves

-- steps alone
data AreSteps : List Move → Type 0 where
  none : AreSteps []
  step : {ms : List Move} → AreSteps ms → AreSteps (Step ∷ ms)

-- steps, and maybe a begin with steps behind it
data HaveOneBegin : List Move → Type 0 where
  steps : {ms : List Move} → AreSteps ms → HaveOneBegin ms
  begins : {ms : List Move} → AreSteps ms → HaveOneBegin (Begin ∷ ms)
  later : {ms : List Move} → HaveOneBegin ms → HaveOneBegin (Step ∷ ms)

so_many_steps : (n : ℕ) → AreSteps (replicate n Step)
so_many_steps zero = none
so_many_steps (suc n) = step (so_many_steps n)

steps_append : {ms ns : List Move} → AreSteps ms → AreSteps ns → AreSteps (ms ++ ns)
steps_append none t = t
steps_append (step s) t = step (steps_append s t)

begin_append : {ms ns : List Move} → AreSteps ms → HaveOneBegin ns → HaveOneBegin (ms ++ ns)
begin_append none t = t
begin_append (step s) t = later (begin_append s t)

steps_taken : (k : ℕ) {ms : List Move} → AreSteps ms → AreSteps (take k ms)
steps_taken zero {ms = []} none = none
steps_taken zero {ms = m ∷ ms} s = none
steps_taken (suc k) none = none
steps_taken (suc k) (step s) = step (steps_taken k s)

begin_taken : (k : ℕ) {ms : List Move} → HaveOneBegin ms → HaveOneBegin (take k ms)
begin_taken k (steps s) = steps (steps_taken k s)
begin_taken zero (begins s) = steps none
begin_taken (suc k) (begins s) = begins (steps_taken k s)
begin_taken zero (later s) = steps none
begin_taken (suc k) (later s) = later (begin_taken k s)

-- ---- steps find no other tree

-- a step leaves nothing new to be found
step_finds : (s : Machine) (o : Option Frozen) → s.frozen ≡ o → (f : FoundTree) → Contains (found_in (stepped s o)) f → Contains (found_of s.durable ∷ found_frozen o) f
step_finds s None is f c = subst (λ o. Contains (found_of s.durable ∷ found_frozen o) f) is c
step_finds s (Some p) is f c = go (is_last_step p) c
  where
    go : (last : Bool) → Contains (found_in (step_to last s p)) f → Contains (found_of s.durable ∷ found_of p.snapshot ∷ []) f
    go true c = Contains-cons (found_of s.durable) f (found_of p.snapshot ∷ []) c
    go false c = c

one_step_finds : (s : Machine) (f : FoundTree) → Contains (found_in (stepped s s.frozen)) f → Contains (found_in s) f
one_step_finds s f c = step_finds s s.frozen refl f c

steps_find : (moment : ℕ) {ms : List Move} → AreSteps ms → (s : Machine) (f : FoundTree) → Contains (found_in (after_moves moment s ms)) f → Contains (found_in s) f
steps_find moment none s f c = c
steps_find moment (step t) s f c = one_step_finds s f (steps_find moment t (stepped s s.frozen) f c)

-- ---- a tree that is begun stays to be found

-- the tree is that of the snapshot in progress, or the durable one with none in progress
Survives : FoundTree → Machine → Type 0
Survives f s = Contains (found_frozen s.frozen) f ⊎ ((f ≡ found_of s.durable) × (s.frozen ≡ None))

survivor_found : (f : FoundTree) (s : Machine) → Survives f s → Contains (found_in s) f
unfolding Survives
survivor_found f s (inl c) = Contains-cons (found_of s.durable) f (found_frozen s.frozen) c
survivor_found f s (inr d) = subst (λ g. Contains (found_of s.durable ∷ found_frozen s.frozen) g) (sym d.0) (Contains-head (found_of s.durable) (found_frozen s.frozen))

survives_step : (f : FoundTree) (s : Machine) (o : Option Frozen) → s.frozen ≡ o → Survives f s → Survives f (stepped s o)
unfolding Survives
survives_step f s None is v = v
survives_step f s (Some p) is (inr d) = absurd (clash (sym is ∙ d.1))
  where
    clash : Some p ≡ None → ⊥
    clash h = cc
survives_step f s (Some p) is (inl c) = go (is_last_step p) (only (Contains-cases (found_of p.snapshot) f [] (subst (λ o. Contains (found_frozen o) f) is c)))
  where
    only : (found_of p.snapshot ≡ f) ⊎ Contains [] f → found_of p.snapshot ≡ f
    only (inl same) = same
    only (inr more) = absurd (Contains-none f more)

    go : (last : Bool) → found_of p.snapshot ≡ f → Contains (found_frozen (step_to last s p).frozen) f ⊎ ((f ≡ found_of (step_to last s p).durable) × ((step_to last s p).frozen ≡ None))
    go true same = inr (sym same, refl)
    go false same = inl (subst (λ g. Contains (found_of p.snapshot ∷ []) g) same (Contains-head (found_of p.snapshot) []))

survives_steps : (moment : ℕ) {ms : List Move} → AreSteps ms → (f : FoundTree) (s : Machine) → Survives f s → Survives f (after_moves moment s ms)
survives_steps moment none f s v = v
survives_steps moment (step t) f s v = survives_steps moment t f (stepped s s.frozen) (survives_step f s s.frozen refl v)

-- the tree of a snapshot that begins
begun_survives : (moment : ℕ) (s : Machine) (f : FoundTree) → Contains (found_frozen (begun moment s).frozen) f → Survives f (begun moment s)
unfolding Survives
begun_survives moment s f c = inl c

holds_dropped : (f : FoundTree) (s : Machine) → Survives f s → Survives f (without_holds s)
unfolding Survives
holds_dropped f s v = v

survives_ending : (e : Ending) (f : FoundTree) (s : Machine) → Survives f s → Survives f (after_ending e s)
unfolding Survives
survives_ending Stays f s v = v
survives_ending (Becomes e) f s v = v
survives_ending (GoesTo k d) f s v = v
survives_ending (Holds k b) f s v = v

ending_finds : (e : Ending) (s : Machine) → found_in (after_ending e s) ≡ found_in s
ending_finds Stays s = refl
ending_finds (Becomes e) s = refl
ending_finds (GoesTo k d) s = refl
ending_finds (Holds k b) s = refl

-- ---- moves with one begin

-- what is found on the way is found at the start, or where the tree that is begun is found later
moves_find : (moment : ℕ) {ms : List Move} → HaveOneBegin ms → (s t : Machine) → ((f : FoundTree) → Survives f (after_moves moment s ms) → Contains (found_in t) f)
    → (k : ℕ) (f : FoundTree) → Contains (found_in (after_moves moment s (take k ms))) f → Contains (found_in s ++ found_in t) f
moves_find moment (steps u) s t end k f c = Contains-append_left (found_in s) (found_in t) f (steps_find moment (steps_taken k u) s f c)
moves_find moment (begins u) s t end zero f c = Contains-append_left (found_in s) (found_in t) f c
moves_find moment (begins u) s t end (suc k) f c = go (Contains-cases (found_of s.durable) f (found_frozen (begun moment s).frozen) (steps_find moment (steps_taken k u) (begun moment s) f c))
  where
    go : (found_of s.durable ≡ f) ⊎ Contains (found_frozen (begun moment s).frozen) f → Contains (found_in s ++ found_in t) f
    go (inl same) = Contains-append_left (found_in s) (found_in t) f (subst (λ g. Contains (found_in s) g) same (Contains-head (found_of s.durable) (found_frozen s.frozen)))
    go (inr b) = Contains-append_right (found_in s) (found_in t) f (end f (survives_steps moment u f (begun moment s) (begun_survives moment s f b)))
moves_find moment (later u) s t end zero f c = Contains-append_left (found_in s) (found_in t) f c
moves_find moment (later u) s t end (suc k) f c = go (Contains-append_cases (found_in (stepped s s.frozen)) (found_in t) f (moves_find moment u (stepped s s.frozen) t end k f c))
  where
    go : Contains (found_in (stepped s s.frozen)) f ⊎ Contains (found_in t) f → Contains (found_in s ++ found_in t) f
    go (inl a) = Contains-append_left (found_in s) (found_in t) f (one_step_finds s f a)
    go (inr b) = Contains-append_right (found_in s) (found_in t) f b

-- ---- plans

-- a plan's moves begin one snapshot at most, and none where there is nothing to keep
record IsModest (changed : Bool) (ms : List Move) : Type 0 where
  one : HaveOneBegin ms
  quiet : changed ≡ false → AreSteps ms

modest_steps : (changed : Bool) {ms : List Move} → AreSteps ms → IsModest changed ms
modest_steps changed s = record { one = steps s; quiet = λ h. s }

step_keeps_changed : (s : Machine) (o : Option Frozen) → (stepped s o).changed ≡ s.changed
step_keeps_changed s None = refl
step_keeps_changed s (Some p) = go (is_last_step p)
  where
    go : (last : Bool) → (step_to last s p).changed ≡ s.changed
    go true = refl
    go false = refl

steps_keep_changed : (moment : ℕ) {ms : List Move} → AreSteps ms → (s : Machine) → (after_moves moment s ms).changed ≡ s.changed
steps_keep_changed moment none s = refl
steps_keep_changed moment (step t) s = steps_keep_changed moment t (stepped s s.frozen) ∙ step_keeps_changed s s.frozen

-- steps, and a whole snapshot where there is something to keep
modest_snapshot : (changed : Bool) (m : Machine) {ms : List Move} → AreSteps ms → m.changed ≡ changed → m.changed ≡ true → IsModest changed (ms ++ whole_snapshot m)
modest_snapshot changed m t same is = record {
  one = begin_append t (begins (so_many_steps (steps_wanted m)));
  quiet = λ h. absurd (true_or_false m.changed is (same ∙ h));
}

-- ---- attempts

finish_steps : (s : Machine) (k moment : ℕ) (o : Op) → AreSteps (after_finish k moment o (first_attempt s k moment o)).moves
finish_steps s k moment o = go (is_lacking (first_attempt s k moment o).decision && is_some s.frozen)
  where
    go : (b : Bool) → AreSteps (let x : Attempt = if b then after_more k moment o (first_attempt s k moment o) (finishing s) else first_attempt s k moment o in x.moves)
    go true = so_many_steps (due_of s.frozen)
    go false = none

finish_keeps_changed : (s : Machine) (k moment : ℕ) (o : Op) → (after_finish k moment o (first_attempt s k moment o)).machine.changed ≡ s.changed
finish_keeps_changed s k moment o = go (is_lacking (first_attempt s k moment o).decision && is_some s.frozen)
  where
    go : (b : Bool) → (let x : Attempt = if b then after_more k moment o (first_attempt s k moment o) (finishing s) else first_attempt s k moment o in x.machine.changed) ≡ s.changed
    go true = steps_keep_changed moment (so_many_steps (due_of s.frozen)) s
    go false = refl

snapshot_modest : (changed : Bool) (k moment : ℕ) (o : Op) (a : Attempt) → AreSteps a.moves → a.machine.changed ≡ changed → IsModest changed (after_snapshot k moment o a).moves
snapshot_modest changed k moment o a t same = go (is_lacking a.decision && ((hold_count a.machine == 0) && a.machine.changed)) refl
  where
    go : (b : Bool) → (is_lacking a.decision && ((hold_count a.machine == 0) && a.machine.changed)) ≡ b
        → IsModest changed (let x : Attempt = if b then after_more k moment o a (whole_snapshot a.machine) else a in x.moves)
    go true is = modest_snapshot changed a.machine t same (and_right (hold_count a.machine == 0) a.machine.changed (and_right (is_lacking a.decision) ((hold_count a.machine == 0) && a.machine.changed) is))
    go false is = modest_steps changed t

attempt_modest : (s : Machine) (k moment : ℕ) (o : Op) → IsModest s.changed (attempt s k moment o).moves
attempt_modest s k moment o =
    snapshot_modest s.changed k moment o (after_finish k moment o (first_attempt s k moment o)) (finish_steps s k moment o) (finish_keeps_changed s k moment o)

-- ---- acts

operating_modest : (s : Machine) (k moment : ℕ) (o : Op) → IsModest s.changed (operating s k moment o).moves
operating_modest s k moment o = go (changes o && s.volume.is_read_only)
  where
    go : (b : Bool) → IsModest s.changed (let p : Plan = if b then refused s refusal.ReadOnly else plan_of s (attempt s k moment o) in p.moves)
    go true = modest_steps s.changed none
    go false = attempt_modest s k moment o

sync_modest : (moment : ℕ) (s : Machine) → IsModest s.changed (sync_moves moment s)
sync_modest moment s = go (after_moves moment s (finishing s)).changed refl
  where
    m : Machine
    m = after_moves moment s (finishing s)

    go : (b : Bool) → (after_moves moment s (finishing s)).changed ≡ b → IsModest s.changed (finishing s ++ (if b then whole_snapshot (after_moves moment s (finishing s)) else []))
    go true is = modest_snapshot s.changed (after_moves moment s (finishing s)) (so_many_steps (due_of s.frozen)) (steps_keep_changed moment (so_many_steps (due_of s.frozen)) s) is
    go false is = modest_steps s.changed (steps_append (so_many_steps (due_of s.frozen)) none)

syncing_modest : (moment : ℕ) (s : Machine) → IsModest s.changed (syncing moment s).moves
syncing_modest moment s = go (hold_count s == 0)
  where
    go : (b : Bool) → IsModest s.changed (let p : Plan = if b then record { from = s; moves = sync_moves moment s; reply = reply.Done; ending = Stays } else refused s (refusal.Held (hold_count s)) in p.moves)
    go true = sync_modest moment s
    go false = modest_steps s.changed none

directory_modest : (s : Machine) (k : ℕ) (r : Result ℕ Refusal) → IsModest s.changed (changing_directory s k r).moves
directory_modest s k (Err r) = modest_steps s.changed none
directory_modest s k (Ok d) = modest_steps s.changed none

path_modest : (moment : ℕ) (s : Machine) (r : Result ℕ Refusal) → IsModest s.changed (syncing_path moment s r).moves
path_modest moment s (Err r) = modest_steps s.changed none
path_modest moment s (Ok n) = syncing_modest moment s

planned_modest : (s : Machine) (k moment : ℕ) (a : Act) → IsModest s.changed (planned s k moment a).moves
planned_modest s k moment (act.Op o) = operating_modest s k moment o
planned_modest s k moment (act.Cd path) = directory_modest s k (directory_at s k path)
planned_modest s k moment act.Df = modest_steps s.changed none
planned_modest s k moment act.Hold = modest_steps s.changed none
planned_modest s k moment act.Unhold = modest_steps s.changed none
planned_modest s k moment act.Sync = syncing_modest moment s
planned_modest s k moment (act.Fsync path) = path_modest moment s (inode_at s.working.tree (directory_of s k) Itself path)
planned_modest s k moment act.Tick = modest_steps s.changed none
planned_modest s k moment act.End = syncing_modest moment (without_holds s)

plan_modest : (s : Machine) (e : VolEvent) → IsModest s.changed (plan s e).moves
unfolding plan
plan_modest s e = go (nat_le session_count e.session && not (is_end e.act))
  where
    go : (b : Bool) → IsModest s.changed (let p : Plan = if b then refused s refusal.NoSession else planned s e.session e.moment e.act in p.moves)
    go true = modest_steps s.changed none
    go false = planned_modest s e.session e.moment e.act

made_one : (stop : Option ActFault) (p : Plan) → HaveOneBegin p.moves → HaveOneBegin (moves_made stop p)
made_one None p h = h
made_one (Some stop) p h = begin_taken stop.moves h

made_steps : (stop : Option ActFault) (p : Plan) → AreSteps p.moves → AreSteps (moves_made stop p)
made_steps None p h = h
made_steps (Some stop) p h = steps_taken stop.moves h

-- ---- turns

-- after an act the same is found as after its moves
act_finds : (stop : Option ActFault) (moment : ℕ) (p : Plan) → found_in (after_act stop moment p).machine ≡ found_in (after_moves moment p.from (moves_made stop p))
act_finds None moment p = ending_finds p.ending (after_moves moment p.from p.moves)
act_finds (Some stop) moment p = refl

act_survives : (stop : Option ActFault) (moment : ℕ) (p : Plan) (f : FoundTree) → Survives f (after_moves moment p.from (moves_made stop p)) → Survives f (after_act stop moment p).machine
act_survives None moment p f v = survives_ending p.ending f (after_moves moment p.from p.moves) v
act_survives (Some stop) moment p f v = v

module _ (fs : Faults) (s : Machine) (e : VolEvent) where
  -- the machine after the turn
  abbrev last : Machine
  last = after_moves e.moment (act_result fs s e).machine (background_moves fs.background (act_result fs s e))

  background : AreSteps (background_moves fs.background (act_result fs s e))
  background = so_many_steps _

  -- what survives the act is found after the turn
  survives_turn : (f : FoundTree) → Survives f (after_moves e.moment (plan_under fs s e).from (moves_made fs.act (plan_under fs s e))) → Contains (found_in last) f
  survives_turn f v = survivor_found f last (survives_steps e.moment background f (act_result fs s e).machine (act_survives fs.act e.moment (plan_under fs s e) f v))

  -- what is found after so many background steps is found after the moves of the act
  steps_find_acted : (k : ℕ) (f : FoundTree) → Contains (found_in (during_steps fs s e k)) f
      → Contains (found_in (after_moves e.moment (plan_under fs s e).from (take (length (moves_made fs.act (plan_under fs s e))) (moves_made fs.act (plan_under fs s e))))) f
  steps_find_acted k f c =
      subst (λ ms. Contains (found_in (after_moves e.moment (plan_under fs s e).from ms)) f) (sym (take-length (moves_made fs.act (plan_under fs s e))))
      (subst (λ xs. Contains xs f) (act_finds fs.act e.moment (plan_under fs s e)) (steps_find e.moment (steps_taken k background) (act_result fs s e).machine f c))

  -- the plan begins where the same is found as after the timed begin
  from_finds : found_in (plan_under fs s e).from ≡ found_in (timed_begin fs.begin e.moment s)
  from_finds = plan_from (λ m. found_in m ≡ found_in (timed_begin fs.begin e.moment s)) (timed_begin fs.begin e.moment s) e (λ h. h) refl

  -- a turn whose timed begin is made
  with_begin : timed_begin fs.begin e.moment s ≡ begun e.moment s → (k : ℕ) → IsFoundAmong (during_act fs s e k) s last
  with_begin is k f c =
      go (Contains-cases (found_of s.durable) f (found_frozen (begun e.moment s).frozen)
      (subst (λ m. Contains (found_in m) f) is (subst (λ xs. Contains xs f) from_finds (steps_find e.moment (steps_taken k made) (plan_under fs s e).from f c))))
    where
      made : AreSteps (moves_made fs.act (plan_under fs s e))
      made = made_steps fs.act (plan_under fs s e) ((plan_modest (timed_begin fs.begin e.moment s) e).quiet (ap (λ (m : Machine). m.changed) is))

      begun_from : Survives f (begun e.moment s) → Survives f (plan_under fs s e).from
      begun_from v = plan_from (Survives f) (timed_begin fs.begin e.moment s) e (λ w. without w) (subst (Survives f) (sym is) v)
        where
          without : Survives f (timed_begin fs.begin e.moment s) → Survives f (without_holds (timed_begin fs.begin e.moment s))
          without w = holds_dropped f (timed_begin fs.begin e.moment s) w

      go : (found_of s.durable ≡ f) ⊎ Contains (found_frozen (begun e.moment s).frozen) f → Contains (found_in s ++ found_in last) f
      go (inl same) = Contains-append_left (found_in s) (found_in last) f (subst (λ g. Contains (found_in s) g) same (Contains-head (found_of s.durable) (found_frozen s.frozen)))
      go (inr b) = Contains-append_right (found_in s) (found_in last) f (survives_turn f (survives_steps e.moment made f (plan_under fs s e).from (begun_from (begun_survives e.moment s f b))))

  -- and one whose timed begin isn't
  without_begin : timed_begin fs.begin e.moment s ≡ s → (k : ℕ) → IsFoundAmong (during_act fs s e k) s last
  without_begin is k f c =
      subst (λ xs. Contains (xs ++ found_in last) f) (from_finds ∙ ap found_in is)
      (moves_find e.moment (made_one fs.act (plan_under fs s e) (plan_modest (timed_begin fs.begin e.moment s) e).one) (plan_under fs s e).from last survives_turn k f c)

  in_the_act : (k : ℕ) → IsFoundAmong (during_act fs s e k) s last
  in_the_act = by_begin (is_time_to_begin s e.moment) fs.begin refl
    where
      by_begin : (time fails : Bool) → begun_if (is_time_to_begin s e.moment) fs.begin e.moment s ≡ begun_if time fails e.moment s → (k : ℕ) → IsFoundAmong (during_act fs s e k) s last
      by_begin false fails is = without_begin is
      by_begin true false is = with_begin is
      by_begin true true is = without_begin is

  on_the_way : {u : Machine} → IsOnTheWay fs s e u → IsFoundAmong u s last
  on_the_way before f c = Contains-append_left (found_in s) (found_in last) f c
  on_the_way (in_act k) f c = in_the_act k f c
  on_the_way (in_steps k) f c = in_the_act (length (moves_made fs.act (plan_under fs s e))) f (steps_find_acted k f c)

  -- what a cut may leave on the way through a turn, it may leave before the turn or after it
  pub turn_finds : (u : Machine) → IsOnTheWay fs s e u → IsFoundAmong u s (next_under fs s e).machine
  unfolding next_under
  turn_finds u w = on_the_way w
