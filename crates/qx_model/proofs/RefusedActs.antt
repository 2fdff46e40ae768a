-- An act that is refused leaves the working copy and the sessions; the end drops the holds.
use Rattle.std.proofs.Common.{◌≡◌, ℕ, refl, sym, ap, ◌∙◌, subst}
use Rattle.std.specs.Prelude.{Bool, true, false, not, ◌&&◌, map, Option, Some, None, Result, Ok, Err, nat_le, take, ◌==◌, if◌then◌else◌}
use Rattle.qx_model.specs.declared.operation.Op.{Op}
use Rattle.qx_model.specs.declared.reply.Reply.TheVariants as reply
use Rattle.qx_model.specs.declared.refusal.Refusal.{Refusal}
use Rattle.qx_model.specs.declared.refusal.Refusal.TheVariants as refusal
use Rattle.qx_model.specs.declared.turn.Act.{Act}
use Rattle.qx_model.specs.declared.turn.Act.TheVariants as act
use Rattle.qx_model.specs.declared.turn.VolEvent.{VolEvent}
use Rattle.qx_model.specs.declared.turn.Turn.{Turn}
use Rattle.qx_model.specs.Requests.{changes}
use Rattle.qx_model.specs.Effects.{Answers, Edits}
use Rattle.qx_model.specs.Paths.{Itself, inode_at}
use Rattle.qx_model.specs.Machine.{Machine, directory_of, hold_count, holding, session_count, without_holds}
use Rattle.qx_model.specs.Snapshots.{after_moves}
use Rattle.qx_model.specs.Decisions.{Decision, Fits, Lacks, Refuses, attempt}
use Rattle.qx_model.specs.Plans.{Plan, Stays, after_ending, changing_directory, decision_ending, decision_reply, directory_at, is_end, lacks_session, operating, plan, plan_of, planned, refused, sync_moves, syncing, syncing_path}
use Rattle.qx_model.specs.Next.{ActFault, Faults, Next, Transition, act_result, after_act, background_moves, next_under, plan_under, timed_begin}
use Rattle.qx_model.specs.Faults.{is_refused}
use Rattle.qx_model.proofs.PlanStarts.{plan_from, plan_from_unless_end}
use Rattle.qx_model.proofs.KeptSettings.{DiffersInSnapshots, begin_leaves_settings, moves_leave, then_but_snapshots}

-- ---- plans

-- where a plan's reply refuses, it ends nothing
LeavesRefused : Plan → Type 0
LeavesRefused p = is_refused p.reply ≡ true → p.ending ≡ Stays

decision_leaves : (d : Decision) → is_refused (decision_reply d) ≡ true → decision_ending d ≡ Stays
decision_leaves (Refuses r) h = refl
decision_leaves (Lacks need free) h = refl
decision_leaves (Fits (Answers r)) h = refl
decision_leaves (Fits (Edits is_removing e)) h = absurd (cc)

operating_leaves : (s : Machine) (k moment : ℕ) (o : Op) → LeavesRefused (operating s k moment o)
unfolding LeavesRefused
operating_leaves s k moment o = go (changes o && s.volume.is_read_only)
  where
    go : (b : Bool) → LeavesRefused (if b then refused s refusal.ReadOnly else plan_of s (attempt s k moment o))
    go true h = refl
    go false h = decision_leaves (attempt s k moment o).decision h

syncing_stays : (moment : ℕ) (s : Machine) → (syncing moment s).ending ≡ Stays
syncing_stays moment s = go (hold_count s == 0)
  where
    go : (b : Bool) → (let p : Plan = if b then record { from = s; moves = sync_moves moment s; reply = reply.Done; ending = Stays } else refused s (refusal.Held (hold_count s)) in p.ending) ≡ Stays
    go true = refl
    go false = refl

directory_leaves : (s : Machine) (k : ℕ) (r : Result ℕ Refusal) → LeavesRefused (changing_directory s k r)
unfolding LeavesRefused
directory_leaves s k (Err r) h = refl
directory_leaves s k (Ok d) h = absurd (cc)

path_stays : (moment : ℕ) (s : Machine) (r : Result ℕ Refusal) → (syncing_path moment s r).ending ≡ Stays
path_stays moment s (Err r) = refl
path_stays moment s (Ok n) = syncing_stays moment s

planned_leaves : (s : Machine) (k moment : ℕ) (a : Act) → LeavesRefused (planned s k moment a)
unfolding LeavesRefused
planned_leaves s k moment (act.Op o) h = operating_leaves s k moment o h
planned_leaves s k moment (act.Cd path) h = directory_leaves s k (directory_at s k path) h
planned_leaves s k moment act.Df h = refl
planned_leaves s k moment act.Hold h = absurd (cc)
planned_leaves s k moment act.Unhold h = absurd (cc)
planned_leaves s k moment act.Sync h = syncing_stays moment s
planned_leaves s k moment (act.Fsync path) h = path_stays moment s (inode_at s.working.tree (directory_of s k) Itself path)
planned_leaves s k moment act.Tick h = refl
planned_leaves s k moment act.End h = syncing_stays moment (without_holds s)

plan_leaves : (s : Machine) (e : VolEvent) → is_refused (plan s e).reply ≡ true → (plan s e).ending ≡ Stays
unfolding plan LeavesRefused
plan_leaves s e = go (lacks_session e)
  where
    go : (b : Bool) → LeavesRefused (if b then refused s refusal.NoSession else planned s e.session e.moment e.act)
    go true h = refl
    go false h = planned_leaves s e.session e.moment e.act h

-- the end begins without holds, and ends nothing
record IsEndPlan (s : Machine) (p : Plan) : Type 0 where
  from : p.from ≡ without_holds s
  ending : p.ending ≡ Stays

end_syncs : (moment : ℕ) (s : Machine) → IsEndPlan s (syncing moment (without_holds s))
end_syncs moment s = record { from = go (hold_count (without_holds s) == 0); ending = syncing_stays moment (without_holds s) }
  where
    go : (b : Bool) → (let p : Plan = if b then record { from = without_holds s; moves = sync_moves moment (without_holds s); reply = reply.Done; ending = Stays } else refused (without_holds s) (refusal.Held (hold_count (without_holds s))) in p.from)
        ≡ without_holds s
    go true = refl
    go false = refl

is_the_end : (a : Act) → is_end a ≡ true → a ≡ act.End
is_the_end act.End h = refl
is_the_end (act.Op o) h = absurd (cc)
is_the_end (act.Cd path) h = absurd (cc)
is_the_end act.Df h = absurd (cc)
is_the_end act.Hold h = absurd (cc)
is_the_end act.Unhold h = absurd (cc)
is_the_end act.Sync h = absurd (cc)
is_the_end (act.Fsync path) h = absurd (cc)
is_the_end act.Tick h = absurd (cc)

plan_end : (s : Machine) (e : VolEvent) → is_end e.act ≡ true → IsEndPlan s (plan s e)
unfolding plan
plan_end s e h =
    let there : lacks_session e ≡ false = ap (λ b. nat_le session_count e.session && not b) h ∙ and_none (nat_le session_count e.session) in
    subst (IsEndPlan s) (sym (λ i. if there i then refused s refusal.NoSession else planned s e.session e.moment (is_the_end e.act h i))) (end_syncs e.moment s)
  where
    and_none : (b : Bool) → (b && false) ≡ false
    and_none true = refl
    and_none false = refl

-- ---- turns

-- an act that ends nothing leaves all but snapshots as its plan finds them
act_stays : (stop : Option ActFault) (moment : ℕ) (p : Plan) → p.ending ≡ Stays → DiffersInSnapshots p.from (after_act stop moment p).machine
act_stays None moment p is = subst (λ en. DiffersInSnapshots p.from (after_ending en (after_moves moment p.from p.moves))) (sym is) (moves_leave moment p.moves p.from)
act_stays (Some stop) moment p is = moves_leave moment (take stop.moves p.moves) p.from

act_leaves : (stop : Option ActFault) (moment : ℕ) (p : Plan) → (is_refused p.reply ≡ true → p.ending ≡ Stays) → is_refused (after_act stop moment p).reply ≡ true → DiffersInSnapshots p.from (after_act stop moment p).machine
act_leaves None moment p leaves h = act_stays None moment p (leaves h)
act_leaves (Some stop) moment p leaves h = moves_leave moment (take stop.moves p.moves) p.from

module _ (f : Faults) (s : Machine) (e : VolEvent) where
  begun_differs : DiffersInSnapshots s (timed_begin f.begin e.moment s)
  begun_differs = begin_leaves_settings f.begin e.moment s

  -- what the act leaves the turn leaves
  next_differs : DiffersInSnapshots (plan_under f s e).from (act_result f s e).machine → DiffersInSnapshots (plan_under f s e).from (next_under f s e).machine
  unfolding next_under
  next_differs d =
      let a = act_result f s e in
      let steps = background_moves f.background a in
      then_but_snapshots (plan_under f s e).from a.machine (after_moves e.moment a.machine steps) d (moves_leave e.moment steps a.machine)

  from_working : (plan_under f s e).from.working ≡ s.working
  from_working = plan_from (λ m. m.working ≡ s.working) (timed_begin f.begin e.moment s) e (λ h. h) begun_differs.working

  refused_differs : is_refused (next_under f s e).turn.reply ≡ true → DiffersInSnapshots (plan_under f s e).from (next_under f s e).machine
  unfolding next_under
  refused_differs h = next_differs (act_leaves f.act e.moment (plan_under f s e) (plan_leaves (timed_begin f.begin e.moment s) e) h)

  refused_working : is_refused (next_under f s e).turn.reply ≡ true → (next_under f s e).machine.working ≡ s.working
  refused_working h = let d = refused_differs h in d.working ∙ from_working

  refused_sessions : is_refused (next_under f s e).turn.reply ≡ true → is_end e.act ≡ false → (next_under f s e).machine.sessions ≡ s.sessions
  refused_sessions h other =
      let d = refused_differs h in
      d.sessions ∙ plan_from_unless_end (λ m. m.sessions ≡ s.sessions) (timed_begin f.begin e.moment s) e other begun_differs.sessions

  end_leaves : is_end e.act ≡ true → ((next_under f s e).machine.working ≡ s.working) × ((next_under f s e).machine.sessions ≡ (without_holds s).sessions)
  end_leaves h =
      let p = plan_end (timed_begin f.begin e.moment s) e h in
      let d = next_differs (act_stays f.act e.moment (plan_under f s e) p.ending) in
      (d.working ∙ from_working, d.sessions ∙ ap (λ (m : Machine). m.sessions) p.from ∙ ap (map (holding false)) begun_differs.sessions)

-- a refusal leaves the working tree and its ids, whatever snapshots were made on the way
pub refusal_leaves : (s t : Machine) (e : VolEvent) (turn : Turn) → Next s e turn t → is_refused turn.reply ≡ true → t.working ≡ s.working
refusal_leaves s t e turn n h = sym (ap (λ (r : Transition). r.machine.working) n.ends) ∙ refused_working n.faults s e (subst (λ (r : Transition). is_refused r.turn.reply ≡ true) (sym n.ends) h)

-- and the sessions, unless it is the end that is refused
pub refusal_leaves_sessions : (s t : Machine) (e : VolEvent) (turn : Turn) → Next s e turn t → is_refused turn.reply ≡ true → is_end e.act ≡ false → t.sessions ≡ s.sessions
refusal_leaves_sessions s t e turn n h other =
    sym (ap (λ (r : Transition). r.machine.sessions) n.ends) ∙ refused_sessions n.faults s e (subst (λ (r : Transition). is_refused r.turn.reply ≡ true) (sym n.ends) h) other

-- the end leaves the working copy, and drops the holds
pub end_drops_holds : (s t : Machine) (e : VolEvent) (turn : Turn) → Next s e turn t → is_end e.act ≡ true → (t.working ≡ s.working) × (t.sessions ≡ (without_holds s).sessions)
end_drops_holds s t e turn n h = subst (λ (r : Transition). (r.machine.working ≡ s.working) × (r.machine.sessions ≡ (without_holds s).sessions)) n.ends (end_leaves n.faults s e h)
