-- Machines that differ in the names of ids alone answer every event alike, whatever fails, and stay so.
use Rattle.std.proofs.Common.{◌≡◌, ℕ, ◌-◌, ◌<◌, ◌≤◌, inl, inr, [], ◌∷◌, ◌++◌, length, take, refl, sym, ap, ◌∙◌, subst}
use Rattle.std.specs.Prelude.{Bool, true, false, not, ◌&&◌, Option, Some, None, min, nat_le, replicate, slice_get, ◌==◌}
use Rattle.qx_model.specs.declared.turn.VolEvent.{VolEvent}
use Rattle.qx_model.specs.Machine.{Machine}
use Rattle.qx_model.specs.Snapshots.{Begin, Move, Step, after_moves, background_count, background_limit, interval, is_time_to_begin, told_along}
use Rattle.qx_model.specs.Plans.{Plan, after_ending}
use Rattle.qx_model.specs.TreeReads.{reads_tree}
use Rattle.qx_model.specs.Next.{ActFault, ActResult, Cause, Faults, IsNextMove, MayCome, MayFail, MayFailAfter, MayFailInAct, MayRead, MemoryFails, ReadFails, StepFails, act_result, after_act, background_moves, begun_if, next_under, plan_under, steps_made, timed_begin, told_by_begin, told_by_fault}
use Rattle.qx_model.specs.Ids.{HasIds}
use Rattle.qx_model.specs.NamedIds.{DifferInIds}
use Rattle.qx_model.proofs.PlanStarts.{plan_from}
use Rattle.qx_model.proofs.OwnIds.{begin_has_ids, moves_have_ids}
use Rattle.qx_model.proofs.AlikeMachines.{ending_alike, moves_alike, told_alike}
use Rattle.qx_model.proofs.AlikePlans.{AlikePlans, due_same, holds_same, none_same, plan_alike, reads_same}

-- ---- the timed begin

time_same : (s t : Machine) (moment : ℕ) → DifferInIds s t → is_time_to_begin t moment ≡ is_time_to_begin s moment
time_same s t moment d =
    λ i. not (d.same.volume i).is_read_only && (none_same s.frozen t.frozen d.same.frozen i && ((holds_same s t d i == 0) && (d.same.changed i && nat_le interval (moment - d.same.last_begin i))))

begin_alike : (fails : Bool) (moment : ℕ) (s t : Machine) → DifferInIds s t → DifferInIds (timed_begin fails moment s) (timed_begin fails moment t)
begin_alike fails moment s t d = subst (λ b. DifferInIds (timed_begin fails moment s) (begun_if b fails moment t)) (sym (time_same s t moment d)) (go (is_time_to_begin s moment) fails)
  where
    go : (time fails : Bool) → DifferInIds (begun_if time fails moment s) (begun_if time fails moment t)
    go false fails = d
    go true false = moves_alike moment (Begin ∷ []) s t d
    go true true = d

-- ---- the act

-- two acts lead to machines that are alike, tell the same and answer the same
record AlikeActs (a c : ActResult) : Type 0 where
  machine : DifferInIds a.machine c.machine
  told : c.told ≡ a.told
  reply : c.reply ≡ a.reply
  failed : c.is_step_failed ≡ a.is_step_failed

act_alike : (stop : Option ActFault) (moment : ℕ) (p q : Plan) → AlikePlans p q → HasIds p.from → HasIds q.from → AlikeActs (after_act stop moment p) (after_act stop moment q)
act_alike None moment p q a first second = record {
  machine =
      subst (λ en. DifferInIds (after_ending p.ending (after_moves moment p.from p.moves)) (after_ending en (after_moves moment q.from q.moves))) (sym a.ending)
      (subst (λ ms. DifferInIds (after_ending p.ending (after_moves moment p.from p.moves)) (after_ending p.ending (after_moves moment q.from ms))) (sym a.moves)
      (ending_alike p.ending (after_moves moment p.from p.moves) (after_moves moment q.from p.moves) (moves_alike moment p.moves p.from q.from a.from)
      (moves_have_ids moment p.moves p.from first) (moves_have_ids moment p.moves q.from second)));
  told = ap (told_along moment q.from) a.moves ∙ told_alike moment p.moves p.from q.from a.from;
  reply = a.reply;
  failed = refl;
}
act_alike (Some stop) moment p q a first second = record {
  machine =
      subst (λ ms. DifferInIds (after_moves moment p.from (take stop.moves p.moves)) (after_moves moment q.from (take stop.moves ms))) (sym a.moves)
      (moves_alike moment (take stop.moves p.moves) p.from q.from a.from);
  told = ap (λ ms. told_along moment q.from (take stop.moves ms)) a.moves ∙ told_alike moment (take stop.moves p.moves) p.from q.from a.from;
  reply = refl;
  failed = refl;
}

-- ---- turns

module _ (f : Faults) (e : VolEvent) (s t : Machine) (first : HasIds s) (second : HasIds t) (d : DifferInIds s t) where
  plans_alike : AlikePlans (plan_under f s e) (plan_under f t e)
  plans_alike = plan_alike (timed_begin f.begin e.moment s) (timed_begin f.begin e.moment t) e (begin_alike f.begin e.moment s t d)

  from_ids : (m : Machine) → HasIds m → HasIds (plan_under f m e).from
  from_ids m h =
      plan_from HasIds (timed_begin f.begin e.moment m) e (λ x. record { working = x.working; durable = x.durable; frozen = x.frozen }) (begin_has_ids (is_time_to_begin m e.moment) f.begin e.moment m h)

  acts_alike : AlikeActs (act_result f s e) (act_result f t e)
  acts_alike = act_alike f.act e.moment (plan_under f s e) (plan_under f t e) plans_alike (from_ids s first) (from_ids t second)

  count_same : background_count (act_result f t e).machine ≡ background_count (act_result f s e).machine
  count_same = let a = acts_alike in let m = a.machine in ap (λ n. min n background_limit) (due_same (act_result f s e).machine.frozen (act_result f t e).machine.frozen m.same.frozen)

  made_same : (failed other : Bool) (o : Option ℕ) → other ≡ failed → steps_made other o (act_result f t e).machine ≡ steps_made failed o (act_result f s e).machine
  made_same true true o e = refl
  made_same false false None e = count_same
  made_same false false (Some good) e = refl
  made_same true false o e = absurd (cc)
  made_same false true o e = absurd (cc)

  steps_same : background_moves f.background (act_result f t e) ≡ background_moves f.background (act_result f s e)
  steps_same = let a = acts_alike in ap (λ n. replicate n Step) (made_same (act_result f s e).is_step_failed (act_result f t e).is_step_failed f.background a.failed)

  -- the machines stay alike
  pub next_alike : DifferInIds (next_under f s e).machine (next_under f t e).machine
  unfolding next_under
  next_alike =
      let a = acts_alike in
      subst (λ ms. DifferInIds (after_moves e.moment (act_result f s e).machine (background_moves f.background (act_result f s e))) (after_moves e.moment (act_result f t e).machine ms)) (sym steps_same)
      (moves_alike e.moment (background_moves f.background (act_result f s e)) (act_result f s e).machine (act_result f t e).machine a.machine)

  background_told : told_along e.moment (act_result f t e).machine (background_moves f.background (act_result f t e)) ≡ told_along e.moment (act_result f s e).machine (background_moves f.background (act_result f s e))
  background_told =
      let a = acts_alike in
      ap (told_along e.moment (act_result f t e).machine) steps_same ∙ told_alike e.moment (background_moves f.background (act_result f s e)) (act_result f s e).machine (act_result f t e).machine a.machine

  -- and answer the same turn
  pub turn_alike : (next_under f t e).turn ≡ (next_under f s e).turn
  unfolding next_under
  turn_alike = let a = acts_alike in λ i. record { reply = a.reply i; notices = told_by_begin f.begin ++ (a.told i ++ (background_told i ++ told_by_fault f.background)) }

  -- ---- faults

  read_alike : (n : ℕ) → MayRead e (plan_under f s e) n → MayRead e (plan_under f t e) n
  read_alike n h =
      let p = plans_alike in
      let there = moves_alike e.moment (take n (plan_under f s e).moves) (plan_under f s e).from (plan_under f t e).from p.from in
      subst (λ ms. reads_tree n (after_moves e.moment (plan_under f t e).from (take n ms)) e ≡ true) (sym p.moves)
      (reads_same n (after_moves e.moment (plan_under f s e).from (take n (plan_under f s e).moves)) (after_moves e.moment (plan_under f t e).from (take n (plan_under f s e).moves)) e there ∙ h)

  next_move_alike : (m : Move) (n : ℕ) → IsNextMove m (plan_under f s e) n → IsNextMove m (plan_under f t e) n
  next_move_alike m n h = let p = plans_alike in ap (λ ms. slice_get ms n) p.moves ∙ h

  fail_alike : (c : Cause) (n : ℕ) → MayFail c e (plan_under f s e) n → MayFail c e (plan_under f t e) n
  fail_alike StepFails n h = next_move_alike Step n h
  fail_alike ReadFails n h = read_alike n h
  fail_alike MemoryFails n (inl h) = inl (next_move_alike Begin n h)
  fail_alike MemoryFails n (inr h) = inr (read_alike n h)

  stop_alike : (o : Option ActFault) → MayFailInAct o e (plan_under f s e) → MayFailInAct o e (plan_under f t e)
  stop_alike None h = tt
  stop_alike (Some stop) h = let p = plans_alike in (subst (λ ms. stop.moves ≤ length ms) (sym p.moves) h.0, fail_alike stop.cause stop.moves h.1)

  later_alike : (o : Option ℕ) → MayFailAfter o (act_result f s e) → MayFailAfter o (act_result f t e)
  later_alike None h = tt
  later_alike (Some good) h = let a = acts_alike in (subst (λ n. good < n) (sym count_same) h.0, a.failed ∙ h.1)

  -- the same things may fail
  pub faults_alike : MayCome f s e → MayCome f t e
  faults_alike h = record { begin = λ b. time_same s t e.moment d ∙ h.begin b; act = stop_alike f.act h.act; background = later_alike f.background h.background }
