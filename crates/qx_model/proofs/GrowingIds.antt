-- Ids are never used again: what a block has after a turn a block had before, or it is new.
use Rattle.std.proofs.Common.{◌≡◌, ℕ, ◌<◌, ◌≤◌, ◌⊎◌, inl, inr, List, [], ◌∷◌, zero, suc, take, refl, sym, ◌∙◌, subst, arith}
use Rattle.std.specs.Prelude.{Bool, true, false, Option, Some, None, replicate}
use Rattle.qx_model.specs.declared.turn.VolEvent.{VolEvent}
use Rattle.qx_model.specs.declared.turn.Turn.{Turn}
use Rattle.qx_model.specs.Edits.{Edit}
use Rattle.qx_model.specs.TreeTouch.{rank_in}
use Rattle.qx_model.specs.Machine.{Frozen, Machine}
use Rattle.qx_model.specs.Space.{fresh_in, id_by, is_private}
use Rattle.qx_model.specs.Snapshots.{Begin, Move, Step, after_moves, begun, is_last_step, is_time_to_begin, step_to, stepped}
use Rattle.qx_model.specs.Plans.{Becomes, Ending, GoesTo, Holds, Stays, after_edit, after_ending}
use Rattle.qx_model.specs.Next.{ActFault, Faults, Next, Transition, act_result, after_act, background_moves, begun_if, next_under, plan_under, steps_made, timed_begin}
use Rattle.qx_model.specs.IdReadings.{HasFrozenId, HasId, IsInSnapshots, IsUsed}
use Rattle.qx_model.proofs.TreeNodes.{was_there}
use Rattle.qx_model.proofs.PlanStarts.{plan_from}
use Rattle.qx_model.proofs.KeptSettings.{begin_leaves_settings, moves_leave}

-- ---- moves

-- what a snapshot has after a step one had before
step_in_snapshots : (s : Machine) (o : Option Frozen) → s.frozen ≡ o → (i : ℕ) → IsInSnapshots (stepped s o) i → IsInSnapshots s i
step_in_snapshots s None is i u = u
step_in_snapshots s (Some p) is i u = go (is_last_step p) u
  where
    frozen : HasId s.volume.blocksize p.snapshot.copy i → HasFrozenId s.volume.blocksize s.frozen i
    frozen h = subst (λ o. HasFrozenId s.volume.blocksize o i) (sym is) h

    go : (last : Bool) → IsInSnapshots (step_to last s p) i → IsInSnapshots s i
    go true (inl h) = inr (frozen h)
    go true (inr h) = absurd h
    go false (inl h) = inl h
    go false (inr h) = inr (frozen h)

step_working : (s : Machine) (o : Option Frozen) (i : ℕ) → HasId (stepped s o).volume.blocksize (stepped s o).working i → HasId s.volume.blocksize s.working i
step_working s None i h = h
step_working s (Some p) i h = go (is_last_step p) h
  where
    go : (last : Bool) → HasId (step_to last s p).volume.blocksize (step_to last s p).working i → HasId s.volume.blocksize s.working i
    go true h = h
    go false h = h

step_used : (s : Machine) (i : ℕ) → IsUsed (stepped s s.frozen) i → IsUsed s i
step_used s i (inl h) = inl (step_working s s.frozen i h)
step_used s i (inr u) = inr (step_in_snapshots s s.frozen refl i u)

begun_used : (moment : ℕ) (s : Machine) (i : ℕ) → IsUsed (begun moment s) i → IsUsed s i
begun_used moment s i (inl h) = inl h
begun_used moment s i (inr (inl h)) = inr (inl h)
begun_used moment s i (inr (inr h)) = inl h

-- what is used after moves was used before
moves_used : (moment : ℕ) (ms : List Move) (s : Machine) (i : ℕ) → IsUsed (after_moves moment s ms) i → IsUsed s i
moves_used moment [] s i u = u
moves_used moment (Begin ∷ ms) s i u = begun_used moment s i (moves_used moment ms (begun moment s) i u)
moves_used moment (Step ∷ ms) s i u = step_used s i (moves_used moment ms (stepped s s.frozen) i u)

begin_used : (fails : Bool) (moment : ℕ) (s : Machine) (i : ℕ) → IsUsed (timed_begin fails moment s) i → IsUsed s i
begin_used fails moment s i = go (is_time_to_begin s moment) fails
  where
    go : (time fails : Bool) → IsUsed (begun_if time fails moment s) i → IsUsed s i
    go false fails u = u
    go true false u = begun_used moment s i u
    go true true u = u

-- ---- edits

-- an edit gives old ids and new ones
edit_working : (e : Edit) (s : Machine) (i : ℕ) → HasId s.volume.blocksize (after_edit e s).working i → IsUsed s i ⊎ (s.next_id ≤ i)
edit_working e s i (p, h, is) = go (rank_in (fresh_in s e) p) refl is
  where
    go : (o : Option ℕ) → rank_in (fresh_in s e) p ≡ o → id_by s.next_id o (s.working.ids p) ≡ i → IsUsed s i ⊎ (s.next_id ≤ i)
    go None none is = inl (inl (p, was_there s.volume.blocksize s.working.tree e (is_private s) p h none, is))
    go (Some k) rank is = inr (omega arith)

ending_used : (en : Ending) (s : Machine) (i : ℕ) → IsUsed (after_ending en s) i → IsUsed s i ⊎ (s.next_id ≤ i)
ending_used Stays s i u = inl u
ending_used (GoesTo k d) s i u = inl u
ending_used (Holds k b) s i u = inl u
ending_used (Becomes e) s i (inl h) = edit_working e s i h
ending_used (Becomes e) s i (inr u) = inl (inr u)

ending_in_snapshots : (en : Ending) (s : Machine) (i : ℕ) → IsInSnapshots (after_ending en s) i → IsInSnapshots s i
ending_in_snapshots Stays s i u = u
ending_in_snapshots (GoesTo k d) s i u = u
ending_in_snapshots (Holds k b) s i u = u
ending_in_snapshots (Becomes e) s i u = u

ending_grows : (en : Ending) (s : Machine) → s.next_id ≤ (after_ending en s).next_id
ending_grows Stays s = omega arith
ending_grows (GoesTo k d) s = omega arith
ending_grows (Holds k b) s = omega arith
ending_grows (Becomes e) s = omega arith

-- ---- turns

module _ (f : Faults) (s : Machine) (e : VolEvent) where
  from_used : (i : ℕ) → IsUsed (plan_under f s e).from i → IsUsed s i
  from_used i = plan_from (λ m. IsUsed m i → IsUsed s i) (timed_begin f.begin e.moment s) e (λ h. h) (begin_used f.begin e.moment s i)

  moved_used : (ms : List Move) (i : ℕ) → IsUsed (after_moves e.moment (plan_under f s e).from ms) i → IsUsed s i
  moved_used ms i u = from_used i (moves_used e.moment ms (plan_under f s e).from i u)

  moved_next : (ms : List Move) → (after_moves e.moment (plan_under f s e).from ms).next_id ≡ s.next_id
  moved_next ms =
      let m = moves_leave e.moment ms (plan_under f s e).from in
      let b = begin_leaves_settings f.begin e.moment s in
      m.next_id ∙ plan_from (λ m. m.next_id ≡ s.next_id) (timed_begin f.begin e.moment s) e (λ h. h) b.next_id

  act_used : (stop : Option ActFault) (i : ℕ) → IsUsed (after_act stop e.moment (plan_under f s e)).machine i → IsUsed s i ⊎ (s.next_id ≤ i)
  act_used None i u =
      let p = plan_under f s e in
      (elim (ending_used p.ending (after_moves e.moment p.from p.moves) i u) [ inl old ↦ inl (moved_used p.moves i old) | inr new ↦ let same = moved_next p.moves in inr (omega arith) ])
  act_used (Some stop) i u = inl (moved_used (take stop.moves (plan_under f s e).moves) i u)

  act_in_snapshots : (stop : Option ActFault) (i : ℕ) → IsInSnapshots (after_act stop e.moment (plan_under f s e)).machine i → IsUsed s i
  act_in_snapshots None i u =
      let p = plan_under f s e in
      moved_used p.moves i (inr (ending_in_snapshots p.ending (after_moves e.moment p.from p.moves) i u))
  act_in_snapshots (Some stop) i u = moved_used (take stop.moves (plan_under f s e).moves) i (inr u)

  act_grows : (stop : Option ActFault) → s.next_id ≤ (after_act stop e.moment (plan_under f s e)).machine.next_id
  act_grows None = let p = plan_under f s e in let same = moved_next p.moves in let more = ending_grows p.ending (after_moves e.moment p.from p.moves) in omega arith
  act_grows (Some stop) = let same = moved_next (take stop.moves (plan_under f s e).moves) in omega arith

  -- steps alone bring nothing from the working copy into a snapshot
  steps_in_snapshots : (n : ℕ) (m : Machine) (i : ℕ) → IsInSnapshots (after_moves e.moment m (replicate n Step)) i → IsInSnapshots m i
  steps_in_snapshots zero m i u = u
  steps_in_snapshots (suc n) m i u = step_in_snapshots m m.frozen refl i (steps_in_snapshots n (stepped m m.frozen) i u)

  next_used : (i : ℕ) → IsUsed (next_under f s e).machine i → IsUsed s i ⊎ (s.next_id ≤ i)
  unfolding next_under
  next_used i u = act_used f.act i (moves_used e.moment (background_moves f.background (act_result f s e)) (act_result f s e).machine i u)

  next_in_snapshots : (i : ℕ) → IsInSnapshots (next_under f s e).machine i → IsUsed s i
  unfolding next_under
  next_in_snapshots i u = act_in_snapshots f.act i (steps_in_snapshots (steps_made (act_result f s e).is_step_failed f.background (act_result f s e).machine) (act_result f s e).machine i u)

  next_grows : s.next_id ≤ (next_under f s e).machine.next_id
  unfolding next_under
  next_grows = let m = moves_leave e.moment (background_moves f.background (act_result f s e)) (act_result f s e).machine in let same = m.next_id in let more = act_grows f.act in omega arith

-- no turn lowers the next id
pub turn_grows : (s t : Machine) (e : VolEvent) (turn : Turn) → Next s e turn t → s.next_id ≤ t.next_id
turn_grows s t e turn n = subst (λ (r : Transition). s.next_id ≤ r.machine.next_id) n.ends (next_grows n.faults s e)

-- what is used after a turn was used before, or is new
pub turn_used : (s t : Machine) (e : VolEvent) (turn : Turn) → Next s e turn t → (i : ℕ) → IsUsed t i → IsUsed s i ⊎ (s.next_id ≤ i)
turn_used s t e turn n i u = next_used n.faults s e i (subst (λ (r : Transition). IsUsed r.machine i) (sym n.ends) u)

-- a snapshot has what was used before
pub turn_in_snapshots : (s t : Machine) (e : VolEvent) (turn : Turn) → Next s e turn t → (i : ℕ) → IsInSnapshots t i → IsUsed s i
turn_in_snapshots s t e turn n i u = next_in_snapshots n.faults s e i (subst (λ (r : Transition). IsInSnapshots r.machine i) (sym n.ends) u)

-- what is no longer used is used no more
pub turn_gone : (s t : Machine) (e : VolEvent) (turn : Turn) → Next s e turn t → (i : ℕ) → i < s.next_id → ¬ (IsUsed s i) → ¬ (IsUsed t i)
turn_gone s t e turn n i below none u = elim (turn_used s t e turn n i u) [ inl old ↦ none old | inr new ↦ omega arith ]
