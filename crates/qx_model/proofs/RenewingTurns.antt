-- After a turn that edits the tree the working ids are new exactly where a block is fresh.
use Rattle.std.proofs.Common.{◌≡◌, ℕ, ◌≤◌, refl, sym, ap, ◌∙◌, subst, arith}
use Rattle.std.specs.Prelude.{Bool, List, Option, Some, None, Ok, Contains, take}
use Rattle.std.proofs.lemmas.Option.{get_or_from_slice_get, slice_get_within}
use Rattle.qx_model.specs.declared.turn.VolEvent.{VolEvent}
use Rattle.qx_model.specs.declared.turn.Turn.{Turn}
use Rattle.qx_model.specs.Edits.{Edit, Setting}
use Rattle.qx_model.specs.Effects.{Edits}
use Rattle.qx_model.specs.Operate.{operate}
use Rattle.qx_model.specs.TreePositions.{HasPosition, Position}
use Rattle.qx_model.specs.TreeTouch.{TakesFresh, WritesPresent, rank_in}
use Rattle.qx_model.specs.Machine.{Copy, Machine, Volume, setting_of}
use Rattle.qx_model.specs.Space.{fresh_in, id_by, is_private, with_edit}
use Rattle.qx_model.specs.Snapshots.{Move, after_moves}
use Rattle.qx_model.specs.Plans.{Becomes, Ending, GoesTo, Holds, Stays, after_ending}
use Rattle.qx_model.specs.Next.{ActFault, Faults, Next, Transition, act_result, after_act, background_moves, next_under, plan_under, timed_begin}
use Rattle.qx_model.specs.Whole.{HoldsRecords}
use Rattle.qx_model.specs.MachineTrees.{HasSoundTrees}
use Rattle.qx_model.specs.RenewedIds.{HasRenewedIds, IsWorkingAfter, act_end, as_before, edited}
use Rattle.qx_model.proofs.SamePositions.{rank_in-get, rank_in-member}
use Rattle.qx_model.proofs.TreeNodes.{was_there}
use Rattle.qx_model.proofs.TreeTouchTests.{tree_fresh}
use Rattle.qx_model.proofs.SteadyTurns.{directory_live}
use Rattle.qx_model.proofs.WholeOperations.{operation_writes}
use Rattle.qx_model.proofs.PlanStarts.{plan_from}
use Rattle.qx_model.proofs.KeptSettings.{DiffersInSnapshots, begin_leaves_settings, moves_leave, setting_stays, then_but_snapshots}
use Rattle.qx_model.proofs.SettledAttempts.{decision_from}
use Rattle.qx_model.proofs.PlannedEdits.{plan_edits}

-- ---- an edit

module _ (m : Machine) (e : Edit) (present : WritesPresent m.volume.blocksize e) where
  Fresh : Position → Type 0
  Fresh p = TakesFresh m.volume.blocksize m.working.tree e (is_private m) p

  ranked : (p : Position) (k : ℕ) → rank_in (fresh_in m e) p ≡ Some k → Contains (fresh_in m e) p
  ranked p k is = let at = rank_in-get (fresh_in m e) p k is in (k, slice_get_within (fresh_in m e) k p at, get_or_from_slice_get (fresh_in m e) k p p at)

  renewed_fresh : (p : Position) (o : Option ℕ) → rank_in (fresh_in m e) p ≡ o → Fresh p → m.next_id ≤ id_by m.next_id o (m.working.ids p)
  unfolding Fresh
  renewed_fresh p None is f = absurd (rank_in-member (fresh_in m e) p ((tree_fresh m.volume.blocksize m.working.tree e (is_private m) present p).1 f) is)
  renewed_fresh p (Some k) is f = omega arith

  renewed_kept : (p : Position) (o : Option ℕ) → rank_in (fresh_in m e) p ≡ o → HasPosition m.volume.blocksize e.tree p → ¬ (Fresh p)
      → HasPosition m.volume.blocksize m.working.tree p × (id_by m.next_id o (m.working.ids p) ≡ m.working.ids p)
  unfolding Fresh
  renewed_kept p None is h none = (was_there m.volume.blocksize m.working.tree e (is_private m) p h is, refl)
  renewed_kept p (Some k) is h none = absurd (none ((tree_fresh m.volume.blocksize m.working.tree e (is_private m) present p).0 (ranked p k is)))

  -- an edit gives ids so
  edit_renews : HasRenewedIds m e (is_private m) (with_edit e m).working
  unfolding Fresh
  edit_renews = record { tree = refl; fresh = λ p f. renewed_fresh p (rank_in (fresh_in m e) p) refl f; kept = λ p h none. renewed_kept p (rank_in (fresh_in m e) p) refl h none }

-- ---- turns

-- what is said of a machine holds of one that differs in snapshots
renewed_alike : (s m : Machine) (x : Edit) (private : Position → Bool) (c : Copy) → DiffersInSnapshots s m → HasRenewedIds m x private c → HasRenewedIds s x private c
renewed_alike s m x private c d h = record {
  tree = h.tree;
  fresh = λ p t. subst (λ n. n ≤ c.ids p) d.next_id (h.fresh p (there p t));
  kept = λ p has none.
      let k = h.kept p (subst (λ (v : Volume). HasPosition v.blocksize x.tree p) (sym d.volume) has) (λ t. none (back p t)) in (
        subst (λ (w : Copy). HasPosition s.volume.blocksize w.tree p) d.working (subst (λ (v : Volume). HasPosition v.blocksize m.working.tree p) d.volume k.0),
        k.1 ∙ ap (λ (w : Copy). w.ids p) d.working,
      );
}
  where
    there : (p : Position) → TakesFresh s.volume.blocksize s.working.tree x private p → TakesFresh m.volume.blocksize m.working.tree x private p
    there p t =
        subst (λ (v : Volume). TakesFresh v.blocksize m.working.tree x private p) (sym d.volume) (subst (λ (w : Copy). TakesFresh s.volume.blocksize w.tree x private p) (sym d.working) t)

    back : (p : Position) → TakesFresh m.volume.blocksize m.working.tree x private p → TakesFresh s.volume.blocksize s.working.tree x private p
    back p t = subst (λ (w : Copy). TakesFresh s.volume.blocksize w.tree x private p) d.working (subst (λ (v : Volume). TakesFresh v.blocksize m.working.tree x private p) d.volume t)

module _ (f : Faults) (s : Machine) (e : VolEvent) (holds : HoldsRecords s.volume.blocksize) (sound : HasSoundTrees s) where
  begun_differs : DiffersInSnapshots s (timed_begin f.begin e.moment s)
  begun_differs = begin_leaves_settings f.begin e.moment s

  from_working : (plan_under f s e).from.working ≡ s.working
  from_working = plan_from (λ m. m.working ≡ s.working) (timed_begin f.begin e.moment s) e (λ h. h) begun_differs.working

  moved_working : (ms : List Move) → (after_moves e.moment (plan_under f s e).from ms).working ≡ s.working
  moved_working ms = let m = moves_leave e.moment ms (plan_under f s e).from in m.working ∙ from_working

  -- an edit at the end of the act
  edited_working : (x : Edit) → (plan_under f s e).ending ≡ Becomes x → IsWorkingAfter f s e (with_edit x (act_end f s e)).working
  edited_working x is =
      let p = plan_under f s e in
      let m = act_end f s e in
      let by = plan_edits (timed_begin f.begin e.moment s) e x is in
      let same : DiffersInSnapshots (timed_begin f.begin e.moment s) m = subst (λ (t : Machine). DiffersInSnapshots t m) by.from (moves_leave e.moment p.moves p.from) in
      let d = then_but_snapshots s (timed_begin f.begin e.moment s) m begun_differs same in
      let done : operate (setting_of s e.session e.moment) s.working.tree by.operation ≡ Ok (Edits by.is_removing x) =
      subst (λ (w : Copy). operate (setting_of s e.session e.moment) w.tree by.operation ≡ Ok (Edits by.is_removing x)) d.working
      (subst (λ (g : Setting). operate g m.working.tree by.operation ≡ Ok (Edits by.is_removing x)) (setting_stays s m e.session e.moment d)
      (decision_from m e.session e.moment by.operation by.is_removing x by.decided)) in
      let present = operation_writes (setting_of s e.session e.moment) s.working.tree by.operation by.is_removing x holds sound.working.rooted sound.working.whole.entries (λ n at. directory_live s.working.tree n (sound.sessions e.session n at)) done in
      edited by.operation by.is_removing x by.asked done
      (renewed_alike s m x (is_private m) (with_edit x m).working d (edit_renews m x (subst (λ (v : Volume). WritesPresent v.blocksize x) (sym d.volume) present)))

  ended_working : (en : Ending) → (plan_under f s e).ending ≡ en → IsWorkingAfter f s e (after_ending en (act_end f s e)).working
  ended_working Stays is = as_before (moved_working (plan_under f s e).moves)
  ended_working (GoesTo k d) is = as_before (moved_working (plan_under f s e).moves)
  ended_working (Holds k b) is = as_before (moved_working (plan_under f s e).moves)
  ended_working (Becomes x) is = edited_working x is

  acted_working : (stop : Option ActFault) → IsWorkingAfter f s e (after_act stop e.moment (plan_under f s e)).machine.working
  acted_working None = ended_working (plan_under f s e).ending refl
  acted_working (Some stop) = as_before (moved_working (take stop.moves (plan_under f s e).moves))

  next_working : IsWorkingAfter f s e (next_under f s e).machine.working
  unfolding next_under
  next_working =
      let a = act_result f s e in
      let m = moves_leave e.moment (background_moves f.background a) a.machine in
      subst (λ c. IsWorkingAfter f s e c) (sym m.working) (acted_working f.act)

-- after a turn the working copy has its old ids, or those of an edit
pub turn_renews : (s t : Machine) (e : VolEvent) (turn : Turn) (n : Next s e turn t) → HoldsRecords s.volume.blocksize → HasSoundTrees s → IsWorkingAfter n.faults s e t.working
turn_renews s t e turn n holds sound = subst (λ (r : Transition). IsWorkingAfter n.faults s e r.machine.working) n.ends (next_working n.faults s e holds sound)
