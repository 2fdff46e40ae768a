-- A plan edits the tree by an operation alone, which is decided on where the plan's moves lead.
use Rattle.std.proofs.Common.{◌≡◌, ℕ, refl, sym, ap, ◌∙◌, subst}
use Rattle.std.specs.Prelude.{Bool, true, false, ◌&&◌, Result, Ok, Err, ◌==◌, if◌then◌else◌}
use Rattle.qx_model.specs.declared.operation.Op.{Op}
use Rattle.qx_model.specs.declared.refusal.Refusal.{Refusal}
use Rattle.qx_model.specs.declared.refusal.Refusal.TheVariants as refusal
use Rattle.qx_model.specs.declared.reply.Reply.TheVariants as reply
use Rattle.qx_model.specs.declared.turn.Act.{Act}
use Rattle.qx_model.specs.declared.turn.Act.TheVariants as act
use Rattle.qx_model.specs.declared.turn.VolEvent.{VolEvent}
use Rattle.qx_model.specs.Requests.{changes}
use Rattle.qx_model.specs.Paths.{Itself, inode_at}
use Rattle.qx_model.specs.Edits.{Edit}
use Rattle.qx_model.specs.Effects.{Answers, Edits}
use Rattle.qx_model.specs.Machine.{Machine, directory_of, hold_count, without_holds}
use Rattle.qx_model.specs.Snapshots.{after_moves}
use Rattle.qx_model.specs.Decisions.{Decision, Fits, Lacks, Refuses, attempt, decision}
use Rattle.qx_model.specs.Plans.{Becomes, Plan, Stays, changing_directory, decision_ending, directory_at, lacks_session, operating, plan, plan_of, planned, refused, sync_moves, syncing, syncing_path}
use Rattle.qx_model.proofs.SettledAttempts.{attempt_settled}

-- the event's operation is decided on with this edit, at the machine to which the plan's moves lead
pub record IsDecidedEdit (s : Machine) (e : VolEvent) (p : Plan) (x : Edit) : Type 0 where
  pub operation : Op
  pub is_removing : Bool
  pub asked : e.act ≡ act.Op operation
  pub from : p.from ≡ s
  pub decided : decision (after_moves e.moment p.from p.moves) e.session e.moment operation ≡ Fits (Edits is_removing x)

-- a plan edits by its operation alone
EditsByOperation : Machine → VolEvent → Plan → Type 0
EditsByOperation s e p = (x : Edit) → p.ending ≡ Becomes x → IsDecidedEdit s e p x

no_edit : (x : Edit) → Stays ≡ Becomes x → ⊥
no_edit x h = cc

decided_edit : (d : Decision) (x : Edit) → decision_ending d ≡ Becomes x → (is_removing : Bool) × (d ≡ Fits (Edits is_removing x))
decided_edit (Refuses r) x h = absurd (no_edit x h)
decided_edit (Lacks need free) x h = absurd (no_edit x h)
decided_edit (Fits (Answers r)) x h = absurd (no_edit x h)
decided_edit (Fits (Edits is_removing y)) x h = let same : y ≡ x = cc in (is_removing, ap (λ z. Fits (Edits is_removing z)) same)

operating_edits : (s : Machine) (e : VolEvent) (o : Op) → e.act ≡ act.Op o → EditsByOperation s e (operating s e.session e.moment o)
unfolding EditsByOperation
operating_edits s e o is = go (changes o && s.volume.is_read_only)
  where
    by_attempt : (x : Edit) → decision_ending (attempt s e.session e.moment o).decision ≡ Becomes x → IsDecidedEdit s e (plan_of s (attempt s e.session e.moment o)) x
    by_attempt x h =
        let at = attempt s e.session e.moment o in
        let d = decided_edit at.decision x h in
        let settled = attempt_settled s e.session e.moment o in
        record {
          operation = o;
          is_removing = d.0;
          asked = is;
          from = refl;
          decided = subst (λ (m : Machine). decision m e.session e.moment o ≡ Fits (Edits d.0 x)) settled.stands (sym settled.decides ∙ d.1);
        }

    go : (b : Bool) (x : Edit) → (let p : Plan = if b then refused s refusal.ReadOnly else plan_of s (attempt s e.session e.moment o) in p.ending) ≡ Becomes x
        → IsDecidedEdit s e (if b then refused s refusal.ReadOnly else plan_of s (attempt s e.session e.moment o)) x
    go true x h = absurd (no_edit x h)
    go false x h = by_attempt x h

syncing_edits : (s t : Machine) (e : VolEvent) → EditsByOperation s e (syncing e.moment t)
unfolding EditsByOperation
syncing_edits s t e = go (hold_count t == 0)
  where
    go : (b : Bool) (x : Edit) → (let p : Plan = if b then record { from = t; moves = sync_moves e.moment t; reply = reply.Done; ending = Stays } else refused t (refusal.Held (hold_count t)) in p.ending) ≡ Becomes x
        → IsDecidedEdit s e (if b then record { from = t; moves = sync_moves e.moment t; reply = reply.Done; ending = Stays } else refused t (refusal.Held (hold_count t))) x
    go true x h = absurd (no_edit x h)
    go false x h = absurd (no_edit x h)

directory_edits : (s : Machine) (e : VolEvent) (r : Result ℕ Refusal) → EditsByOperation s e (changing_directory s e.session r)
unfolding EditsByOperation
directory_edits s e (Err r) x h = absurd (no_edit x h)
directory_edits s e (Ok d) x h = absurd (cc)

path_edits : (s : Machine) (e : VolEvent) (r : Result ℕ Refusal) → EditsByOperation s e (syncing_path e.moment s r)
unfolding EditsByOperation
path_edits s e (Err r) x h = absurd (no_edit x h)
path_edits s e (Ok n) x h = syncing_edits s s e x h

planned_edits : (s : Machine) (e : VolEvent) (a : Act) → e.act ≡ a → EditsByOperation s e (planned s e.session e.moment a)
unfolding EditsByOperation
planned_edits s e (act.Op o) is x h = operating_edits s e o is x h
planned_edits s e (act.Cd path) is x h = directory_edits s e (directory_at s e.session path) x h
planned_edits s e act.Df is x h = absurd (no_edit x h)
planned_edits s e act.Hold is x h = absurd (cc)
planned_edits s e act.Unhold is x h = absurd (cc)
planned_edits s e act.Sync is x h = syncing_edits s s e x h
planned_edits s e (act.Fsync path) is x h = path_edits s e (inode_at s.working.tree (directory_of s e.session) Itself path) x h
planned_edits s e act.Tick is x h = absurd (no_edit x h)
planned_edits s e act.End is x h = syncing_edits s (without_holds s) e x h

-- a plan that edits does so by its event's operation
pub plan_edits : (s : Machine) (e : VolEvent) (x : Edit) → (plan s e).ending ≡ Becomes x → IsDecidedEdit s e (plan s e) x
unfolding plan EditsByOperation
plan_edits s e = go (lacks_session e)
  where
    go : (b : Bool) (x : Edit) → (let p : Plan = if b then refused s refusal.NoSession else planned s e.session e.moment e.act in p.ending) ≡ Becomes x
        → IsDecidedEdit s e (if b then refused s refusal.NoSession else planned s e.session e.moment e.act) x
    go true x h = absurd (no_edit x h)
    go false x h = planned_edits s e e.act refl x h
