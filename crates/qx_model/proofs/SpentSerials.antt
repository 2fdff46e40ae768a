-- Once the last serial is spent, an operation that changes is refused for it, whatever fails.
use Rattle.std.proofs.Common.{◌≡◌, ℕ, ◌-◌, ◌^◌, ◌<◌, [], refl, sym, ap, ◌∙◌, subst, arith}
use Rattle.std.specs.Prelude.{Bool, true, false, not, ◌&&◌, ◌||◌, Option, Some, None, is_ok, if◌then◌else◌}
use Rattle.std.proofs.lemmas.Bool.{eqb-true}
use Rattle.qx_model.specs.declared.operation.Op.{Op}
use Rattle.qx_model.specs.declared.refusal.Refusal.TheVariants as refusal
use Rattle.qx_model.specs.declared.reply.Reply.TheVariants as reply
use Rattle.qx_model.specs.declared.turn.Act.TheVariants as act
use Rattle.qx_model.specs.declared.turn.VolEvent.{VolEvent}
use Rattle.qx_model.specs.declared.turn.Turn.{Turn}
use Rattle.qx_model.specs.Requests.{changes}
use Rattle.qx_model.specs.Operate.{operate}
use Rattle.qx_model.specs.Machine.{Machine, directory_of, setting_of}
use Rattle.qx_model.specs.Snapshots.{is_time_to_begin}
use Rattle.qx_model.specs.Decisions.{Refuses, attempt, decided, decision, is_lacking, is_serial_end, last_serial}
use Rattle.qx_model.specs.Plans.{Plan, lacks_session, plan, plan_of, planned, refused}
use Rattle.qx_model.specs.TreeReads.{is_between, operation_start, reads_after, reads_tree}
use Rattle.qx_model.specs.Next.{ActFault, Faults, MayCome, MayFailInAct, Next, Transition, after_act, begun_if, next_under, plan_under, timed_begin}
use Rattle.qx_model.specs.Serials.{HasSerials}
use Rattle.qx_model.proofs.QuietMounts.{decided_once}
use Rattle.qx_model.proofs.OrderedMoves.{timed_may}
use Rattle.qx_model.proofs.ShownFaults.{MakesNoCall, unstopped}

module _ (s : Machine) (e : VolEvent) (o : Op) (serials : HasSerials s) (asked : e.act ≡ act.Op o) (there : lacks_session e ≡ false) (changing : changes o ≡ true)
    (writable : s.volume.is_read_only ≡ false) (spent : is_serial_end s ≡ true) where
  -- there is nothing to keep
  unchanged_then : s.changed ≡ true → ⊥
  unchanged_then is =
      let left : last_serial s < 2 ^ 64 - 1 = serials.spare is in
      let end : last_serial s ≡ 2 ^ 64 - 1 = eqb-true (last_serial s) (2 ^ 64 - 1) spent in
      omega arith

  -- so no snapshot begins by itself
  not_begun : (fails : Bool) → timed_begin fails e.moment s ≡ s
  not_begun fails = go (is_time_to_begin s e.moment) refl
    where
      go : (time : Bool) → is_time_to_begin s e.moment ≡ time → begun_if time fails e.moment s ≡ s
      go true is = let may = timed_may s e.moment is in absurd (unchanged_then may.1)
      go false is = refl

  refuses : decision s e.session e.moment o ≡ Refuses refusal.SerialEnd
  unfolding decision
  refuses = λ i. if changing i && spent i then Refuses refusal.SerialEnd else decided s (operate (setting_of s e.session e.moment) s.working.tree o)

  planned_end : plan s e ≡ refused s refusal.SerialEnd
  unfolding plan
  planned_end =
      (λ i. if there i then refused s refusal.NoSession else planned s e.session e.moment (asked i))
      ∙ (λ i. if changing i && writable i then refused s refusal.ReadOnly else plan_of s (attempt s e.session e.moment o))
      ∙ ap (plan_of s) (decided_once s e.session e.moment o (ap is_lacking refuses))
      ∙ ap (λ d. plan_of s (record { moves = []; machine = s; decision = d })) refuses

  unread : (n : ℕ) → reads_tree n s e ≡ false
  unread n =
      (λ i. not (there i) && reads_after n s e.session (asked i))
      ∙ (λ i. is_between n s && (not (changing i && (writable i || spent i)) && is_ok (operation_start (directory_of s e.session) o)))
      ∙ and_none (is_between n s)
    where
      and_none : (b : Bool) → (b && false) ≡ false
      and_none true = refl
      and_none false = refl

  no_call : MakesNoCall s e (plan s e)
  no_call = subst (λ p. MakesNoCall s e p) (sym planned_end) (record { moves = refl; from = refl; reads = unread })

  next_spent : (f : Faults) → MayCome f s e → (next_under f s e).turn.reply ≡ reply.Refused refusal.SerialEnd
  unfolding next_under
  next_spent f may = go f.act may.act
    where
      same : plan_under f s e ≡ plan s e
      same = ap (λ m. plan m e) (not_begun f.begin)

      go : (stop : Option ActFault) → MayFailInAct stop e (plan_under f s e) → (after_act stop e.moment (plan_under f s e)).reply ≡ reply.Refused refusal.SerialEnd
      go None may = ap (λ (p : Plan). p.reply) (same ∙ planned_end)
      go (Some stop) may = let can = subst (λ p. MayFailInAct (Some stop) e p) same may in absurd (unstopped s e (plan s e) no_call stop.cause stop.moves can.1)

-- an operation that changes is refused
pub spent_refusal : (s t : Machine) (e : VolEvent) (turn : Turn) (o : Op) → HasSerials s → Next s e turn t → e.act ≡ act.Op o → lacks_session e ≡ false → changes o ≡ true
    → s.volume.is_read_only ≡ false → is_serial_end s ≡ true → turn.reply ≡ reply.Refused refusal.SerialEnd
spent_refusal s t e turn o serials n asked there changing writable spent =
    subst (λ (r : Transition). r.turn.reply ≡ reply.Refused refusal.SerialEnd) n.ends (next_spent s e o serials asked there changing writable spent n.faults n.may_come)
