-- A turn that tells of no fault had none.
use Rattle.std.proofs.Common.{◌≡◌, ℕ, inl, inr, List, [], ◌∷◌, ◌++◌, refl, sym, ap, ◌∙◌, subst}
use Rattle.std.specs.Prelude.{◌≢◌, ◌⊎◌, Bool, true, false, ◌||◌, Option, Some, None}
use Rattle.std.specs.List.{list_any}
use Rattle.qx_geom.proofs.Truths.{true_or_false}
use Rattle.qx_model.specs.declared.notices.Notice.{Notice}
use Rattle.qx_model.specs.declared.notices.Notice.TheVariants as notice
use Rattle.qx_model.specs.declared.turn.VolEvent.{VolEvent}
use Rattle.qx_model.specs.declared.turn.Turn.{Turn}
use Rattle.qx_model.specs.Machine.{Machine}
use Rattle.qx_model.specs.Snapshots.{told_along}
use Rattle.qx_model.specs.Next.{ActFault, Cause, Faults, MemoryFails, Next, ReadFails, StepFails, Transition, act_result, background_moves, next, next_under, no_faults, refusal_of, told_by_fault}
use Rattle.qx_model.specs.Faults.{is_fault_notice, is_fault_refusal, is_fault_reply, tells_of_fault}

-- some notice tells of a fault
abbrev Tells : List Notice → Type 0
Tells ns = list_any is_fault_notice ns ≡ true

-- a fault that is told last is told
tells_last : (ns : List Notice) → Tells (ns ++ notice.Device ∷ [])
tells_last [] = refl
tells_last (n ∷ ns) = go (is_fault_notice n) (tells_last ns)
  where
    go : (b : Bool) → Tells (ns ++ notice.Device ∷ []) → (b || list_any is_fault_notice (ns ++ notice.Device ∷ [])) ≡ true
    go true last = refl
    go false last = last

-- behind other notices
tells_behind : (ns ms : List Notice) → Tells ms → Tells (ns ++ ms)
tells_behind [] ms h = h
tells_behind (n ∷ ns) ms h = go (is_fault_notice n) (tells_behind ns ms h)
  where
    go : (b : Bool) → Tells (ns ++ ms) → (b || list_any is_fault_notice (ns ++ ms)) ≡ true
    go true later = refl
    go false later = later

-- a turn tells by its notices, or by its reply
shows_by_notices : (t : Turn) → Tells t.notices → tells_of_fault t ≡ true
shows_by_notices t h = go (is_fault_reply t.reply)
  where
    go : (b : Bool) → (b || list_any is_fault_notice t.notices) ≡ true
    go true = refl
    go false = h

shows_by_reply : (cause : Cause) (ns : List Notice) → (is_fault_refusal (refusal_of cause) || list_any is_fault_notice ns) ≡ true
shows_by_reply StepFails ns = refl
shows_by_reply ReadFails ns = refl
shows_by_reply MemoryFails ns = refl

-- where something fails, the turn tells
shown : (s : Machine) (e : VolEvent) (begin : Bool) (act : Option ActFault) (background : Option ℕ)
    → (tells_of_fault (next_under (record { begin = begin; act = act; background = background }) s e).turn ≡ true) ⊎ (record { begin = begin; act = act; background = background } ≡ no_faults)
unfolding next_under
shown s e true act background = inl (shows_by_notices (next_under (record { begin = true; act = act; background = background }) s e).turn refl)
shown s e false (Some stop) background = inl (shows_by_reply stop.cause (next_under (record { begin = false; act = Some stop; background = background }) s e).turn.notices)
shown s e false None (Some good) =
    let a = act_result (record { begin = false; act = None; background = Some good }) s e in
    let told = told_along e.moment a.machine (background_moves (Some good) a) in
    inl (shows_by_notices (next_under (record { begin = false; act = None; background = Some good }) s e).turn (tells_behind a.told (told ++ told_by_fault (Some good)) (tells_last told)))
shown s e false None None = inr refl

-- a turn in which something fails tells of it
pub faults_shown : (f : Faults) (s : Machine) (e : VolEvent) → f ≢ no_faults → tells_of_fault (next_under f s e).turn ≡ true
faults_shown f s e some = elim (shown s e f.begin f.act f.background) [ inl tells ↦ tells | inr none ↦ absurd (some none) ]

-- a turn that tells of no fault is the function's
pub quiet_turn : (s t : Machine) (e : VolEvent) (turn : Turn) → Next s e turn t → tells_of_fault turn ≡ false → next s e ≡ record { machine = t; turn = turn }
quiet_turn s t e turn n q = elim (shown s e n.faults.begin n.faults.act n.faults.background) [
  | inl tells ↦ absurd (true_or_false (tells_of_fault turn) (subst (λ (r : Transition). tells_of_fault r.turn ≡ true) n.ends tells) q)
  | inr none ↦ sym (ap (λ f. next_under f s e) none) ∙ n.ends
]

-- and the turn of no faults may come
pub quiet_comes : (s : Machine) (e : VolEvent) → Next s e (next s e).turn (next s e).machine
quiet_comes s e = record { faults = no_faults; may_come = record { begin = λ fails. absurd (cc); act = tt; background = tt }; ends = refl }
