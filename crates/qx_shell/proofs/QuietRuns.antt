-- A run of turns in which no fault is told puts what the machine's function gives for its script.
use Rattle.std.proofs.Common.{◌≡◌, inl, inr, ℕ, zero, suc, List, [], ◌∷◌, ◌++◌, map, replicate, take, refl, sym, ap, ◌∙◌, subst, append-nil}
use Rattle.std.specs.Prelude.{Bool, true, false, Option, Some, None, slice_get, if◌then◌else◌}
use Rattle.std.specs.List.{concat, list_any}
use Rattle.qx_geom.proofs.Truths.{or_left, or_right}
use Rattle.qx_model.specs.declared.notices.Notice.{Notice}
use Rattle.qx_model.specs.declared.refusal.Refusal.TheVariants as refusal
use Rattle.qx_model.specs.declared.reply.Reply.TheVariants as reply
use Rattle.qx_model.specs.declared.turn.Act.TheVariants as act
use Rattle.qx_model.specs.declared.turn.Turn.{Turn}
use Rattle.qx_model.specs.Faults.{is_fault_notice, tells_of_fault}
use Rattle.qx_model.specs.Machine.{Machine}
use Rattle.qx_model.specs.Snapshots.{Move, Step, after_moves, background_count, told_along}
use Rattle.qx_model.specs.Plans.{plan}
use Rattle.qx_model.specs.Next.{Cause, ReadFails, Transition, Faults, MayCome, MayFail, MemoryFails, Next, StepFails, ActFault, act_result, background_moves, next, next_under, timed_begin, told_by_fault}
use Rattle.qx_model.proofs.QuietTurns.{quiet_turn}
use Rattle.qx_words.specs.declared.line.Line.{Line}
use Rattle.qx_words.specs.declared.line.LineFault.TheVariants as fault
use Rattle.qx_words.specs.Lines.{IsFaultOf, IsLine}
use Rattle.qx_words.specs.Reading.{line_from}
use Rattle.qx_words.specs.Scripts.{event_by, output_of, told_by, told_then, unread}
use Rattle.qx_words.specs.Texts.{last_text, turn_text}
use Rattle.qx_words.proofs.FoundLines.{found_wrong}
use Rattle.qx_words.proofs.ReadLines.{read_whole_line}
use Rattle.qx_shell.specs.Occasions.{OfEnd, OfLine, Occasion}
use Rattle.qx_shell.specs.MadeTurns.{AreMade, IsLineTurn, MadeTurn, Reach, end, is_read, is_unread, line, none, quit, texts_of}
use Rattle.qx_shell.specs.Ends.{has_fault}

-- ---- notices of faults

-- no notice tells of a fault
IsQuiet : List Notice → Type 0
IsQuiet ns = list_any is_fault_notice ns ≡ false

quiet_behind : (ns ms : List Notice) → IsQuiet (ns ++ ms) → IsQuiet ms
unfolding IsQuiet
quiet_behind [] ms h = h
quiet_behind (n ∷ ns) ms h = quiet_behind ns ms (or_right (is_fault_notice n) (list_any is_fault_notice (ns ++ ms)) h)

-- ---- ticks

take_none : (n : ℕ) → (let nothing : List Move = [] in take n nothing) ≡ []
take_none zero = refl
take_none (suc n) = refl

-- nothing is a step
none_is_step : (n : ℕ) → (let nothing : List Move = [] in slice_get nothing n) ≡ Some Step → ⊥
none_is_step n h = absurd (cc)

-- where a tick leads that made these moves, and what it tells
abbrev tick_machine : ℕ → Machine → List Move → Machine
tick_machine moment b ms = let m = after_moves moment b ms in after_moves moment m (replicate (background_count m) Step)

abbrev tick_notices : ℕ → Machine → List Move → List Notice
tick_notices moment b ms = let m = after_moves moment b ms in told_along moment b ms ++ (told_along moment m (replicate (background_count m) Step) ++ [])

-- a tick: what fails of its act shows in its reply alone
record IsTick (s t : Machine) (moment : ℕ) (notices : List Notice) : Type 0 where
  pub machine : (next s (event_by 0 act.Tick moment)).machine ≡ t
  pub told : (next s (event_by 0 act.Tick moment)).turn.notices ≡ notices

-- by what fails in it, where that tells of no fault
tick_next : (s : Machine) (moment : ℕ) (begin : Bool) (stop : Option ActFault) (background : Option ℕ)
    → (let f : Faults = record { begin = begin; act = stop; background = background } in
    let r : Transition = next_under f s (event_by 0 act.Tick moment) in MayCome f s (event_by 0 act.Tick moment) → IsQuiet r.turn.notices → IsTick s r.machine moment r.turn.notices)
unfolding next_under plan IsQuiet
tick_next s moment true stop background may quiet = absurd (cc)
tick_next s moment false stop (Some good) may quiet =
    let f : Faults = record { begin = false; act = stop; background = Some good } in
    let a = act_result f s (event_by 0 act.Tick moment) in
    let told = told_along moment a.machine (background_moves (Some good) a) in
    let last : IsQuiet (told_by_fault (Some good)) = quiet_behind told (told_by_fault (Some good)) (quiet_behind a.told (told ++ told_by_fault (Some good)) quiet) in
    absurd (cc)
tick_next s moment false None None may quiet = record { machine = refl; told = refl }
tick_next s moment false (Some stop) None may quiet = by_cause stop.cause stop.moves may.act.1
  where
    b : Machine
    b = timed_begin false moment s

    by_cause : (cause : Cause) (moves : ℕ) → MayFail cause (event_by 0 act.Tick moment) (plan b (event_by 0 act.Tick moment)) moves
        → (let r : Transition = next_under (record { begin = false; act = Some (record { moves = moves; cause = cause }); background = None }) s (event_by 0 act.Tick moment) in IsTick s r.machine moment r.turn.notices)
    by_cause StepFails moves fails = absurd (none_is_step moves fails)
    by_cause ReadFails moves fails = record { machine = ap (tick_machine moment b) (sym (take_none moves)); told = ap (tick_notices moment b) (sym (take_none moves)) }
    by_cause MemoryFails moves fails = record { machine = ap (tick_machine moment b) (sym (take_none moves)); told = ap (tick_notices moment b) (sym (take_none moves)) }

tick_turn : (s t : Machine) (moment : ℕ) (turn : Turn) → Next s (event_by 0 act.Tick moment) turn t → IsQuiet turn.notices → IsTick s t moment turn.notices
tick_turn s t moment turn n quiet =
    let f = n.faults in
    subst (λ (r : Transition). IsTick s r.machine moment r.turn.notices) n.ends
    (tick_next s moment f.begin f.act f.background n.may_come (subst (λ (r : Transition). IsQuiet r.turn.notices) (sym n.ends) quiet))

-- ---- one turn of a line

-- a turn of a line in which no fault is told, by how the line is read
record IsQuietLine (s : Machine) (moment : ℕ) (bytes : List ℕ) (said : Turn) (over : Bool) (t : Machine) : Type 0 where
  pub texts : (rest : Machine → List ℕ) → told_by (line_from bytes) s moment rest ≡ (if over then turn_text said else turn_text said ++ rest t)

-- a line that is read, and said as it is
read_quiet : (s : Machine) (moment : ℕ) (bytes : List ℕ) (said : Turn) (over : Bool) (t : Machine) (l : Line) → IsLine bytes l → over ≡ l.quit → Next s (event_by l.session l.act moment) said t → tells_of_fault said ≡ false
    → IsQuietLine s moment bytes said over t
read_quiet s moment bytes said over t l reads ends turns quiet = record {
  texts = λ rest. ap (λ r. told_by r s moment rest) (read_whole_line bytes l reads)
      ∙ ap (λ (r : Transition). told_then l.quit r rest) (quiet_turn s t (event_by l.session l.act moment) said turns quiet)
      ∙ by_end l.quit over ends rest;
}
  where
    by_end : (q o : Bool) → o ≡ q → (rest : Machine → List ℕ) → told_then q (record { machine = t; turn = said }) rest ≡ (if o then turn_text said else turn_text said ++ rest t)
    by_end true true e rest = refl
    by_end false false e rest = refl
    by_end true false e rest = absurd (cc)
    by_end false true e rest = absurd (cc)

-- a line that goes wrong
wrong_quiet : (s : Machine) (moment : ℕ) (bytes : List ℕ) (told : Turn) (at : ℕ) (t : Machine) → IsFaultOf bytes (fault.BadLine at) → Next s (event_by 0 act.Tick moment) told t → IsQuiet told.notices
    → IsQuietLine s moment bytes (unread (fault.BadLine at) told) false t
wrong_quiet s moment bytes told at t wrong turns quiet =
    let k = tick_turn s t moment told turns quiet in
    let r = next s (event_by 0 act.Tick moment) in
    record {
      texts = λ rest. ap (λ x. told_by x s moment rest) (found_wrong bytes at wrong)
          ∙ ap (λ ns. turn_text (record { reply = reply.Refused (refusal.BadLine at); notices = ns }) ++ rest r.machine) k.told
          ∙ ap (λ m. turn_text (unread (fault.BadLine at) told) ++ rest m) k.machine;
    }

-- either
line_quiet : (s : Machine) (moment : ℕ) (bytes : List ℕ) (said : Turn) (over : Bool) (t : Machine) → IsLineTurn s moment bytes said over t → tells_of_fault said ≡ false → IsQuietLine s moment bytes said over t
unfolding IsQuiet
line_quiet s moment bytes said over t (is_read l told reads ends turns (inl same)) quiet =
    read_quiet s moment bytes said over t l reads ends (subst (λ (x : Turn). Next s (event_by l.session l.act moment) x t) (sym same) turns) quiet
line_quiet s moment bytes said over t (is_read l told reads ends turns (inr (long, lacks))) quiet = absurd (clash (sym (ap tells_of_fault lacks) ∙ quiet))
  where
    clash : true ≡ false → ⊥
    clash h = cc
line_quiet s moment bytes said over t (is_unread fault.NoMemory told wrong ends turns same) quiet = absurd (clash (sym (ap tells_of_fault same) ∙ quiet))
  where
    clash : true ≡ false → ⊥
    clash h = cc
line_quiet s moment bytes said over t (is_unread (fault.BadLine at) told wrong ends turns same) quiet =
    let told_quiet : IsQuiet told.notices = sym (ap tells_of_fault same) ∙ quiet in
    subst (λ o. IsQuietLine s moment bytes said o t) (sym ends)
    (subst (λ (x : Turn). IsQuietLine s moment bytes x false t) (sym same) (wrong_quiet s moment bytes told at t wrong turns told_quiet))

-- ---- turns one after another

-- what may follow lines: nothing, however many lines are left, or the end of the input
pub data IsTail : List Occasion → List (List ℕ) → Type 0 where
  nothing : (more : List (List ℕ)) → IsTail [] more
  the_end : IsTail (OfEnd ∷ []) []

-- turns that were made put what the function gives, as far as they come
pub made_output : (lines more : List (List ℕ)) (rest : List Occasion) (s : Machine) (moments : List ℕ) (made : List MadeTurn) (reach : Reach) → IsTail rest more → AreMade s moments (map (λ l. OfLine l) lines ++ rest) made reach
    → has_fault made ≡ false → concat (texts_of made) ≡ output_of s moments (lines ++ more)
made_output [] more rest s moments made reach (nothing left) (none machine occasions) quiet = refl
made_output [] more rest s moments made reach the_end (none machine occasions) quiet = refl
made_output [] more rest s moments made reach the_end (end machine moment left m turns text) quiet =
    append-nil m.text ∙ text
    ∙ ap (λ (r : Transition). last_text r.turn) (sym (quiet_turn s m.machine (event_by 0 act.End moment) m.turn turns (or_left (tells_of_fault m.turn) false quiet)))
made_output (bytes ∷ lines) more rest s moments made reach tail (none machine occasions) quiet = refl
made_output (bytes ∷ lines) more rest s moments made reach tail (line machine moment moments' bytes' left m made' reach' turns text later) quiet =
    let q = line_quiet s moment bytes m.turn false m.machine turns (or_left (tells_of_fault m.turn) (has_fault made') quiet) in
    ap (λ x. x ++ concat (texts_of made')) text
    ∙ ap (λ x. turn_text m.turn ++ x) (made_output lines more rest m.machine moments' made' reach' tail later (or_right (tells_of_fault m.turn) (has_fault made') quiet))
    ∙ sym (q.texts (λ t. output_of t moments' (lines ++ more)))
made_output (bytes ∷ lines) more rest s moments made reach tail (quit machine moment bytes' left m turns text) quiet =
    let q = line_quiet s moment bytes m.turn true m.machine turns (or_left (tells_of_fault m.turn) false quiet) in
    append-nil m.text ∙ text
    ∙ sym (q.texts (λ t. output_of t [] (lines ++ more)))
