-- The machines of a run, and how a run of turns ends.
use Rattle.std.proofs.Common.{◌≡◌, inl, inr, ℕ, suc, ◌<◌, List, [], ◌∷◌, ◌++◌, length, map, refl, sym, ap, ◌∙◌, subst, arith, length-append}
use Rattle.std.specs.Prelude.{Bool, true, false, Contains, filter, not, ◌==◌}
use Rattle.std.specs.List.{concat, slice_split}
use Rattle.std.proofs.lemmas.List.Elements.{filter-append}
use Rattle.std.proofs.lemmas.List.Splits.{length-slice_split}
use Rattle.qx_geom.proofs.Members.{Contains-cases}
use Rattle.qx_model.specs.declared.reply.Reply.{Reply}
use Rattle.qx_model.specs.declared.reply.Reply.TheVariants as reply
use Rattle.qx_model.specs.declared.refusal.Refusal.{Refusal}
use Rattle.qx_model.specs.declared.refusal.Refusal.TheVariants as refusal
use Rattle.qx_model.specs.declared.turn.Act.{Act}
use Rattle.qx_model.specs.declared.turn.Act.TheVariants as act
use Rattle.qx_model.specs.declared.turn.Turn.{Turn}
use Rattle.qx_model.specs.Machine.{Machine}
use Rattle.qx_model.specs.Next.{Next}
use Rattle.qx_model.specs.Plans.{is_end}
use Rattle.qx_model.proofs.ListMembers.{Contains-none}
use Rattle.qx_words.specs.declared.line.Line.{Line}
use Rattle.qx_words.specs.Lines.{IsText, bare, lines_of, of_session}
use Rattle.qx_words.specs.Scripts.{event_by}
use Rattle.qx_words.specs.Texts.{reply_text, space_text, stat_text, turn_text}
use Rattle.qx_shell.specs.Occasions.{OfEnd, OfLine, Occasion, but_last, ended_lines_of, occasions_in}
use Rattle.qx_shell.specs.MadeTurns.{AreMade, IsLineTurn, Over, MadeTurn, Reach, end, is_read, is_unread, last_machine, line, none, quit, texts_of}
use Rattle.qx_shell.specs.Ends.{IsLastStatus, IsStatusOf}
use Rattle.qx_shell.specs.Mounts.{How, IsStart, of_foreign, of_sound}
use Rattle.qx_shell.specs.NewestCopies.{IsAllDurable, IsMarked}
use Rattle.qx_shell.proofs.LastTurns.{end_settles, refusal_some}
use Rattle.qx_shell.proofs.MarkedMachines.{start_marked, turn_marked}

-- no last turn was made without an occasion
not_over : {s : Machine} {moments : List ℕ} {made : List MadeTurn} → AreMade s moments [] made Over → ⊥
not_over turns = elim turns [ ]

-- nor any without a turn
empty_over : {s : Machine} {moments : List ℕ} {occasions : List Occasion} → AreMade s moments occasions [] Over → ⊥
empty_over turns = elim turns [ ]

-- ---- machines

-- each turn has its moment
pub made_moments : (s : Machine) (moments : List ℕ) (occasions : List Occasion) (made : List MadeTurn) (reach : Reach) → AreMade s moments occasions made reach → length made ≡ length moments
made_moments s moments occasions made reach (none s' left) = refl
made_moments s moments occasions made reach (line s' moment moments' bytes left m made' reach' turns text later) = ap suc (made_moments m.machine moments' left made' reach' later)
made_moments s moments occasions made reach (quit s' moment bytes left m turns text) = refl
made_moments s moments occasions made reach (end s' moment left m turns text) = refl

-- a mount is marked
pub mount_marked : (img : List ℕ) (moment : ℕ) (s : Machine) (how : How) → IsStart img moment s how → IsMarked s
mount_marked img moment s how (of_sound h z) = subst IsMarked (sym z.starts) (start_marked _ z.tree z.superblock.serial moment)
mount_marked img moment s how (of_foreign z) = subst IsMarked (sym z.starts) (start_marked _ z.has.tree z.has.superblock.serial moment)

line_marked : (s : Machine) (moment : ℕ) (bytes : List ℕ) (said : Turn) (over : Bool) (t : Machine) → IsMarked s → IsLineTurn s moment bytes said over t → IsMarked t
line_marked s moment bytes said over t m (is_read l told reads ends turns says) = turn_marked s t (event_by l.session l.act moment) told m turns
line_marked s moment bytes said over t m (is_unread f told wrong ends turns says) = turn_marked s t (event_by 0 act.Tick moment) told m turns

-- so is each machine of a run
first_or_later : (n m : MadeTurn) (made : List MadeTurn) → IsMarked n.machine → (Contains made m → IsMarked m.machine) → Contains (n ∷ made) m → IsMarked m.machine
first_or_later n m made here later c = elim (Contains-cases n m made c) [ inl same ↦ subst (λ (x : MadeTurn). IsMarked x.machine) same here | inr more ↦ later more ]

pub run_marked : (s : Machine) (moments : List ℕ) (occasions : List Occasion) (made : List MadeTurn) (reach : Reach) → IsMarked s → AreMade s moments occasions made reach → (m : MadeTurn) → Contains made m → IsMarked m.machine
run_marked s moments occasions made reach h (none s' left) m c = absurd (Contains-none m c)
run_marked s moments occasions made reach h (line s' moment moments' bytes left n made' reach' turns text later) m c =
    let here = line_marked s moment bytes n.turn false n.machine h turns in
    first_or_later n m made' here (run_marked n.machine moments' left made' reach' here later m) c
run_marked s moments occasions made reach h (quit s' moment bytes left n turns text) m c =
    first_or_later n m [] (line_marked s moment bytes n.turn true n.machine h turns) (λ more. absurd (Contains-none m more)) c
run_marked s moments occasions made reach h (end s' moment left n turns text) m c =
    first_or_later n m [] (turn_marked s n.machine (event_by 0 act.End moment) n.turn h turns) (λ more. absurd (Contains-none m more)) c

-- ---- the end with status 0

-- an act that ends the script is the end
is_the_end : (a : Act) → is_end a ≡ true → a ≡ act.End
is_the_end act.End h = refl
is_the_end (act.Op o) h = absurd (cc)
is_the_end (act.Cd path) h = absurd (cc)
is_the_end act.Df h = absurd (cc)
is_the_end act.Hold h = absurd (cc)
is_the_end act.Unhold h = absurd (cc)
is_the_end act.Sync h = absurd (cc)
is_the_end (act.Fsync path) h = absurd (cc)
is_the_end act.Tick h = absurd (cc)

quit_is_end : (bytes : List ℕ) (l : Line) → IsText bytes l → l.quit ≡ true → l.act ≡ act.End
quit_is_end bytes l (bare b a c) h = is_the_end a h
quit_is_end bytes l (of_session n number b a i c) h = is_the_end a h

-- status 0 is that of a turn that is done
refused_done : (r : Refusal) → IsStatusOf (reply.Refused r) 0 → ⊥
refused_done refusal.NoEntry h = h
refused_done refusal.NotDir h = h
refused_done refusal.IsDir h = h
refused_done refusal.Exists h = h
refused_done refusal.NotEmpty h = h
refused_done refusal.NameTooLong h = h
refused_done refusal.BadPath h = h
refused_done refusal.LinkLoop h = h
refused_done refusal.WrongKind h = h
refused_done refusal.FileTooBig h = h
refused_done (refusal.NoSpace need free) h = h
refused_done refusal.NoInodes h = h
refused_done refusal.ReadOnly h = h
refused_done refusal.IntoItself h = h
refused_done refusal.Reserved h = h
refused_done refusal.Device h = absurd (omega (arith, h))
refused_done refusal.NoMemory h = absurd (omega (arith, h))
refused_done (refusal.Held count) h = h
refused_done refusal.SerialEnd h = h
refused_done refusal.NoSession h = h
refused_done (refusal.BadLine at) h = h

pub done_by_status : (r : Reply) → IsStatusOf r 0 → r ≡ reply.Done
done_by_status reply.Done h = refl
done_by_status (reply.Refused r) h = absurd (refused_done r h)
done_by_status (reply.Rows rows) h = absurd h
done_by_status (reply.Stat v) h = absurd h
done_by_status (reply.Bytes bytes) h = absurd h
done_by_status (reply.Target target) h = absurd h
done_by_status (reply.Space v) h = absurd h

quit_settles : (s : Machine) (moment : ℕ) (bytes : List ℕ) (said : Turn) (t : Machine) → IsMarked s → IsLineTurn s moment bytes said true t → said.reply ≡ reply.Done → IsAllDurable t
quit_settles s moment bytes said t m (is_read l told reads ends turns (inl same)) done =
    let is : l.act ≡ act.End = quit_is_end bytes l reads.text (sym ends) in
    let next : Next s (event_by l.session act.End moment) told t = subst (λ a. Next s (event_by l.session a moment) told t) is turns in
    end_settles s t l.session moment told m next (sym (ap (λ (x : Turn). x.reply) same) ∙ done)
quit_settles s moment bytes said t m (is_read l told reads ends turns (inr (long, lacks))) done = absurd (clash (sym (ap (λ (x : Turn). x.reply) lacks) ∙ done))
  where
    clash : reply.Refused refusal.NoMemory ≡ reply.Done → ⊥
    clash h = cc
quit_settles s moment bytes said t m (is_unread f told wrong ends turns says) done = absurd (cc)

-- turns that end with status 0 leave all durable
pub run_settles : (s : Machine) (moments : List ℕ) (occasions : List Occasion) (made : List MadeTurn) → IsMarked s → AreMade s moments occasions made Over → IsLastStatus made 0 → IsAllDurable (last_machine s made)
run_settles s moments occasions made h (line s' moment moments' bytes left m [] reach' turns text later) status = absurd (empty_over later)
run_settles s moments occasions made h (line s' moment moments' bytes left m (n ∷ made') reach' turns text later) status =
    run_settles m.machine moments' left (n ∷ made') (line_marked s moment bytes m.turn false m.machine h turns) later status
run_settles s moments occasions made h (quit s' moment bytes left m turns text) status = quit_settles s moment bytes m.turn m.machine h turns (done_by_status m.turn.reply status)
run_settles s moments occasions made h (end s' moment left m turns text) status = end_settles s m.machine 0 moment m.turn h turns (done_by_status m.turn.reply status)

-- the last of some turns, and the machine after it
pub record HasLast (s : Machine) (made : List MadeTurn) : Type 0 where
  pub before : List MadeTurn
  pub last : MadeTurn
  pub split : made ≡ before ++ last ∷ []
  pub machine : last_machine s made ≡ last.machine

last_of : (s : Machine) (m : MadeTurn) (made : List MadeTurn) → HasLast s (m ∷ made)
last_of s m [] = record { before = []; last = m; split = refl; machine = refl }
last_of s m (n ∷ made) = let l = last_of m.machine n made in record { before = m ∷ l.before; last = l.last; split = ap (λ xs. m ∷ xs) l.split; machine = l.machine }

-- turns of which the last was made have a last one
pub over_last : (s : Machine) (moments : List ℕ) (occasions : List Occasion) (made : List MadeTurn) → AreMade s moments occasions made Over → HasLast s made
over_last s moments occasions made (line s' moment moments' bytes left m made' reach' turns text later) = last_of s m made'
over_last s moments occasions made (quit s' moment bytes left m turns text) = last_of s m []
over_last s moments occasions made (end s' moment left m turns text) = last_of s m []

-- ---- texts

reply_some : (r : Reply) → 0 < length (reply_text r)
unfolding stat_text space_text
reply_some reply.Done = omega arith
reply_some (reply.Rows rows) = omega arith
reply_some (reply.Stat v) = omega arith
reply_some (reply.Bytes bytes) = omega arith
reply_some (reply.Target target) = omega arith
reply_some (reply.Space v) = omega arith
reply_some (reply.Refused r) = refusal_some r

-- each turn of a line has a text
pub turn_some : (t : Turn) → 0 < length (turn_text t)
unfolding turn_text
turn_some t = let some = reply_some t.reply in omega (arith, length-append {A = ℕ})

-- turns that begin with a line's put something
line_puts : (s : Machine) (moments : List ℕ) (bytes : List ℕ) (left : List Occasion) (made : List MadeTurn) → AreMade s moments (OfLine bytes ∷ left) made Over → 0 < length (concat (texts_of made))
line_puts s moments bytes left made (line s' moment moments' bytes' left' m made' reach' turns text later) =
    let some = turn_some m.turn in let same : length m.text ≡ length (turn_text m.turn) = ap length text in omega (arith, length-append m.text (concat (texts_of made')))
line_puts s moments bytes left made (quit s' moment bytes' left' m turns text) =
    let some = turn_some m.turn in let same : length m.text ≡ length (turn_text m.turn) = ap length text in let nothing : List ℕ = [] in omega (arith, length-append m.text nothing)

-- a script with a line puts something
pub script_puts : (s : Machine) (moments : List ℕ) (over : Bool) (script : List ℕ) (made : List MadeTurn) → 0 < length (lines_of script) → AreMade s moments (occasions_in over script) made Over → 0 < length (concat (texts_of made))
script_puts s moments true script made some turns = go (lines_of script) some turns
  where
    go : (lines : List (List ℕ)) → 0 < length lines → AreMade s moments (map (λ l. OfLine l) lines ++ OfEnd ∷ []) made Over → 0 < length (concat (texts_of made))
    go [] h a = absurd (omega arith)
    go (l ∷ lines) h a = line_puts s moments l (map (λ x. OfLine x) lines ++ OfEnd ∷ []) made a
script_puts s moments false script made some turns = go (ended_lines_of script) turns
  where
    go : (lines : List (List ℕ)) → AreMade s moments (map (λ l. OfLine l) lines) made Over → 0 < length (concat (texts_of made))
    go [] a = absurd (not_over a)
    go (l ∷ lines) a = line_puts s moments l (map (λ x. OfLine x) lines) made a

-- ---- lines

last_piece : {A : Type 0} (xs : List A) → 0 < length xs → (z : A) × (xs ≡ but_last xs ++ z ∷ [])
last_piece [] h = absurd (omega arith)
last_piece (x ∷ []) h = (x, refl)
last_piece (x ∷ y ∷ rest) h = let (z, same) = last_piece (y ∷ rest) (omega arith) in (z, ap (λ xs. x ∷ xs) same)

-- the lines of a script are those that a newline ends, and maybe one more
pub lines_more : (script : List ℕ) → (more : List (List ℕ)) × (lines_of script ≡ ended_lines_of script ++ more)
lines_more script =
    let pieces = slice_split (λ c. c == 10) script in
    let long = length-slice_split (λ c. c == 10) script in
    let (z, same) = last_piece pieces (omega arith) in
    let is_line = λ (l : List ℕ). not (length l == 0) in
    (filter is_line (z ∷ []), ap (filter is_line) same ∙ filter-append is_line (but_last pieces) (z ∷ []))
