-- What each operation keeps holds of each tree, from a mount on and through every turn; and each session stands in a directory.
use Rattle.std.proofs.Common.{◌≡◌, ℕ, zero, suc, ◌⊎◌, inl, inr, List, [], ◌∷◌, length, refl, sym, ap, ◌∙◌, subst}
use Rattle.std.specs.Prelude.{Bool, true, false, not, ◌&&◌, Option, Some, None, Result, Ok, Err, is_some, map, option_and_then, option_map, replicate, nat_le, slice_get, ◌==◌, if◌then◌else◌}
use Rattle.std.proofs.lemmas.Option.{slice_get-map}
use Rattle.qx_model.specs.declared.operation.Op.{Op}
use Rattle.qx_model.specs.declared.refusal.Refusal.{Refusal}
use Rattle.qx_model.specs.declared.refusal.Refusal.TheVariants as refusal
use Rattle.qx_model.specs.declared.reply.Reply.TheVariants as reply
use Rattle.qx_model.specs.declared.turn.Act.{Act}
use Rattle.qx_model.specs.declared.turn.Act.TheVariants as act
use Rattle.qx_model.specs.declared.turn.VolEvent.{VolEvent}
use Rattle.qx_model.specs.declared.turn.Turn.{Turn}
use Rattle.qx_model.specs.Requests.{changes}
use Rattle.qx_model.specs.Tree.{Entry, IsDirectory, Tree, entry_of}
use Rattle.qx_model.specs.Rooted.{IsRooted}
use Rattle.qx_model.specs.Directories.{is_directory, is_live, parent_of_body}
use Rattle.qx_model.specs.Paths.{Followed, Itself, inode_at}
use Rattle.qx_model.specs.Edits.{Edit, Setting, StandsLive}
use Rattle.qx_model.specs.Effects.{Answers, Edits}
use Rattle.qx_model.specs.Operate.{operate}
use Rattle.qx_model.specs.Machine.{Copy, Frozen, Machine, Session, Volume, changed_at, directory_of, gone_to, hold_count, holding, left_in, session_count, setting_of, start_of, still_live, without_holds}
use Rattle.qx_model.specs.Snapshots.{Begin, Move, Step, after_move, after_moves, begun, is_last_step, is_time_to_begin, step_to, stepped}
use Rattle.qx_model.specs.Decisions.{Attempt, Decision, Fits, Lacks, Refuses, attempt}
use Rattle.qx_model.specs.Plans.{Becomes, Ending, GoesTo, Holds, Plan, Stays, after_edit, after_ending, changing_directory, decision_ending, directory_at, is_end, operating, plan, plan_of, planned, refused, sync_moves, syncing, syncing_path}
use Rattle.qx_model.specs.Next.{ActFault, Faults, Next, Transition, act_result, after_act, background_moves, begun_if, moves_made, next_under, timed_begin}
use Rattle.qx_model.specs.Whole.{HoldsRecords, IsWhole}
use Rattle.qx_model.specs.MachineTrees.{HasInodePlaces, HasRootedTrees, HasSoundTrees, HasTrees, HasVolumePlaces, HoldsOfFrozen, IsSoundTree}
use Rattle.qx_model.proofs.Places.{not_false, ok_test, ok_value}
use Rattle.qx_model.proofs.SettledAttempts.{IsSettled, attempt_settled, decision_from}
use Rattle.qx_model.proofs.RootedOperations.{operation_keeps_rooted}
use Rattle.qx_model.proofs.BoundedTrees.{operation_keeps_bounded}
use Rattle.qx_model.proofs.KeptEntries.{operation_directories, operation_places}
use Rattle.qx_model.proofs.WholeTrees.{operation_keeps_whole}
use Rattle.qx_model.proofs.UsedNames.{operation_used}

-- a directory is live
pub directory_live : (t : Tree) (n : ℕ) → is_directory t n ≡ true → is_live t n ≡ true
directory_live t n h = go (entry_of t n) h
  where
    go : (o : Option Entry) → is_some (option_and_then (λ (e : Entry). parent_of_body e.body) o) ≡ true → is_some o ≡ true
    go None h = absurd (cc)
    go (Some e) h = refl

-- the volume, a fact of each tree, and sessions in directories
pub record IsSteadyBy (v : Volume) (P : Tree → Type 0) (s : Machine) : Type 0 where
  pub volume : s.volume ≡ v
  pub working : P s.working.tree
  pub durable : P s.durable.copy.tree
  pub frozen : HoldsOfFrozen P s.frozen
  pub sessions : (k d : ℕ) → directory_of s k ≡ Some d → is_directory s.working.tree d ≡ true

-- ---- sessions

-- the sessions of two machines stand alike
SameStands : Machine → Machine → Type 0
SameStands s t = (k : ℕ) → directory_of t k ≡ directory_of s k

-- a change of each session that leaves where it stands
each_stands : (s : Machine) (change : Session → Session) → ((x : Session) → (change x).directory ≡ x.directory) → SameStands s (record s { sessions = map change s.sessions })
unfolding SameStands
each_stands s change same k =
    ap (option_and_then (λ (x : Session). x.directory)) (slice_get-map change s.sessions k) ∙ of_session (slice_get s.sessions k)
  where
    of_session : (o : Option Session) → option_and_then (λ (x : Session). x.directory) (option_map change o) ≡ option_and_then (λ (x : Session). x.directory) o
    of_session None = refl
    of_session (Some x) = same x

-- ---- a fact that each operation keeps

module _ (v : Volume) (P : Tree → Type 0) (rooted : (t : Tree) → P t → IsRooted t)
    (keeps : (g : Setting) (t : Tree) (o : Op) (is_removing : Bool) (e : Edit) → g.blocksize ≡ v.blocksize → P t → StandsLive g t → operate g t o ≡ Ok (Edits is_removing e) → P e.tree) where
  -- the machine is steady by it
  abbrev Steady : Machine → Type 0
  Steady s = IsSteadyBy v P s

  -- steady by the same trees and standings
  steady_alike : (s t : Machine) → t.volume ≡ s.volume → t.working ≡ s.working → t.durable ≡ s.durable → t.frozen ≡ s.frozen → SameStands s t → Steady s → Steady t
  unfolding SameStands
  steady_alike s t same_volume w d f same h = record {
    volume = same_volume ∙ h.volume;
    working = subst (λ (c : Copy). P c.tree) (sym w) h.working;
    durable = subst (λ z. P z.copy.tree) (sym d) h.durable;
    frozen = subst (HoldsOfFrozen P) (sym f) h.frozen;
    sessions = λ k n is. subst (λ (c : Copy). is_directory c.tree n ≡ true) (sym w) (h.sessions k n (sym (same k) ∙ is));
  }

  dropped_steady : (s : Machine) → Steady s → Steady (without_holds s)
  dropped_steady s h = steady_alike s (without_holds s) refl refl refl refl (each_stands s (holding false) (λ x. refl)) h

  -- ---- moves

  last_step_steady : (last : Bool) (s : Machine) (p : Frozen) → P p.snapshot.copy.tree → Steady s → Steady (step_to last s p)
  last_step_steady true s p f h = record { volume = h.volume; working = h.working; durable = f; frozen = tt; sessions = h.sessions }
  last_step_steady false s p f h = record { volume = h.volume; working = h.working; durable = h.durable; frozen = f; sessions = h.sessions }

  step_steady : (s : Machine) (o : Option Frozen) → HoldsOfFrozen P o → Steady s → Steady (stepped s o)
  step_steady s None f h = h
  step_steady s (Some p) f h = last_step_steady (is_last_step p) s p f h

  begun_steady : (moment : ℕ) (s : Machine) → Steady s → Steady (begun moment s)
  begun_steady moment s h = record { volume = h.volume; working = h.working; durable = h.durable; frozen = h.working; sessions = h.sessions }

  move_steady : (moment : ℕ) (s : Machine) (m : Move) → Steady s → Steady (after_move moment s m)
  move_steady moment s Begin h = begun_steady moment s h
  move_steady moment s Step h = step_steady s s.frozen h.frozen h

  moves_steady : (moment : ℕ) (ms : List Move) (s : Machine) → Steady s → Steady (after_moves moment s ms)
  moves_steady moment [] s h = h
  moves_steady moment (m ∷ ms) s h = moves_steady moment ms (after_move moment s m) (move_steady moment s m h)

  -- ---- endings

  -- what an ending may be where it comes
  IsFairEnding : Machine → Ending → Type 0
  IsFairEnding s Stays = Unit {0}
  IsFairEnding s (Becomes e) = P e.tree × ((d : ℕ) → is_directory s.working.tree d ≡ true → is_live e.tree d ≡ true → is_directory e.tree d ≡ true)
  IsFairEnding s (GoesTo k d) = is_directory s.working.tree d ≡ true
  IsFairEnding s (Holds k b) = Unit {0}

  -- after an edit each session stands in a directory: where it stood, and that lives on
  edit_stands : (e : Edit) (s : Machine) → Steady s → ((d : ℕ) → is_directory s.working.tree d ≡ true → is_live e.tree d ≡ true → is_directory e.tree d ≡ true) → (k d : ℕ) → directory_of (after_edit e s) k ≡ Some d → is_directory e.tree d ≡ true
  edit_stands e s h stays k d is = of_session (slice_get s.sessions k) refl (ap (option_and_then (λ (x : Session). x.directory)) (sym (slice_get-map (left_in e.tree) s.sessions k)) ∙ is)
    where
      kept : (b : Bool) (x : ℕ) → directory_of s k ≡ Some x → is_live e.tree x ≡ b → (if b then Some x else None) ≡ Some d → is_directory e.tree d ≡ true
      kept true x at live there = let same : x ≡ d = cc in subst (λ z. is_directory e.tree z ≡ true) same (stays x (h.sessions k x at) live)
      kept false x at live there = absurd (cc)

      of_directory : (o : Option ℕ) → directory_of s k ≡ o → still_live e.tree o ≡ Some d → is_directory e.tree d ≡ true
      of_directory None at h = absurd (cc)
      of_directory (Some x) at h = kept (is_live e.tree x) x at refl h

      of_session : (o : Option Session) → slice_get s.sessions k ≡ o → option_and_then (λ (x : Session). x.directory) (option_map (left_in e.tree) o) ≡ Some d → is_directory e.tree d ≡ true
      of_session None at h = absurd (cc)
      of_session (Some x) at h = of_directory x.directory (ap (option_and_then (λ (x : Session). x.directory)) at) h

  -- a session that is changed stands as the change says, the others as before
  session_stands : (xs : List Session) (k j : ℕ) (change : Session → Session) (d : ℕ) → option_and_then (λ (x : Session). x.directory) (slice_get (changed_at k change xs) j) ≡ Some d
      → ((x : Session) × (slice_get xs j ≡ Some x) × ((change x).directory ≡ Some d)) ⊎ (option_and_then (λ (x : Session). x.directory) (slice_get xs j) ≡ Some d)
  session_stands [] k j change d h = inr h
  session_stands (x ∷ xs) zero zero change d h = inl (x, refl, h)
  session_stands (x ∷ xs) zero (suc j) change d h = inr h
  session_stands (x ∷ xs) (suc k) zero change d h = inr h
  session_stands (x ∷ xs) (suc k) (suc j) change d h = session_stands xs k j change d h

  ending_steady : (e : Ending) (s : Machine) → IsFairEnding s e → Steady s → Steady (after_ending e s)
  unfolding IsFairEnding
  ending_steady Stays s f h = h
  ending_steady (Becomes e) s f h = record { volume = h.volume; working = f.0; durable = h.durable; frozen = h.frozen; sessions = λ k d is. edit_stands e s h f.1 k d is }
  ending_steady (GoesTo k n) s f h = record {
    volume = h.volume;
    working = h.working;
    durable = h.durable;
    frozen = h.frozen;
    sessions = λ j d is. (elim (session_stands s.sessions k j (gone_to n) d is) [
      | inl w ↦ let same : n ≡ d = cc_some n d w.2 in subst (λ z. is_directory s.working.tree z ≡ true) same f
      | inr old ↦ h.sessions j d old
    ]);
  }
    where
      cc_some : (n d : ℕ) → Some n ≡ Some d → n ≡ d
      cc_some n d h = cc
  ending_steady (Holds k b) s f h = record {
    volume = h.volume;
    working = h.working;
    durable = h.durable;
    frozen = h.frozen;
    sessions = λ j d is. (elim (session_stands s.sessions k j (holding b) d is) [ inl w ↦ h.sessions j d (ap (option_and_then (λ (x : Session). x.directory)) w.1 ∙ w.2) | inr old ↦ h.sessions j d old ]);
  }

  -- ---- plans

  -- where a plan's moves lead, its ending is fair
  record IsFairPlan (moment : ℕ) (p : Plan) : Type 0 where
    from : Steady p.from
    ends : IsFairEnding (after_moves moment p.from p.moves) p.ending

  still : (moment : ℕ) (p : Plan) → Steady p.from → p.ending ≡ Stays → IsFairPlan moment p
  unfolding IsFairEnding
  still moment p h is = record { from = h; ends = subst (λ e. IsFairEnding (after_moves moment p.from p.moves) e) (sym is) tt }

  fair_decided : (s : Machine) (k moment : ℕ) (o : Op) (a : Attempt) (d : Decision) → a.decision ≡ d → IsSettled s k moment o a → Steady s → IsFairEnding (after_moves moment s a.moves) (decision_ending d)
  unfolding IsFairEnding
  fair_decided s k moment o a (Refuses r) is f h = tt
  fair_decided s k moment o a (Lacks need free) is f h = tt
  fair_decided s k moment o a (Fits (Answers r)) is f h = tt
  fair_decided s k moment o a (Fits (Edits is_removing e)) is f h =
      let m = after_moves moment s a.moves in
      let steady = moves_steady moment a.moves s h in
      let done = subst (λ (x : Machine). operate (setting_of x k moment) x.working.tree o ≡ Ok (Edits is_removing e)) f.stands (decision_from a.machine k moment o is_removing e (sym f.decides ∙ is)) in
      let stands : StandsLive (setting_of m k moment) m.working.tree = λ d at. directory_live m.working.tree d (steady.sessions k d at) in (
        keeps (setting_of m k moment) m.working.tree o is_removing e (ap (λ (v : Volume). v.blocksize) steady.volume) steady.working stands done,
        operation_directories (setting_of m k moment) m.working.tree o is_removing e (rooted m.working.tree steady.working) stands done,
      )

  fair_operating : (s : Machine) (k moment : ℕ) (o : Op) → Steady s → IsFairPlan moment (operating s k moment o)
  fair_operating s k moment o h = go (changes o && s.volume.is_read_only)
    where
      go : (b : Bool) → IsFairPlan moment (if b then refused s refusal.ReadOnly else plan_of s (attempt s k moment o))
      go true = still moment (refused s refusal.ReadOnly) h refl
      go false = record { from = h; ends = fair_decided s k moment o (attempt s k moment o) (attempt s k moment o).decision refl (attempt_settled s k moment o) h }

  fair_syncing : (moment : ℕ) (s : Machine) → Steady s → IsFairPlan moment (syncing moment s)
  fair_syncing moment s h = go (hold_count s == 0)
    where
      go : (b : Bool) → IsFairPlan moment (if b then record { from = s; moves = sync_moves moment s; reply = reply.Done; ending = Stays } else refused s (refusal.Held (hold_count s)))
      go true = still moment (record { from = s; moves = sync_moves moment s; reply = reply.Done; ending = Stays }) h refl
      go false = still moment (refused s (refusal.Held (hold_count s))) h refl

  fair_path : (moment : ℕ) (s : Machine) (r : Result ℕ Refusal) → Steady s → IsFairPlan moment (syncing_path moment s r)
  fair_path moment s (Err r) h = still moment (refused s r) h refl
  fair_path moment s (Ok n) h = fair_syncing moment s h

  goes_fair : (s : Machine) (k : ℕ) (path : List ℕ) (d : ℕ) → directory_at s k path ≡ Ok d → IsFairEnding s (GoesTo k d)
  unfolding IsFairEnding
  goes_fair s k path d is =
      let a = ok_value (inode_at s.working.tree (directory_of s k) Followed path) _ d is in
      let b = ok_test (not (is_directory s.working.tree a.0)) refusal.NotDir (Ok a.0) d a.2 in
      let same : a.0 ≡ d = cc in
      subst (λ z. is_directory s.working.tree z ≡ true) same (not_false (is_directory s.working.tree a.0) b.0)

  fair_directory : (moment : ℕ) (s : Machine) (k : ℕ) (path : List ℕ) → Steady s → IsFairPlan moment (changing_directory s k (directory_at s k path))
  fair_directory moment s k path h = go (directory_at s k path) refl
    where
      go : (r : Result ℕ Refusal) → directory_at s k path ≡ r → IsFairPlan moment (changing_directory s k r)
      go (Err r) is = still moment (refused s r) h refl
      go (Ok d) is = record { from = h; ends = goes_fair s k path d is }

  fair_holds : (moment : ℕ) (s : Machine) (k : ℕ) (b : Bool) → Steady s → IsFairPlan moment (record { from = s; moves = []; reply = reply.Done; ending = Holds k b })
  unfolding IsFairEnding
  fair_holds moment s k b h = record { from = h; ends = tt }

  fair_planned : (s : Machine) (k moment : ℕ) (a : Act) → Steady s → IsFairPlan moment (planned s k moment a)
  fair_planned s k moment (act.Op o) h = fair_operating s k moment o h
  fair_planned s k moment (act.Cd path) h = fair_directory moment s k path h
  fair_planned s k moment act.Df h = still moment (planned s k moment act.Df) h refl
  fair_planned s k moment act.Hold h = fair_holds moment s k true h
  fair_planned s k moment act.Unhold h = fair_holds moment s k false h
  fair_planned s k moment act.Sync h = fair_syncing moment s h
  fair_planned s k moment (act.Fsync path) h = fair_path moment s (inode_at s.working.tree (directory_of s k) Itself path) h
  fair_planned s k moment act.Tick h = still moment (planned s k moment act.Tick) h refl
  fair_planned s k moment act.End h = fair_syncing moment (without_holds s) (dropped_steady s h)

  fair_plan : (s : Machine) (e : VolEvent) → Steady s → IsFairPlan e.moment (plan s e)
  unfolding plan
  fair_plan s e h = go (nat_le session_count e.session && not (is_end e.act))
    where
      go : (b : Bool) → IsFairPlan e.moment (if b then refused s refusal.NoSession else planned s e.session e.moment e.act)
      go true = still e.moment (refused s refusal.NoSession) h refl
      go false = fair_planned s e.session e.moment e.act h

  -- ---- turns

  begin_steady : (time fails : Bool) (moment : ℕ) (s : Machine) → Steady s → Steady (begun_if time fails moment s)
  begin_steady false fails moment s h = h
  begin_steady true false moment s h = begun_steady moment s h
  begin_steady true true moment s h = h

  act_steady : (stop : Option ActFault) (moment : ℕ) (p : Plan) → IsFairPlan moment p → Steady (after_act stop moment p).machine
  act_steady None moment p f = ending_steady p.ending (after_moves moment p.from p.moves) f.ends (moves_steady moment p.moves p.from f.from)
  act_steady (Some stop) moment p f = moves_steady moment (moves_made (Some stop) p) p.from f.from

  next_steady : (f : Faults) (s : Machine) (e : VolEvent) → Steady s → Steady (next_under f s e).machine
  unfolding next_under
  next_steady f s e h =
      let begun = timed_begin f.begin e.moment s in
      let a = act_result f s e in
      moves_steady e.moment (background_moves f.background a) a.machine
      (act_steady f.act e.moment (plan begun e) (fair_plan begun e (begin_steady (is_time_to_begin s e.moment) f.begin e.moment s h)))

  -- a turn leaves it so
  pub turn_keeps : (s t : Machine) (e : VolEvent) (turn : Turn) → Steady s → Next s e turn t → Steady t
  turn_keeps s t e turn h n = subst (λ (r : Transition). Steady r.machine) n.ends (next_steady n.faults s e h)

-- ---- rooted trees, and sound ones

-- the trees of a machine, with its volume
to_steady : (P : Tree → Type 0) (s : Machine) → HasTrees P s → IsSteadyBy s.volume P s
to_steady P s h = record { volume = refl; working = h.working; durable = h.durable; frozen = h.frozen; sessions = h.sessions }

-- and without it
from_steady : (v : Volume) (P : Tree → Type 0) (s : Machine) → IsSteadyBy v P s → HasTrees P s
from_steady v P s h = record { working = h.working; durable = h.durable; frozen = h.frozen; sessions = h.sessions }

-- a turn leaves trees rooted and sessions in directories
pub turn_steady : (s t : Machine) (e : VolEvent) (turn : Turn) → HasRootedTrees s → Next s e turn t → HasRootedTrees t
turn_steady s t e turn h n =
    from_steady s.volume IsRooted t
    (turn_keeps s.volume IsRooted (λ t r. r) (λ g t o is_removing e same r stands done. operation_keeps_rooted g t o is_removing e r stands done) s t e turn (to_steady IsRooted s h) n)

-- an operation keeps a sound tree sound
keeps_sound : (b : ℕ) → HoldsRecords b → (g : Setting) (t : Tree) (o : Op) (is_removing : Bool) (e : Edit) → g.blocksize ≡ b → IsSoundTree b t → StandsLive g t → operate g t o ≡ Ok (Edits is_removing e) → IsSoundTree b e.tree
keeps_sound b holds g t o is_removing e same h stands done =
    let whole : IsWhole g.blocksize t = subst (λ x. IsWhole x t) (sym same) h.whole in
    let own = subst HoldsRecords (sym same) holds in
    record {
      rooted = operation_keeps_rooted g t o is_removing e h.rooted stands done;
      whole = subst (λ x. IsWhole x e.tree) same (operation_keeps_whole g t o is_removing e own h.rooted whole stands done);
      used = operation_used g t o is_removing e own h.rooted whole stands h.used done;
      bounded = operation_keeps_bounded g t o is_removing e h.rooted whole.entries h.bounded stands done;
    }

-- and so does a turn
pub turn_sound : (s t : Machine) (e : VolEvent) (turn : Turn) → HoldsRecords s.volume.blocksize → HasSoundTrees s → Next s e turn t → HasSoundTrees t
turn_sound s t e turn holds h n =
    let b = s.volume.blocksize in
    let after : IsSteadyBy s.volume (IsSoundTree b) t = turn_keeps s.volume (IsSoundTree b) (λ t h. h.rooted) (keeps_sound b holds) s t e turn (to_steady (IsSoundTree b) s h) n in
    subst (λ (v : Volume). HasTrees (IsSoundTree v.blocksize) t) (sym after.volume) (from_steady s.volume (IsSoundTree b) t after)

-- and the places of all trees
pub turn_places : (s t : Machine) (e : VolEvent) (turn : Turn) → HasVolumePlaces s → Next s e turn t → HasVolumePlaces t
turn_places s t e turn h n =
    let m = s.volume.inodes in
    let after : IsSteadyBy s.volume (HasInodePlaces m) t = turn_keeps s.volume (HasInodePlaces m) (λ t h. h.rooted)
    (λ g t o is_removing e same h stands done. record { rooted = operation_keeps_rooted g t o is_removing e h.rooted stands done; places = operation_places g t o is_removing e h.rooted stands done ∙ h.places }) s t e turn (to_steady (HasInodePlaces m) s h) n in
    subst (λ (v : Volume). HasTrees (HasInodePlaces v.inodes) t) (sym after.volume) (from_steady s.volume (HasInodePlaces m) t after)

-- ---- a mount

module _ (P : Tree → Type 0) (v : Volume) (t : Tree) (serial moment : ℕ) (is : P t) (r : IsRooted t) where
  top_directory : is_directory t 1 ≡ true
  top_directory = let top : IsDirectory t 1 1 = r.top in ap (λ o. is_some (option_and_then (λ (e : Entry). parent_of_body e.body) o)) top.2 ∙ ap (λ b. is_some (parent_of_body b)) top.3

  stand : (n k d : ℕ) → option_and_then (λ (x : Session). x.directory) (slice_get (replicate n (record { directory = Some 1; holds = false })) k) ≡ Some d → is_directory t d ≡ true
  stand zero k d h = absurd (cc)
  stand (suc n) zero d h = let same : 1 ≡ d = cc in subst (λ z. is_directory t z ≡ true) same top_directory
  stand (suc n) (suc k) d h = stand n k d h

  -- the trees of a mount are as the one that is mounted
  start_has : HasTrees P (start_of v t serial moment)
  start_has = record { working = is; durable = is; frozen = tt; sessions = λ k d at. stand 16 k d at }

-- where a rooted tree is mounted, all trees are rooted
pub start_steady : (v : Volume) (t : Tree) (serial moment : ℕ) → IsRooted t → HasRootedTrees (start_of v t serial moment)
start_steady v t serial moment r = start_has IsRooted v t serial moment r r

-- and sound, where it is
pub start_sound : (v : Volume) (t : Tree) (serial moment : ℕ) → IsSoundTree v.blocksize t → HasSoundTrees (start_of v t serial moment)
start_sound v t serial moment h = start_has (IsSoundTree v.blocksize) v t serial moment h h.rooted

-- and have the volume's places, where it has
pub start_places : (v : Volume) (t : Tree) (serial moment : ℕ) → IsRooted t → length t.inodes ≡ v.inodes → HasVolumePlaces (start_of v t serial moment)
start_places v t serial moment r long = start_has (HasInodePlaces v.inodes) v t serial moment (record { rooted = r; places = long }) r
