-- Machines that differ in the names of ids alone decide alike, and plan the same moves, reply and ending.
use Rattle.std.proofs.Common.{◌≡◌, ℕ, ◌-◌, ◌^◌, List, [], ◌∷◌, ◌++◌, refl, sym, ap, ◌∙◌, subst}
use Rattle.std.specs.Prelude.{Bool, true, false, not, ◌&&◌, ◌||◌, Option, Some, None, Result, Ok, Err, count_by, is_none, is_ok, is_some, max, option_and_then, replicate, slice_get, ◌==◌, if◌then◌else◌}
use Rattle.qx_model.specs.declared.operation.Op.{Op}
use Rattle.qx_model.specs.declared.refusal.Refusal.{Refusal}
use Rattle.qx_model.specs.declared.refusal.Refusal.TheVariants as refusal
use Rattle.qx_model.specs.declared.reply.Reply.TheVariants as reply
use Rattle.qx_model.specs.declared.turn.Act.{Act}
use Rattle.qx_model.specs.declared.turn.Act.TheVariants as act
use Rattle.qx_model.specs.declared.turn.VolEvent.{VolEvent}
use Rattle.qx_model.specs.Requests.{changes}
use Rattle.qx_model.specs.Outcomes.{◌>>=◌, ◌>>◌, refuse_if}
use Rattle.qx_model.specs.Directories.{is_directory, live_count}
use Rattle.qx_model.specs.Paths.{Followed, Itself, inode_at}
use Rattle.qx_model.specs.Effects.{Answers, Edits, Effect}
use Rattle.qx_model.specs.Operate.{operate}
use Rattle.qx_model.specs.Machine.{Frozen, Machine, Session, directory_of, hold_count, setting_of, without_holds}
use Rattle.qx_model.specs.Space.{space_of}
use Rattle.qx_model.specs.Snapshots.{Begin, Move, Step, after_moves, due_of, finishing, whole_snapshot}
use Rattle.qx_model.specs.Decisions.{Attempt, Refuses, after_finish, after_more, after_snapshot, attempt, decided, decided_by_room, decision, first_attempt, frozen_serial, is_lacking, is_serial_end, last_serial}
use Rattle.qx_model.specs.Plans.{Plan, Stays, changing_directory, decision_ending, decision_reply, directory_at, lacks_session, operating, plan, plan_of, planned, refused, snapshot_if_changed, sync_moves, syncing, syncing_path}
use Rattle.qx_model.specs.TreeReads.{operation_start, reads_after, reads_tree, walk_start}
use Rattle.qx_model.specs.NamedIds.{DifferInIds, AreBothAlike}
use Rattle.qx_model.proofs.AlikeMachines.{dropped_alike, free_same, moves_alike, need_same, wanted_same}

-- ---- what the frozen copies have in common

pub due_same : (o u : Option Frozen) → AreBothAlike o u → due_of u ≡ due_of o
due_same None None a = refl
due_same None (Some q) a = absurd a
due_same (Some p) None a = absurd a
due_same (Some p) (Some q) a = a.due

pub some_same : (o u : Option Frozen) → AreBothAlike o u → is_some u ≡ is_some o
some_same None None a = refl
some_same None (Some q) a = absurd a
some_same (Some p) None a = absurd a
some_same (Some p) (Some q) a = refl

pub none_same : (o u : Option Frozen) → AreBothAlike o u → is_none u ≡ is_none o
none_same None None a = refl
none_same None (Some q) a = absurd a
none_same (Some p) None a = absurd a
none_same (Some p) (Some q) a = refl

serial_same : (o u : Option Frozen) → AreBothAlike o u → frozen_serial u ≡ frozen_serial o
serial_same None None a = refl
serial_same None (Some q) a = absurd a
serial_same (Some p) None a = absurd a
serial_same (Some p) (Some q) a = let same = a.snapshot in same.serial

-- ---- decisions

module _ (s t : Machine) (d : DifferInIds s t) where
  last_same : last_serial t ≡ last_serial s
  last_same = let durable = d.same.durable in λ i. max (durable.serial i) (serial_same s.frozen t.frozen d.same.frozen i)

  pub directory_same : (k : ℕ) → directory_of t k ≡ directory_of s k
  directory_same k = λ i. option_and_then (λ (x : Session). x.directory) (slice_get (d.same.sessions i) k)

  setting_same : (k moment : ℕ) → setting_of t k moment ≡ setting_of s k moment
  setting_same k moment = λ i. record { blocksize = (d.same.volume i).blocksize; base = directory_same k i; moment = moment }

  decided_same : (r : Result Effect Refusal) → decided t r ≡ decided s r
  decided_same (Err r) = refl
  decided_same (Ok (Answers r)) = refl
  decided_same (Ok (Edits is_removing e)) = λ i. decided_by_room is_removing e (need_same s t d e i) (free_same s t d i)

  -- a decision
  decision_same : (k moment : ℕ) (o : Op) → decision t k moment o ≡ decision s k moment o
  unfolding decision
  decision_same k moment o =
      (λ i. if changes o && (last_same i == 2 ^ 64 - 1) then Refuses refusal.SerialEnd else decided t (operate (setting_same k moment i) (d.same.working i) o))
      ∙ ap (λ x. if changes o && is_serial_end s then Refuses refusal.SerialEnd else x) (decided_same (operate (setting_of s k moment) s.working.tree o))

  -- the moves that finish a snapshot, and those of a whole one
  finishing_same : finishing t ≡ finishing s
  finishing_same = ap (λ n. replicate n Step) (due_same s.frozen t.frozen d.same.frozen)

  whole_same : whole_snapshot t ≡ whole_snapshot s
  whole_same = ap (λ n. Begin ∷ replicate n Step) (wanted_same s t d)

  -- how many sessions hold
  pub holds_same : hold_count t ≡ hold_count s
  holds_same = ap (count_by (λ (x : Session). x.holds)) d.same.sessions

-- ---- attempts

-- two attempts make the same moves and decide the same
record AlikeAttempts (a c : Attempt) : Type 0 where
  moves : c.moves ≡ a.moves
  machine : DifferInIds a.machine c.machine
  decision : c.decision ≡ a.decision

more_alike : (k moment : ℕ) (o : Op) (a c : Attempt) (more less : List Move) → less ≡ more → AlikeAttempts a c → AlikeAttempts (after_more k moment o a more) (after_more k moment o c less)
more_alike k moment o a c more less same f =
    subst (λ ms. AlikeAttempts (after_more k moment o a more) (after_more k moment o c ms)) (sym same)
    (let after = moves_alike moment more a.machine c.machine f.machine in
    record { moves = ap (λ ms. ms ++ more) f.moves; machine = after; decision = decision_same (after_moves moment a.machine more) (after_moves moment c.machine more) after k moment o })

finish_alike : (k moment : ℕ) (o : Op) (a c : Attempt) → AlikeAttempts a c → AlikeAttempts (after_finish k moment o a) (after_finish k moment o c)
finish_alike k moment o a c f =
    subst (λ b. AlikeAttempts (after_finish k moment o a) (if b then after_more k moment o c (finishing c.machine) else c)) (sym test) (go (is_lacking a.decision && is_some a.machine.frozen))
  where
    test : (is_lacking c.decision && is_some c.machine.frozen) ≡ (is_lacking a.decision && is_some a.machine.frozen)
    test = let d = f.machine in λ i. is_lacking (f.decision i) && some_same a.machine.frozen c.machine.frozen d.same.frozen i

    go : (b : Bool) → AlikeAttempts (if b then after_more k moment o a (finishing a.machine) else a) (if b then after_more k moment o c (finishing c.machine) else c)
    go true = more_alike k moment o a c (finishing a.machine) (finishing c.machine) (finishing_same a.machine c.machine f.machine) f
    go false = f

snapshot_alike : (k moment : ℕ) (o : Op) (a c : Attempt) → AlikeAttempts a c → AlikeAttempts (after_snapshot k moment o a) (after_snapshot k moment o c)
snapshot_alike k moment o a c f =
    subst (λ b. AlikeAttempts (after_snapshot k moment o a) (if b then after_more k moment o c (whole_snapshot c.machine) else c)) (sym test)
    (go (is_lacking a.decision && ((hold_count a.machine == 0) && a.machine.changed)))
  where
    test : (is_lacking c.decision && ((hold_count c.machine == 0) && c.machine.changed)) ≡ (is_lacking a.decision && ((hold_count a.machine == 0) && a.machine.changed))
    test = let d = f.machine in λ i. is_lacking (f.decision i) && ((holds_same a.machine c.machine d i == 0) && d.same.changed i)

    go : (b : Bool) → AlikeAttempts (if b then after_more k moment o a (whole_snapshot a.machine) else a) (if b then after_more k moment o c (whole_snapshot c.machine) else c)
    go true = more_alike k moment o a c (whole_snapshot a.machine) (whole_snapshot c.machine) (whole_same a.machine c.machine f.machine) f
    go false = f

attempt_alike : (s t : Machine) (k moment : ℕ) (o : Op) → DifferInIds s t → AlikeAttempts (attempt s k moment o) (attempt t k moment o)
attempt_alike s t k moment o d =
    snapshot_alike k moment o (after_finish k moment o (first_attempt s k moment o)) (after_finish k moment o (first_attempt t k moment o))
    (finish_alike k moment o (first_attempt s k moment o) (first_attempt t k moment o) (record { moves = refl; machine = d; decision = decision_same s t d k moment o }))

-- ---- plans

-- two plans have the same moves, reply and ending, from machines that are alike
pub record AlikePlans (p q : Plan) : Type 0 where
  pub from : DifferInIds p.from q.from
  pub moves : q.moves ≡ p.moves
  pub reply : q.reply ≡ p.reply
  pub ending : q.ending ≡ p.ending

refused_alike : (s t : Machine) → DifferInIds s t → (r q : Refusal) → q ≡ r → AlikePlans (refused s r) (refused t q)
refused_alike s t d r q same = record { from = d; moves = refl; reply = ap (λ x. reply.Refused x) same; ending = refl }

operating_alike : (s t : Machine) (k moment : ℕ) (o : Op) → DifferInIds s t → AlikePlans (operating s k moment o) (operating t k moment o)
operating_alike s t k moment o d =
    subst (λ b. AlikePlans (operating s k moment o) (if b then refused t refusal.ReadOnly else plan_of t (attempt t k moment o))) (sym test) (go (changes o && s.volume.is_read_only))
  where
    test : (changes o && t.volume.is_read_only) ≡ (changes o && s.volume.is_read_only)
    test = λ i. changes o && (d.same.volume i).is_read_only

    go : (b : Bool) → AlikePlans (if b then refused s refusal.ReadOnly else plan_of s (attempt s k moment o)) (if b then refused t refusal.ReadOnly else plan_of t (attempt t k moment o))
    go true = refused_alike s t d refusal.ReadOnly refusal.ReadOnly refl
    go false = let a = attempt_alike s t k moment o d in record { from = d; moves = a.moves; reply = ap decision_reply a.decision; ending = ap decision_ending a.decision }

sync_same : (moment : ℕ) (s t : Machine) → DifferInIds s t → sync_moves moment t ≡ sync_moves moment s
sync_same moment s t d = ap (λ ms. ms ++ snapshot_if_changed (after_moves moment t ms)) (finishing_same s t d) ∙ ap (λ ms. finishing s ++ ms) rest
  where
    rest : snapshot_if_changed (after_moves moment t (finishing s)) ≡ snapshot_if_changed (after_moves moment s (finishing s))
    rest =
        let later = moves_alike moment (finishing s) s t d in
        λ i. if later.same.changed i then whole_same (after_moves moment s (finishing s)) (after_moves moment t (finishing s)) later i else []

syncing_alike : (moment : ℕ) (s t : Machine) → DifferInIds s t → AlikePlans (syncing moment s) (syncing moment t)
syncing_alike moment s t d =
    subst (λ b. AlikePlans (syncing moment s) (if b then record { from = t; moves = sync_moves moment t; reply = reply.Done; ending = Stays } else refused t (refusal.Held (hold_count t)))) (sym test) (go (hold_count s == 0))
  where
    test : (hold_count t == 0) ≡ (hold_count s == 0)
    test = ap (λ n. n == 0) (holds_same s t d)

    go : (b : Bool)
        → AlikePlans (if b then record { from = s; moves = sync_moves moment s; reply = reply.Done; ending = Stays } else refused s (refusal.Held (hold_count s)))
        (if b then record { from = t; moves = sync_moves moment t; reply = reply.Done; ending = Stays } else refused t (refusal.Held (hold_count t)))
    go true = record { from = d; moves = sync_same moment s t d; reply = refl; ending = refl }
    go false = refused_alike s t d (refusal.Held (hold_count s)) (refusal.Held (hold_count t)) (ap (λ n. refusal.Held n) (holds_same s t d))

path_alike : (moment : ℕ) (s t : Machine) (r : Result ℕ Refusal) → DifferInIds s t → AlikePlans (syncing_path moment s r) (syncing_path moment t r)
path_alike moment s t (Err r) d = refused_alike s t d r r refl
path_alike moment s t (Ok n) d = syncing_alike moment s t d

directory_alike : (s t : Machine) (k : ℕ) (r : Result ℕ Refusal) → DifferInIds s t → AlikePlans (changing_directory s k r) (changing_directory t k r)
directory_alike s t k (Err r) d = refused_alike s t d r r refl
directory_alike s t k (Ok n) d = record { from = d; moves = refl; reply = refl; ending = refl }

space_same : (s t : Machine) → DifferInIds s t → space_of t ≡ space_of s
space_same s t d =
    let durable = d.same.durable in
    λ i. record {
      blocks = (d.same.volume i).blocks;
      user = (d.same.volume i).user;
      free = free_same s t d i;
      inodes = (d.same.volume i).inodes;
      free_inodes = (d.same.volume i).inodes - live_count (d.same.working i);
      serial = durable.serial i;
    }

planned_alike : (s t : Machine) (k moment : ℕ) (a : Act) → DifferInIds s t → AlikePlans (planned s k moment a) (planned t k moment a)
planned_alike s t k moment (act.Op o) d = operating_alike s t k moment o d
planned_alike s t k moment (act.Cd path) d =
    let same : directory_at t k path ≡ directory_at s k path =
    λ i. inode_at (d.same.working i) (directory_same s t d k i) Followed path >>= λ n. (refuse_if (not (is_directory (d.same.working i) n)) refusal.NotDir >> Ok n) in
    subst (λ r. AlikePlans (changing_directory s k (directory_at s k path)) (changing_directory t k r)) (sym same) (directory_alike s t k (directory_at s k path) d)
planned_alike s t k moment act.Df d = record { from = d; moves = refl; reply = ap (λ v. reply.Space v) (space_same s t d); ending = refl }
planned_alike s t k moment act.Hold d = record { from = d; moves = refl; reply = refl; ending = refl }
planned_alike s t k moment act.Unhold d = record { from = d; moves = refl; reply = refl; ending = refl }
planned_alike s t k moment act.Sync d = syncing_alike moment s t d
planned_alike s t k moment (act.Fsync path) d =
    let same : inode_at t.working.tree (directory_of t k) Itself path ≡ inode_at s.working.tree (directory_of s k) Itself path = λ i. inode_at (d.same.working i) (directory_same s t d k i) Itself path in
    subst (λ r. AlikePlans (syncing_path moment s (inode_at s.working.tree (directory_of s k) Itself path)) (syncing_path moment t r)) (sym same)
    (path_alike moment s t (inode_at s.working.tree (directory_of s k) Itself path) d)
planned_alike s t k moment act.Tick d = record { from = d; moves = refl; reply = refl; ending = refl }
planned_alike s t k moment act.End d = syncing_alike moment (without_holds s) (without_holds t) (dropped_alike s t d)

-- they plan alike
pub plan_alike : (s t : Machine) (e : VolEvent) → DifferInIds s t → AlikePlans (plan s e) (plan t e)
unfolding plan
plan_alike s t e d = go (lacks_session e)
  where
    go : (b : Bool) → AlikePlans (if b then refused s refusal.NoSession else planned s e.session e.moment e.act) (if b then refused t refusal.NoSession else planned t e.session e.moment e.act)
    go true = refused_alike s t d refusal.NoSession refusal.NoSession refl
    go false = planned_alike s t e.session e.moment e.act d

-- ---- reads

-- and read the tree at the same places
pub reads_same : (n : ℕ) (s t : Machine) (e : VolEvent) → DifferInIds s t → reads_tree n t e ≡ reads_tree n s e
reads_same n s t e d = ap (λ b. not (lacks_session e) && b) (by_act e.act)
  where
    path_same : (path : List ℕ) → ((n == 0) && is_ok (walk_start (directory_of t e.session) path)) ≡ ((n == 0) && is_ok (walk_start (directory_of s e.session) path))
    path_same path = ap (λ base. (n == 0) && is_ok (walk_start base path)) (directory_same s t d e.session)

    by_act : (a : Act) → reads_after n t e.session a ≡ reads_after n s e.session a
    by_act (act.Op o) =
        λ i. ((n == 0) || none_same s.frozen t.frozen d.same.frozen i)
        && (not (changes o && ((d.same.volume i).is_read_only || (last_same s t d i == 2 ^ 64 - 1))) && is_ok (operation_start (directory_same s t d e.session i) o))
    by_act (act.Cd path) = path_same path
    by_act (act.Fsync path) = path_same path
    by_act act.Df = refl
    by_act act.Hold = refl
    by_act act.Unhold = refl
    by_act act.Sync = refl
    by_act act.Tick = refl
    by_act act.End = refl
