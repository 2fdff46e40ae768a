-- Moves of snapshots leave the volume, the working copy, the ids in stock and the sessions.
use Rattle.std.proofs.Common.{◌≡◌, ℕ, List, [], ◌∷◌, refl, ◌∙◌}
use Rattle.std.specs.Prelude.{Bool, true, false, Option, Some, None, option_and_then, slice_get}
use Rattle.qx_model.specs.Machine.{Frozen, Machine, Session, setting_of}
use Rattle.qx_model.specs.Snapshots.{Begin, Move, Step, after_move, after_moves, is_last_step, is_time_to_begin, step_to, stepped}
use Rattle.qx_model.specs.Next.{begun_if, timed_begin}

-- two machines differ in their snapshots, and in what goes with them
pub record DiffersInSnapshots (s t : Machine) : Type 0 where
  pub volume : t.volume ≡ s.volume
  pub working : t.working ≡ s.working
  pub next_id : t.next_id ≡ s.next_id
  pub sessions : t.sessions ≡ s.sessions

pub same_but_snapshots : (s : Machine) → DiffersInSnapshots s s
same_but_snapshots s = record { volume = refl; working = refl; next_id = refl; sessions = refl }

pub then_but_snapshots : (s t u : Machine) → DiffersInSnapshots s t → DiffersInSnapshots t u → DiffersInSnapshots s u
then_but_snapshots s t u a b = record { volume = b.volume ∙ a.volume; working = b.working ∙ a.working; next_id = b.next_id ∙ a.next_id; sessions = b.sessions ∙ a.sessions }

step_leaves : (s : Machine) (o : Option Frozen) → DiffersInSnapshots s (stepped s o)
step_leaves s None = same_but_snapshots s
step_leaves s (Some p) = go (is_last_step p)
  where
    go : (last : Bool) → DiffersInSnapshots s (step_to last s p)
    go true = record { volume = refl; working = refl; next_id = refl; sessions = refl }
    go false = record { volume = refl; working = refl; next_id = refl; sessions = refl }

move_leaves : (moment : ℕ) (s : Machine) (m : Move) → DiffersInSnapshots s (after_move moment s m)
move_leaves moment s Begin = record { volume = refl; working = refl; next_id = refl; sessions = refl }
move_leaves moment s Step = step_leaves s s.frozen

-- moves
pub moves_leave : (moment : ℕ) (ms : List Move) (s : Machine) → DiffersInSnapshots s (after_moves moment s ms)
moves_leave moment [] s = same_but_snapshots s
moves_leave moment (m ∷ ms) s = then_but_snapshots s (after_move moment s m) (after_moves moment (after_move moment s m) ms) (move_leaves moment s m) (moves_leave moment ms (after_move moment s m))

-- the timed begin
pub begin_leaves_settings : (fails : Bool) (moment : ℕ) (s : Machine) → DiffersInSnapshots s (timed_begin fails moment s)
begin_leaves_settings fails moment s = go (is_time_to_begin s moment) fails
  where
    go : (time fails : Bool) → DiffersInSnapshots s (begun_if time fails moment s)
    go false fails = same_but_snapshots s
    go true false = record { volume = refl; working = refl; next_id = refl; sessions = refl }
    go true true = same_but_snapshots s

-- so an operation is done under the same setting
pub setting_stays : (s t : Machine) (k moment : ℕ) → DiffersInSnapshots s t → setting_of t k moment ≡ setting_of s k moment
setting_stays s t k moment d = λ i. record {
  blocksize = (d.volume i).blocksize;
  base = option_and_then (λ (x : Session). x.directory) (slice_get (d.sessions i) k);
  moment = moment;
}
