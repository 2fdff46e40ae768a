-- How device calls carry a stage on, from rest to rest.
use Rattle.std.proofs.Common.{◌≡◌, ℕ, ◌+◌, ◌≤◌, true, Result, IsErr, OnOk, List, length, Ok, Err, refl, ap, sym, subst, ◌∙◌}
use Rattle.std.specs.Prelude.{IsTrue}
use Rattle.qx_outside.specs.Ranges.{put_at}
use Rattle.qx_outside.specs.Calls.{Did, Syncs, Writes}
use Rattle.qx_outside.specs.Moments.{HasOthers, Keeps, Moves}
use Rattle.qx_outside.specs.Puts.{HasPut, IsAtRest, IsPartOf}
use Rattle.qx_outside.specs.Outside.{Outside}
use Rattle.qx_outside.specs.Trail.{Deed, History, bytes_of, wrote, synced, others_of}
use Rattle.qx_outside.proofs.Throughout.{reaches_moves, throughout_last}
use Rattle.qx_outside.proofs.PuttingMoments.{IsAtRest-synced, others_sync, others_write, moves_put, moves_rest, moves_sync, reaches_put, reaches_sync}
use Rattle.qx_make.specs.Stages.{Passes, Performs, Stage, after_stage}

module _ (stage : Stage) where
  -- the device was at rest, has put some of the stage, and has these bytes now
  pub record HasBegun (now : List ℕ) (old new : Outside) : Type 0 where
    pub moves : Moves (IsAtRest stage.kept) (HasPut stage.kept stage.puts now) (Passes stage) old new
    pub bytes : IsTrue new.tells → bytes_of old.history ≡ stage.kept → bytes_of new.history ≡ now
    pub others : IsTrue new.tells → others_of new.history.deeds ≡ others_of old.history.deeds

  -- a call that keeps whichever other deeds there were keeps these
  same_others : (a b c : Outside) → ((others : List Deed) → Keeps (HasOthers others) b c) → ((IsTrue b.tells) → others_of b.history.deeds ≡ others_of a.history.deeds)
      → IsTrue c.tells → others_of c.history.deeds ≡ others_of a.history.deeds
  same_others a b c keeps before told =
      let others : List Deed = others_of a.history.deeds in
      throughout_last (HasOthers others) b.history c.history ((keeps others).step told (before ((keeps others).before told)))

  -- before the first call
  pub begin_stage : (a : Outside) → HasBegun stage.kept a a
  begin_stage a = record { moves = moves_rest stage.kept stage.puts (after_stage stage) a; bytes = λ told is. is; others = λ told. refl }

  -- a part is put
  pub put_in_stage : (at : ℕ) (asked now : List ℕ) (a b c : Outside) → IsPartOf stage.puts at asked → at + length asked ≤ length stage.kept
      → Did (wrote at asked asked true) b c → Writes at asked b c → HasBegun now a b → HasBegun (put_at now at asked) a c
  put_in_stage at asked now a b c part room did writes begun = record {
    moves = moves_put stage.kept stage.puts (after_stage stage) at asked now a b c part room did begun.moves;
    bytes = λ told is. ap bytes_of (did.step told) ∙ ap (λ (l : List ℕ). put_at l at asked) (begun.bytes (did.before told) is);
    others = same_others a b c (λ others. others_write others at asked b c writes) begun.others;
  }

  module _ {T E : Type 0} where
    -- what is said of an Ok holds of an Err
    pub none_of_err : (result : Result T E) (P : Type 0) → IsErr result → OnOk result P
    none_of_err (Ok x) P err = absurd (cc err)
    none_of_err (Err e) P err = tt

    -- a write that fails
    pub fail_to_put : (result : Result T E) → IsErr result → (at : ℕ) (asked now : List ℕ) (a b c : Outside) → IsPartOf stage.puts at asked → at + length asked ≤ length stage.kept
        → Writes at asked b c → HasBegun now a b → Performs stage result a c
    fail_to_put result err at asked now a b c part room writes begun = record {
      reaches = reaches_put stage.kept stage.puts (after_stage stage) at asked now a b c part room writes begun.moves;
      ok = none_of_err result _ err;
      kept = none_of_err result _ err;
      others = same_others a b c (λ others. others_write others at asked b c writes) begun.others;
    }

    -- a sync that fails
    pub fail_to_sync : (result : Result T E) → IsErr result → (a b c : Outside) → Syncs b c → HasBegun (after_stage stage) a b → Performs stage result a c
    fail_to_sync result err a b c syncs begun = record {
      reaches = reaches_sync stage.kept stage.puts (after_stage stage) a b c syncs begun.moves;
      ok = none_of_err result _ err;
      kept = none_of_err result _ err;
      others = same_others a b c (λ others. others_sync others b c syncs) begun.others;
    }

    -- a good sync ends it
    pub end_stage : (x : T) (a b c : Outside) → Did (synced true) b c → Syncs b c → HasBegun (after_stage stage) a b → Performs {E = E} stage (Ok x) a c
    end_stage x a b c did syncs begun =
        let m : Moves (IsAtRest stage.kept) (IsAtRest (after_stage stage)) (Passes stage) a c = moves_sync stage.kept stage.puts (after_stage stage) a b c did begun.moves in
        record {
          reaches = reaches_moves (IsAtRest stage.kept) (IsAtRest (after_stage stage)) (IsAtRest (after_stage stage)) (Passes stage) a c m;
          ok = m;
          kept = λ told is. subst (λ (h : History). IsAtRest (after_stage stage) h) (sym (did.step told)) (IsAtRest-synced stage.kept stage.puts b.history (after_stage stage) (begun.bytes (did.before told) is));
          others = same_others a b c (λ others. others_sync others b c syncs) begun.others;
        }
