-- An area is zeroed: what each call leaves of it.
use Rattle.std.proofs.Common.{◌≡◌, ℕ, ◌+◌, ◌-◌, ◌≤◌, true, false, Result, Ok, IsErr, List, [], length, min, replicate, refl, ap, sym, ◌∙◌, subst, arith, ◌==◌, eqb-true}
use Rattle.std.proofs.lemmas.Bool.{eqb-false}
use Rattle.std.proofs.lemmas.List.{length-replicate, nil_from_length}
use Rattle.qx_outside.specs.Calls.{Did, Syncs, Writes}
use Rattle.qx_outside.specs.Puts.{IsPartOf}
use Rattle.qx_outside.specs.Ranges.{put_at}
use Rattle.qx_outside.specs.Outside.{Outside}
use Rattle.qx_outside.specs.Trail.{wrote, synced}
use Rattle.qx_outside.proofs.PuttingMoments.{IsPartOf-whole, put_none}
use Rattle.qx_make.specs.Stages.{Performs, after_stage, area_zeros, zero_stage}
use Rattle.qx_make.proofs.StageSteps.{HasBegun, begin_stage, end_stage, fail_to_put, fail_to_sync, put_in_stage}

module _ (bytes : List ℕ) (len place : ℕ) (long : length bytes ≡ len) (zeros : List ℕ) (are : zeros ≡ replicate (min 4096 (len - place)) 0) where
  -- the zeros are those of the stage
  same : replicate (min 4096 (length bytes - place)) 0 ≡ zeros
  same = ap (λ (n : ℕ). replicate (min 4096 (n - place)) 0) long ∙ sym are

  -- all of them
  whole : IsPartOf (zero_stage bytes place).puts place zeros
  whole = subst (λ (xs : List ℕ). IsPartOf (zero_stage bytes place).puts place xs) same (IsPartOf-whole (zero_stage bytes place).puts (area_zeros (length bytes) place) (0, omega arith, refl))

  -- where there are none they change nothing
  nothing : length zeros ≡ 0 → bytes ≡ after_stage (zero_stage bytes place)
  nothing none =
      let empty : zeros ≡ [] = nil_from_length zeros none in
      sym (ap (λ (xs : List ℕ). put_at bytes place xs) (same ∙ empty) ∙ put_none bytes place)

  -- where there are some the device has their place
  room : (length zeros == 0) ≡ false → place + length zeros ≤ length bytes
  room some = let not_none : length zeros ≡ 0 → ⊥ = eqb-false (length zeros) 0 some in let count : length zeros ≡ min 4096 (len - place) = ap length are ∙ length-replicate (min 4096 (len - place)) 0 in omega arith

  module _ where
    -- before the sync, where there is nothing to write
    begun_none : (a : Outside) → length zeros ≡ 0 → HasBegun (zero_stage bytes place) (after_stage (zero_stage bytes place)) a a
    begun_none a none =
        subst (λ (now : List ℕ). HasBegun (zero_stage bytes place) now a a) (nothing none)
        (begin_stage (zero_stage bytes place) a)

    -- before the sync, where all is written
    begun_all : (a b : Outside) → (length zeros == 0) ≡ false → Did (wrote place zeros zeros true) a b → Writes place zeros a b
        → HasBegun (zero_stage bytes place) (after_stage (zero_stage bytes place)) a b
    begun_all a b some did writes =
        subst (λ (xs : List ℕ). HasBegun (zero_stage bytes place) (put_at bytes place xs) a b) (sym same)
        (put_in_stage (zero_stage bytes place) place zeros bytes a a b whole (room some) did writes (begin_stage (zero_stage bytes place) a))

    module _ {T E : Type 0} where
      pub zero_none_fails : (result : Result T E) (a c : Outside) → IsErr result → (length zeros == 0) ≡ true → Syncs a c → Performs (zero_stage bytes place) result a c
      zero_none_fails result a c err none syncs = fail_to_sync (zero_stage bytes place) result err a a c syncs (begun_none a (eqb-true _ _ none))

      pub zero_none_done : (x : T) (a c : Outside) → (length zeros == 0) ≡ true → Did (synced true) a c → Syncs a c → Performs {E = E} (zero_stage bytes place) (Ok x) a c
      zero_none_done x a c none did syncs = end_stage (zero_stage bytes place) x a a c did syncs (begun_none a (eqb-true _ _ none))

      pub zero_write_fails : (result : Result T E) (a c : Outside) → IsErr result → (length zeros == 0) ≡ false → Writes place zeros a c → Performs (zero_stage bytes place) result a c
      zero_write_fails result a c err some writes = fail_to_put (zero_stage bytes place) result err place zeros bytes a a c whole (room some) writes (begin_stage (zero_stage bytes place) a)

      pub zero_sync_fails : (result : Result T E) (a b c : Outside) → IsErr result → (length zeros == 0) ≡ false → Did (wrote place zeros zeros true) a b → Writes place zeros a b → Syncs b c → Performs (zero_stage bytes place) result a c
      zero_sync_fails result a b c err some did writes syncs = fail_to_sync (zero_stage bytes place) result err a b c syncs (begun_all a b some did writes)

      pub zero_done : (x : T) (a b c : Outside) → (length zeros == 0) ≡ false → Did (wrote place zeros zeros true) a b → Writes place zeros a b → Did (synced true) b c → Syncs b c
          → Performs {E = E} (zero_stage bytes place) (Ok x) a c
      zero_done x a b c some did writes synced_now syncs = end_stage (zero_stage bytes place) x a b c synced_now syncs (begun_all a b some did writes)
