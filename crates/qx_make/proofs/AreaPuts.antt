-- Bytes are put into both areas of a volume: what each call leaves.
use Rattle.std.proofs.Common.{◌≡◌, ℕ, ◌+◌, ◌≤◌, true, Result, Ok, IsErr, Option, List, length, refl, ◌∙◌, arith}
use Rattle.std.specs.Prelude.{IfSome}
use Rattle.qx_bytes.proofs.Puts.{length_put}
use Rattle.qx_geom.specs.declared.area.Which.TheVariants.{First, Second}
use Rattle.qx_geom.specs.declared.geometry.Geometry.{Geometry}
use Rattle.qx_geom.specs.Layout.{IsGeometry, area_place}
use Rattle.qx_geom.proofs.SystemBlocks.{area_place-second}
use Rattle.qx_geom.proofs.VolumeNumbers.{IsGeometry-keeps}
use Rattle.qx_outside.specs.Calls.{Did, Syncs, Writes}
use Rattle.qx_outside.specs.Causes.{StaysWhereTold}
use Rattle.qx_outside.specs.Puts.{IsPartOf}
use Rattle.qx_outside.specs.Ranges.{put_at}
use Rattle.qx_outside.specs.Outside.{Outside}
use Rattle.qx_outside.specs.Trail.{wrote, synced}
use Rattle.qx_outside.proofs.PuttingMoments.{IsPartOf-whole}
use Rattle.qx_outside.proofs.ToldLengths.{told_after, told_weaker}
use Rattle.qx_make.specs.Stages.{Performs, Stage, after_stage, areas_stage}
use Rattle.qx_make.proofs.StageSteps.{HasBegun, begin_stage, end_stage, fail_to_put, fail_to_sync, put_in_stage}

-- both areas lie within the device
pub first_within : (g : Geometry) → IsGeometry g → area_place g First + 4096 ≤ g.len4
first_within g e = let v = IsGeometry-keeps g e in omega (arith, v.long)

pub second_within : (g : Geometry) → IsGeometry g → area_place g Second + 4096 ≤ g.len4
second_within g e = let last = area_place-second g e in omega (arith, last)

module _ (g : Geometry) (e : IsGeometry g) (first second : List ℕ) (first_short : length first ≤ 4096) (second_short : length second ≤ 4096) where
  -- so do the bytes for them, where the length is told
  pub first_told : (len : Option ℕ) → IfSome len (λ n. g.len4 ≤ n) → IfSome len (λ n. area_place g First + length first ≤ n)
  first_told len told = told_weaker len (λ n. g.len4 ≤ n) (λ n. area_place g First + length first ≤ n) (λ n enough. omega (arith, first_within g e)) told

  pub second_told : (before len : Option ℕ) → StaysWhereTold before len → IfSome before (λ n. g.len4 ≤ n) → IfSome len (λ n. area_place g Second + length second ≤ n)
  second_told before len stays told = told_weaker len (λ n. g.len4 ≤ n) (λ n. area_place g Second + length second ≤ n) (λ n enough. omega (arith, second_within g e)) (told_after before len (λ n. g.len4 ≤ n) stays told)

  -- the length stays
  pub length-areas : (bytes : List ℕ) → g.len4 ≤ length bytes → length (after_stage (areas_stage g first second bytes)) ≡ length bytes
  length-areas bytes long =
      let one : length (put_at bytes (area_place g First) first) ≡ length bytes = length_put bytes first (area_place g First) (length first) refl (omega (arith, first_within g e)) in
      length_put (put_at bytes (area_place g First) first) second (area_place g Second) (length second) refl (omega (arith, second_within g e, one)) ∙ one

  module _ (bytes : List ℕ) (long : g.len4 ≤ length bytes) where
    -- the stage
    abbrev stage : Stage
    stage = areas_stage g first second bytes

    first_part : IsPartOf stage.puts (area_place g First) first
    first_part = IsPartOf-whole stage.puts (record { at = area_place g First; bytes = first }) (0, omega arith, refl)

    second_part : IsPartOf stage.puts (area_place g Second) second
    second_part = IsPartOf-whole stage.puts (record { at = area_place g Second; bytes = second }) (1, omega arith, refl)

    -- the first is written
    one : (a b : Outside) → Did (wrote (area_place g First) first first true) a b → Writes (area_place g First) first a b → HasBegun stage (put_at bytes (area_place g First) first) a b
    one a b did writes = put_in_stage stage (area_place g First) first bytes a a b first_part (omega (arith, first_within g e)) did writes (begin_stage stage a)

    -- both are
    both : (a b c : Outside) → Did (wrote (area_place g First) first first true) a b → Writes (area_place g First) first a b
        → Did (wrote (area_place g Second) second second true) b c → Writes (area_place g Second) second b c → HasBegun stage (after_stage stage) a c
    both a b c did writes did_second writes_second =
        put_in_stage stage (area_place g Second) second (put_at bytes (area_place g First) first) a b c second_part (omega (arith, second_within g e)) did_second writes_second (one a b did writes)

    module _ {T E : Type 0} where
      pub first_fails : (result : Result T E) (a b : Outside) → IsErr result → Writes (area_place g First) first a b → Performs stage result a b
      first_fails result a b err writes = fail_to_put stage result err (area_place g First) first bytes a a b first_part (omega (arith, first_within g e)) writes (begin_stage stage a)

      pub second_fails : (result : Result T E) (a b c : Outside) → IsErr result → Did (wrote (area_place g First) first first true) a b → Writes (area_place g First) first a b
          → Writes (area_place g Second) second b c → Performs stage result a c
      second_fails result a b c err did writes writes_second =
          fail_to_put stage result err (area_place g Second) second (put_at bytes (area_place g First) first) a b c second_part (omega (arith, second_within g e)) writes_second (one a b did writes)

      pub both_fail : (result : Result T E) (a b c d : Outside) → IsErr result → Did (wrote (area_place g First) first first true) a b → Writes (area_place g First) first a b
          → Did (wrote (area_place g Second) second second true) b c → Writes (area_place g Second) second b c → Syncs c d → Performs stage result a d
      both_fail result a b c d err did writes did_second writes_second syncs = fail_to_sync stage result err a c d syncs (both a b c did writes did_second writes_second)

      pub both_done : (x : T) (a b c d : Outside) → Did (wrote (area_place g First) first first true) a b → Writes (area_place g First) first a b
          → Did (wrote (area_place g Second) second second true) b c → Writes (area_place g Second) second b c
          → Did (synced true) c d → Syncs c d → Performs {E = E} stage (Ok x) a d
      both_done x a b c d did writes did_second writes_second synced_now syncs = end_stage stage x a c d synced_now syncs (both a b c did writes did_second writes_second)
