-- The stages of a new volume, one after another.
use Rattle.std.proofs.Common.{ℕ, Result, Ok, IsErr, List, refl, arith}
use Rattle.qx_fields.specs.declared.order.Order.{Order}
use Rattle.qx_geom.specs.declared.geometry.Geometry.{Geometry}
use Rattle.qx_outside.specs.Outside.{Outside}
use Rattle.qx_make.specs.Stages.{Performs, PerformsAll, Stage, blocks_stage, clear_stage, new_stages, rest_stage, supers_stage, with_areas, with_blocks, with_volume}
use Rattle.qx_make.proofs.StagesInOrder.{perform_fails, perform_one, perform_then}

module _ (g : Geometry) (order : Order) (moment : ℕ) (bytes : List ℕ) where
  -- the bytes on the way
  abbrev cleared : List ℕ
  cleared = with_areas g bytes

  abbrev filled : List ℕ
  filled = with_blocks g order moment cleared

  abbrev all : List ℕ
  all = with_volume g order moment bytes

  abbrev stages : List Stage
  stages = new_stages g order moment bytes

  module _ {T E : Type 0} where
    -- each stage among them
    cleared_all : (result : Result T E) (a b : Outside) → Performs (clear_stage g bytes) result a b → PerformsAll bytes cleared stages result a b
    cleared_all = perform_one stages (clear_stage g bytes) (blocks_stage g order moment cleared) (0, omega arith, refl) (1, omega arith, refl) refl

    filled_all : (result : Result T E) (a b : Outside) → Performs (blocks_stage g order moment cleared) result a b → PerformsAll cleared filled stages result a b
    filled_all = perform_one stages (blocks_stage g order moment cleared) (supers_stage g order moment filled) (1, omega arith, refl) (2, omega arith, refl) refl

    supers_all : (result : Result T E) (a b : Outside) → Performs (supers_stage g order moment filled) result a b → PerformsAll filled all stages result a b
    supers_all = perform_one stages (supers_stage g order moment filled) (rest_stage all) (2, omega arith, refl) (3, omega arith, refl) refl

    -- the areas fail
    pub clearing_fails : (inner result : Result T E) (a b : Outside) → IsErr result → Performs (clear_stage g bytes) inner a b → PerformsAll bytes all stages result a b
    clearing_fails inner result a b err p = perform_fails stages bytes cleared all inner result a b err (cleared_all inner a b p)

    -- the blocks fail
    pub filling_fails : (x : T) (inner result : Result T E) (a b c : Outside) → IsErr result → Performs {E = E} (clear_stage g bytes) (Ok x) a b → Performs (blocks_stage g order moment cleared) inner b c
        → PerformsAll bytes all stages result a c
    filling_fails x inner result a b c err p q =
        perform_fails stages bytes filled all inner result a c err (perform_then stages bytes cleared filled x inner a b c (cleared_all (Ok x) a b p) (filled_all inner b c q))

    -- the superblocks end it
    pub supers_end : (x y : T) (result : Result T E) (a b c d : Outside) → Performs {E = E} (clear_stage g bytes) (Ok x) a b → Performs {E = E} (blocks_stage g order moment cleared) (Ok y) b c
        → Performs (supers_stage g order moment filled) result c d → PerformsAll bytes all stages result a d
    supers_end x y result a b c d p q r =
        perform_then stages bytes filled all y result a c d (perform_then stages bytes cleared filled x (Ok y) a b c (cleared_all (Ok x) a b p) (filled_all (Ok y) b c q)) (supers_all result c d r)
