-- A whole node is prepared: what stands outside its new pointers is given up, and then the parts below them are prepared one after another.
use Rattle.std.proofs.Common.{◌≡◌, ◌≢◌, ℕ, ◌+◌, ◌<◌, List, length, set, Ok, refl, sym, ◌∙◌, ap, subst, arith, get_or-set_other, get_or-set_same}
use Rattle.std.specs.Prelude.{false, slice_index, IsTrue, Result}
use Rattle.std.proofs.lemmas.List.{append_cancel_left}
use Rattle.qx_geom.specs.Layout.{levels_for}
use Rattle.qx_geom.specs.Pointer.{absent, per_block}
use Rattle.qx_blocks.specs.BlockState.{BlockState, IsConsistent}
use Rattle.qx_blocks.specs.Calls.{Keeps}
use Rattle.qx_blocks.specs.declared.blocks.Stop.{Stop}
use Rattle.qx_ptree.specs.declared.plan.Plan.{Plan}
use Rattle.qx_ptree.specs.Building.{Builds, BuildsOnto, GivesUp, IsBlocksOf, LiesOutside, Row, one_block, with_released}
use Rattle.qx_ptree.specs.BuiltNode.{BuildsNode}
use Rattle.qx_ptree.specs.Fates.{leaves_after}
use Rattle.qx_ptree.specs.Plans.{IsPlan, planned_pointer}
use Rattle.qx_ptree.specs.Reaching.{Reaches, ReachesOnto}
use Rattle.qx_ptree.specs.Takings.{Adds, Takes}
use Rattle.qx_ptree.specs.WorkState.{WorkState, and_then, no_work}
use Rattle.qx_ptree.proofs.AddedWork.{adds_none, adds_released, adds_then, and_then-assoc, and_then-released}
use Rattle.qx_ptree.proofs.BuiltRows.{builds_none}
use Rattle.qx_ptree.proofs.BuiltSteps.{row_step}
use Rattle.qx_ptree.proofs.CarriedPlans.{absent_free, pointers_after}
use Rattle.qx_ptree.proofs.KeptPlans.{kept_again, told_before}
use Rattle.qx_ptree.proofs.PlannedPointers.{IsToldPlan}
use Rattle.qx_ptree.proofs.PreparedParts.{free_before}
use Rattle.qx_ptree.proofs.ReachedRows.{fresh_stay, reaches_behind, reaches_empty, reaches_later, reaches_next_top, reaches_sized}
use Rattle.qx_ptree.proofs.TakenBlocks.{Takes-none}

-- ---- the pointers so far

-- what stands outside the first 16 blocks of a level was given up, and the parts below some of them were prepared
pub record IsUnderway (m n : BlockState) (before after : WorkState) (plan : Plan) (level count : ℕ) (pointers : List ℕ) : Type 0 where
  pub outside : List ℕ
  pub adds : Adds m n (with_released before outside) after
  pub gone : IsTrue n.tells → IsBlocksOf m plan (LiesOutside (per_block m.holdings.size) level) outside
  pub reaches : Reaches m n plan adds.added (record { level = level; first = 0; count = count }) (slice_index pointers)
  pub builds : IsTrue n.tells → n.holdings.held absent ≡ false → Builds m n plan adds.added (record { level = level; first = 0; count = count }) (slice_index pointers)

-- none of them yet
pub underway_none : (m n o : BlockState) (a b : WorkState) (plan : Plan) (level : ℕ) (pointers : List ℕ) → Keeps m n → Keeps n o → GivesUp n o a b plan (LiesOutside (per_block n.holdings.size) level) (Ok tt) → IsUnderway m o a b plan level 0 pointers
underway_none m n o a b plan level pointers k l g = record {
  outside = g.blocks;
  adds = adds_none m o (with_released a g.blocks) b (Takes-none m o (kept_again m n o k l)) g.is;
  gone = λ told. subst (λ x. IsBlocksOf x plan (LiesOutside (per_block x.holdings.size) level) g.blocks) (k.told (told_before n o l told)) (g.done told);
  reaches = reaches_empty m o plan level 0 (slice_index pointers);
  builds = λ told free. builds_none m o plan (record { level = level; first = 0; count = 0 }) (slice_index pointers) refl;
}

-- what was added to some work is determined by it
same-added : (a b x y : WorkState) → b ≡ and_then a x → b ≡ and_then a y → x ≡ y
same-added a b x y p q =
    let is : and_then a x ≡ and_then a y = sym p ∙ q in
    let fresh : x.fresh ≡ y.fresh = append_cancel_left a.fresh x.fresh y.fresh (ap (λ (w : WorkState). w.fresh) is) in
    let edits : x.edits ≡ y.edits = append_cancel_left a.edits x.edits y.edits (ap (λ (w : WorkState). w.edits) is) in
    let kept : x.kept ≡ y.kept = append_cancel_left a.kept x.kept y.kept (ap (λ (w : WorkState). w.kept) is) in
    let released : x.released ≡ y.released = append_cancel_left a.released x.released y.released (ap (λ (w : WorkState). w.released) is) in
    λ i. record { fresh = fresh i; edits = edits i; kept = kept i; released = released i }

-- what was built and what reaches written leaves is the same work
built-there : (m n : BlockState) (a b : WorkState) (plan : Plan) (row : Row) (tops : ℕ → ℕ) → BuildsOnto m n a b plan row tops → (adds : Adds m n a b) → IsTrue n.tells → n.holdings.held absent ≡ false → Builds m n plan adds.added row tops
built-there m n a b plan row tops built adds told free =
    subst (λ w. Builds m n plan w row tops) (same-added a b built.adds.added adds.added built.adds.is adds.is) (built.builds told free)

-- one pointer more
pub underway_more : (m n o : BlockState) (a b c : WorkState) (plan : Plan) (level j p : ℕ) (pointers : List ℕ) → IsConsistent m → IsPlan m plan → IsConsistent n → j < length pointers
    → IsUnderway m n a b plan level j pointers → BuildsOnto n o b c plan (one_block level j) (λ x. p) → ReachesOnto n o b c plan (one_block level j) (λ x. p) → IsUnderway m o a c plan level (j + 1) (set pointers j p)
underway_more m n o a b c plan level j p pointers s met s_n low u built reached =
    let taken : Takes u.adds.added.fresh m n = u.adds.takes in
    let more : Takes reached.adds.added.fresh n o = reached.adds.takes in
    let at : j ≡ 0 + j = omega arith in
    record {
      outside = u.outside;
      adds = adds_then m n o (with_released a u.outside) b c u.adds reached.adds;
      gone = λ told. u.gone (more.told_before told);
      reaches = reaches_next_top m o plan u.adds.added reached.adds.added level j p pointers low
          (reaches_later m n o plan u.adds.added (record { level = level; first = 0; count = j }) (slice_index pointers) (fresh_stay u.adds.added.fresh reached.adds.added.fresh m n o taken more) u.reaches)
          (reaches_sized m n o plan reached.adds.added (one_block level j) (λ x. p) taken.size taken.count reached.reaches);
      builds = λ told free.
          let told_n : IsTrue n.tells = more.told_before told in
          let known : IsToldPlan m plan = record { consistent = s; met = met; told = taken.told_before told_n } in
          row_step m n o plan u.adds.added reached.adds.added level 0 j p (slice_index pointers) (slice_index (set pointers j p)) known s_n told
          (λ x from to. let other : x ≢ j = omega arith in get_or-set_other pointers j x p 0 other)
          (subst (λ x. slice_index (set pointers j p) x ≡ p) at (get_or-set_same pointers j p 0 low))
          taken more (u.builds told_n (free_before reached.adds.added.fresh n o more free))
          (subst (λ x. Builds n o plan reached.adds.added (one_block level x) (λ y. p)) at (built-there n o b c plan (one_block level j) (λ x. p) built reached.adds told free));
    }

-- the pointers of the old node are the same
pub later_pointer : (f : List ℕ) (m n : BlockState) (plan : Plan) (k j : ℕ) → IsConsistent m → IsPlan m plan → Takes f m n → IsTrue n.tells → planned_pointer plan n k j ≡ planned_pointer plan m k j
later_pointer f m n plan k j s met taken told = pointers_after f m n plan (record { consistent = s; met = met; told = taken.told_before told }) taken told k j

-- ---- all of it

-- all that was added
abbrev pub underway_adds : (m n : BlockState) (a b : WorkState) (plan : Plan) (level count : ℕ) (pointers : List ℕ) → IsUnderway m n a b plan level count pointers → Adds m n a b
underway_adds m n a b plan level count pointers u = record {
  added = and_then (with_released no_work u.outside) u.adds.added;
  is = u.adds.is ∙ ap (λ w. and_then w u.adds.added) (sym (and_then-released a u.outside)) ∙ and_then-assoc a (with_released no_work u.outside) u.adds.added;
  takes = u.adds.takes;
  kept = u.adds.kept;
  edits = u.adds.edits;
}

-- where a step fails
pub underway_fails : (m n o : BlockState) (a b c : WorkState) (plan : Plan) (level count : ℕ) (pointers : List ℕ) → IsUnderway m n a b plan level count pointers → Adds n o b c → Adds m o a c
underway_fails m n o a b c plan level count pointers u adds = adds_then m n o a b c (underway_adds m n a b plan level count pointers u) adds

-- where it fails before the first
pub outside_fails : (m n o : BlockState) (a b : WorkState) (plan : Plan) (inside : ℕ → ℕ → Type 0) (result : Result (Unit {0}) Stop) → Keeps m n → Keeps n o → GivesUp n o a b plan inside result → Adds m o a b
outside_fails m n o a b plan inside result k l g = adds_released m o a b g.blocks (Takes-none m o (kept_again m n o k l)) g.is

-- where all 16 are there the node is prepared
pub underway_all : (m n : BlockState) (a b : WorkState) (plan : Plan) (level count : ℕ) (pointers : List ℕ) → IsConsistent n → count ≡ 16 → length pointers ≡ 16 → level ≡ levels_for m.holdings.size (leaves_after m.holdings.size plan.change)
    → IsUnderway m n a b plan level count pointers → BuildsNode m n a b plan (record { size = plan.change.size; pointers = pointers; levels = level })
underway_all m n a b plan level count pointers s all long level_is u =
    let row : Row = record { level = level; first = 0; count = 16 } in
    let reaches : Reaches m n plan u.adds.added row (slice_index pointers) = subst (λ k. Reaches m n plan u.adds.added (record { level = level; first = 0; count = k }) (slice_index pointers)) all u.reaches in
    record {
      size = refl;
      levels = level_is;
      long = long;
      reaches = record { adds = underway_adds m n a b plan level count pointers u; reaches = reaches_behind m n plan u.adds.added u.outside row (slice_index pointers) reaches };
      tree = λ told. record {
        size = refl;
        levels = level_is;
        outside = u.outside;
        rest = u.adds.added;
        is = refl;
        gone = u.gone told;
        builds = subst (λ k. Builds m n plan u.adds.added (record { level = level; first = 0; count = k }) (slice_index pointers)) all (u.builds told (absent_free n s));
      };
    }
