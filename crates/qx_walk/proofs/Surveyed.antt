-- What is said of an image by the parts of a walk over a device that shows it.
use Rattle.std.proofs.Common.{◌≡◌, ℕ, List, length, refl, sym, ◌∙◌, ap, arith}
use Rattle.std.specs.Prelude.{IfSome, IsTrue, Option, Some, None, ◌-◌}
use Rattle.qx_blockset.specs.Members.{count_of, limit_of}
use Rattle.qx_geom.specs.declared.area.Which.{Which}
use Rattle.qx_geom.specs.declared.geometry.Geometry.{Geometry}
use Rattle.qx_nodes.specs.BlockMap.{BlockMap}
use Rattle.qx_nodes.specs.Content.{HasSize}
use Rattle.qx_outside.specs.Outside.{Outside}
use Rattle.qx_outside.specs.Trail.{bytes_of}
use Rattle.qx_pointers.specs.declared.halt.Halt.{Halt}
use Rattle.qx_pointers.specs.declared.halt.Halt.TheVariants as halts
use Rattle.qx_pointers.specs.declared.source.Shape.{Shape}
use Rattle.qx_pointers.specs.Halts.{HaltsAt}
use Rattle.qx_pointers.specs.Shown.{JustReads, Shows}
use Rattle.qx_super.specs.Active.{active_area, active_super}
use Rattle.qx_super.specs.Superblock.{Superblock}
use Rattle.qx_super.specs.declared.choice.Pick.TheVariants as picks
use Rattle.qx_view.specs.declared.findings.Finding.{Finding}
use Rattle.qx_view.specs.declared.reasons.Foreign.{Foreign as Why}
use Rattle.qx_view.proofs.RoomForPointers.{walk_sized}
use Rattle.qx_view.specs.Images.{block_bytes, image_blocks, main_roots}
use Rattle.qx_view.specs.Sound.{Damaged, last_with, reason_with, verdict_of, written_geometry}
use Rattle.qx_view.specs.Usage.{met_blocks}
use Rattle.qx_view.specs.Walk.{finding_of}
use Rattle.qx_walk.proofs.OuterBlocks.{count_marked, met_counted, met_differ}
use Rattle.qx_walk.proofs.Verdicts.{clean, foreign, found, found_last}
use Rattle.qx_walk.specs.declared.state.Walked.{Walked}
use Rattle.qx_walk.specs.Layouts.{IsShapeOf}
use Rattle.qx_walk.specs.Surveys.{IsFault, IsSurvey, fault_of, free_by, free_if, survey_by, verdict_if}
use Rattle.qx_walk.specs.Trees.{IsWalked}

-- a device that still tells its bytes shows the blocks of the active superblock's volume
pub shown_blocks : {from to : ℕ} (shape : Shape) (s : Superblock) (img : List ℕ) (old new : Outside)
    → IsShapeOf s shape → JustReads from to old new → IsTrue new.tells → bytes_of old.history ≡ img → Shows shape new (image_blocks img s)
shown_blocks shape s img old new is reads told bytes =
    let same : bytes_of new.history ≡ img = ap (λ h. bytes_of h) (reads.same told) ∙ bytes in
    record {
      told = told;
      is = λ i. record { order = sym is.order i; size = sym is.blocksize i; count = sym is.count i; bytes = block_bytes (sym same i) (sym is.blocksize i) };
    }

module _ (img : List ℕ) (which : Which) (s : Superblock) (active : active_area img ≡ picks.Active which) (names : active_super img ≡ Some s) where
  -- a halt at the first finding says that the image is damaged by it
  pub halted : (halt : Halt) → HaltsAt (finding_of (image_blocks img s) (main_roots s)) halt → IsFault img (fault_of halt)
  halted (halts.Finding f) e = found img which s active names f e
  halted halts.Device e = tt
  halted halts.NoMemory e = tt

  module _ (w : Walked) (is : IsWalked (image_blocks img s) (main_roots s) w) (geometry : Option Geometry) (written : written_geometry s (length img) ≡ geometry) where
    -- so does a last finding, where no reason applies
    pub halted_last : (f : Finding) → reason_with (image_blocks img s) s which geometry ≡ None → last_with (image_blocks img s) s geometry ≡ Some f → verdict_of img ≡ Damaged f
    halted_last f none e =
        found_last img which s active names is.none (ap (reason_with (image_blocks img s) s which) written ∙ none) f (ap (last_with (image_blocks img s) s) written ∙ e)

    -- how many blocks were met
    met_length : limit_of w.met ≡ s.num_blocks → count_of w.met ≡ length (met_blocks (image_blocks img s) (main_roots s))
    met_length limit =
        let m : BlockMap = image_blocks img s in
        let room : HasSize m = walk_sized m (main_roots s) is.none in
        count_marked w.met (met_blocks m (main_roots s)) is.met (met_differ m s room is.none) (λ b h. omega (arith, limit, met_counted m s room is.none b h))

    -- the verdict, by the first reason that applies
    verdict_is : (why : Option Why) → why ≡ reason_with (image_blocks img s) s which geometry → (why ≡ None → last_with (image_blocks img s) s geometry ≡ None)
        → verdict_of img ≡ verdict_if which s why
    verdict_is None reason last =
        clean img which s active names is.none (ap (reason_with (image_blocks img s) s which) written ∙ sym reason) (ap (last_with (image_blocks img s) s) written ∙ last refl)
    verdict_is (Some f) reason last = foreign img which s active names is.none f (ap (reason_with (image_blocks img s) s which) written ∙ sym reason)

    free_is : (why : Option Why) → limit_of w.met ≡ s.num_blocks → free_by s w why ≡ free_if img s why
    free_is None limit = refl
    free_is (Some f) limit = ap (λ n. s.num_blocks - n) (met_length limit)

    -- the survey of the walked tree says what the image is
    pub surveyed : (why : Option Why) → limit_of w.met ≡ s.num_blocks → why ≡ reason_with (image_blocks img s) s which geometry → (why ≡ None → last_with (image_blocks img s) s geometry ≡ None)
        → IsSurvey img (survey_by which s w why)
    surveyed why limit reason last = record {
      superblock = s;
      active = active;
      names = names;
      verdict = verdict_is why reason last;
      serial = refl;
      order = refl;
      ctime = refl;
      blocksize = refl;
      num_blocks = refl;
      num_inodes = refl;
      limit = limit;
      held = is.met;
      live = is.live;
      free = free_is why limit;
    }

-- where there is a last finding, no reason applied
pub no_reason : (why : Option Why) (last : Option Finding) (f : Finding) → IfSome why (λ w. last ≡ None) → last ≡ Some f → why ≡ None
no_reason None last f h e = refl
no_reason (Some w) last f h e = absurd (cc)
