-- The verdict on an image, by the parts of which the walk asks one after another.
use Rattle.std.proofs.Common.{◌≡◌, ℕ, List, length, ◌∙◌, ap}
use Rattle.std.specs.Prelude.{Some, None}
use Rattle.qx_geom.specs.declared.area.Which.{Which}
use Rattle.qx_super.specs.Active.{active_area, active_super}
use Rattle.qx_super.specs.Superblock.{Superblock}
use Rattle.qx_super.specs.declared.choice.Pick.TheVariants as picks
use Rattle.qx_view.specs.declared.reasons.Foreign.{Foreign as Why}
use Rattle.qx_view.specs.declared.findings.Finding.{Finding}
use Rattle.qx_view.specs.Images.{image_blocks, main_roots}
use Rattle.qx_view.specs.Sound.{Clean, Damaged, Foreign, last_finding, reason_of, verdict_at, verdict_by, verdict_of, verdict_with}
use Rattle.qx_view.specs.Walk.{finding_of}

module _ (img : List ℕ) (which : Which) (s : Superblock) (active : active_area img ≡ picks.Active which) (names : active_super img ≡ Some s) where
  -- with one, it is by the first of a finding of the walk, a reason and a last finding
  in_parts : verdict_of img ≡ verdict_by which s (finding_of (image_blocks img s) (main_roots s)) (reason_of (image_blocks img s) s which (length img)) (last_finding (image_blocks img s) s (length img))
  in_parts = ap (verdict_at img) active ∙ ap (verdict_with img which) names

  pub found : (f : Finding) → finding_of (image_blocks img s) (main_roots s) ≡ Some f → verdict_of img ≡ Damaged f
  found f e = in_parts ∙ ap (λ o. verdict_by which s o (reason_of (image_blocks img s) s which (length img)) (last_finding (image_blocks img s) s (length img))) e

  module _ (none : finding_of (image_blocks img s) (main_roots s) ≡ None) where
    walked : verdict_of img ≡ verdict_by which s None (reason_of (image_blocks img s) s which (length img)) (last_finding (image_blocks img s) s (length img))
    walked = in_parts ∙ ap (λ o. verdict_by which s o (reason_of (image_blocks img s) s which (length img)) (last_finding (image_blocks img s) s (length img))) none

    pub foreign : (why : Why) → reason_of (image_blocks img s) s which (length img) ≡ Some why → verdict_of img ≡ Foreign why
    foreign why e = walked ∙ ap (λ o. verdict_by which s None o (last_finding (image_blocks img s) s (length img))) e

    module _ (laid_out : reason_of (image_blocks img s) s which (length img) ≡ None) where
      at_last : verdict_of img ≡ verdict_by which s None None (last_finding (image_blocks img s) s (length img))
      at_last = walked ∙ ap (λ o. verdict_by which s None o (last_finding (image_blocks img s) s (length img))) laid_out

      pub found_last : (f : Finding) → last_finding (image_blocks img s) s (length img) ≡ Some f → verdict_of img ≡ Damaged f
      found_last f e = at_last ∙ ap (verdict_by which s None None) e

      pub clean : last_finding (image_blocks img s) s (length img) ≡ None → verdict_of img ≡ Clean which s
      clean e = at_last ∙ ap (verdict_by which s None None) e
