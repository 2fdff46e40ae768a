-- What the superblock of a clean image counts.
use Rattle.std.proofs.Common.{◌≡◌, ◌+◌, ◌-◌, ℕ, Bool, List, length, Option, Some, None, arith, sym, ap, subst, ◌∙◌}
use Rattle.std.specs.Prelude.{true, false}
use Rattle.std.proofs.lemmas.Bool.{and_parts, eqb-true}
use Rattle.qx_geom.specs.declared.area.Which.{Which}
use Rattle.qx_geom.specs.declared.geometry.Geometry.{Geometry}
use Rattle.qx_super.specs.Superblock.{Superblock}
use Rattle.qx_view.proofs.Verdicts.{clean_sound}
use Rattle.qx_view.specs.Images.{image_blocks, main_roots}
use Rattle.qx_view.specs.Sound.{Clean, are_counts_right, last_with, reason_with, tail_finding, verdict_of, written_geometry}
use Rattle.qx_view.specs.Walk.{walked_inodes}
use Rattle.qx_walk.specs.Surveys.{IsSurvey, free_if, verdict_if}
use Rattle.qx_walk.specs.declared.survey.Survey.{Survey}
use Rattle.qx_check.specs.Verdicts.{IsVerdict}
use Rattle.qx_check.specs.declared.verdict.Verdict.TheVariants as verdicts

-- where nothing is found last, the counts are right
right_counts : (tail : Option ℕ) (right : Bool) → tail_finding tail right ≡ None → right ≡ true
right_counts (Some n) right e = absurd (cc)
right_counts None true e = cc
right_counts None false e = absurd (cc)

-- a superblock without a reason has a geometry, and where nothing is found last, it says how many inodes aren't reached
counted : (img : List ℕ) (s : Superblock) (which : Which) (o : Option Geometry) → reason_with (image_blocks img s) s which o ≡ None → last_with (image_blocks img s) s o ≡ None
    → s.free_inodes + length (walked_inodes (image_blocks img s) (main_roots s)) ≡ s.num_inodes
counted img s which None reason last = absurd (cc)
counted img s which (Some g) reason last =
    eqb-true _ _ (and_parts _ _ (right_counts _ (are_counts_right (image_blocks img s) s g (main_roots s) (walked_inodes (image_blocks img s) (main_roots s))) last)).1

-- so does that of a clean image
pub free_inodes_of_clean : (img : List ℕ) (which : Which) (s : Superblock) → verdict_of img ≡ Clean which s
    → s.free_inodes + length (walked_inodes (image_blocks img s) (main_roots s)) ≡ s.num_inodes
free_inodes_of_clean img which s clean =
    let sound = (clean_sound img which s clean).2.1 in
    let u : Superblock = sound.superblock in
    let same : u ≡ s = (let e : Some u ≡ Some s = sym sound.names ∙ (clean_sound img which s clean).1 in cc) in
    subst (λ (s : Superblock). s.free_inodes + length (walked_inodes (image_blocks img s) (main_roots s)) ≡ s.num_inodes) same
    (counted img u sound.area (written_geometry u (length img)) sound.no_reason sound.no_last)

-- a survey of an image that isn't foreign gives the clean verdict, with the inodes that aren't live as free
pub clean_of_survey : (img : List ℕ) (survey : Survey) (free : ℕ) → free ≡ survey.num_inodes - survey.live → IsSurvey img survey → survey.foreign ≡ None → IsVerdict img (verdicts.Clean survey.which survey.serial survey.free_blocks free)
clean_of_survey img survey free less is none =
    let s : Superblock = is.superblock in
    let clean : verdict_of img ≡ Clean survey.which s = is.verdict ∙ ap (λ o. verdict_if survey.which s o) none in
    let counts = free_inodes_of_clean img survey.which s clean in
    (s, clean, is.serial, is.free ∙ ap (λ o. free_if img s o) none, omega (arith, less, is.num_inodes, is.live, counts))
