-- What a power cut leaves while the puts of a stage are on their way is torn by that stage.
use Rattle.std.proofs.Common.{ℕ, ◌+◌, ◌≤◌, List, length, ap, ◌∙◌, arith}
use Rattle.std.specs.Prelude.{slice_range}
use Rattle.qx_outside.specs.Images.{IsImage}
use Rattle.qx_outside.specs.Trail.{History}
use Rattle.qx_outside.specs.Puts.{IsPutting}
use Rattle.qx_outside.proofs.PuttingMoments.{IsPartOf-asked, image_putting-apart, image_putting-size}
use Rattle.qx_view.specs.FalseSuperblocks.{HasNoFalseSuperblock, MayStand, asked, kept as stood, invalid as refused}
use Rattle.qx_make.specs.Cut.{IsTorn, MayBeLeft, kept, put, invalid}
use Rattle.qx_make.specs.Stages.{Stage}
use Rattle.qx_make.proofs.BytesAt.{length-range}

module _ (stage : Stage) (places : List ℕ) (h : History) (img : List ℕ) (putting : IsPutting stage.kept stage.puts h) where
  -- what may stand at a place is what the stage may leave there
  may_be_left : (place : ℕ) → place + 512 ≤ length img → MayStand h (length img) place (slice_range img place (place + 512)) → MayBeLeft stage (length img) place (slice_range img place (place + 512))
  may_be_left place room (stood is) = kept (is ∙ ap (λ (bytes : List ℕ). slice_range bytes place (place + 512)) putting.kept_is)
  may_be_left place room (asked is) =
      put (IsPartOf-asked stage.kept stage.puts h place (slice_range img place (place + 512)) (omega (arith, length-range img place (place + 512) room)) putting is)
  may_be_left place room (refused none) = invalid none

  -- so an image is torn by the stage
  pub IsTorn-image : IsImage h img → HasNoFalseSuperblock places h img → IsTorn stage places img
  IsTorn-image is no_chance = record {
    size = image_putting-size stage.kept stage.puts h img putting is;
    apart = λ k apart. image_putting-apart stage.kept stage.puts h img k putting is apart;
    stands = λ place among room. may_be_left place room (no_chance.stands place among room);
  }
