use Rattle.std.proofs.Common.{◌≡◌, ℕ, List, ap, ◌∙◌}
use Rattle.qx_outside.specs.Trail.{bytes_of}
use Rattle.qx_super.specs.declared.choice.Choice.{Choice}
use Rattle.qx_super.specs.declared.supers.Areas.{Areas}
use Rattle.qx_super.specs.Active.{IsOfImage, choice_of}
use Rattle.qx_super.proofs.ActiveAreas.{choice_read}
use Rattle.qx_top.specs.Lines.{report_of, supers_report}
use Rattle.qx_top.proofs.supers.report_on_device.Goals as goal

-- what was chosen of an image gives its report
reported : (img : List ℕ) (areas : Areas) (choice : Choice) → IsOfImage img areas → choice ≡ choice_of areas.first areas.second → report_of choice ≡ supers_report img
unfolding supers_report
reported img areas choice of_image is = ap report_of (is ∙ choice_read img areas of_image)

pub returns-clause-report : goal.returns-clause-report
returns-clause-report g c = λ told.
    c.report_on.ensures.report
    ∙ reported (bytes_of (g.D.Dev.outside c.areas.new.host).history) c.in_ok-areas.areas c.choice.result (c.in_ok-areas.ensures.told told) c.choice.ensures
