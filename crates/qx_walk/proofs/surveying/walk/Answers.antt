use Rattle.std.proofs.Common.{◌≡◌, ◌+◌, List, ℕ, refl, sym, ◌∙◌, ap, subst, IsTrue, arith}
use Rattle.qx_outside.specs.Trail.{bytes_of}
use Rattle.qx_super.proofs.ActiveAreas.{active_area-chosen, active_super-chosen, choice_read}
use Rattle.qx_super.specs.Active.{choice_in, pick_in, super_in}
use Rattle.qx_super.specs.declared.choice.Choice.TheVariants as choices
use Rattle.qx_pointers.proofs.ShownBlocks.{reads_more}
use Rattle.qx_walk.proofs.StepsInOrder.{looks_after}
use Rattle.qx_walk.proofs.SurveyReads.{just_read}
use Rattle.qx_walk.specs.Surveys.{SaysOf}
use Rattle.qx_walk.proofs.ReadAreas.{fits_chosen}
use Rattle.qx_view.specs.Sound.{Disagree, NoVolume, verdict_at, verdict_of}
use Rattle.qx_walk.proofs.surveying.walk.Goals as goal

pub survey-requires-clause-sized : goal.survey-requires-clause-sized
survey-requires-clause-sized g c = (fits_chosen c.in-Ok.areas c.in-Active.which c.args.len c.in-Active.view c.in-Ok.ensures.read (sym c.choice.ensures ∙ c.in-Active.is)).sized

pub survey-requires-clause-room : goal.survey-requires-clause-room
survey-requires-clause-room g c = (fits_chosen c.in-Ok.areas c.in-Active.which c.args.len c.in-Active.view c.in-Ok.ensures.read (sym c.choice.ensures ∙ c.in-Active.is)).room

pub returns-in-None-clause-says : goal.returns-in-None-clause-says
returns-in-None-clause-says g c = λ told.
    let img : List ℕ = bytes_of (g.D.Dev.outside c.areas.new.host).history in
    let here : choice_in img ≡ choices.None = sym (choice_read img c.in-Ok.areas (c.in-Ok.ensures.told told)) ∙ sym c.choice.ensures ∙ c.in-None.is in
    subst (λ h. verdict_of (bytes_of h) ≡ NoVolume) (c.areas.ensures.step.step told) (ap (verdict_at img) (active_area-chosen img ∙ ap pick_in here))

pub returns-in-Disagree-clause-says : goal.returns-in-Disagree-clause-says
returns-in-Disagree-clause-says g c = λ told.
    let img : List ℕ = bytes_of (g.D.Dev.outside c.areas.new.host).history in
    let here : choice_in img ≡ choices.Disagree = sym (choice_read img c.in-Ok.areas (c.in-Ok.ensures.told told)) ∙ sym c.choice.ensures ∙ c.in-Disagree.is in
    subst (λ h. verdict_of (bytes_of h) ≡ Disagree) (c.areas.ensures.step.step told) (ap (verdict_at img) (active_area-chosen img ∙ ap pick_in here))

pub returns-in-Active-clause-says : goal.returns-in-Active-clause-says
returns-in-Active-clause-says g c = λ told.
    let before : IsTrue (g.D.Dev.outside c.areas.new.host).tells = c.survey.ensures.looks.reads.before told in
    let img : List ℕ = bytes_of (g.D.Dev.outside c.areas.new.host).history in
    let here : choice_in img ≡ choices.Active c.in-Active.which c.in-Active.view = sym (choice_read img c.in-Ok.areas (c.in-Ok.ensures.told before)) ∙ sym c.choice.ensures ∙ c.in-Active.is in
    subst (λ h. SaysOf (bytes_of h) c.survey.result) (c.areas.ensures.step.step before)
    (c.survey.ensures.says img told refl (active_area-chosen img ∙ ap pick_in here) (active_super-chosen img ∙ ap super_in here))

pub returns-in-Disagree-clause-looks : goal.returns-in-Disagree-clause-looks
returns-in-Disagree-clause-looks g c = record {
  reads = reads_more 0 2 0 (c.args.len + 2) (g.D.Dev.outside c.args.host.now) (g.D.Dev.outside c.areas.new.host) (omega arith) (just_read 2 (g.D.Dev.outside c.args.host.now) (g.D.Dev.outside c.areas.new.host) c.areas.ensures.step c.areas.ensures.extent c.areas.ensures.reads c.areas.ensures.others);
  cause = record { later = c.areas.ensures.cause.later; failed = λ e. absurd (cc); kept = λ other. c.in-Ok.ensures.cause.kept };
}

pub returns-in-Active-clause-looks : goal.returns-in-Active-clause-looks
returns-in-Active-clause-looks g c = looks_after _ 2 0 c.args.len 0 (c.args.len + 2) (g.D.Dev.outside c.args.host.now) (g.D.Dev.outside c.areas.new.host) (g.D.Dev.outside c.survey.new.host) c.survey.result (omega arith) (just_read 2 (g.D.Dev.outside c.args.host.now) (g.D.Dev.outside c.areas.new.host) c.areas.ensures.step c.areas.ensures.extent c.areas.ensures.reads c.areas.ensures.others) c.in-Ok.ensures.cause.kept c.survey.ensures.looks
