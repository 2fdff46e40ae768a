use Rattle.std.proofs.Common.{subst}
use Rattle.qx_outside.specs.Trail.{History, bytes_of}
use Rattle.qx_walk.specs.Surveys.{IsSurvey}
use Rattle.qx_check.proofs.CleanCounts.{clean_of_survey}
use Rattle.qx_check.proofs.LookedOver.{looked_and_found, looked_at_two, looked_for_none, looked_in_vain, looked_through, looked_without_room}
use Rattle.qx_check.proofs.checking.check.Goals as goal

pub returns-clause-says : goal.returns-clause-says
returns-clause-says g c = λ told.
    let same = c.len.ensures.step.step (c.walk.ensures.looks.reads.before told) in
    let survey = c.in-Ok-walk.survey in
    clean_of_survey _ survey _ c.saturating_sub.ensures (subst (λ (h : History). IsSurvey (bytes_of h) survey) same (c.in-Ok-walk.ensures.says told)) c.in-None.is

pub returns-in-Err-NoVolume-clause-looks : goal.returns-in-Err-NoVolume-clause-looks
returns-in-Err-NoVolume-clause-looks g c = looked_for_none (g.D.Dev.outside c.args.host.now) (g.D.Dev.outside c.len.new.self) (g.D.Dev.outside c.walk.new.host) c.in-Ok.len (record { step = c.len.ensures.step; rest = c.len.ensures.others; kept = c.in-Ok.ensures.cause.kept; value = c.in-Ok.ensures.value }) (rw c.in-Err-NoVolume.field-0-is at c.in-Err-NoVolume.ensures.looks)

pub returns-in-Err-Disagree-clause-looks : goal.returns-in-Err-Disagree-clause-looks
returns-in-Err-Disagree-clause-looks g c = looked_at_two (g.D.Dev.outside c.args.host.now) (g.D.Dev.outside c.len.new.self) (g.D.Dev.outside c.walk.new.host) c.in-Ok.len (record { step = c.len.ensures.step; rest = c.len.ensures.others; kept = c.in-Ok.ensures.cause.kept; value = c.in-Ok.ensures.value }) (rw c.in-Err-Disagree.field-0-is at c.in-Err-Disagree.ensures.looks)

pub returns-in-Err-Device-clause-looks : goal.returns-in-Err-Device-clause-looks
returns-in-Err-Device-clause-looks g c = looked_in_vain (g.D.Dev.outside c.args.host.now) (g.D.Dev.outside c.len.new.self) (g.D.Dev.outside c.walk.new.host) c.in-Ok.len (record { step = c.len.ensures.step; rest = c.len.ensures.others; kept = c.in-Ok.ensures.cause.kept; value = c.in-Ok.ensures.value }) (rw c.in-Err-Device.field-0-is at c.in-Err-Device.ensures.looks)

pub returns-in-Err-NoMemory-clause-looks : goal.returns-in-Err-NoMemory-clause-looks
returns-in-Err-NoMemory-clause-looks g c = looked_without_room (g.D.Dev.outside c.args.host.now) (g.D.Dev.outside c.len.new.self) (g.D.Dev.outside c.walk.new.host) c.in-Ok.len (record { step = c.len.ensures.step; rest = c.len.ensures.others; kept = c.in-Ok.ensures.cause.kept; value = c.in-Ok.ensures.value }) (rw c.in-Err-NoMemory.field-0-is at c.in-Err-NoMemory.ensures.looks)

pub returns-in-Err-Finding-clause-looks : goal.returns-in-Err-Finding-clause-looks
returns-in-Err-Finding-clause-looks g c = looked_and_found (g.D.Dev.outside c.args.host.now) (g.D.Dev.outside c.len.new.self) (g.D.Dev.outside c.walk.new.host) c.in-Ok.len (record { step = c.len.ensures.step; rest = c.len.ensures.others; kept = c.in-Ok.ensures.cause.kept; value = c.in-Ok.ensures.value }) c.in-Err-Finding.finding _ (rw c.in-Err-Finding.field-0-is at c.in-Err-Finding.ensures.looks)

pub returns-in-Some-clause-looks : goal.returns-in-Some-clause-looks
returns-in-Some-clause-looks g c = looked_through (g.D.Dev.outside c.args.host.now) (g.D.Dev.outside c.len.new.self) (g.D.Dev.outside c.walk.new.host) c.in-Ok.len (record { step = c.len.ensures.step; rest = c.len.ensures.others; kept = c.in-Ok.ensures.cause.kept; value = c.in-Ok.ensures.value }) c.in-Ok-walk.survey _ c.in-Ok-walk.ensures.looks

pub returns-clause-looks : goal.returns-clause-looks
returns-clause-looks g c = looked_through (g.D.Dev.outside c.args.host.now) (g.D.Dev.outside c.len.new.self) (g.D.Dev.outside c.walk.new.host) c.in-Ok.len (record { step = c.len.ensures.step; rest = c.len.ensures.others; kept = c.in-Ok.ensures.cause.kept; value = c.in-Ok.ensures.value }) c.in-Ok-walk.survey _ c.in-Ok-walk.ensures.looks
