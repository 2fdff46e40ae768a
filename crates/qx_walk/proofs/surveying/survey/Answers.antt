use Rattle.std.proofs.Common.{◌≡◌, [], ◌∷◌, ◌+◌, ◌*◌, ◌/◌, length, refl, sym, ◌∙◌, ap, subst, None, arith}
use Rattle.std.specs.Prelude.{IfSome, Ok, Err}
use Rattle.qx_nodes.specs.BlockMap.{BlockMap}
use Rattle.qx_pointers.specs.Halts.{HaltsAt}
use Rattle.qx_pointers.proofs.PassedTests.{no_finding}
use Rattle.qx_pointers.proofs.ShownBlocks.{reads_then, shows_before}
use Rattle.qx_super.specs.Superblock.{Superblock}
use Rattle.qx_view.specs.Images.{Roots, image_blocks, main_roots}
use Rattle.qx_view.specs.Sound.{reason_with, written_geometry}
use Rattle.qx_view.specs.Walk.{finding_of}
use Rattle.qx_walk.specs.Surveys.{HasSurveyBounds, IsFault, IsSurvey}
use Rattle.qx_walk.specs.Trees.{IsWalked}
use Rattle.qx_pointers.specs.declared.halt.Halt.TheVariants as halts
use Rattle.qx_walk.proofs.StepsInOrder.{asks_looks, looks_then}
use Rattle.qx_walk.proofs.SurveyReads.{survey_ends, survey_few, survey_finds, survey_halts}
use Rattle.qx_walk.proofs.WrittenNumbers.{written_numbers}
use Rattle.qx_walk.proofs.Surveyed.{halted, halted_last, no_reason, shown_blocks, surveyed}
use Rattle.qx_walk.proofs.surveying.survey.Goals as goal

pub returns-in-Err-clause-says : goal.returns-in-Err-clause-says
returns-in-Err-clause-says g c = λ img told bytes active names.
    let s : Superblock = c.args.view.now in
    let m : BlockMap = image_blocks img s in
    let roots : ◌≡◌ {A = Roots} (record { inodes = c.root.result; longfile = c.root-2.result; further = c.root-3.result ∷ [] }) (main_roots s) = λ i. record { inodes = c.root.ensures i; longfile = c.root-2.ensures i; further = c.root-3.ensures i ∷ [] } in
    subst (IsFault img) (sym c.of.ensures)
    (halted img c.args.which s active names c.in-Err.halt (subst (λ r. HaltsAt (finding_of m r) c.in-Err.halt) roots (c.in-Err.ensures.answer m (shown_blocks _ s img (g.D.Dev.outside c.args.host.now) (g.D.Dev.outside c.walk_tree.new.host) (record { order = c.order.ensures; blocksize = c.blocksize.ensures; count = c.num_blocks.ensures }) c.walk_tree.ensures.looks.reads told bytes))))

pub returns-in-Err-first_reason-clause-says : goal.returns-in-Err-first_reason-clause-says
returns-in-Err-first_reason-clause-says g c = λ img told bytes active names.
    subst (IsFault img) (sym c.of-in-Err-first_reason.ensures)
    (halted img c.args.which c.args.view.now active names c.in-Err-first_reason.halt (no_finding _ _ _ _ (finding_of (image_blocks img c.args.view.now) (main_roots c.args.view.now)) c.in-Err-first_reason.ensures.asks))

pub returns-in-Some-clause-says : goal.returns-in-Some-clause-says
returns-in-Some-clause-says g c = λ img told bytes active names.
    let s : Superblock = c.args.view.now in
    let m : BlockMap = image_blocks img s in
    let reads = reads_then 0 (c.num_blocks.result * (c.blocksize.result / 8)) 0 (5 * c.num_blocks.result) 0 ((c.num_blocks.result * (c.blocksize.result / 8)) + (5 * c.num_blocks.result)) (g.D.Dev.outside c.args.host.now) (g.D.Dev.outside c.walk_tree.new.host) (g.D.Dev.outside c.first_reason.new.host) (omega arith) c.walk_tree.ensures.looks.reads c.first_reason.ensures.asks.reads in
    let roots : ◌≡◌ {A = Roots} (record { inodes = c.root.result; longfile = c.root-2.result; further = c.root-3.result ∷ [] }) (main_roots s) = λ i. record { inodes = c.root.ensures i; longfile = c.root-2.ensures i; further = c.root-3.ensures i ∷ [] } in
    let is : IsWalked m (main_roots s) c.in-Ok.walked = subst (λ r. IsWalked m r c.in-Ok.walked) roots (c.in-Ok.ensures.walked m (shows_before _ (g.D.Dev.outside c.walk_tree.new.host) (g.D.Dev.outside c.first_reason.new.host) m c.first_reason.ensures.asks.reads (shown_blocks _ s img (g.D.Dev.outside c.args.host.now) (g.D.Dev.outside c.first_reason.new.host) (record { order = c.order.ensures; blocksize = c.blocksize.ensures; count = c.num_blocks.ensures }) reads told bytes))) in
    let long : c.args.len ≡ length img = sym (subst (λ o. IfSome o (λ n. n ≡ c.args.len)) (g.met.D.Dev.extent_is c.args.host.now (reads.before told)) c.requires.len) ∙ ap length bytes in
    let written : written_geometry s c.args.len ≡ c.geometry_of-geometry.result = sym c.geometry_of-geometry.ensures.geometry in
    let none : c.in-Ok-first_reason.foreign ≡ None = no_reason c.in-Ok-first_reason.foreign c.last_of-last.result c.in-Some.finding c.last_of-last.ensures.foreign c.in-Some.is in
    let reason : reason_with m s c.args.which c.geometry_of-geometry.result ≡ None = sym (c.in-Ok-first_reason.ensures.reason m c.args.len (shown_blocks _ s img (g.D.Dev.outside c.args.host.now) (g.D.Dev.outside c.first_reason.new.host) (record { order = c.order.ensures; blocksize = c.blocksize.ensures; count = c.num_blocks.ensures }) reads told bytes) written is) ∙ none in
    halted_last img c.args.which s active names c.in-Ok.walked is c.geometry_of-geometry.result (ap (written_geometry s) (sym long) ∙ written) c.in-Some.finding reason
    (sym (c.last_of-last.ensures.last m c.args.len c.args.which refl refl written is reason none) ∙ c.in-Some.is)

pub returns-in-None-clause-says : goal.returns-in-None-clause-says
returns-in-None-clause-says g c = λ img told bytes active names.
    let s : Superblock = c.args.view.now in
    let m : BlockMap = image_blocks img s in
    let reads = reads_then 0 (c.num_blocks.result * (c.blocksize.result / 8)) 0 (5 * c.num_blocks.result) 0 ((c.num_blocks.result * (c.blocksize.result / 8)) + (5 * c.num_blocks.result)) (g.D.Dev.outside c.args.host.now) (g.D.Dev.outside c.walk_tree.new.host) (g.D.Dev.outside c.first_reason.new.host) (omega arith) c.walk_tree.ensures.looks.reads c.first_reason.ensures.asks.reads in
    let roots : ◌≡◌ {A = Roots} (record { inodes = c.root.result; longfile = c.root-2.result; further = c.root-3.result ∷ [] }) (main_roots s) = λ i. record { inodes = c.root.ensures i; longfile = c.root-2.ensures i; further = c.root-3.ensures i ∷ [] } in
    let is : IsWalked m (main_roots s) c.in-Ok.walked = subst (λ r. IsWalked m r c.in-Ok.walked) roots (c.in-Ok.ensures.walked m (shows_before _ (g.D.Dev.outside c.walk_tree.new.host) (g.D.Dev.outside c.first_reason.new.host) m c.first_reason.ensures.asks.reads (shown_blocks _ s img (g.D.Dev.outside c.args.host.now) (g.D.Dev.outside c.first_reason.new.host) (record { order = c.order.ensures; blocksize = c.blocksize.ensures; count = c.num_blocks.ensures }) reads told bytes))) in
    let long : c.args.len ≡ length img = sym (subst (λ o. IfSome o (λ n. n ≡ c.args.len)) (g.met.D.Dev.extent_is c.args.host.now (reads.before told)) c.requires.len) ∙ ap length bytes in
    let written : written_geometry s c.args.len ≡ c.geometry_of-geometry.result = sym c.geometry_of-geometry.ensures.geometry in
    let reason : c.in-Ok-first_reason.foreign ≡ reason_with m s c.args.which c.geometry_of-geometry.result = c.in-Ok-first_reason.ensures.reason m c.args.len (shown_blocks _ s img (g.D.Dev.outside c.args.host.now) (g.D.Dev.outside c.first_reason.new.host) (record { order = c.order.ensures; blocksize = c.blocksize.ensures; count = c.num_blocks.ensures }) reads told bytes) written is in
    subst (IsSurvey img) (sym c.survey_of.ensures)
    (surveyed img c.args.which s active names c.in-Ok.walked is c.geometry_of-geometry.result (ap (written_geometry s) (sym long) ∙ written) c.in-Ok-first_reason.foreign (c.in-Ok.ensures.bounds.limits.blocks ∙ c.num_blocks.ensures) reason
    (λ none. sym (c.last_of-last.ensures.last m c.args.len c.args.which refl refl written is (sym reason ∙ none) none) ∙ c.in-None.is))

pub returns-in-Err-clause-looks : goal.returns-in-Err-clause-looks
returns-in-Err-clause-looks g c = survey_halts (c.num_blocks.result * (c.blocksize.result / 8)) c.args.len (g.D.Dev.outside c.args.host.now) (g.D.Dev.outside c.walk_tree.new.host) c.in-Err.halt c.of.result (omega (arith, survey_few c.args.view.now c.blocksize.result c.num_blocks.result c.args.len c.requires.sized c.blocksize.ensures c.num_blocks.ensures c.requires.room)) c.of.ensures c.in-Err.ensures.looks

pub returns-in-Err-first_reason-clause-looks : goal.returns-in-Err-first_reason-clause-looks
returns-in-Err-first_reason-clause-looks g c =
    survey_halts ((c.num_blocks.result * (c.blocksize.result / 8)) + (5 * c.num_blocks.result)) c.args.len (g.D.Dev.outside c.args.host.now) (g.D.Dev.outside c.first_reason.new.host) c.in-Err-first_reason.halt c.of-in-Err-first_reason.result (survey_few c.args.view.now c.blocksize.result c.num_blocks.result c.args.len c.requires.sized c.blocksize.ensures c.num_blocks.ensures c.requires.room) c.of-in-Err-first_reason.ensures
    (looks_then halts.Device 0 (c.num_blocks.result * (c.blocksize.result / 8)) 0 (5 * c.num_blocks.result) 0 ((c.num_blocks.result * (c.blocksize.result / 8)) + (5 * c.num_blocks.result)) (g.D.Dev.outside c.args.host.now) (g.D.Dev.outside c.walk_tree.new.host) (g.D.Dev.outside c.first_reason.new.host) c.in-Ok.walked (Err c.in-Err-first_reason.halt) (omega arith) c.in-Ok.ensures.looks (asks_looks (5 * c.num_blocks.result) (g.D.Dev.outside c.walk_tree.new.host) (g.D.Dev.outside c.first_reason.new.host) _ c.in-Err-first_reason.ensures.asks))

pub returns-in-Some-clause-looks : goal.returns-in-Some-clause-looks
returns-in-Some-clause-looks g c =
    survey_finds ((c.num_blocks.result * (c.blocksize.result / 8)) + (5 * c.num_blocks.result)) c.args.len (g.D.Dev.outside c.args.host.now) (g.D.Dev.outside c.first_reason.new.host) c.in-Ok-first_reason.foreign c.in-Some.finding (survey_few c.args.view.now c.blocksize.result c.num_blocks.result c.args.len c.requires.sized c.blocksize.ensures c.num_blocks.ensures c.requires.room)
    (looks_then halts.Device 0 (c.num_blocks.result * (c.blocksize.result / 8)) 0 (5 * c.num_blocks.result) 0 ((c.num_blocks.result * (c.blocksize.result / 8)) + (5 * c.num_blocks.result)) (g.D.Dev.outside c.args.host.now) (g.D.Dev.outside c.walk_tree.new.host) (g.D.Dev.outside c.first_reason.new.host) c.in-Ok.walked (Ok c.in-Ok-first_reason.foreign) (omega arith) c.in-Ok.ensures.looks (asks_looks (5 * c.num_blocks.result) (g.D.Dev.outside c.walk_tree.new.host) (g.D.Dev.outside c.first_reason.new.host) _ c.in-Ok-first_reason.ensures.asks))

pub returns-in-None-clause-bounds : goal.returns-in-None-clause-bounds
returns-in-None-clause-bounds g c = subst (HasSurveyBounds c.args.len) (sym c.survey_of.ensures) (record {
  size = c.requires.sized;
  limit = c.in-Ok.ensures.bounds.limits.blocks ∙ c.num_blocks.ensures;
  room = c.requires.room;
  numbers = λ none. written_numbers c.args.view.now c.args.len c.geometry_of-geometry.result c.geometry_of-geometry.ensures.geometry (c.in-Ok-first_reason.ensures.numbers none);
})

pub returns-in-None-clause-looks : goal.returns-in-None-clause-looks
returns-in-None-clause-looks g c =
    survey_ends ((c.num_blocks.result * (c.blocksize.result / 8)) + (5 * c.num_blocks.result)) c.args.len (g.D.Dev.outside c.args.host.now) (g.D.Dev.outside c.first_reason.new.host) c.in-Ok-first_reason.foreign c.survey_of.result (survey_few c.args.view.now c.blocksize.result c.num_blocks.result c.args.len c.requires.sized c.blocksize.ensures c.num_blocks.ensures c.requires.room)
    (looks_then halts.Device 0 (c.num_blocks.result * (c.blocksize.result / 8)) 0 (5 * c.num_blocks.result) 0 ((c.num_blocks.result * (c.blocksize.result / 8)) + (5 * c.num_blocks.result)) (g.D.Dev.outside c.args.host.now) (g.D.Dev.outside c.walk_tree.new.host) (g.D.Dev.outside c.first_reason.new.host) c.in-Ok.walked (Ok c.in-Ok-first_reason.foreign) (omega arith) c.in-Ok.ensures.looks (asks_looks (5 * c.num_blocks.result) (g.D.Dev.outside c.walk_tree.new.host) (g.D.Dev.outside c.first_reason.new.host) _ c.in-Ok-first_reason.ensures.asks))
