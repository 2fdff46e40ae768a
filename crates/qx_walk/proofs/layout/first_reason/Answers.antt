use Rattle.std.proofs.lemmas.Result.{err_from_is_err_and}
use Rattle.std.proofs.Common.{◌≡◌, ◌+◌, ◌*◌, ◌≤◌, sym, ◌∙◌, ap, subst, arith}
use Rattle.std.specs.Prelude.{IfSome, Option, Some, is_some}
use Rattle.qx_geom.proofs.VolumeNumbers.{IsGeometry-keeps}
use Rattle.qx_geom.specs.declared.geometry.Geometry.{Geometry}
use Rattle.qx_pointers.specs.declared.source.Shape.{Shape}
use Rattle.qx_super.specs.Superblock.{Superblock}
use Rattle.qx_walk.proofs.StepsInOrder.{asks_halt, asks_then}
use Rattle.qx_view.specs.Images.{main_roots}
use Rattle.qx_view.specs.Sound.{reason_with}
use Rattle.qx_view.specs.declared.reasons.Reason.TheVariants as reasons
use Rattle.qx_view.specs.declared.reasons.Foreign.{Foreign as Why}
use Rattle.qx_walk.specs.Layouts.{HasNumbers, IsShapeOf}
use Rattle.qx_walk.proofs.FirstReasons.{not_laid_out, right_bitmap, wrong_bitmap}
use Rattle.qx_pointers.proofs.ShownBlocks.{shown_count, shown_size, shows_before}
use Rattle.qx_walk.proofs.layout.first_reason.Goals as goal

pub returns-then-not-branch-clause-reason : goal.returns-then-not-branch-clause-reason
returns-then-not-branch-clause-reason g c = λ m len shows written is.
    let two : Option Why = Some (record { reason = reasons.Halves; at = 0 }) in
    let count : m.count ≡ c.args.shape.count = shown_count c.args.shape (g.D.Dev.outside c.is_laid_out.new.host) m shows in
    subst (λ o. two ≡ reason_with m c.args.view.now c.args.which o) (sym c.in-Some.is)
    (not_laid_out m c.args.view.now len c.in-Some.geometry c.args.which c.args.walked.now (shown_size c.args.shape (g.D.Dev.outside c.is_laid_out.new.host) m shows ∙ c.requires.shape.blocksize) (count ∙ c.requires.shape.count) (c.requires.bounds.blocks ∙ sym count)
    (written ∙ c.in-Some.is) is (sym (c.in_ok-is_laid_out.ensures.right m shows) ∙ c.if-not-branch.true))

pub returns-in-Some-2-clause-reason : goal.returns-in-Some-2-clause-reason
returns-in-Some-2-clause-reason g c = λ m len shows written is.
    let three : Option Why = Some (record { reason = reasons.Bitmap; at = c.in-Some-2.at }) in
    let count : m.count ≡ c.args.shape.count = shown_count c.args.shape (g.D.Dev.outside c.first_wrong_bit.new.host) m shows in
    subst (λ o. three ≡ reason_with m c.args.view.now c.args.which o) (sym c.in-Some.is)
    (wrong_bitmap m c.args.view.now len c.in-Some.geometry c.args.which c.args.walked.now (shown_size c.args.shape (g.D.Dev.outside c.first_wrong_bit.new.host) m shows ∙ c.requires.shape.blocksize) (count ∙ c.requires.shape.count) (c.requires.bounds.blocks ∙ sym count)
    (written ∙ c.in-Some.is) is c.in-Some-2.at
    (sym (c.in_ok-is_laid_out.ensures.right m (shows_before c.args.shape (g.D.Dev.outside c.is_laid_out.new.host) (g.D.Dev.outside c.first_wrong_bit.new.host) m c.first_wrong_bit.ensures.asks.reads shows)) ∙ c.if-not-branch.false)
    (sym c.in-Some-2.is ∙ c.in_ok-at.ensures.bit m shows))

pub returns-clause-reason : goal.returns-clause-reason
returns-clause-reason g c = λ m len shows written is.
    let count : m.count ≡ c.args.shape.count = shown_count c.args.shape (g.D.Dev.outside c.first_wrong_bit.new.host) m shows in
    subst (λ o. c.noted_reason.result ≡ reason_with m c.args.view.now c.args.which o) (sym c.in-Some.is)
    (c.noted_reason.ensures m (main_roots c.args.view.now) is
    ∙ right_bitmap m c.args.view.now len c.in-Some.geometry c.args.which c.args.walked.now (shown_size c.args.shape (g.D.Dev.outside c.first_wrong_bit.new.host) m shows ∙ c.requires.shape.blocksize) (count ∙ c.requires.shape.count) (c.requires.bounds.blocks ∙ sym count)
    (written ∙ c.in-Some.is) is
    (sym (c.in_ok-is_laid_out.ensures.right m (shows_before c.args.shape (g.D.Dev.outside c.is_laid_out.new.host) (g.D.Dev.outside c.first_wrong_bit.new.host) m c.first_wrong_bit.ensures.asks.reads shows)) ∙ c.if-not-branch.false)
    (sym c.in_default-2.is ∙ c.in_ok-at.ensures.bit m shows))

-- the bitmap's leaves are some of the blocks
few : (shape : Shape) (s : Superblock) (g : Geometry) → IsShapeOf s shape → HasNumbers s g → 4 * shape.count + g.bitmap_leaves ≤ 5 * shape.count
few shape s g is has = let v = IsGeometry-keeps g has.volume in omega (arith, v.parts, v.room, is.count, has.count)

pub returns-in_err-at-clause-asks : goal.returns-in_err-at-clause-asks
returns-in_err-at-clause-asks g c =
    let has = subst (λ o. IfSome o (HasNumbers c.args.view.now)) c.in-Some.is c.requires.geometry in
    let p = err_from_is_err_and c.from_residual-in_err-at.result c.from_residual-in_err-at.ensures.1 in
    rw (p.1, p.2) (asks_halt _ _ _ (g.D.Dev.outside c.args.host.now) (g.D.Dev.outside c.is_laid_out.new.host) (g.D.Dev.outside c.first_wrong_bit.new.host) c.in_ok-is_laid_out.field-0 c.in_err-at.field-0.0 (few c.args.shape c.args.view.now c.in-Some.geometry c.requires.shape has) c.in_ok-is_laid_out.ensures.asks c.in_err-at.ensures.asks)

pub returns-in-Some-2-clause-asks : goal.returns-in-Some-2-clause-asks
returns-in-Some-2-clause-asks g c =
    let has = subst (λ o. IfSome o (HasNumbers c.args.view.now)) c.in-Some.is c.requires.geometry in
    asks_then _ _ _ (g.D.Dev.outside c.args.host.now) (g.D.Dev.outside c.is_laid_out.new.host) (g.D.Dev.outside c.first_wrong_bit.new.host) c.in_ok-is_laid_out.field-0 c.in_ok-at.field-0 _ (few c.args.shape c.args.view.now c.in-Some.geometry c.requires.shape has) c.in_ok-is_laid_out.ensures.asks c.in_ok-at.ensures.asks

pub returns-clause-asks : goal.returns-clause-asks
returns-clause-asks g c =
    let has = subst (λ o. IfSome o (HasNumbers c.args.view.now)) c.in-Some.is c.requires.geometry in
    asks_then _ _ _ (g.D.Dev.outside c.args.host.now) (g.D.Dev.outside c.is_laid_out.new.host) (g.D.Dev.outside c.first_wrong_bit.new.host) c.in_ok-is_laid_out.field-0 c.in_ok-at.field-0 _ (few c.args.shape c.args.view.now c.in-Some.geometry c.requires.shape has) c.in_ok-is_laid_out.ensures.asks c.in_ok-at.ensures.asks

pub returns-in-Some-2-clause-numbers : goal.returns-in-Some-2-clause-numbers
returns-in-Some-2-clause-numbers g c = λ none. ap is_some c.in-Some.is

pub returns-clause-numbers : goal.returns-clause-numbers
returns-clause-numbers g c = λ none. ap is_some c.in-Some.is
