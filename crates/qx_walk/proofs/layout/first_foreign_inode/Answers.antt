use Rattle.std.proofs.Common.{◌≡◌, ◌+◌, inl, inr, ◌∙◌, ap, subst, arith, false}
use Rattle.std.specs.Prelude.{not}
use Rattle.std.proofs.lemmas.Bool.{cases_lt}
use Rattle.qx_view.specs.Sound.{fails_inodes}
use Rattle.qx_view.specs.Walk.{walked_inodes}
use Rattle.qx_walk.proofs.ForeignInodes.{foreign_at, foreign_none}
use Rattle.qx_walk.proofs.layout.first_foreign_inode.Goals as goal

pub returns-then-not-is_right_inode : goal.returns-then-not-is_right_inode
returns-then-not-is_right_inode c = λ m r is.
    foreign_at m r c.args.walked.now is c.loop-place.place (omega (arith, c.places-place-end.ensures, c.loop-place-test.true)) (c.loop-place.invariant m r is) (c.is_right_inode.ensures m r is ∙ ap (λ b. not b) c.if-not-is_right_inode.true)

pub loop-place-preserved : goal.loop-place-preserved
loop-place-preserved c = λ m r is k low. elim (cases_lt c.loop-place.place k) [
  | inl here ↦ let same : c.loop-place.place + 1 ≡ k = omega (arith, here, low) in subst (λ n. fails_inodes m r (walked_inodes m r) n ≡ false) same (c.is_right_inode.ensures m r is ∙ ap (λ b. not b) c.if-not-is_right_inode.false)
  | inr before ↦ c.loop-place.invariant m r is k before
]

pub returns : goal.returns
returns c = λ m r is. foreign_none m r c.args.walked.now is c.loop-place.place (omega (arith, c.places-place-end.ensures, c.loop-place-test.false)) (c.loop-place.invariant m r is)
