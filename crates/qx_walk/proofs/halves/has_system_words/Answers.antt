use Rattle.std.proofs.Common.{rules, ◌≡◌, inl, inr, sym, ◌∙◌, subst, arith, true}
use Rattle.std.proofs.lemmas.Bool.{cases_lt}
use Rattle.qx_walk.specs.Layouts.{are_words_of}
use Rattle.qx_walk.proofs.PointerWords.{right_words, wrong_words}
use Rattle.qx_pointers.proofs.ShownBlocks.{shown_size, shows_before}
use Rattle.qx_walk.proofs.halves.has_system_words.Goals as goal

pub returns-then-not-branch-clause-words : goal.returns-then-not-branch-clause-words
returns-then-not-branch-clause-words g c = λ m shows.
    sym (wrong_words m c.args.geometry.now c.requires.volume.volume.volume (shown_size c.args.shape (g.D.Dev.outside c.has_right_words.new.host) m shows ∙ sym c.requires.volume.volume.blocksize) c.args.which c.args.tree c.loop-block.block
    (record { from = omega (arith, c.pointer_blocks-blocks.ensures.first, c.loop-block.auto.block); to = omega (arith, c.pointer_blocks-blocks.ensures.first, c.pointer_blocks-blocks.ensures.behind, c.loop-block-test.true) })
    (sym (c.in_ok-has_right_words.ensures.words m shows) ∙ c.if-not-branch.true))

pub loop-block-preserved : goal.loop-block-preserved
loop-block-preserved g c = record {
  asks = search (rules, arith);
  words = λ m shows b p low. elim (cases_lt b c.loop-block.block) [
    | inl before ↦ c.loop-block.invariant.words m (shows_before c.args.shape (g.D.Dev.outside c.loop-block.host) (g.D.Dev.outside c.has_right_words.new.host) m c.has_right_words.ensures.asks.reads shows) b p before
    | inr here ↦
        let same : c.loop-block.block ≡ b = omega (arith, low, here) in
        let right : are_words_of c.args.geometry.now c.args.which c.args.tree c.loop-block.block m.order (m.bytes c.loop-block.block) ≡ true = sym (c.in_ok-has_right_words.ensures.words m shows) ∙ c.if-not-branch.false in
        subst (λ n. are_words_of c.args.geometry.now c.args.which c.args.tree n m.order (m.bytes n) ≡ true) same right
  ];
}

pub returns-clause-words : goal.returns-clause-words
returns-clause-words g c = λ m shows.
    sym (right_words m c.args.geometry.now c.requires.volume.volume.volume (shown_size c.args.shape (g.D.Dev.outside c.loop-block.host) m shows ∙ sym c.requires.volume.volume.blocksize) c.args.which c.args.tree
    (λ b p. c.loop-block.invariant.words m shows b p (omega (arith, p.to, c.pointer_blocks-blocks.ensures.first, c.pointer_blocks-blocks.ensures.behind, c.loop-block-test.false))))
