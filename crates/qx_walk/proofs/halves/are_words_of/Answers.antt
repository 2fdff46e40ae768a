use Rattle.std.proofs.Common.{◌≡◌, ◌*◌, sym, ◌∙◌, ap, arith}
use Rattle.std.specs.Prelude.{◌==◌}
use Rattle.std.proofs.lemmas.Bool.{ne_eqb}
use Rattle.qx_fields.specs.Number.{field}
use Rattle.qx_geom.specs.Layout.{system_word_of}
use Rattle.qx_geom.specs.Pointer.{per_block}
use Rattle.qx_geom.proofs.Members.{all_below}
use Rattle.qx_walk.proofs.PointerWords.{not_below}
use Rattle.qx_walk.proofs.halves.are_words_of.Goals as goal

pub returns-then-get32-tree_word : goal.returns-then-get32-tree_word
returns-then-get32-tree_word c =
    let w = c.loop-word.word in
    let read : c.get32.result ≡ field c.args.order 4 c.args.bytes.now (4 * w) = c.get32.ensures ∙ ap (λ n. field c.args.order 4 c.args.bytes.now n) (omega arith) in
    sym (not_below (λ w. field c.args.order 4 c.args.bytes.now (4 * w) == system_word_of c.args.geometry.now c.args.which c.args.tree c.args.block w) (per_block c.args.geometry.now.blocksize) w (omega arith)
    (ne_eqb (field c.args.order 4 c.args.bytes.now (4 * w)) (system_word_of c.args.geometry.now c.args.which c.args.tree c.args.block w) (λ e. c.if-get32-tree_word.true (read ∙ e ∙ sym c.tree_word.ensures))))

pub returns : goal.returns
returns c = sym (all_below (λ w. field c.args.order 4 c.args.bytes.now (4 * w) == system_word_of c.args.geometry.now c.args.which c.args.tree c.args.block w) (per_block c.args.geometry.now.blocksize) (λ w low. c.loop-word.invariant w (omega arith)))
