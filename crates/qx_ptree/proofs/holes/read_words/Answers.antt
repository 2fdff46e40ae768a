use Rattle.std.proofs.Common.{length, ap, ◌∙◌}
use Rattle.std.specs.Prelude.{slice_index}
use Rattle.qx_blocks.specs.BlockState.{BlockState}
use Rattle.qx_ptree.proofs.ReadPointers.{read_word_at}
use Rattle.qx_ptree.proofs.holes.read_words.Goals as goal

pub returns-clause-words : goal.returns-clause-words
returns-clause-words g c told w low =
    let old : BlockState = g.B.Blocks.state c.args.blocks.now in
    let bytes = rw c.in_ok-bytes.was at c.read.follows.holds-at-none.1 in
    ap (λ xs. slice_index xs w) c.get32s.ensures ∙ read_word_at c.args.order old c.args.pointer (length c.args.into.now) w c.in_ok-bytes.bytes.now (bytes told) low
