use Rattle.std.proofs.Common.{refl}
use Rattle.std.specs.Fmt.{digits}
use Rattle.qx_words.specs.Texts.{refusal_text}
use Rattle.qx_words.proofs.text_examples.the_texts_of_refusals.Goals as goal

-- by computing
pub returns : goal.returns
unfolding digits refusal_text
returns c = refl
