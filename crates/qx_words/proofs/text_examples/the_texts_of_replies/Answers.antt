use Rattle.std.proofs.Common.{refl}
use Rattle.std.specs.Fmt.{digits}
use Rattle.qx_words.specs.Texts.{last_text, mode_text, notice_text, refusal_text, row_text, space_text, stat_text, times_text, turn_text, word_text}
use Rattle.qx_words.proofs.text_examples.the_texts_of_replies.Goals as goal

-- by computing
pub returns-clause-rows : goal.returns-clause-rows
unfolding digits last_text mode_text notice_text refusal_text row_text space_text stat_text times_text turn_text word_text
returns-clause-rows c = refl

pub returns-clause-bytes : goal.returns-clause-bytes
unfolding digits last_text mode_text notice_text refusal_text row_text space_text stat_text times_text turn_text word_text
returns-clause-bytes c = refl

pub returns-clause-no_bytes : goal.returns-clause-no_bytes
unfolding digits last_text mode_text notice_text refusal_text row_text space_text stat_text times_text turn_text word_text
returns-clause-no_bytes c = refl

pub returns-clause-target : goal.returns-clause-target
unfolding digits last_text mode_text notice_text refusal_text row_text space_text stat_text times_text turn_text word_text
returns-clause-target c = refl

pub returns-clause-special : goal.returns-clause-special
unfolding digits last_text mode_text notice_text refusal_text row_text space_text stat_text times_text turn_text word_text
returns-clause-special c = refl

pub returns-clause-sticky : goal.returns-clause-sticky
unfolding digits last_text mode_text notice_text refusal_text row_text space_text stat_text times_text turn_text word_text
returns-clause-sticky c = refl

pub returns-clause-link : goal.returns-clause-link
unfolding digits last_text mode_text notice_text refusal_text row_text space_text stat_text times_text turn_text word_text
returns-clause-link c = refl

pub returns-clause-held : goal.returns-clause-held
unfolding digits last_text mode_text notice_text refusal_text row_text space_text stat_text times_text turn_text word_text
returns-clause-held c = refl

pub returns-clause-last_done : goal.returns-clause-last_done
unfolding digits last_text mode_text notice_text refusal_text row_text space_text stat_text times_text turn_text word_text
returns-clause-last_done c = refl

pub returns-clause-last_refused : goal.returns-clause-last_refused
unfolding digits last_text mode_text notice_text refusal_text row_text space_text stat_text times_text turn_text word_text
returns-clause-last_refused c = refl
