use Rattle.std.proofs.Common.{refl}
use Rattle.std.specs.Fmt.{digits}
use Rattle.qx_geom.specs.Layout.{levels_for}
use Rattle.qx_geom.specs.Positions.{present_after}
use Rattle.qx_model.specs.Decisions.{decision}
use Rattle.qx_model.specs.EmptyTree.{empty_tree}
use Rattle.qx_model.specs.Next.{next_under}
use Rattle.qx_model.specs.Plans.{plan}
use Rattle.qx_model.specs.Snapshots.{steps_wanted}
use Rattle.qx_model.specs.Space.{free_count}
use Rattle.qx_model.specs.TreeTouch.{fresh_positions}
use Rattle.qx_words.specs.Reading.{argument_from, command_from, furthest, line_from, mode_from, number_from, word_from}
use Rattle.qx_words.specs.Texts.{last_text, mode_text, notice_text, refusal_text, row_text, space_text, stat_text, times_text, turn_text, word_text}
use Rattle.qx_words.proofs.telling_scripts.removals_may_use_the_reserve.Goals as goal

-- by computing
pub returns : goal.returns
unfolding digits levels_for present_after decision empty_tree next_under plan steps_wanted free_count fresh_positions argument_from command_from furthest line_from mode_from number_from word_from last_text mode_text notice_text refusal_text row_text space_text stat_text times_text turn_text word_text
returns c = refl
