use Rattle.std.proofs.Common.{◌≡◌, ℕ, ◌*◌, ◌<◌, true}
use Rattle.std.specs.Prelude.{◌==◌}
use Rattle.qx_fields.specs.Number.{field}
use Rattle.qx_geom.specs.Layout.{system_word_of}
use Rattle.qx_walk.proofs.halves.are_words_of.Given as goal

abbrev pub invariant-loop-word : goal.invariant-loop-word
invariant-loop-word l = (w : ℕ) → w < l.word → (field l.order 4 l.bytes (4 * w) == system_word_of l.geometry l.which l.tree l.block w) ≡ true
