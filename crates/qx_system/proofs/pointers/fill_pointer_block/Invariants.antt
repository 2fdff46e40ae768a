use Rattle.std.proofs.Common.{◌≡◌, ◌*◌, take}
use Rattle.std.specs.List.{flat_map, range_with_len}
use Rattle.qx_fields.specs.Number.{digits}
use Rattle.qx_geom.specs.Layout.{system_word_of}
use Rattle.qx_system.proofs.pointers.fill_pointer_block.Given as goal

abbrev pub invariant-loop-word : goal.invariant-loop-word
invariant-loop-word l = take (4 * l.word) l.into ≡ flat_map (λ w. digits l.order 4 (system_word_of l.geometry l.which l.tree l.block w)) (range_with_len 0 l.word)
