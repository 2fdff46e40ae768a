use Rattle.std.proofs.Common.{◌≡◌, ℕ, List, ◌++◌, ◌+◌, ◌*◌, ◌/◌, length, take, ap, sym, ◌∙◌, arith}
use Rattle.std.specs.List.{flat_map, range_with_len}
use Rattle.std.proofs.Math.Seq.{take-length}
use Rattle.qx_fields.specs.Number.{digits, put_field}
use Rattle.qx_fields.proofs.Fields.{length_digits}
use Rattle.qx_geom.specs.Layout.{system_word_of}
use Rattle.qx_geom.proofs.VolumeNumbers.{IsGeometry-keeps}
use Rattle.qx_system.specs.SystemBytes.{pointer_block_bytes}
use Rattle.qx_system.proofs.PartsInOrder.{parts_more, take_put}
use Rattle.qx_system.proofs.WholeBlocks.{block_size-words}
use Rattle.qx_system.proofs.pointers.fill_pointer_block.Goals as goal

pub loop-word-preserved : goal.loop-word-preserved
unfolding put_field
loop-word-preserved c =
    let g = c.args.geometry.now in
    let word = c.loop-word.word in
    let words = λ (w : ℕ). digits c.args.order 4 (system_word_of g c.args.which c.args.tree c.args.block w) in
    let next : 4 * (word + 1) ≡ 4 * word + 4 = omega arith in
    let put : take (4 * word + 4) c.put32.new.into ≡ take (4 * word) c.loop-word.into ++ digits c.args.order 4 c.tree_word-pointer.result =
    ap (λ (l : List ℕ). take (4 * word + 4) l) c.put32.ensures ∙ take_put c.loop-word.into (digits c.args.order 4 c.tree_word-pointer.result) (4 * word) 4 (omega arith) (length_digits c.args.order 4 c.tree_word-pointer.result) in
    ap (λ (n : ℕ). take n c.put32.new.into) next ∙ put
    ∙ ap (λ (l : List ℕ). l ++ digits c.args.order 4 c.tree_word-pointer.result) c.loop-word.invariant
    ∙ ap (λ (x : ℕ). flat_map words (range_with_len 0 word) ++ digits c.args.order 4 x) c.tree_word-pointer.ensures
    ∙ ap (λ (k : ℕ). flat_map words (range_with_len 0 word) ++ words k) (let e : word ≡ 0 + word = omega arith in e)
    ∙ sym (parts_more words 0 word)

pub returns : goal.returns
unfolding pointer_block_bytes
returns c =
    let g = c.args.geometry.now in
    let words = λ (w : ℕ). digits c.args.order 4 (system_word_of g c.args.which c.args.tree c.args.block w) in
    let end : c.loop-word.word ≡ g.blocksize / 4 = omega arith in
    let all : 4 * c.loop-word.word ≡ length c.loop-word.into = omega (arith, end, c.requires.into, block_size-words g.blocksize (IsGeometry-keeps g c.requires.geometry).block_size) in
    sym (ap (λ (n : ℕ). take n c.loop-word.into) all ∙ take-length c.loop-word.into) ∙ c.loop-word.invariant ∙ ap (λ (n : ℕ). flat_map words (range_with_len 0 n)) end
