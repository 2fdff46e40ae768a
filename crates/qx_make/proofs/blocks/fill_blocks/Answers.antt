use Rattle.std.proofs.Common.{◌≡◌, ℕ, List, ◌+◌, ◌*◌, ◌++◌, ◌≤◌, take, drop, ◌-◌, length, ap, sym, ◌∙◌, arith, length-drop, length-take}
use Rattle.std.proofs.Math.Nat.{mul-le-mul_right}
use Rattle.std.specs.List.{flat_map, range_with_len}
use Rattle.qx_geom.proofs.VolumeNumbers.{IsGeometry-keeps}
use Rattle.qx_make.specs.Blocks.{made_block_bytes}
use Rattle.qx_system.proofs.PartsInOrder.{parts_more, take_part}
use Rattle.qx_make.proofs.blocks.fill_blocks.Goals as goal

pub overflow_add-first : goal.overflow_add-first
overflow_add-first c = let v = IsGeometry-keeps c.args.volume.now.geometry c.requires.geometry in record { fits = omega (arith, v.room, v.blocks_to, c.requires.blocks) }

pub loop-index-preserved : goal.loop-index-preserved
loop-index-preserved c =
    let size : ℕ = c.args.volume.now.geometry.blocksize in
    let k : ℕ = c.loop-index.index in
    let block = made_block_bytes c.args.volume.now.geometry c.args.volume.now.order c.args.volume.now.moment in
    let next : (k + 1) * size ≡ k * size + size = omega arith in
    let room : k * size + size ≤ c.args.count * size = (let up : (k + 1) * size ≤ c.args.count * size = mul-le-mul_right size (let one : k + 1 ≤ c.args.count = omega (arith, c.loop-index-test.true) in one) in omega (arith, up, next)) in
    let long : length c.fill_block.new.into ≡ size = omega (arith, c.fill_block.auto.into, length-take (k * size + size - k * size) (drop (k * size) c.loop-index.into), length-drop (k * size) c.loop-index.into, room, c.loop-index.auto.into, c.requires.into) in
    let rest = drop (k * size + size - k * size) (drop (k * size) c.loop-index.into) in
    ap (λ (n : ℕ). take n (take (k * size) c.loop-index.into ++ (c.fill_block.new.into ++ rest))) next
    ∙ take_part c.loop-index.into c.fill_block.new.into rest (k * size) size (omega (arith, room, c.loop-index.auto.into, c.requires.into)) long
    ∙ ap (λ (l : List ℕ). l ++ c.fill_block.new.into) c.loop-index.invariant
    ∙ ap (λ (l : List ℕ). flat_map block (range_with_len c.args.first k) ++ l) c.fill_block.ensures
    ∙ sym (parts_more block c.args.first k)
