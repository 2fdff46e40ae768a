use Rattle.std.proofs.Common.{◌≡◌, ◌*◌, ◌+◌, ◌-◌, ◌≤◌, ℕ, drop, length, ◌∙◌, subst, arith, length-drop, length-take}
use Rattle.std.specs.Prelude.{slice_range}
use Rattle.std.proofs.lemmas.Result.{on_ok_weaker}
use Rattle.qx_pointers.proofs.ShownBlocks.{shown_size}
use Rattle.qx_pointers.specs.Shown.{HasBlocks}
use Rattle.qx_tables.proofs.FilledLeaves.{range_apart, range_put, room_of}
use Rattle.qx_tables.proofs.table.InodeTable.read_run.Goals as goal

pub returns-clause-leaves : goal.returns-clause-leaves
returns-clause-leaves g c = λ m s.
    let at : ℕ = c.args.first.index * c.args.shape.blocksize in
    let many : ℕ = c.args.count * c.args.shape.blocksize in
    let piece = c.read_blocks.new.into in
    let size : m.size ≡ c.args.shape.blocksize = shown_size c.args.shape (g.D.Dev.outside c.read_blocks.new.host) m s in
    let long : length piece ≡ many = omega (arith, c.read_blocks.ensures.long, c.requires.inside, length-take (at + many - at) (drop at c.args.bytes.now), length-drop at c.args.bytes.now) in
    on_ok_weaker c.read_blocks.result (λ (h : HasBlocks m c.args.first.block piece) k low.
    let room : k * c.args.shape.blocksize + c.args.shape.blocksize ≤ length piece = omega (arith, long, room_of k c.args.count c.args.shape.blocksize low) in
    range_put c.args.bytes.now piece c.args.first.index c.args.count k c.args.shape.blocksize low c.requires.inside long
    ∙ subst (λ z. k * z + z ≤ length piece → slice_range piece (k * z) (k * z + z) ≡ m.bytes (c.args.first.block + k)) size (h.each k) room) (c.read_blocks.ensures.bytes m s)

pub returns-clause-others : goal.returns-clause-others
returns-clause-others g c = λ i apart.
    let at : ℕ = c.args.first.index * c.args.shape.blocksize in
    let many : ℕ = c.args.count * c.args.shape.blocksize in
    let long : length c.read_blocks.new.into ≡ many = omega (arith, c.read_blocks.ensures.long, c.requires.inside, length-take (at + many - at) (drop at c.args.bytes.now), length-drop at c.args.bytes.now) in
    range_apart c.args.bytes.now c.read_blocks.new.into c.args.first.index c.args.count i c.args.shape.blocksize apart c.requires.inside long
