use Rattle.std.proofs.Common.{◌≡◌, ◌∙◌, ap, sym, refl, length}
use Rattle.std.specs.Prelude.{true, IsTrue}
use Rattle.qx_blocks.specs.BlockState.{BlockState}
use Rattle.qx_ptree.proofs.ListedBlocks.{put-at}
use Rattle.qx_ptree.proofs.PreparedBlocks.{whole_put}
use Rattle.qx_ptree.proofs.pointer_blocks.take_filled.Goals as goal

pub returns-clause-bytes : goal.returns-clause-bytes
returns-clause-bytes g c =
    let m = g.B.Blocks.state c.args.blocks.now in
    let n = g.B.Blocks.state c.take.new.blocks in
    let size : n.holdings.size ≡ m.holdings.size = ap (λ (s : BlockState). s.holdings.size) c.in_ok-b.ensures.taken in
    let put = whole_put c.args.order m c.edit.result.now c.put32s.new.into c.args.pointers.now c.take.ensures.consistent c.requires.long (c.edit.ensures.long ∙ size) c.put32s.ensures.bytes in
    let ready : IsTrue (n.holdings.ready c.in_ok-b.b) = ap (λ (s : BlockState). s.holdings.ready c.in_ok-b.b) c.in_ok-b.ensures.taken ∙ put-at m.holdings.ready c.in_ok-b.b c.in_ok-b.b true refl in
    let long : length c.put32s.new.into ≡ length (n.bytes c.in_ok-b.b) = put.1 ∙ sym (sym (ap length c.edit.ensures.bytes) ∙ c.edit.ensures.long ∙ size) in
    ap (λ (s : BlockState). s.bytes c.in_ok-b.b) (g.met.B.Blocks.edits c.take.new.blocks c.in_ok-b.b c.put32s.new.into ready long)
    ∙ put-at n.bytes c.in_ok-b.b c.in_ok-b.b c.put32s.new.into refl ∙ put.0
