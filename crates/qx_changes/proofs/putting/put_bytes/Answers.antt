use Rattle.std.proofs.Common.{◌∙◌, ℕ, List, length, ap, subst, sym}
use Rattle.qx_blocks.specs.BlockState.{BlockState}
use Rattle.qx_file.specs.Puts.{Puts}
use Rattle.qx_changes.specs.PutBytes.{bytes_of}
use Rattle.qx_changes.proofs.WrittenNodes.{can_put_there, written_put}
use Rattle.qx_changes.proofs.putting.put_bytes.Goals as goal

pub returns-in-These-clause-written : goal.returns-in-These-clause-written
returns-in-These-clause-written g c old w ps held p of written among writes =
    let before : BlockState = g.B.Blocks.state c.args.blocks.now in
    let after : BlockState = g.B.Blocks.state c.put.new.blocks in
    let there = sym c.node.ensures ∙ c.in-Some.is in
    let bytes : List ℕ = bytes_of c.args.bytes in
    written_put old before w c.args.state.now ps held of written after p c.args.owner c.args.at bytes c.in-Some.node c.size.ensures.consistent
    among writes there (can_put_there before c.args.state.now c.args.owner c.args.at (length bytes) c.in-Some.node c.requires there)
    (subst (λ l. Puts c.args.state.now.order c.in-Some.node c.args.at l before after) (sym (ap bytes_of c.in-These.is)) c.put.ensures.puts)

pub returns-in-Same-clause-written : goal.returns-in-Same-clause-written
returns-in-Same-clause-written g c old w ps held p of written among writes =
    let before : BlockState = g.B.Blocks.state c.args.blocks.now in
    let after : BlockState = g.B.Blocks.state c.put_fill.new.blocks in
    let there = sym c.node.ensures ∙ c.in-Some.is in
    let bytes : List ℕ = bytes_of c.args.bytes in
    written_put old before w c.args.state.now ps held of written after p c.args.owner c.args.at bytes c.in-Some.node c.size.ensures.consistent
    among writes there (can_put_there before c.args.state.now c.args.owner c.args.at (length bytes) c.in-Some.node c.requires there)
    (subst (λ l. Puts c.args.state.now.order c.in-Some.node c.args.at l before after) (sym (ap bytes_of c.in-Same.is)) c.put_fill.ensures.puts)
