use Rattle.std.proofs.Common.{◌≡◌, ◌∙◌, ◌+◌, ◌≤◌, ◌<◌, inl, inr, length, rules, sym}
use Rattle.std.proofs.lemmas.Bool.{cases_lt}
use Rattle.qx_geom.specs.Room.{greatest_end}
use Rattle.qx_blocks.specs.BlockState.{BlockState}
use Rattle.qx_file.specs.FilePlans.{write_change}
use Rattle.qx_file.specs.Puts.{CanPut}
use Rattle.qx_file.proofs.CommittedFiles.{plan_can, put_node}
use Rattle.tree_bench.proofs.WrittenNodes.{some_bytes}
use Rattle.tree_bench.proofs.tests.asked.write.Goals as goal

pub put-requires : goal.put-requires
put-requires g c =
    let m : BlockState = g.B.Blocks.state c.change_node.new.blocks in
    let count = length c.args.bytes.now in
    let some : 0 < count = some_bytes count (sym c.is_empty.ensures ∙ c.if-is_empty.false) in
    let near : c.args.at + count ≤ greatest_end = elim (cases_lt greatest_end (c.args.at + count)) [ inl far ↦ absurd (search (rules, c.in-Ok.ensures.too_big far)) | inr near ↦ near ] in
    let is : c.in-Ok.change ≡ write_change c.args.node.now c.args.at count c.size-blocksize.result = cc (c.in-Ok.ensures.fits near) in
    plan_can c.args.order m c.args.node.now c.change_node.new.node c.args.at count c.size-blocksize.result c.in-Ok.change
    (c.size-blocksize.ensures.size ∙ sym c.change_node.ensures.blocksize) c.size-size.ensures.consistent some is c.change_node.ensures.node.levels c.in_ok-change_node.ensures.size c.in_ok-change_node.ensures.written

pub returns-clause-node : goal.returns-clause-node
returns-clause-node g c =
    let m : BlockState = g.B.Blocks.state c.change_node.new.blocks in
    let count = length c.args.bytes.now in
    let some : 0 < count = some_bytes count (sym c.is_empty.ensures ∙ c.if-is_empty.false) in
    let near : c.args.at + count ≤ greatest_end = elim (cases_lt greatest_end (c.args.at + count)) [ inl far ↦ absurd (search (rules, c.in-Ok.ensures.too_big far)) | inr near ↦ near ] in
    let is : c.in-Ok.change ≡ write_change c.args.node.now c.args.at count c.size-blocksize.result = cc (c.in-Ok.ensures.fits near) in
    let can : CanPut c.args.order m c.change_node.new.node c.args.at count =
    plan_can c.args.order m c.args.node.now c.change_node.new.node c.args.at count c.size-blocksize.result c.in-Ok.change
    (c.size-blocksize.ensures.size ∙ sym c.change_node.ensures.blocksize) c.size-size.ensures.consistent some is c.change_node.ensures.node.levels c.in_ok-change_node.ensures.size c.in_ok-change_node.ensures.written in
    put_node c.args.order m (g.B.Blocks.state c.put.new.blocks) c.change_node.new.node c.args.at c.args.bytes.now c.size-size.ensures.consistent can c.put.ensures.puts c.change_node.ensures.node
