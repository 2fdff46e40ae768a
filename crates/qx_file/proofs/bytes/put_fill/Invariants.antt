use Rattle.std.proofs.Common.{◌≡◌, replicate}
use Rattle.qx_file.proofs.PutLeaves.{PutsBefore}
use Rattle.qx_file.proofs.bytes.put_fill.Given as goal

-- the leaves before this one have their bytes
abbrev pub invariant-loop-index : goal.invariant-loop-index
invariant-loop-index g l = record {
  puts : PutsBefore l.order l.node l.at (replicate l.count l.byte) (g.B.Blocks.state l.initial.blocks) (g.B.Blocks.state l.blocks) l.index;
  beside : g.B.Blocks.beside l.blocks ≡ g.B.Blocks.beside l.initial.blocks;
}
