use Rattle.std.proofs.Common.{◌≡◌, ℕ, ◌+◌, ◌-◌, ◌*◌, ◌<◌, drop, length}
use Rattle.std.specs.Prelude.{IsTrue, slice_index}
use Rattle.qx_nodes.specs.Content.{byte_of}
use Rattle.qx_blocks.specs.Calls.{Keeps}
use Rattle.qx_ptree.specs.Trees.{block_map}
use Rattle.qx_file.proofs.bytes.read.Given as goal

-- the bytes that lie in the leaves before this one are copied
abbrev pub invariant-loop-index : goal.invariant-loop-index
invariant-loop-index g l = record {
  keeps : Keeps (g.B.Blocks.state l.initial.blocks) (g.B.Blocks.state l.blocks);
  bytes : IsTrue (g.B.Blocks.state l.blocks).tells → (k : ℕ) → k < l.count → k < l.index * l.size - l.at
      → slice_index l.into k ≡ byte_of (block_map l.order (g.B.Blocks.state l.initial.blocks)) l.node (l.at + k);
  rest : drop l.count l.into ≡ drop l.count l.initial.into;
  long : length l.into ≡ length l.initial.into;
  aside : (g.B.Blocks.beside l.blocks).aside ≡ (g.B.Blocks.beside l.initial.blocks).aside;
  faults : (g.B.Blocks.beside l.blocks).faults ≡ (g.B.Blocks.beside l.initial.blocks).faults;
}
