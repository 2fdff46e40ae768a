use Rattle.std.proofs.Common.{◌≡◌, drop}
use Rattle.qx_ptree.specs.WorkState.{without_all}
use Rattle.qx_ptree.proofs.work.release_all.Given as goal

-- what is left to be given up leads to the end
abbrev pub invariant-loop-b : goal.invariant-loop-b
invariant-loop-b g l = record {
  rest : without_all (g.B.Blocks.state l.blocks) (drop l.b-index l.released) ≡ without_all (g.B.Blocks.state l.initial.blocks) l.released;
  beside : g.B.Blocks.beside l.blocks ≡ g.B.Blocks.beside l.initial.blocks;
}
