use Rattle.std.proofs.Common.{◌≡◌, drop, map}
use Rattle.qx_ptree.specs.WorkState.{with_edits}
use Rattle.qx_ptree.specs.WorkView.{edit_in}
use Rattle.qx_ptree.proofs.work.Work.write_edits.Given as goal

-- what is left to be written leads to the end
abbrev pub invariant-loop-edit : goal.invariant-loop-edit
invariant-loop-edit g l = record {
  rest : with_edits (g.B.Blocks.state l.blocks) (map edit_in (drop l.edit-index l.edit-items)) ≡ with_edits (g.B.Blocks.state l.initial.blocks) (map edit_in l.edit-items);
  holdings : (g.B.Blocks.state l.blocks).holdings ≡ (g.B.Blocks.state l.initial.blocks).holdings;
  beside : g.B.Blocks.beside l.blocks ≡ g.B.Blocks.beside l.initial.blocks;
}
