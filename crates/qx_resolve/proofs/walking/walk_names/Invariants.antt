use Rattle.std.proofs.Common.{◌≡◌, length}
use Rattle.std.specs.Prelude.{IsTrue}
use Rattle.qx_path.specs.Names.{names_in}
use Rattle.qx_path.specs.NamesLeft.{names_left}
use Rattle.qx_model.specs.Paths.{Jump, walk_by}
use Rattle.qx_model.specs.Tree.{Tree}
use Rattle.qx_working.specs.Standing.{StandsForTree}
use Rattle.qx_resolve.specs.Answers.{last_of}
use Rattle.qx_resolve.proofs.LooksInOrder.{Stays}
use Rattle.qx_resolve.proofs.walking.walk_names.Given as goal

abbrev pub invariant-loop-name : goal.invariant-loop-name
invariant-loop-name g l = record {
  stays : Stays g.B.Blocks.state g.B.Blocks.beside l.initial.blocks l.blocks;
  walk : IsTrue (g.B.Blocks.state l.blocks).tells → (t : Tree) → StandsForTree (g.B.Blocks.state l.initial.blocks) l.fn.state t → (jump : Jump)
      → walk_by t (last_of l.fn.last) jump l.at (names_left l.names) ≡ walk_by t (last_of l.fn.last) jump l.fn.from (names_in l.fn.bytes);
}

abbrev pub decreases-loop-name : goal.decreases-loop-name
decreases-loop-name g l = length (names_left l.names)
