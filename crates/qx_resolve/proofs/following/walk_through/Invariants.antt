use Rattle.std.proofs.Common.{◌≡◌, ◌-◌}
use Rattle.std.specs.Prelude.{IsTrue}
use Rattle.qx_path.specs.Names.{names_in}
use Rattle.qx_model.specs.Tree.{Tree}
use Rattle.qx_working.specs.Standing.{StandsForTree}
use Rattle.qx_resolve.specs.Answers.{last_of}
use Rattle.qx_resolve.specs.Turns.{walk_within}
use Rattle.qx_resolve.proofs.LooksInOrder.{Stays}
use Rattle.qx_resolve.proofs.following.walk_through.Given as goal

abbrev pub invariant-loop-followed : goal.invariant-loop-followed
invariant-loop-followed g l = record {
  stays : Stays g.B.Blocks.state g.B.Blocks.beside l.initial.blocks l.blocks;
  walk : IsTrue (g.B.Blocks.state l.blocks).tells → (t : Tree) → StandsForTree (g.B.Blocks.state l.initial.blocks) l.fn.state t
      → walk_within (16 - l.followed) t (last_of l.fn.last) l.next.at (names_in l.next.bytes.items) ≡ walk_within 15 t (last_of l.fn.last) l.fn.first.at (names_in l.fn.first.bytes.items);
}
