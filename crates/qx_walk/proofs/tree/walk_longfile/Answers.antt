use Rattle.std.proofs.Common.{◌∙◌, ap}
use Rattle.std.specs.Prelude.{None}
use Rattle.qx_pointers.proofs.PassedTests.{goes_as}
use Rattle.qx_pointers.proofs.ShownBlocks.{shown_size}
use Rattle.qx_view.specs.Walk.{root_tests}
use Rattle.qx_walk.proofs.TestsAbove.{root_leaves}
use Rattle.qx_walk.specs.Trees.{note_if}
use Rattle.qx_walk.proofs.tree.walk_longfile.Goals as goal

pub returns-clause-tests : goal.returns-clause-tests
returns-clause-tests g c = λ m s. goes_as (root_tests m c.args.longfile.now) _ _ _ _ (c.in_ok-part.ensures.tests m s)

pub returns-clause-names : goal.returns-clause-names
returns-clause-names g c = λ m before s marks.
    c.in_ok-longs.ensures.holds m (root_leaves m c.args.longfile.now _ _ _ before c.deref.result.now marks (c.in_ok-part.ensures.tests m s) (c.deref.ensures.value ∙ c.in_ok-part.ensures.leaves m s))

pub returns-clause-nodes : goal.returns-clause-nodes
returns-clause-nodes g c = λ m s. c.noted.ensures ∙ ap (λ b. note_if b 0 None) (c.is_foreign_node-foreign.ensures m (shown_size c.args.shape _ m s) (c.in_ok-part.ensures.part m s))
