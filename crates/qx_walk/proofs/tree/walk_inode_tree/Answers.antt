use Rattle.std.proofs.Common.{◌∙◌}
use Rattle.std.proofs.lemmas.Result.{err_from_is_err_and}
use Rattle.qx_pointers.proofs.PassedTests.{goes_as}
use Rattle.qx_pointers.proofs.ShownBlocks.{shows_before}
use Rattle.qx_view.specs.Walk.{root_tests}
use Rattle.qx_walk.proofs.TestsAbove.{goes_lacks, root_leaves}
use Rattle.qx_walk.proofs.tree.walk_inode_tree.Goals as goal

pub returns-in_err-table-clause-tests : goal.returns-in_err-table-clause-tests
returns-in_err-table-clause-tests g c = λ m s.
    let p = err_from_is_err_and c.from_residual-in_err-table.result c.from_residual-in_err-table.ensures.1 in
    rw (p.1, p.2) (goes_lacks (root_tests m c.args.inodes.now) c.in_err-table.field-0.0 _ _ c.in_err-table.ensures.halts)

pub returns-clause-tests : goal.returns-clause-tests
returns-clause-tests g c = λ m s.
    goes_as (root_tests m c.args.inodes.now) _ _ _ _ (c.in_ok-walk_node.ensures.tests m (shows_before c.args.shape _ _ m c.read.ensures.looks.reads s))

pub returns-clause-holds : goal.returns-clause-holds
returns-clause-holds g c = λ m before s marks.
    let s1 = shows_before c.args.shape _ _ m c.read.ensures.looks.reads s in
    c.in_ok-table.ensures.holds m s (root_leaves m c.args.inodes.now _ _ _ before c.deref.result.now marks (c.in_ok-walk_node.ensures.tests m s1) (c.deref.ensures.value ∙ c.in_ok-walk_node.ensures.leaves m s1))
