use Rattle.std.proofs.lemmas.Result.{err_from_is_err_and}
use Rattle.std.specs.Prelude.{IsTrue}
use Rattle.qx_blocks.specs.BlockState.{BlockState}
use Rattle.qx_ptree.proofs.KeptPlans.{told_before}
use Rattle.qx_model.specs.Paths as paths
use Rattle.qx_resolve.proofs.LedPaths.{found_directory, no_directory}
use Rattle.qx_resolve.proofs.paths.directory.Goals as goal

pub returns-clause-led : goal.returns-clause-led
returns-clause-led g c = λ told t stands.
    let old : BlockState = g.B.Blocks.state c.args.blocks.now in
    let new : BlockState = g.B.Blocks.state c.inode_at.new.blocks in
    let told_old : IsTrue old.tells = told_before old new c.inode_at.ensures.looks.keeps told in
    found_directory t (paths.inode_at t c.args.base paths.Followed c.args.bytes.now) c.in_ok-n.n c.only_directory.result (c.in_ok-n.ensures.led told t stands) (c.only_directory.ensures.directory old t (stands.told told_old))

pub returns-in_err-n-clause-led : goal.returns-in_err-n-clause-led
returns-in_err-n-clause-led g c = λ told t stands.
    let p = err_from_is_err_and c.from_residual.result c.from_residual.ensures.1 in
    rw (p.1, p.2) (no_directory t (paths.inode_at t c.args.base paths.Followed c.args.bytes.now) c.in_err-n.field-0.0 (c.in_err-n.ensures.led told t stands))
