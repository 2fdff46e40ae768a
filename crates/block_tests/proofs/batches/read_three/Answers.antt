use Rattle.std.proofs.Common.{refl, sym, ap}
use Rattle.std.specs.Prelude.{Some, IsTrue}
use Rattle.qx_geom.specs.declared.root.Root.{Root}
use Rattle.qx_blocks.specs.BlockState.{BlockState}
use Rattle.qx_ptree.specs.Trees.{IsWorking}
use Rattle.block_tests.specs.WrittenFiles.{AreWritten, Files, all_are, files_of}
use Rattle.block_tests.proofs.ThreeFiles.{works_kept}
use Rattle.block_tests.proofs.batches.read_three.Goals as goal

pub read-requires-clause-works : goal.read-requires-clause-works
read-requires-clause-works g c = λ told.
    let empty : Root = c.empty_files-files.result.first in
    let files : Files = files_of c.empty_files-files.result.first c.empty_files-files.result.second c.empty_files-files.result.third in
    let roots : Files = files_of c.in_ok-roots.roots.first c.in_ok-roots.roots.second c.in_ok-roots.roots.third in
    let written : AreWritten c.args.order (g.B.Blocks.state c.args.blocks.now) (g.B.Blocks.state c.write_three.new.blocks) (all_are empty) files roots c.args.places.now c.args.bytes.now =
    c.in_ok-roots.ensures.written (all_are empty) told (c.empty_files-files.ensures.laid (c.in_ok-roots.ensures.told told)) refl (ap Some (sym c.empty_files-files.ensures.second)) (ap Some (sym c.empty_files-files.ensures.third)) in
    (written.laid.node 0 c.in_ok-roots.roots.first refl).works

pub read-requires-2-clause-works : goal.read-requires-2-clause-works
read-requires-2-clause-works g c =
    let empty : Root = c.empty_files-files.result.first in
    let files : Files = files_of c.empty_files-files.result.first c.empty_files-files.result.second c.empty_files-files.result.third in
    let roots : Files = files_of c.in_ok-roots.roots.first c.in_ok-roots.roots.second c.in_ok-roots.roots.third in
    let m : BlockState = g.B.Blocks.state c.write_three.new.blocks in
    let works : IsTrue m.tells → IsWorking c.args.order m c.in_ok-roots.roots.second = λ told.
    let written : AreWritten c.args.order (g.B.Blocks.state c.args.blocks.now) m (all_are empty) files roots c.args.places.now c.args.bytes.now =
    c.in_ok-roots.ensures.written (all_are empty) told (c.empty_files-files.ensures.laid (c.in_ok-roots.ensures.told told)) refl (ap Some (sym c.empty_files-files.ensures.second)) (ap Some (sym c.empty_files-files.ensures.third)) in
    (written.laid.node 1 c.in_ok-roots.roots.second refl).works in
    works_kept c.args.order m (g.B.Blocks.state c.read.new.blocks) c.in_ok-roots.roots.second c.in_ok-read.ensures.reads.keeps works

pub read-requires-3-clause-works : goal.read-requires-3-clause-works
read-requires-3-clause-works g c =
    let empty : Root = c.empty_files-files.result.first in
    let files : Files = files_of c.empty_files-files.result.first c.empty_files-files.result.second c.empty_files-files.result.third in
    let roots : Files = files_of c.in_ok-roots.roots.first c.in_ok-roots.roots.second c.in_ok-roots.roots.third in
    let m : BlockState = g.B.Blocks.state c.write_three.new.blocks in
    let works : IsTrue m.tells → IsWorking c.args.order m c.in_ok-roots.roots.third = λ told.
    let written : AreWritten c.args.order (g.B.Blocks.state c.args.blocks.now) m (all_are empty) files roots c.args.places.now c.args.bytes.now =
    c.in_ok-roots.ensures.written (all_are empty) told (c.empty_files-files.ensures.laid (c.in_ok-roots.ensures.told told)) refl (ap Some (sym c.empty_files-files.ensures.second)) (ap Some (sym c.empty_files-files.ensures.third)) in
    (written.laid.node 2 c.in_ok-roots.roots.third refl).works in
    works_kept c.args.order (g.B.Blocks.state c.read.new.blocks) (g.B.Blocks.state c.read-2.new.blocks) c.in_ok-roots.roots.third c.in_ok-read-2.ensures.reads.keeps
    (works_kept c.args.order m (g.B.Blocks.state c.read.new.blocks) c.in_ok-roots.roots.third c.in_ok-read.ensures.reads.keeps works)
