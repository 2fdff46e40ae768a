use Rattle.std.proofs.Common.{◌≡◌, ◌+◌, ◌-◌, arith}
use Rattle.qx_geom.specs.Layout.{pointer_blocks, pointer_place, system_word_of, tree_base, tree_blocks, tree_leaves}
use Rattle.qx_geom.proofs.VolumeNumbers.{tree-below, tree_pointers-is}
use Rattle.qx_geom.proofs.geometry.Geometry.tree_word.Goals as goal

pub place-place-requires : goal.place-place-requires
place-place-requires c =
    let g = c.args.self.now in
    let leaves : c.laid-laid.result.leaves ≡ tree_leaves g c.args.tree = c.laid-laid.ensures.leaves in
    let pointers : pointer_blocks c.laid-laid.result.blocksize c.laid-laid.result.leaves ≡ pointer_blocks g.blocksize (tree_leaves g c.args.tree) = cc in
    let own = tree_pointers-is g c.args.tree c.requires.geometry in
    omega arith

pub pointer-requires-clause-base : goal.pointer-requires-clause-base
pointer-requires-clause-base c =
    let within = tree-below c.args.self.now c.args.which c.args.tree c.requires.geometry in
    let blocks : tree_blocks c.laid-laid.result.blocksize c.laid-laid.result.leaves ≡ tree_blocks c.args.self.now.blocksize (tree_leaves c.args.self.now c.args.tree) = cc in
    omega arith

pub returns : goal.returns
unfolding system_word_of
returns c =
    let g = c.args.self.now in let n = tree_leaves g c.args.tree in let base = tree_base g c.args.which c.args.tree in
    let leaves : c.laid-laid.result.leaves ≡ n = c.laid-laid.ensures.leaves in
    let behind : c.args.block - c.base-base.result - c.laid-laid.result.leaves ≡ c.args.block - (base + n) = omega arith in
    let place : c.place-place.result ≡ pointer_place g.blocksize n 1 (c.args.block - (base + n)) 5 = cc in
    cc
