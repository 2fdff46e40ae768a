use Rattle.std.proofs.Common.{◌≡◌, arith, ℕ, ◌∙◌, map}
use Rattle.std.specs.List.{range_with_len}
use Rattle.std.proofs.lemmas.List.FromFn.{fill_by_all}
use Rattle.qx_geom.specs.Layout.{system_pointer, system_root_of, levels_for, tree_base, tree_blocks, tree_leaves}
use Rattle.qx_geom.proofs.VolumeNumbers.{tree-below}
use Rattle.qx_geom.proofs.geometry.Geometry.tree_root.Goals as goal

pub pointer-requires-clause-base : goal.pointer-requires-clause-base
pointer-requires-clause-base c =
    let within = tree-below c.args.self.now c.args.which c.args.tree c.requires in
    let blocks : tree_blocks c.laid-laid.result.blocksize c.laid-laid.result.leaves ≡ tree_blocks c.args.self.now.blocksize (tree_leaves c.args.self.now c.args.tree) = cc in
    omega arith

pub returns : goal.returns
unfolding system_root_of
returns c =
    let g = c.args.self.now in let n = tree_leaves g c.args.tree in let base = tree_base g c.args.which c.args.tree in
    let levels : c.levels-levels.result ≡ levels_for g.blocksize n = cc in
    let pointer : ℕ → ℕ = λ j. system_pointer g.blocksize base n (levels_for g.blocksize n) j in
    let pointers : c.loop-index.pointer-items ≡ map pointer (range_with_len 0 16)
    = fill_by_all pointer c.loop-index.pointer-items 16 0 c.loop-index-test.array_long (λ k less. c.loop-index.invariant k (omega arith) ∙ cc) in
    cc
