use Rattle.std.proofs.Common.{◌≡◌, ◌∙◌, subst, sym, arith}
use Rattle.qx_geom.proofs.LevelCounts.{ceil_div-is}
use Rattle.qx_ptree.specs.Fates.{leaves_after}
use Rattle.qx_ptree.proofs.PointerCounts.{size_positive}
use Rattle.tree_bench.proofs.PermittedChanges.{HasPlaces, places}
use Rattle.tree_bench.proofs.changes.is_permitted.Goals.{then-leaves-pow, else-leaves-pow, then-range_fits, else-range_fits}
use Rattle.tree_bench.proofs.changes.is_permitted.Goals as goal

pub returns-else-also_fits : goal.returns-else-also_fits
returns-else-also_fits c =
    let b = c.args.blocksize in
    let leaves : c.div_ceil-leaves.result ≡ leaves_after b c.args.change.now = c.div_ceil-leaves.ensures ∙ ceil_div-is c.args.change.now.size b (size_positive b c.requires.blocksize) in (
      λ t. absurd (cc (t, c.if-also_fits.false)),
      λ change.
          let p : HasPlaces b c.div_ceil-leaves.result c.args.change.now = subst (λ n. HasPlaces b n c.args.change.now) (sym leaves) (places b c.args.change.now c.requires.blocksize change) in
          absurd (elim c.if-range_fits.branch [
            | then-range_fits w ↦ cc (w.also_fits.ensures.1 p.also, w.value-is, c.if-also_fits.false)
            | else-range_fits w ↦ elim c.if-leaves-pow.branch [
              | then-leaves-pow v ↦ cc (v.range_fits.ensures.1 p.range, v.value-is, w.if-range_fits.false)
              | else-leaves-pow v ↦ omega (arith, p.reached, c.pow.ensures, v.if-leaves-pow.false)
            ]
          ]),
    )
