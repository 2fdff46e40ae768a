use Rattle.std.proofs.Common.{◌≡◌, ◌∙◌, ◌<◌, ap, arith, refl, true}
use Rattle.std.proofs.lemmas.Bool.{eq-eqb, ltb-true}
use Rattle.qx_geom.specs.Positions.{is_named}
use Rattle.tree_bench.proofs.changes.also_fits.Goals as goal

pub returns-else-leaf-leaves : goal.returns-else-leaf-leaves
returns-else-leaf-leaves c =
    let leaf = c.in-Some.leaf in
    let named : is_named c.args.change.now.also leaf ≡ true = ap (λ o. is_named o leaf) c.in-Some.is ∙ eq-eqb leaf leaf refl in
    (λ t. let low : leaf < c.args.leaves = ltb-true leaf c.args.leaves t in absurd (omega arith), λ h. let low : leaf < c.args.leaves = (h leaf named).0 in absurd (omega arith))
