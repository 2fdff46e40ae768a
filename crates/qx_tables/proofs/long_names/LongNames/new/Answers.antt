use Rattle.std.proofs.Common.{◌≡◌, refl, ◌∙◌, ap}
use Rattle.std.specs.Prelude.{map}
use Rattle.std.proofs.lemmas.List.{take_all}
use Rattle.qx_tables.proofs.LongLeaves.{made_holds, made_inside, unnamed_leaf}
use Rattle.qx_tables.proofs.long_names.LongNames.new.Goals as goal

pub returns-clause-holds : goal.returns-clause-holds
returns-clause-holds c = λ m a.
    let all : c.loop-place.kept.items ≡ map unnamed_leaf c.args.leaves.now = c.loop-place.invariant ∙ ap (map unnamed_leaf) (take_all c.loop-place.place-index c.args.leaves.now c.loop-place-test.false) in
    made_holds m c.args.longfile.now c.args.leaves.now _ a refl all

pub returns-clause-inside : goal.returns-clause-inside
returns-clause-inside c =
    let all : c.loop-place.kept.items ≡ map unnamed_leaf c.args.leaves.now = c.loop-place.invariant ∙ ap (map unnamed_leaf) (take_all c.loop-place.place-index c.args.leaves.now c.loop-place-test.false) in
    made_inside c.args.shape c.args.longfile.now c.args.leaves.now _ c.requires.placed all
