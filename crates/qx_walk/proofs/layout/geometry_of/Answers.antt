use Rattle.std.proofs.Common.{sym, ◌∙◌}
use Rattle.qx_geom.specs.Layout.{geometry_of}
use Rattle.qx_walk.proofs.WrittenNumbers.{numbers_are, written_by}
use Rattle.qx_walk.proofs.layout.geometry_of.Goals as goal

pub returns-then-is_written_by-clause-numbers : goal.returns-then-is_written_by-clause-numbers
returns-then-is_written_by-clause-numbers c =
    numbers_are c.args.view.now c.args.len c.in-Ok.geometry (written_by c.args.view.now c.args.len c.in-Ok.geometry
    (sym (c.in-Ok.ensures.numbers ∙ (λ i. geometry_of c.args.len (c.blocksize.ensures i) (c.num_inodes.ensures i))))
    (sym c.is_written_by.ensures ∙ c.if-is_written_by.true))
