use Rattle.std.proofs.Common.{◌-◌, ◌∙◌, sym}
use Rattle.qx_blockset.proofs.MembersInWords.{place-below, view-remove, counted-remove}
use Rattle.qx_blockset.proofs.set.BlockSet.remove.Goals as goal

pub index_mut-requires : goal.index_mut-requires
index_mut-requires c = place-below c.self.inside c.args.self.now c.args.b (record { counted = c.self.invariant; view = c.self.view_is; low = c.requires })

pub invariant_of-self : goal.invariant_of-self
invariant_of-self c =
    counted-remove c.self.inside c.args.self.now c.args.b c.index_mut.result.now (record { counted = c.self.invariant; view = c.self.view_is; low = c.requires })
    c.index_mut.ensures.value (sym c.has.ensures ∙ c.if-has.true)

pub returns-then-has : goal.returns-then-has
returns-then-has c =
    view-remove c.self.inside c.args.self.now c.args.b c.index_mut.result.now (c.self.inside.count - 1) (record { counted = c.self.invariant; view = c.self.view_is; low = c.requires }) c.index_mut.ensures.value
