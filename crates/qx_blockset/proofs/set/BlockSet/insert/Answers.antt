use Rattle.std.proofs.Common.{◌≤◌, ◌+◌, ◌∙◌, sym, arith}
use Rattle.qx_blockset.proofs.MembersInWords.{place-below, view-insert, counted-insert, count-fits}
use Rattle.qx_blockset.proofs.set.BlockSet.insert.Goals as goal

pub index_mut-requires : goal.index_mut-requires
index_mut-requires c = place-below c.self.inside c.args.self.now c.args.b (record { counted = c.self.invariant; view = c.self.view_is; low = c.requires })

pub overflow_add-self : goal.overflow_add-self
overflow_add-self c =
    let room : c.self.inside.count + 1 ≤ c.self.inside.limit = count-fits c.self.inside c.args.self.now c.args.b (record { counted = c.self.invariant; view = c.self.view_is; low = c.requires }) (sym c.has.ensures ∙ c.if-not-has.true) in
    omega arith

pub invariant_of-self : goal.invariant_of-self
invariant_of-self c =
    counted-insert c.self.inside c.args.self.now c.args.b c.index_mut.result.now (record { counted = c.self.invariant; view = c.self.view_is; low = c.requires })
    c.index_mut.ensures.value (sym c.has.ensures ∙ c.if-not-has.true)

pub returns-then-not-has : goal.returns-then-not-has
returns-then-not-has c =
    view-insert c.self.inside c.args.self.now c.args.b c.index_mut.result.now (c.self.inside.count + 1) (record { counted = c.self.invariant; view = c.self.view_is; low = c.requires }) c.index_mut.ensures.value
