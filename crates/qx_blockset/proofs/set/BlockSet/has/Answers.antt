use Rattle.qx_blockset.proofs.MembersInWords.{place-below, bit-test}
use Rattle.qx_blockset.proofs.set.BlockSet.has.Goals as goal

pub index-requires : goal.index-requires
index-requires c = place-below c.self.inside c.args.self.now c.args.b (record { counted = c.self.invariant; view = c.self.view_is; low = c.requires })

pub returns : goal.returns
returns c = bit-test c.self.inside c.args.self.now c.args.b c.index.result.now (record { counted = c.self.invariant; view = c.self.view_is; low = c.requires }) c.index.ensures
