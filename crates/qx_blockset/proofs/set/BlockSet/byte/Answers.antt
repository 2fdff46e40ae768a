use Rattle.std.proofs.Common.{arith}
use Rattle.qx_blockset.proofs.BytesOfWords.{byte-below, byte-test}
use Rattle.qx_blockset.proofs.set.BlockSet.byte.Goals as goal

pub index-requires : goal.index-requires
index-requires c = omega (arith, byte-below c.self.inside c.args.self.now c.args.place (record { counted = c.self.invariant; view = c.self.view_is; low = c.requires }), c.self.inside.words.ok.0)

pub returns : goal.returns
returns c = λ k low. byte-test c.self.inside c.args.self.now c.args.place c.index.result.now k (record { counted = c.self.invariant; view = c.self.view_is; low = c.requires }) c.index.ensures low
