use Rattle.std.proofs.Common.{arith, ◌≤◌, ◌^◌}
use Rattle.qx_pointers.proofs.Spans.{span_bound}
use Rattle.qx_pointers.proofs.node.Visitor.span.Goals as goal

pub pow-requires : goal.pow-requires
pow-requires c = let few : c.from.result ^ c.from-2.result ≤ 2 ^ 50 = span_bound c.args.self.now.shape.blocksize c.args.levels c.from.result c.from-2.result c.args.self.now.shape.sized c.requires c.from.ensures c.from-2.ensures in omega (arith, few)

pub returns-clause-few : goal.returns-clause-few
returns-clause-few c = let few : c.from.result ^ c.from-2.result ≤ 2 ^ 50 = span_bound c.args.self.now.shape.blocksize c.args.levels c.from.result c.from-2.result c.args.self.now.shape.sized c.requires c.from.ensures c.from-2.ensures in omega (arith, few, c.pow.ensures)
