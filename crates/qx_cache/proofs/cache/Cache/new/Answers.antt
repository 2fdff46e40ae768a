use Rattle.std.proofs.Common.{arith}
use Rattle.qx_cache.proofs.OrderSteps.{order-new}
use Rattle.qx_cache.proofs.cache.Cache.new.Goals as goal

pub invariant_of-result : goal.invariant_of-result
invariant_of-result g c =
    order-new c.args.host c.args.blocksize c.args.space c.new.result c.new-2.result c.in-Ok.buffer.items c.in-Ok-vec.spare.items c.requires.size c.free-free.ensures.consistent c.requires.clean c.requires.unfrozen c.requires.fits
    c.new.ensures c.new-2.ensures (omega (arith, c.in-Ok.buffer.ok.0, c.in-Ok.ensures.len)) (omega (arith, c.in-Ok-vec.spare.ok.0, c.in-Ok-vec.ensures.len))

pub returns-clause-coherent : goal.returns-clause-coherent
returns-clause-coherent g c = (invariant_of-result g c).coherent
