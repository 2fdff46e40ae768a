use Rattle.std.proofs.Common.{subst}
use Rattle.qx_blocks.specs.BlockState.{IsConsistent}
use Rattle.qx_cache.specs.CacheState.{state_of}
use Rattle.qx_cache.proofs.BlockMeanings.{consistent-state}
use Rattle.qx_cache.proofs.blocks.CacheBlocks.is_private.Goals as goal

pub returns-clause-consistent : goal.returns-clause-consistent
returns-clause-consistent g c =
    subst (λ v. IsConsistent (state_of g.H.Dev.outside v)) c.self.view_is (consistent-state g.H.Dev.outside g.met.H.Dev.extent_is _ c.self.invariant.coherent)
