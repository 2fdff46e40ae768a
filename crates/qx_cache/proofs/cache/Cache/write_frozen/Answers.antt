use Rattle.std.proofs.Common.{◌≡◌, true, List, Some, ℕ, refl, sym, subst, ap, ◌∙◌}
use Rattle.std.specs.Prelude.{is_some}
use Rattle.std.specs.Ordering.{nat_cmp}
use Rattle.std.specs.FinMap.{contains_key, get, get-empty}
use Rattle.qx_outside.specs.Trail.{wrote}
use Rattle.qx_outside.specs.Calls.{Did, FailsToWrite, Writes}
use Rattle.qx_cache.specs.CacheState.{block_place, with_host, with_written}
use Rattle.qx_cache.specs.CacheView.{cache_in, IsInOrder}
use Rattle.qx_cache.specs.Calls.{FailsToWriteNext, HasSameBlocks, WritesNext}
use Rattle.qx_cache.proofs.BlockMeanings.{same-blocks, same-written}
use Rattle.qx_cache.proofs.BlockReads.{err_holds}
use Rattle.qx_cache.proofs.FrozenWrites.{clean-apart, is-next, kept-apart, next-absent, next-held, next-stands, others-stay}
use Rattle.qx_cache.proofs.OrderSteps.{order-host, order-written}
use Rattle.qx_cache.proofs.cache.Cache.write_frozen.Goals as goal

pub invariant_of-self : goal.invariant_of-self
invariant_of-self g c =
    let a = c.self.inside in
    let v = cache_in a.host a.size a.space a.changes a.frozen_changes a.clean in
    let bytes = c.in-Some-get.bytes.now in
    let there : get v.frozen_changes c.in-Some.b ≡ Some bytes = sym c.in-Some-get.ensures in
    let writes : Writes (block_place a.size c.in-Some.b) bytes (g.H.Dev.outside a.host) (g.H.Dev.outside c.write_at.new.self) = subst (λ at. Writes at bytes (g.H.Dev.outside a.host) (g.H.Dev.outside c.write_at.new.self)) c.block_place.ensures.place c.write_at.ensures.step in
    order-host v a.changes a.frozen_changes a.buffer.items a.spare.items c.write_at.new.self c.self.invariant c.write_at.ensures.others.extent_same writes.before
    (λ q kept told. others-stay v c.in-Some.b bytes c.self.invariant.coherent c.in-Some.ensures there g.met.H.Dev.extent_is c.write_at.new.self writes told q
    (kept-apart v c.in-Some.b bytes c.self.invariant.coherent c.in-Some.ensures there q kept))

pub returns-in_err-write_at-clause-failed : goal.returns-in_err-write_at-clause-failed
returns-in_err-write_at-clause-failed g c =
    let a = c.self.inside in
    let v = cache_in a.host a.size a.space a.changes a.frozen_changes a.clean in
    let bytes = c.in-Some-get.bytes.now in
    let there : get v.frozen_changes c.in-Some.b ≡ Some bytes = sym c.in-Some-get.ensures in
    err_holds c.from_residual.result _
    (subst (λ w. FailsToWriteNext g.H.Dev.outside w (with_host v c.write_at.new.self)) c.self.view_is (record {
      block = c.in-Some.b;
      bytes = bytes;
      next = is-next v c.in-Some.b bytes c.self.invariant.coherent c.in-Some.ensures there;
      failed = subst (λ at. FailsToWrite at bytes (g.H.Dev.outside a.host) (g.H.Dev.outside c.write_at.new.self)) c.block_place.ensures.place c.in_err-write_at.ensures.err;
      rest = refl;
    }))

pub returns-in_err-write_at-clause-blocks : goal.returns-in_err-write_at-clause-blocks
returns-in_err-write_at-clause-blocks g c =
    let a = c.self.inside in
    let v = cache_in a.host a.size a.space a.changes a.frozen_changes a.clean in
    let bytes = c.in-Some-get.bytes.now in
    let there : get v.frozen_changes c.in-Some.b ≡ Some bytes = sym c.in-Some-get.ensures in
    let writes : Writes (block_place a.size c.in-Some.b) bytes (g.H.Dev.outside a.host) (g.H.Dev.outside c.write_at.new.self) = subst (λ at. Writes at bytes (g.H.Dev.outside a.host) (g.H.Dev.outside c.write_at.new.self)) c.block_place.ensures.place c.write_at.ensures.step in
    subst (λ w. HasSameBlocks g.H.Dev.outside w (with_host v c.write_at.new.self)) c.self.view_is
    (same-blocks g.H.Dev.outside v c.write_at.new.self (λ told q clean held.
    others-stay v c.in-Some.b bytes c.self.invariant.coherent c.in-Some.ensures there g.met.H.Dev.extent_is c.write_at.new.self writes told q
    (clean-apart v c.in-Some.b bytes c.self.invariant.coherent c.in-Some.ensures there q clean)))

pub invariant_of-self-2 : goal.invariant_of-self-2
invariant_of-self-2 g c =
    let a = c.self.inside in
    let v = cache_in a.host a.size a.space a.changes a.frozen_changes a.clean in
    let bytes = c.in-Some-get.bytes.now in
    let there : get v.frozen_changes c.in-Some.b ≡ Some bytes = sym c.in-Some-get.ensures in
    let writes : Writes (block_place a.size c.in-Some.b) bytes (g.H.Dev.outside a.host) (g.H.Dev.outside c.write_at.new.self) = subst (λ at. Writes at bytes (g.H.Dev.outside a.host) (g.H.Dev.outside c.write_at.new.self)) c.block_place.ensures.place c.write_at.ensures.step in
    subst (λ p. IsInOrder g.H.Dev.outside (cache_in c.write_at.new.self a.size a.space a.changes p a.clean) a.changes p a.buffer.items a.spare.items) (sym c.take_out.ensures)
    (order-written v a.changes a.frozen_changes a.buffer.items a.spare.items c.write_at.new.self c.in-Some.b c.self.invariant c.in-Some.ensures.there c.write_at.ensures.others.extent_same writes.before
    (λ q kept told. others-stay v c.in-Some.b bytes c.self.invariant.coherent c.in-Some.ensures there g.met.H.Dev.extent_is c.write_at.new.self writes told q
    (kept-apart v c.in-Some.b bytes c.self.invariant.coherent c.in-Some.ensures there q kept)))

pub returns-clause-none : goal.returns-clause-none
returns-clause-none g c = (
  λ e. absurd (cc e),
  λ e. absurd (cc (c.in-Some.ensures.there, ap (λ m. contains_key m c.in-Some.b) (ap (λ w. w.frozen_changes) c.self.view_is ∙ e), ap is_some (get-empty {X = List ℕ} nat_cmp c.in-Some.b))),
)

pub returns-clause-wrote : goal.returns-clause-wrote
returns-clause-wrote g c _ =
    let a = c.self.inside in
    let v = cache_in a.host a.size a.space a.changes a.frozen_changes a.clean in
    let bytes = c.in-Some-get.bytes.now in
    let there : get v.frozen_changes c.in-Some.b ≡ Some bytes = sym c.in-Some-get.ensures in
    subst (λ w. WritesNext g.H.Dev.outside w (cache_in c.write_at.new.self a.size a.space a.changes c.take_out.new.self a.clean)) c.self.view_is (record {
      block = c.in-Some.b;
      bytes = bytes;
      next = is-next v c.in-Some.b bytes c.self.invariant.coherent c.in-Some.ensures there;
      did = subst (λ at. Did (wrote at bytes bytes true) (g.H.Dev.outside a.host) (g.H.Dev.outside c.write_at.new.self)) c.block_place.ensures.place c.in_ok-write_at.ensures.ok;
      rest = ap (λ p. cache_in c.write_at.new.self a.size a.space a.changes p a.clean) c.take_out.ensures;
    })

pub returns-clause-blocks : goal.returns-clause-blocks
returns-clause-blocks g c =
    let a = c.self.inside in
    let v = cache_in a.host a.size a.space a.changes a.frozen_changes a.clean in
    let b = c.in-Some.b in
    let host = c.write_at.new.self in
    let bytes = c.in-Some-get.bytes.now in
    let k = c.self.invariant.coherent in
    let there : get v.frozen_changes b ≡ Some bytes = sym c.in-Some-get.ensures in
    let writes : Writes (block_place a.size b) bytes (g.H.Dev.outside a.host) (g.H.Dev.outside host) = subst (λ at. Writes at bytes (g.H.Dev.outside a.host) (g.H.Dev.outside host)) c.block_place.ensures.place c.write_at.ensures.step in
    let did : Did (wrote (block_place a.size b) bytes bytes true) (g.H.Dev.outside a.host) (g.H.Dev.outside host) = subst (λ at. Did (wrote at bytes bytes true) (g.H.Dev.outside a.host) (g.H.Dev.outside host)) c.block_place.ensures.place c.in_ok-write_at.ensures.ok in
    subst (λ p. HasSameBlocks g.H.Dev.outside c.args.self.now (cache_in host a.size a.space a.changes p a.clean)) (sym c.take_out.ensures)
    (subst (λ w. HasSameBlocks g.H.Dev.outside w (with_written v host b)) c.self.view_is
    (same-written g.H.Dev.outside v host b bytes (next-absent v b bytes k c.in-Some.ensures there) there (next-held v b bytes k c.in-Some.ensures there)
    (next-stands v b bytes k c.in-Some.ensures there g.met.H.Dev.extent_is host did)
    (others-stay v b bytes k c.in-Some.ensures there g.met.H.Dev.extent_is host writes)))

pub returns-clause-coherent : goal.returns-clause-coherent
returns-clause-coherent g c = (invariant_of-self-2 g c).coherent
