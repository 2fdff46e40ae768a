use Rattle.std.proofs.Common.{◌+◌, ◌≤◌, length, sym, subst, ap}
use Rattle.std.specs.Prelude.{IfSome}
use Rattle.qx_cache.specs.CacheState.{with_host}
use Rattle.qx_cache.specs.CacheView.{cache_in}
use Rattle.qx_cache.specs.Calls.{HasSameBlocks, IsOutsideUsers}
use Rattle.qx_cache.proofs.BlockPlaces.{block-apart}
use Rattle.qx_cache.proofs.BlockMeanings.{same-blocks, user-apart}
use Rattle.qx_cache.proofs.OrderSteps.{order-host}
use Rattle.qx_cache.proofs.Spaces.{held-user}
use Rattle.qx_cache.proofs.cache.Cache.write_system.Goals as goal

pub invariant_of-self : goal.invariant_of-self
invariant_of-self g c =
    let a = c.self.inside in
    let v = cache_in a.host a.size a.space a.changes a.frozen_changes a.clean in
    let outside : IsOutsideUsers v c.args.at (length c.args.bytes.now) = subst (λ w. IsOutsideUsers w c.args.at (length c.args.bytes.now)) (sym c.self.view_is) c.requires.outside in
    let within : IfSome (g.H.Dev.outside a.host).extent (λ len. c.args.at + length c.args.bytes.now ≤ len) = subst (λ w. IfSome (g.H.Dev.outside w.host).extent (λ len. c.args.at + length c.args.bytes.now ≤ len)) (sym c.self.view_is) c.requires.within in
    order-host v a.changes a.frozen_changes a.buffer.items a.spare.items c.write_at.new.self c.self.invariant c.write_at.ensures.others.extent_same c.write_at.ensures.step.before
    (λ b kept told.
    let user = c.self.invariant.coherent.kept_user b kept in
    block-apart c.args.at c.args.bytes.now (g.H.Dev.outside a.host) (g.H.Dev.outside c.write_at.new.self) (g.met.H.Dev.extent_is a.host) c.write_at.ensures.step within told a.size b
    (user-apart v c.args.at (length c.args.bytes.now) b outside user.0 user.1))

pub returns-clause-rest : goal.returns-clause-rest
returns-clause-rest g c =
    let a = c.self.inside in
    let v = cache_in a.host a.size a.space a.changes a.frozen_changes a.clean in
    let outside : IsOutsideUsers v c.args.at (length c.args.bytes.now) = subst (λ w. IsOutsideUsers w c.args.at (length c.args.bytes.now)) (sym c.self.view_is) c.requires.outside in
    let within : IfSome (g.H.Dev.outside a.host).extent (λ len. c.args.at + length c.args.bytes.now ≤ len) = subst (λ w. IfSome (g.H.Dev.outside w.host).extent (λ len. c.args.at + length c.args.bytes.now ≤ len)) (sym c.self.view_is) c.requires.within in
    record {
      rest = ap (λ w. with_host w c.write_at.new.self) c.self.view_is;
      blocks = subst (λ w. HasSameBlocks g.H.Dev.outside w (with_host v c.write_at.new.self)) c.self.view_is
          (same-blocks g.H.Dev.outside v c.write_at.new.self (λ told b clean held.
          let user = held-user a.space b c.self.invariant.coherent.space held in
          block-apart c.args.at c.args.bytes.now (g.H.Dev.outside a.host) (g.H.Dev.outside c.write_at.new.self) (g.met.H.Dev.extent_is a.host) c.write_at.ensures.step within told a.size b
          (user-apart v c.args.at (length c.args.bytes.now) b outside user.0 user.1)));
      coherent = (invariant_of-self g c).coherent;
    }
