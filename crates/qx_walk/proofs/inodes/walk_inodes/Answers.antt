use Rattle.std.proofs.Common.{rules, arith, refl, ◌∙◌}
use Rattle.std.proofs.lemmas.Result.{err_from_is_err_and}
use Rattle.qx_walk.proofs.AllInodes.{begins, halts_there, kind_known, remembers_rest, way_ends, way_goes_on, without_first}
use Rattle.qx_pointers.proofs.ShownBlocks.{shows_before}
use Rattle.std.specs.Prelude.{Ok, Err}
use Rattle.qx_walk.proofs.ListedInodes.{lists_same, walked_all, walked_more, walked_none}
use Rattle.qx_walk.proofs.StepsInOrder.{carries_last, carries_ok, carries_then}
use Rattle.qx_walk.specs.declared.state.Seen.{Seen}
use Rattle.qx_walk.proofs.inodes.walk_inodes.Goals as goal

pub loop-queued-init : goal.loop-queued-init
loop-queued-init g c = record {
  way = λ m r s h b. begins m r c.args.way.now c.args.seen.now b;
  walked = walked_none c.args.ground.now c.args.seen.now.listing c.requires.first;
  carries = search (rules, arith);
}

pub loop-queued-preserved : goal.loop-queued-preserved
loop-queued-preserved g c = record {
  way = λ m r s h b.
      let way = c.loop-queued.way in
      let seen = c.loop-queued.seen in
      let mid : Seen = record { names = seen.names; longs = seen.longs; listing = c.take.new.self } in
      let q = c.in-Some.queued in
      let w = c.loop-queued.invariant.way m r (shows_before c.args.ground.now.shape _ _ m c.walk_inode.ensures.carries.looks.reads s) h b in
      let t = c.in-Some.ensures.some w.done.queue w.done.listed w.remembers.listing in
      let walked = c.in_ok-walk_inode.ensures.walked m r (without_first w.done t.0) s h (remembers_rest m r way seen mid q t.0 w t.1 t.2 refl) (kind_known m r way seen mid q t.0 w t.1) in
      way_goes_on m r way seen mid q t.0 w t.1 tt c.walk_inode.new.way c.walk_inode.new.seen walked (c.walk_inode.ensures.next ∙ c.in-Some.ensures.next);
  walked = walked_more c.args.ground.now _ _ c.in-Some.queued (c.walk_inode.ensures.taken ∙ c.in-Some.ensures.taken) c.in_ok-walk_inode.ensures.node c.loop-queued.invariant.walked;
  carries =
      let seen = c.loop-queued.seen in
      let mid : Seen = record { names = seen.names; longs = seen.longs; listing = c.take.new.self } in
      carries_then c.args.ground.now c.args.way.now c.loop-queued.way c.walk_inode.new.way c.args.seen.now seen mid c.walk_inode.new.seen (g.D.Dev.outside c.args.host.now) (g.D.Dev.outside c.loop-queued.host) (g.D.Dev.outside c.walk_inode.new.host) 0 (Ok 0) c.in-Some.ensures.next c.loop-queued.invariant.carries
      (carries_ok c.args.ground.now 1 c.loop-queued.way c.walk_inode.new.way mid c.walk_inode.new.seen (g.D.Dev.outside c.loop-queued.host) (g.D.Dev.outside c.walk_inode.new.host) tt 0 c.in_ok-walk_inode.ensures.carries);
}

pub returns-in_err-walk_inode-clause-carries : goal.returns-in_err-walk_inode-clause-carries
returns-in_err-walk_inode-clause-carries g c =
    let seen = c.loop-queued.seen in
    let mid : Seen = record { names = seen.names; longs = seen.longs; listing = c.take.new.self } in
    let p = err_from_is_err_and c.from_residual.result c.from_residual.ensures.1 in
    rw (p.1, p.2) (carries_then c.args.ground.now c.args.way.now c.loop-queued.way c.walk_inode.new.way c.args.seen.now seen mid c.walk_inode.new.seen (g.D.Dev.outside c.args.host.now) (g.D.Dev.outside c.loop-queued.host) (g.D.Dev.outside c.walk_inode.new.host) 0 (Err c.in_err-walk_inode.field-0.0) c.in-Some.ensures.next c.loop-queued.invariant.carries c.in_err-walk_inode.ensures.carries)

pub returns-in_err-walk_inode-clause-walked : goal.returns-in_err-walk_inode-clause-walked
returns-in_err-walk_inode-clause-walked g c = λ m r s h b.
    let way = c.loop-queued.way in
    let seen = c.loop-queued.seen in
    let mid : Seen = record { names = seen.names; longs = seen.longs; listing = c.take.new.self } in
    let q = c.in-Some.queued in
    let w = c.loop-queued.invariant.way m r (shows_before c.args.ground.now.shape _ _ m c.walk_inode.ensures.carries.looks.reads s) h b in
    let t = c.in-Some.ensures.some w.done.queue w.done.listed w.remembers.listing in
    let walked = c.in_err-walk_inode.ensures.walked m r (without_first w.done t.0) s h (remembers_rest m r way seen mid q t.0 w t.1 t.2 refl) (kind_known m r way seen mid q t.0 w t.1) in
    let p = err_from_is_err_and c.from_residual.result c.from_residual.ensures.1 in
    rw (p.1, p.2) (record { answer = halts_there m r way seen mid q t.0 w t.1 c.in_err-walk_inode.field-0.0 c.walk_inode.new.way c.walk_inode.new.seen walked; ends = tt })

pub returns-clause-walked : goal.returns-clause-walked
returns-clause-walked g c = λ m r s h b.
    let seen = c.loop-queued.seen in
    let after : Seen = record { names = seen.names; longs = seen.longs; listing = c.take.new.self } in
    let w = c.loop-queued.invariant.way m r s h b in
    let ends = way_ends m r c.loop-queued.way seen after w (c.in_default.ensures.none w.done.queue w.done.listed w.remembers.listing) c.take.ensures.queue c.take.ensures.members refl in
    record { answer = ends.none; ends = ends }

pub returns-clause-reached : goal.returns-clause-reached
returns-clause-reached g c = walked_all c.args.ground.now c.loop-queued.seen.listing c.take.new.self c.take.ensures.queue c.in_default.ensures.last c.in_default.ensures.all c.loop-queued.invariant.walked

pub returns-clause-carries : goal.returns-clause-carries
returns-clause-carries g c =
    let seen = c.loop-queued.seen in
    let after : Seen = record { names = seen.names; longs = seen.longs; listing = c.take.new.self } in
    carries_last c.args.ground.now c.args.way.now c.loop-queued.way c.args.seen.now seen after (g.D.Dev.outside c.args.host.now) (g.D.Dev.outside c.loop-queued.host) 0 tt refl
    (c.take.ensures.listing _ c.loop-queued.invariant.carries.listing) c.take.ensures.queue c.in_default.ensures.last c.loop-queued.invariant.carries

pub walk_inode-requires-clause-underway : goal.walk_inode-requires-clause-underway
walk_inode-requires-clause-underway g c =
    let carries = c.loop-queued.invariant.carries in
    record { met = carries.met; inside = carries.inside; listing = c.take.ensures.listing _ carries.listing; listed = lists_same c.args.ground.now _ _ c.take.ensures.queue carries.listed; fits = λ len told. c.requires.underway.fits len (carries.looks.reads.extent len told) }
