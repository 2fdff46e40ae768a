use Rattle.std.proofs.Common.{sym, subst, ◌∙◌}
use Rattle.qx_blocks.specs.BlockState.{BlockState}
use Rattle.qx_ptree.specs.ReadyLeaves.{IsReadyApart, IsWrittenBy, OwnAsLeft, StandIn}
use Rattle.qx_ptree.specs.WorkState.{Preparation, blocks_of}
use Rattle.qx_ptree.proofs.StayingLeaves.{ready_stays, stay_others}
use Rattle.qx_ptree.proofs.WaitingChanges.{IsApart, apart_back, apart_each, can_left, own_others, own_taken}
use Rattle.block_tests.proofs.ptree.together.change_both.Goals as goal

pub commit-requires-2-clause-ready : goal.commit-requires-2-clause-ready
commit-requires-2-clause-ready g c =
    let p : Preparation = c.in_ok-p.p in
    let q : Preparation = c.in-Ok.q in
    let two : BlockState = g.B.Blocks.state c.prepare-2.new.blocks in
    let three : BlockState = g.B.Blocks.state c.commit.new.blocks in
    let none : IsApart (blocks_of p) (blocks_of q) = apart_each p q (sym c.apart.ensures ∙ c.if-not-apart.false) in
    can_left q two three (own_others (blocks_of p) q two three c.commit.ensures.rest (apart_back (blocks_of p) (blocks_of q) none)) c.in-Ok.ensures.ok.ready

pub returns-clause-first : goal.returns-clause-first
returns-clause-first g c =
    let p : Preparation = c.in_ok-p.p in
    let q : Preparation = c.in-Ok.q in
    let one : BlockState = g.B.Blocks.state c.prepare.new.blocks in
    let two : BlockState = g.B.Blocks.state c.prepare-2.new.blocks in
    let three : BlockState = g.B.Blocks.state c.commit.new.blocks in
    let four : BlockState = g.B.Blocks.state c.commit-2.new.blocks in
    let none : IsApart (blocks_of p) (blocks_of q) = apart_each p q (sym c.apart.ensures ∙ c.if-not-apart.false) in
    let waits : OwnAsLeft p one two = own_taken q.work.fresh p one two c.in-Ok.ensures.ok.takes in
    let ready : IsReadyApart c.args.order three p.root (IsWrittenBy c.args.a.now) = subst (λ m. IsReadyApart c.args.order m p.root (IsWrittenBy c.args.a.now)) (sym c.commit.ensures.blocks) (c.in_ok-p.ensures.ok.written two waits) in
    let stand : StandIn c.args.order three p.root (IsWrittenBy c.args.a.now) (blocks_of p) = subst (λ m. StandIn c.args.order m p.root (IsWrittenBy c.args.a.now) (blocks_of p)) (sym c.commit.ensures.blocks) (c.in_ok-p.ensures.ok.own two waits) in
    subst (λ node. IsReadyApart c.args.order four node (IsWrittenBy c.args.a.now)) (sym c.commit.ensures.node)
    (ready_stays c.args.order three four p.root (IsWrittenBy c.args.a.now) (blocks_of p) ready stand (stay_others three four (blocks_of q) (blocks_of p) c.commit-2.ensures.rest none))

pub returns-clause-second : goal.returns-clause-second
returns-clause-second g c =
    let p : Preparation = c.in_ok-p.p in
    let q : Preparation = c.in-Ok.q in
    let two : BlockState = g.B.Blocks.state c.prepare-2.new.blocks in
    let three : BlockState = g.B.Blocks.state c.commit.new.blocks in
    let four : BlockState = g.B.Blocks.state c.commit-2.new.blocks in
    let none : IsApart (blocks_of p) (blocks_of q) = apart_each p q (sym c.apart.ensures ∙ c.if-not-apart.false) in
    let waits : OwnAsLeft q two three = own_others (blocks_of p) q two three c.commit.ensures.rest (apart_back (blocks_of p) (blocks_of q) none) in
    subst (λ node. IsReadyApart c.args.order four node (IsWrittenBy c.args.b.now)) (sym c.commit-2.ensures.node)
    (subst (λ m. IsReadyApart c.args.order m q.root (IsWrittenBy c.args.b.now)) (sym c.commit-2.ensures.blocks) (c.in-Ok.ensures.ok.written three waits))
