use Rattle.std.proofs.Common.{◌≡◌, ◌<◌, ◌∙◌, ap, sym, arith, length, set, false}
use Rattle.std.specs.Prelude.{min}
use Rattle.qx_alloc.specs.SpaceState.{users_in}
use Rattle.qx_alloc.proofs.UserBlocks.{length-users, users-all, users-more, users-past}
use Rattle.qx_alloc.proofs.space.remove_below.Goals as goal

pub loop-b-init : goal.loop-b-init
loop-b-init c = sym (users-all c.args.set.now)

pub remove-requires : goal.remove-requires
remove-requires c =
    let long : length c.loop-b.set ≡ length c.args.set.now = ap (λ s. length s) c.loop-b.invariant ∙ length-users c.loop-b.b c.args.set.now in
    omega (arith, long, c.loop-b-test.true, c.min-b-end.ensures, c.limit.ensures)

pub loop-b-preserved : goal.loop-b-preserved
loop-b-preserved c =
    let within : c.loop-b.b < length c.args.set.now = omega (arith, c.loop-b-test.true, c.min-b-end.ensures, c.limit.ensures) in
    c.remove.ensures ∙ ap (λ s. set s c.loop-b.b false) c.loop-b.invariant ∙ users-more c.loop-b.b c.args.set.now within

pub returns : goal.returns
returns c =
    let all : c.loop-b.b ≡ min c.args.end (length c.args.set.now) = omega (arith, c.loop-b-test.false, c.loop-b.auto.b-end, c.min-b-end.ensures, ap (min c.args.end) c.limit.ensures) in
    c.loop-b.invariant ∙ ap (λ n. users_in n c.args.set.now) all ∙ users-past c.args.end c.args.set.now
