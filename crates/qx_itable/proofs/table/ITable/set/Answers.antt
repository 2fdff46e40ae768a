use Rattle.std.proofs.Common.{ℕ, ◌-◌, set, sym, ◌∙◌, ap, arith, Option}
use Rattle.std.specs.Prelude.{is_some}
use Rattle.std.proofs.lemmas.List.{map-set, length-set}
use Rattle.qx_itable.specs.TableState.{if_live, with_inode}
use Rattle.qx_itable.proofs.KeptInodes.{if_live-dead, if_live-live, places-set}
use Rattle.qx_itable.proofs.table.ITable.set.Goals as goal

pub invariant_of-self : goal.invariant_of-self
invariant_of-self c =
    let place : ℕ = c.args.n - 1 in
    record {
      few = rw length-set c.self.invariant.few;
      live = c.remove.ensures ∙ ap (λ (part : Option _). set c.self.inside.live place (is_some part)) (sym (if_live-dead c.args.inode.now c.if-inode-eq0.true))
          ∙ places-set c.self.inside.inodes.items c.self.inside.live place c.args.inode.now c.self.invariant.live;
    }

pub invariant_of-self-else-inode-eq0 : goal.invariant_of-self-else-inode-eq0
invariant_of-self-else-inode-eq0 c =
    let place : ℕ = c.args.n - 1 in
    record {
      few = rw length-set c.self.invariant.few;
      live = c.insert.ensures ∙ ap (λ (part : Option _). set c.self.inside.live place (is_some part)) (sym (if_live-live c.args.inode.now (omega (arith, c.if-inode-eq0.false))))
          ∙ places-set c.self.inside.inodes.items c.self.inside.live place c.args.inode.now c.self.invariant.live;
    }

pub returns-then-inode-eq0 : goal.returns-then-inode-eq0
returns-then-inode-eq0 c =
    (λ i. record { order = c.self.inside.order; inodes = map-set if_live c.self.inside.inodes.items (c.args.n - 1) c.args.inode.now i })
    ∙ ap (λ t. with_inode t c.args.n c.args.inode.now) c.self.view_is

pub returns-else-inode-eq0 : goal.returns-else-inode-eq0
returns-else-inode-eq0 c =
    (λ i. record { order = c.self.inside.order; inodes = map-set if_live c.self.inside.inodes.items (c.args.n - 1) c.args.inode.now i })
    ∙ ap (λ t. with_inode t c.args.n c.args.inode.now) c.self.view_is
