use Rattle.std.proofs.Common.{◌≡◌, ℕ, refl, sym, ◌∙◌, ap, subst, false}
use Rattle.std.proofs.lemmas.Result.{err_from_is_err_and}
use Rattle.std.specs.Prelude.{Ok, Err, Some}
use Rattle.qx_geom.specs.declared.root.Root.{Root}
use Rattle.qx_records.specs.declared.inode.Inode.{Inode}
use Rattle.qx_records.specs.declared.kind.Kind.TheVariants as kinds
use Rattle.qx_records.specs.InodeRecord.{kind_of}
use Rattle.qx_view.specs.Walk.{inode_mode}
use Rattle.qx_walk.proofs.StepsInOrder.{carries_found, carries_halt, carries_walked}
use Rattle.qx_walk.proofs.WalkedInodes.{file_walked, kind_missing, kind_read, link_halts, link_walked, link_size_read, node_halts, special_walked, there_in}
use Rattle.qx_walk.specs.Inodes.{WalksNode}
use Rattle.qx_walk.proofs.inodes.walk_inode.Goals as goal

pub returns-in_default-clause-walked : goal.returns-in_default-clause-walked
returns-in_default-clause-walked g c = λ m r done s h w known.
    absurd (kind_missing m r c.args.queued.inode c.inode-inode.result c.of.result (c.inode-inode.ensures.shown m r.inodes h) c.of.ensures c.in_default.is known)

pub returns-in_err-walk_own_node-in-File-clause-walked :
    goal.returns-in_err-walk_own_node-in-File-clause-walked
returns-in_err-walk_own_node-in-File-clause-walked g c = λ m r done s h w known.
    let n : ℕ = c.args.queued.inode in
    let is = c.inode-inode.ensures.shown m r.inodes h in
    let kind : kind_of (inode_mode m r n) ≡ Some kinds.File = kind_read m r n c.inode-inode.result c.of.result kinds.File is c.of.ensures (c.in-Some.is ∙ ap (λ k. Some k) c.in-File.is) in
    let p = err_from_is_err_and c.from_residual.result c.from_residual.ensures.1 in
    rw (p.1, p.2) (node_halts m r n c.args.queued.parent done c.requires.there.0 (there_in m r c.args.ground.now.table n h c.requires.there.1) kinds.File false c.in_err-walk_own_node-in-File.field-0.0 c.args.way.now c.walk_own_node.new.way c.walk_own_node.new.way c.args.seen.now kind refl
    (subst (λ (node : Root). WalksNode m n node false done.met (Err c.in_err-walk_own_node-in-File.field-0.0) c.args.way.now c.walk_own_node.new.way) (ap (λ (i : Inode). i.root) is) (c.in_err-walk_own_node-in-File.ensures.walked m done.met s w.met)))

pub returns-in_err-walk_own_node-in-Link-clause-walked :
    goal.returns-in_err-walk_own_node-in-Link-clause-walked
returns-in_err-walk_own_node-in-Link-clause-walked g c = λ m r done s h w known.
    let n : ℕ = c.args.queued.inode in
    let is = c.inode-inode.ensures.shown m r.inodes h in
    let kind : kind_of (inode_mode m r n) ≡ Some kinds.Link = kind_read m r n c.inode-inode.result c.of.result kinds.Link is c.of.ensures (c.in-Some.is ∙ ap (λ k. Some k) c.in-Link.is) in
    let p = err_from_is_err_and c.from_residual-in_err-walk_own_node-in-Link.result c.from_residual-in_err-walk_own_node-in-Link.ensures.1 in
    rw (p.1, p.2) (node_halts m r n c.args.queued.parent done c.requires.there.0 (there_in m r c.args.ground.now.table n h c.requires.there.1) kinds.Link false c.in_err-walk_own_node-in-Link.field-0.0 c.args.way.now c.walk_own_node-in-Link.new.way c.walk_own_node-in-Link.new.way c.args.seen.now kind refl
    (subst (λ (node : Root). WalksNode m n node false done.met (Err c.in_err-walk_own_node-in-Link.field-0.0) c.args.way.now c.walk_own_node-in-Link.new.way) (ap (λ (i : Inode). i.root) is) (c.in_err-walk_own_node-in-Link.ensures.walked m done.met s w.met)))

pub returns-in-Special-clause-walked : goal.returns-in-Special-clause-walked
returns-in-Special-clause-walked g c = λ m r done s h w known.
    let n : ℕ = c.args.queued.inode in
    let is = c.inode-inode.ensures.shown m r.inodes h in
    special_walked m r n c.args.queued.parent done c.requires.there.0 (there_in m r c.args.ground.now.table n h c.requires.there.1) c.args.way.now c.args.seen.now (kind_read m r n c.inode-inode.result c.of.result kinds.Special is c.of.ensures (c.in-Some.is ∙ ap (λ k. Some k) c.in-Special.is)) w

pub returns-in_ok-walk_own_node-in-File-clause-walked :
    goal.returns-in_ok-walk_own_node-in-File-clause-walked
returns-in_ok-walk_own_node-in-File-clause-walked g c = λ m r done s h w known.
    let n : ℕ = c.args.queued.inode in
    let is = c.inode-inode.ensures.shown m r.inodes h in
    file_walked m r n c.args.queued.parent done c.requires.there.0 (there_in m r c.args.ground.now.table n h c.requires.there.1) false c.in_ok-walk_own_node-in-File.field-0 c.args.way.now c.walk_own_node.new.way c.args.seen.now (kind_read m r n c.inode-inode.result c.of.result kinds.File is c.of.ensures (c.in-Some.is ∙ ap (λ k. Some k) c.in-File.is)) w
    (subst (λ (node : Root). WalksNode m n node false done.met (Ok c.in_ok-walk_own_node-in-File.field-0) c.args.way.now c.walk_own_node.new.way) (ap (λ (i : Inode). i.root) is) (c.in_ok-walk_own_node-in-File.ensures.walked m done.met s w.met))
    c.walk_own_node.ensures.dots

pub returns-then-not-is_link_size-clause-walked : goal.returns-then-not-is_link_size-clause-walked
returns-then-not-is_link_size-clause-walked g c = λ m r done s h w known.
    let n : ℕ = c.args.queued.inode in
    let is = c.inode-inode.ensures.shown m r.inodes h in
    link_halts m r n c.args.queued.parent done c.requires.there.0 (there_in m r c.args.ground.now.table n h c.requires.there.1) false c.in_ok-walk_own_node-in-Link.field-0 c.args.way.now c.walk_own_node-in-Link.new.way c.walk_own_node-in-Link.new.way c.args.seen.now (kind_read m r n c.inode-inode.result c.of.result kinds.Link is c.of.ensures (c.in-Some.is ∙ ap (λ k. Some k) c.in-Link.is))
    (subst (λ (node : Root). WalksNode m n node false done.met (Ok c.in_ok-walk_own_node-in-Link.field-0) c.args.way.now c.walk_own_node-in-Link.new.way) (ap (λ (i : Inode). i.root) is) (c.in_ok-walk_own_node-in-Link.ensures.walked m done.met s w.met))
    (link_size_read m r n c.inode-inode.result is ∙ sym c.is_link_size.ensures ∙ c.if-not-is_link_size.true)

pub returns-else-not-is_link_size-clause-walked : goal.returns-else-not-is_link_size-clause-walked
returns-else-not-is_link_size-clause-walked g c = λ m r done s h w known.
    let n : ℕ = c.args.queued.inode in
    let is = c.inode-inode.ensures.shown m r.inodes h in
    link_walked m r n c.args.queued.parent done c.requires.there.0 (there_in m r c.args.ground.now.table n h c.requires.there.1) false c.in_ok-walk_own_node-in-Link.field-0 c.args.way.now c.walk_own_node-in-Link.new.way c.args.seen.now (kind_read m r n c.inode-inode.result c.of.result kinds.Link is c.of.ensures (c.in-Some.is ∙ ap (λ k. Some k) c.in-Link.is)) w
    (subst (λ (node : Root). WalksNode m n node false done.met (Ok c.in_ok-walk_own_node-in-Link.field-0) c.args.way.now c.walk_own_node-in-Link.new.way) (ap (λ (i : Inode). i.root) is) (c.in_ok-walk_own_node-in-Link.ensures.walked m done.met s w.met))
    c.walk_own_node-in-Link.ensures.dots
    (link_size_read m r n c.inode-inode.result is ∙ sym c.is_link_size.ensures ∙ c.if-not-is_link_size.false)

pub returns-in-Directory-clause-walked : goal.returns-in-Directory-clause-walked
returns-in-Directory-clause-walked g c = λ m r done s h w known.
    let n : ℕ = c.args.queued.inode in
    let is = c.inode-inode.ensures.shown m r.inodes h in
    c.walk_directory.ensures.walked m r done s h w (kind_read m r n c.inode-inode.result c.of.result kinds.Directory is c.of.ensures (c.in-Some.is ∙ ap (λ k. Some k) c.in-Directory.is)) (ap (λ (i : Inode). i.root) is)

pub returns-in_err-walk_own_node-in-File-clause-carries : goal.returns-in_err-walk_own_node-in-File-clause-carries
returns-in_err-walk_own_node-in-File-clause-carries g c =
    let p = err_from_is_err_and c.from_residual.result c.from_residual.ensures.1 in
    rw (p.1, p.2) (carries_halt c.args.ground.now c.args.way.now c.walk_own_node.new.way c.args.seen.now (g.D.Dev.outside c.args.host.now) (g.D.Dev.outside c.walk_own_node.new.host) c.in_err-walk_own_node-in-File.field-0.0 c.requires.underway c.walk_own_node.ensures.limit c.walk_own_node.ensures.few c.in_err-walk_own_node-in-File.ensures.looks)

pub returns-in_err-walk_own_node-in-Link-clause-carries : goal.returns-in_err-walk_own_node-in-Link-clause-carries
returns-in_err-walk_own_node-in-Link-clause-carries g c =
    let p = err_from_is_err_and c.from_residual-in_err-walk_own_node-in-Link.result c.from_residual-in_err-walk_own_node-in-Link.ensures.1 in
    rw (p.1, p.2) (carries_halt c.args.ground.now c.args.way.now c.walk_own_node-in-Link.new.way c.args.seen.now (g.D.Dev.outside c.args.host.now) (g.D.Dev.outside c.walk_own_node-in-Link.new.host) c.in_err-walk_own_node-in-Link.field-0.0 c.requires.underway c.walk_own_node-in-Link.ensures.limit c.walk_own_node-in-Link.ensures.few c.in_err-walk_own_node-in-Link.ensures.looks)

pub returns-in_ok-walk_own_node-in-File-clause-carries : goal.returns-in_ok-walk_own_node-in-File-clause-carries
returns-in_ok-walk_own_node-in-File-clause-carries g c = carries_walked c.args.ground.now c.args.way.now c.walk_own_node.new.way c.args.seen.now (g.D.Dev.outside c.args.host.now) (g.D.Dev.outside c.walk_own_node.new.host) c.in_ok-walk_own_node-in-File.field-0 tt c.requires.underway c.walk_own_node.ensures.limit c.walk_own_node.ensures.few c.in_ok-walk_own_node-in-File.ensures.looks

pub returns-then-not-is_link_size-clause-carries : goal.returns-then-not-is_link_size-clause-carries
returns-then-not-is_link_size-clause-carries g c = carries_found c.args.ground.now c.args.way.now c.walk_own_node-in-Link.new.way c.args.seen.now (g.D.Dev.outside c.args.host.now) (g.D.Dev.outside c.walk_own_node-in-Link.new.host) c.in_ok-walk_own_node-in-Link.field-0 _ c.requires.underway c.walk_own_node-in-Link.ensures.limit c.walk_own_node-in-Link.ensures.few c.in_ok-walk_own_node-in-Link.ensures.looks

pub returns-else-not-is_link_size-clause-carries : goal.returns-else-not-is_link_size-clause-carries
returns-else-not-is_link_size-clause-carries g c = carries_walked c.args.ground.now c.args.way.now c.walk_own_node-in-Link.new.way c.args.seen.now (g.D.Dev.outside c.args.host.now) (g.D.Dev.outside c.walk_own_node-in-Link.new.host) c.in_ok-walk_own_node-in-Link.field-0 tt c.requires.underway c.walk_own_node-in-Link.ensures.limit c.walk_own_node-in-Link.ensures.few c.in_ok-walk_own_node-in-Link.ensures.looks
