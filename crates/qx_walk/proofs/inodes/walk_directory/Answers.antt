use Rattle.std.proofs.Common.{◌≡◌, ◌*◌, List, length, refl, sym, ◌∙◌, ap, subst, true, arith}
use Rattle.std.proofs.lemmas.Result.{err_from_is_err_and}
use Rattle.std.specs.Prelude.{Ok, Err}
use Rattle.qx_geom.specs.declared.root.Root.{Root}
use Rattle.qx_records.specs.declared.kind.Kind.TheVariants as kinds
use Rattle.qx_view.specs.Sound.{is_foreign_directory}
use Rattle.qx_pointers.proofs.ShownBlocks.{shown_size, shows_before}
use Rattle.qx_walk.proofs.StepsInOrder.{carries_directory, carries_halt, lists_err, lists_ok}
use Rattle.qx_walk.specs.Steps.{leaf_reads}
use Rattle.qx_walk.proofs.WalkedInodes.{directory_walked, node_halts, records_halt, there_in}
use Rattle.qx_pointers.specs.declared.node.LeafPlace.{LeafPlace}
use Rattle.qx_walk.specs.Inodes.{WalksNode}
use Rattle.qx_tables.specs.Tables.{AreLeaves}
use Rattle.qx_walk.proofs.inodes.walk_directory.Goals as goal

pub returns-in_err-part-clause-walked : goal.returns-in_err-part-clause-walked
returns-in_err-part-clause-walked g c = λ m r done s h w kind is.
    let d = c.args.directory.now in
    let p = err_from_is_err_and c.from_residual.result c.from_residual.ensures.1 in
    rw (p.1, p.2) (node_halts m r d.inode d.parent done c.requires.there.0 (there_in m r c.args.ground.now.table d.inode h c.requires.there.1) kinds.Directory true c.in_err-part.field-0.0 _ _ c.walk_own_node.new.way c.args.seen.now kind refl
    (subst (λ (node : Root). WalksNode m d.inode node true done.met (Err c.in_err-part.field-0.0) c.args.way.now c.walk_own_node.new.way) is (c.in_err-part.ensures.walked m done.met s w.met)))

pub returns-in_err-dots-clause-walked : goal.returns-in_err-dots-clause-walked
returns-in_err-dots-clause-walked g c = λ m r done s h w kind is.
    let d = c.args.directory.now in
    let p = err_from_is_err_and c.from_residual-in_err-dots.result c.from_residual-in_err-dots.ensures.1 in
    let walked = c.in_ok-part.ensures.walked m done.met (shows_before c.args.ground.now.shape _ _ m c.walk_records.ensures.lists.looks.reads s) w.met in
    let leaves : AreLeaves m d.node c.deref.result.now = subst (λ (l : List LeafPlace). AreLeaves m d.node l) (sym c.deref.ensures.value) (walked.leaves refl) in
    let rows = c.in_err-dots.ensures.walked m r done.queue done.listed done.numbers s h w.longs w.listing leaves in
    rw (p.1, p.2) (records_halt m r d.inode d.parent done c.requires.there.0 (there_in m r c.args.ground.now.table d.inode h c.requires.there.1) d c.in_ok-part.part true c.in_err-dots.field-0.0 _ _ _ c.walk_records.new.seen c.walk_records.new.seen refl refl is kind
    (subst (λ (node : Root). WalksNode m d.inode node true done.met (Ok c.in_ok-part.part) c.args.way.now c.walk_own_node.new.way) is walked) rows)

pub returns-clause-walked : goal.returns-clause-walked
returns-clause-walked g c = λ m r done s h w kind is.
    let d = c.args.directory.now in
    let size : m.size ≡ c.args.ground.now.shape.blocksize = shown_size c.args.ground.now.shape _ m s in
    let walked = c.in_ok-part.ensures.walked m done.met (shows_before c.args.ground.now.shape _ _ m c.walk_records.ensures.lists.looks.reads s) w.met in
    let leaves : AreLeaves m d.node c.deref.result.now = subst (λ (l : List LeafPlace). AreLeaves m d.node l) (sym c.deref.ensures.value) (walked.leaves refl) in
    let rows = c.in_ok-dots.ensures.walked m r done.queue done.listed done.numbers s h w.longs w.listing leaves in
    directory_walked m r d.inode d.parent done c.requires.there.0 (there_in m r c.args.ground.now.table d.inode h c.requires.there.1) d c.in_ok-part.part true c.in_ok-dots.dots c.is_foreign_directory-foreign.result c.args.way.now c.walk_own_node.new.way _ c.args.seen.now c.walk_records.new.seen refl refl is kind w
    (subst (λ (node : Root). WalksNode m d.inode node true done.met (Ok c.in_ok-part.part) c.args.way.now c.walk_own_node.new.way) is walked)
    c.walk_own_node.ensures.dots rows refl (c.is_foreign_directory-foreign.ensures m size walked.part ∙ ap (is_foreign_directory m) is) c.noted-way.ensures c.noted-way-2.ensures refl

pub returns-in_err-part-clause-carries : goal.returns-in_err-part-clause-carries
returns-in_err-part-clause-carries g c =
    let p = err_from_is_err_and c.from_residual.result c.from_residual.ensures.1 in
    rw (p.1, p.2) (carries_halt c.args.ground.now c.args.way.now c.walk_own_node.new.way c.args.seen.now (g.D.Dev.outside c.args.host.now) (g.D.Dev.outside c.walk_own_node.new.host) c.in_err-part.field-0.0 c.requires.underway c.walk_own_node.ensures.limit c.walk_own_node.ensures.few c.in_err-part.ensures.looks)

pub returns-in_err-dots-clause-carries : goal.returns-in_err-dots-clause-carries
returns-in_err-dots-clause-carries g c =
    let way = c.walk_own_node.new.way in
    let p = err_from_is_err_and c.from_residual-in_err-dots.result c.from_residual-in_err-dots.ensures.1 in
    let lists = lists_err c.args.ground.now _ (length way.leaves.items * leaf_reads c.args.ground.now.shape) c.args.seen.now c.walk_records.new.seen (g.D.Dev.outside c.walk_own_node.new.host) (g.D.Dev.outside c.walk_records.new.host) c.in_err-dots.field-0.0 (omega (arith, ap (λ (l : List LeafPlace). length l * leaf_reads c.args.ground.now.shape) c.deref.ensures.value)) c.in_err-dots.ensures.lists in
    rw (p.1, p.2) (carries_directory c.args.ground.now c.args.way.now way way c.args.seen.now c.walk_records.new.seen (g.D.Dev.outside c.args.host.now) (g.D.Dev.outside c.walk_own_node.new.host) (g.D.Dev.outside c.walk_records.new.host) c.in_ok-part.part (Err c.in_err-dots.field-0.0) c.requires.underway refl
    c.walk_own_node.ensures.limit c.walk_own_node.ensures.few c.in_ok-part.ensures.looks lists)

pub returns-clause-carries : goal.returns-clause-carries
returns-clause-carries g c =
    let way = c.walk_own_node.new.way in
    let lists = lists_ok c.args.ground.now _ (length way.leaves.items * leaf_reads c.args.ground.now.shape) c.args.seen.now c.walk_records.new.seen (g.D.Dev.outside c.walk_own_node.new.host) (g.D.Dev.outside c.walk_records.new.host) c.in_ok-dots.dots tt (omega (arith, ap (λ (l : List LeafPlace). length l * leaf_reads c.args.ground.now.shape) c.deref.ensures.value)) c.in_ok-dots.ensures.lists in
    carries_directory c.args.ground.now c.args.way.now way _ c.args.seen.now c.walk_records.new.seen (g.D.Dev.outside c.args.host.now) (g.D.Dev.outside c.walk_own_node.new.host) (g.D.Dev.outside c.walk_records.new.host) c.in_ok-part.part (Ok tt) c.requires.underway refl
    c.walk_own_node.ensures.limit c.walk_own_node.ensures.few c.in_ok-part.ensures.looks lists
