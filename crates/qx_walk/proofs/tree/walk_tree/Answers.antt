use Rattle.std.proofs.Common.{◌-◌, [], refl, sym, ◌∙◌, ap, subst, arith}
use Rattle.std.proofs.lemmas.Result.{err_from_is_err_and}
use Rattle.qx_blockset.specs.Members.{Members, count_of, has, limit_of}
use Rattle.qx_pointers.proofs.ShownBlocks.{fits_still, shown_size, shows_before}
use Rattle.qx_pointers.specs.declared.halt.Halt.TheVariants as halts
use Rattle.qx_tables.specs.Tables.{IsListing}
use Rattle.qx_walk.proofs.ListedInodes.{lists_first, reached_of}
use Rattle.qx_walk.proofs.StepsInOrder.{looks_err, looks_ok}
use Rattle.qx_walk.proofs.TreeReads.{first_limit, no_memory, read_first, read_halts, read_inodes, read_next, read_other, tree_reads}
use Rattle.qx_walk.proofs.TestsAbove.{all_above, all_roots, begins_at, halts_above, halts_in_further, halts_in_inodes, halts_in_longfile, none_met, noted_above, two_roots}
use Rattle.qx_walk.specs.Trees.{roots_of}
use Rattle.qx_walk.proofs.tree.walk_tree.Goals as goal

pub returns-in_err-table-clause-answer : goal.returns-in_err-table-clause-answer
returns-in_err-table-clause-answer g c = λ m s.
    let r = roots_of c.args.roots.now in
    let none = none_met c.args.shape.count _ c.in_ok-met.ensures in
    let p = err_from_is_err_and c.from_residual-in_err-table.result c.from_residual-in_err-table.ensures.1 in
    rw (p.1, p.2) (halts_in_inodes m r c.in_err-table.field-0.0 _ _ none (c.in_err-table.ensures.tests m s))

pub returns-in_err-longs-clause-answer : goal.returns-in_err-longs-clause-answer
returns-in_err-longs-clause-answer g c = λ m s.
    let r = roots_of c.args.roots.now in
    let none = none_met c.args.shape.count _ c.in_ok-met.ensures in
    let s2 = shows_before c.args.shape _ _ m c.walk_longfile.ensures.looks.reads s in
    let t1 = c.in_ok-table.ensures.tests m s2 in
    let p = err_from_is_err_and c.from_residual-in_err-longs.result c.from_residual-in_err-longs.ensures.1 in
    rw (p.1, p.2) (halts_in_longfile m r c.in_err-longs.field-0.0 _ _ none (two_roots m r _ _ _ _ _ t1 (c.in_err-longs.ensures.tests m s)))

pub returns-in_err-walk_node-clause-answer : goal.returns-in_err-walk_node-clause-answer
returns-in_err-walk_node-clause-answer g c = λ m s.
    let r = roots_of c.args.roots.now in
    let none = none_met c.args.shape.count _ c.in_ok-met.ensures in
    let s3 = shows_before c.args.shape _ _ m c.walk_node.ensures.follows.looks.reads s in
    let s2 = shows_before c.args.shape _ _ m c.walk_longfile.ensures.looks.reads s3 in
    let t1 = c.in_ok-table.ensures.tests m s2 in
    let t2 = c.in_ok-longs.ensures.tests m s3 in
    let p = err_from_is_err_and c.from_residual-in_err-walk_node.result c.from_residual-in_err-walk_node.ensures.1 in
    rw (p.1, p.2) (halts_in_further m r c.in_err-walk_node.field-0.0 _ _ none (all_roots m r c.args.roots.now.bitmap _ _ _ _ _ refl (two_roots m r _ _ _ _ _ t1 t2) (c.in_err-walk_node.ensures.tests m s)))

pub returns-in_err-test_top-clause-answer : goal.returns-in_err-test_top-clause-answer
returns-in_err-test_top-clause-answer g c = λ m s.
    let r = roots_of c.args.roots.now in
    let none = none_met c.args.shape.count _ c.in_ok-met.ensures in
    let s3 = shows_before c.args.shape _ _ m c.walk_node.ensures.follows.looks.reads s in
    let s2 = shows_before c.args.shape _ _ m c.walk_longfile.ensures.looks.reads s3 in
    let t1 = c.in_ok-table.ensures.tests m s2 in
    let t2 = c.in_ok-longs.ensures.tests m s3 in
    let t3 = c.in_ok-walk_node.ensures.tests m s in
    let holds = c.in_ok-table.ensures.holds m [] s2 none in
    let roots = all_roots m r c.args.roots.now.bitmap _ _ _ _ _ refl (two_roots m r _ _ _ _ _ t1 t2) t3 in
    let p = err_from_is_err_and c.from_residual-in_err-test_top.result c.from_residual-in_err-test_top.ensures.1 in
    rw (p.1, p.2) (halts_above m r c.in_err-test_top.field-0.0 _ _ none (all_above m r _ _ _ _ _ roots (c.in_err-test_top.ensures.tests m r _ holds)))

pub returns-in_err-walk_inodes-clause-answer : goal.returns-in_err-walk_inodes-clause-answer
returns-in_err-walk_inodes-clause-answer g c = λ m s.
    let r = roots_of c.args.roots.now in
    let none = none_met c.args.shape.count _ c.in_ok-met.ensures in
    let s4 = shows_before c.args.shape _ _ m c.walk_inodes.ensures.carries.looks.reads s in
    let s3 = shows_before c.args.shape _ _ m c.walk_node.ensures.follows.looks.reads s4 in
    let s2 = shows_before c.args.shape _ _ m c.walk_longfile.ensures.looks.reads s3 in
    let t1 = c.in_ok-table.ensures.tests m s2 in
    let t2 = c.in_ok-longs.ensures.tests m s3 in
    let t3 = c.in_ok-walk_node.ensures.tests m s4 in
    let holds = c.in_ok-table.ensures.holds m [] s2 none in
    let roots = all_roots m r c.args.roots.now.bitmap _ _ _ _ _ refl (two_roots m r _ _ _ _ _ t1 t2) t3 in
    let named = c.in_ok-longs.ensures.names m _ s3 (t1.marks [] none) in
    let notes = noted_above m r _ _ _ refl (c.has_tail-tail.ensures m r.inodes holds) (c.in_ok-longs.ensures.nodes m s3) refl c.noted.ensures in
    let begins = begins_at m r _ _ _ none (all_above m r _ _ _ _ _ roots (c.in_ok-test_top.ensures.tests m r _ holds)) c.in_ok-listing.ensures.listed named notes c.in_ok-listing.ensures.next in
    let p = err_from_is_err_and c.from_residual-in_err-walk_inodes.result c.from_residual-in_err-walk_inodes.ensures.1 in
    rw (p.1, p.2) (c.in_err-walk_inodes.ensures.walked m r s holds begins).answer

pub returns-clause-answer : goal.returns-clause-answer
returns-clause-answer g c = λ m s.
    let r = roots_of c.args.roots.now in
    let none = none_met c.args.shape.count _ c.in_ok-met.ensures in
    let s4 = shows_before c.args.shape _ _ m c.walk_inodes.ensures.carries.looks.reads s in
    let s3 = shows_before c.args.shape _ _ m c.walk_node.ensures.follows.looks.reads s4 in
    let s2 = shows_before c.args.shape _ _ m c.walk_longfile.ensures.looks.reads s3 in
    let t1 = c.in_ok-table.ensures.tests m s2 in
    let t2 = c.in_ok-longs.ensures.tests m s3 in
    let t3 = c.in_ok-walk_node.ensures.tests m s4 in
    let holds = c.in_ok-table.ensures.holds m [] s2 none in
    let roots = all_roots m r c.args.roots.now.bitmap _ _ _ _ _ refl (two_roots m r _ _ _ _ _ t1 t2) t3 in
    let named = c.in_ok-longs.ensures.names m _ s3 (t1.marks [] none) in
    let notes = noted_above m r _ _ _ refl (c.has_tail-tail.ensures m r.inodes holds) (c.in_ok-longs.ensures.nodes m s3) refl c.noted.ensures in
    let begins = begins_at m r _ _ _ none (all_above m r _ _ _ _ _ roots (c.in_ok-test_top.ensures.tests m r _ holds)) c.in_ok-listing.ensures.listed named notes c.in_ok-listing.ensures.next in
    (c.in_ok-walk_inodes.ensures.walked m r s holds begins).answer

pub returns-clause-walked : goal.returns-clause-walked
returns-clause-walked g c = λ m s.
    let r = roots_of c.args.roots.now in
    let none = none_met c.args.shape.count _ c.in_ok-met.ensures in
    let s4 = shows_before c.args.shape _ _ m c.walk_inodes.ensures.carries.looks.reads s in
    let s3 = shows_before c.args.shape _ _ m c.walk_node.ensures.follows.looks.reads s4 in
    let s2 = shows_before c.args.shape _ _ m c.walk_longfile.ensures.looks.reads s3 in
    let t1 = c.in_ok-table.ensures.tests m s2 in
    let t2 = c.in_ok-longs.ensures.tests m s3 in
    let t3 = c.in_ok-walk_node.ensures.tests m s4 in
    let holds = c.in_ok-table.ensures.holds m [] s2 none in
    let roots = all_roots m r c.args.roots.now.bitmap _ _ _ _ _ refl (two_roots m r _ _ _ _ _ t1 t2) t3 in
    let named = c.in_ok-longs.ensures.names m _ s3 (t1.marks [] none) in
    let notes = noted_above m r _ _ _ refl (c.has_tail-tail.ensures m r.inodes holds) (c.in_ok-longs.ensures.nodes m s3) refl c.noted.ensures in
    let begins = begins_at m r _ _ _ none (all_above m r _ _ _ _ _ roots (c.in_ok-test_top.ensures.tests m r _ holds)) c.in_ok-listing.ensures.listed named notes c.in_ok-listing.ensures.next in
    let ends = (c.in_ok-walk_inodes.ensures.walked m r s holds begins).ends in
    record {
      none = ends.none;
      met = ends.met;
      inodes = holds;
      reached = λ n some there. ap (λ (set : Members). has set (n - 1)) c.into_listed.ensures ∙ ends.reached n some (omega (arith, there, c.walk_inodes.ensures.carries.listing.limit, c.in_ok-table.ensures.places));
      live = c.count.ensures.queued _ c.walk_inodes.ensures.carries.listing ∙ ends.live;
      notes = ends.notes;
      long = c.bad.ensures m c.args.roots.now.longfile ends.numbers (shown_size c.args.shape _ m s) ends.longs ∙ ends.named;
    }

pub returns-in_err-longs-clause-looks : goal.returns-in_err-longs-clause-looks
returns-in_err-longs-clause-looks g c =
    let shape = c.args.shape in
    let limit = first_limit shape c.in_ok-met.met c.walk_inode_tree.new.met c.in_ok-met.ensures c.walk_inode_tree.ensures.limit in
    let a1 = read_first shape c.in_ok-met.met c.walk_inode_tree.new.met (g.D.Dev.outside c.args.host.now) (g.D.Dev.outside c.walk_inode_tree.new.host) _ c.in_ok-table.ensures.looks in
    let a2 = read_next shape c.walk_inode_tree.new.met c.walk_longfile.new.met (count_of c.walk_inode_tree.new.met) (g.D.Dev.outside c.args.host.now) (g.D.Dev.outside c.walk_inode_tree.new.host) (g.D.Dev.outside c.walk_longfile.new.host) _ _ a1 c.in_err-longs.ensures.looks in
    let p = err_from_is_err_and c.from_residual-in_err-longs.result c.from_residual-in_err-longs.ensures.1 in
    rw (p.1, p.2) (read_halts shape c.walk_longfile.new.met (count_of c.walk_inode_tree.new.met) (g.D.Dev.outside c.args.host.now) (g.D.Dev.outside c.walk_longfile.new.host) c.in_err-longs.field-0.0 (c.walk_longfile.ensures.limit ∙ limit) (omega (arith, c.walk_longfile.ensures.more)) a2)

pub returns-in_err-walk_node-clause-looks : goal.returns-in_err-walk_node-clause-looks
returns-in_err-walk_node-clause-looks g c =
    let shape = c.args.shape in
    let limit = first_limit shape c.in_ok-met.met c.walk_inode_tree.new.met c.in_ok-met.ensures c.walk_inode_tree.ensures.limit in
    let a1 = read_first shape c.in_ok-met.met c.walk_inode_tree.new.met (g.D.Dev.outside c.args.host.now) (g.D.Dev.outside c.walk_inode_tree.new.host) _ c.in_ok-table.ensures.looks in
    let a2 = read_next shape c.walk_inode_tree.new.met c.walk_longfile.new.met (count_of c.walk_inode_tree.new.met) (g.D.Dev.outside c.args.host.now) (g.D.Dev.outside c.walk_inode_tree.new.host) (g.D.Dev.outside c.walk_longfile.new.host) _ _ a1 c.in_ok-longs.ensures.looks in
    let a3 = read_next shape c.walk_longfile.new.met c.walk_node.new.met (count_of c.walk_inode_tree.new.met) (g.D.Dev.outside c.args.host.now) (g.D.Dev.outside c.walk_longfile.new.host) (g.D.Dev.outside c.walk_node.new.host) _ _ a2 c.in_err-walk_node.ensures.follows.looks in
    let p = err_from_is_err_and c.from_residual-in_err-walk_node.result c.from_residual-in_err-walk_node.ensures.1 in
    rw (p.1, p.2) (read_halts shape c.walk_node.new.met (count_of c.walk_inode_tree.new.met) (g.D.Dev.outside c.args.host.now) (g.D.Dev.outside c.walk_node.new.host) c.in_err-walk_node.field-0.0 (c.walk_node.ensures.follows.limit ∙ c.walk_longfile.ensures.limit ∙ limit) (omega (arith, c.walk_longfile.ensures.more, c.walk_node.ensures.follows.more)) a3)

pub returns-in_err-test_top-clause-looks : goal.returns-in_err-test_top-clause-looks
returns-in_err-test_top-clause-looks g c =
    let shape = c.args.shape in
    let limit = first_limit shape c.in_ok-met.met c.walk_inode_tree.new.met c.in_ok-met.ensures c.walk_inode_tree.ensures.limit in
    let a1 = read_first shape c.in_ok-met.met c.walk_inode_tree.new.met (g.D.Dev.outside c.args.host.now) (g.D.Dev.outside c.walk_inode_tree.new.host) _ c.in_ok-table.ensures.looks in
    let a2 = read_next shape c.walk_inode_tree.new.met c.walk_longfile.new.met (count_of c.walk_inode_tree.new.met) (g.D.Dev.outside c.args.host.now) (g.D.Dev.outside c.walk_inode_tree.new.host) (g.D.Dev.outside c.walk_longfile.new.host) _ _ a1 c.in_ok-longs.ensures.looks in
    let a3 = read_next shape c.walk_longfile.new.met c.walk_node.new.met (count_of c.walk_inode_tree.new.met) (g.D.Dev.outside c.args.host.now) (g.D.Dev.outside c.walk_longfile.new.host) (g.D.Dev.outside c.walk_node.new.host) _ _ a2 c.in_ok-walk_node.ensures.follows.looks in
    let p = err_from_is_err_and c.from_residual-in_err-test_top.result c.from_residual-in_err-test_top.ensures.1 in
    rw (p.1, p.2) (read_other shape c.walk_node.new.met (count_of c.walk_inode_tree.new.met) (g.D.Dev.outside c.args.host.now) (g.D.Dev.outside c.walk_node.new.host) _ c.in_err-test_top.field-0.0 (c.walk_node.ensures.follows.limit ∙ c.walk_longfile.ensures.limit ∙ limit) (omega (arith, c.walk_longfile.ensures.more, c.walk_node.ensures.follows.more)) c.in_err-test_top.ensures.no_fault a3)

pub returns-in_err-listing-clause-looks : goal.returns-in_err-listing-clause-looks
returns-in_err-listing-clause-looks g c =
    let shape = c.args.shape in
    let limit = first_limit shape c.in_ok-met.met c.walk_inode_tree.new.met c.in_ok-met.ensures c.walk_inode_tree.ensures.limit in
    let a1 = read_first shape c.in_ok-met.met c.walk_inode_tree.new.met (g.D.Dev.outside c.args.host.now) (g.D.Dev.outside c.walk_inode_tree.new.host) _ c.in_ok-table.ensures.looks in
    let a2 = read_next shape c.walk_inode_tree.new.met c.walk_longfile.new.met (count_of c.walk_inode_tree.new.met) (g.D.Dev.outside c.args.host.now) (g.D.Dev.outside c.walk_inode_tree.new.host) (g.D.Dev.outside c.walk_longfile.new.host) _ _ a1 c.in_ok-longs.ensures.looks in
    let a3 = read_next shape c.walk_longfile.new.met c.walk_node.new.met (count_of c.walk_inode_tree.new.met) (g.D.Dev.outside c.args.host.now) (g.D.Dev.outside c.walk_longfile.new.host) (g.D.Dev.outside c.walk_node.new.host) _ _ a2 c.in_ok-walk_node.ensures.follows.looks in
    let p = err_from_is_err_and c.from_residual-in_err-listing.result c.from_residual-in_err-listing.ensures.1 in
    rw (p.1, p.2) (read_other shape c.walk_node.new.met (count_of c.walk_inode_tree.new.met) (g.D.Dev.outside c.args.host.now) (g.D.Dev.outside c.walk_node.new.host) _ c.in_err-listing.field-0.0 (c.walk_node.ensures.follows.limit ∙ c.walk_longfile.ensures.limit ∙ limit) (omega (arith, c.walk_longfile.ensures.more, c.walk_node.ensures.follows.more)) (no_memory c.in_err-listing.field-0.0 c.in_err-listing.ensures.no_fault) a3)

pub returns-in_err-walk_inodes-clause-looks : goal.returns-in_err-walk_inodes-clause-looks
returns-in_err-walk_inodes-clause-looks g c =
    let shape = c.args.shape in
    let a1 = read_first shape c.in_ok-met.met c.walk_inode_tree.new.met (g.D.Dev.outside c.args.host.now) (g.D.Dev.outside c.walk_inode_tree.new.host) _ c.in_ok-table.ensures.looks in
    let a2 = read_next shape c.walk_inode_tree.new.met c.walk_longfile.new.met (count_of c.walk_inode_tree.new.met) (g.D.Dev.outside c.args.host.now) (g.D.Dev.outside c.walk_inode_tree.new.host) (g.D.Dev.outside c.walk_longfile.new.host) _ _ a1 c.in_ok-longs.ensures.looks in
    let a3 = read_next shape c.walk_longfile.new.met c.walk_node.new.met (count_of c.walk_inode_tree.new.met) (g.D.Dev.outside c.args.host.now) (g.D.Dev.outside c.walk_longfile.new.host) (g.D.Dev.outside c.walk_node.new.host) _ _ a2 c.in_ok-walk_node.ensures.follows.looks in
    let p = err_from_is_err_and c.from_residual-in_err-walk_inodes.result c.from_residual-in_err-walk_inodes.ensures.1 in
    rw (p.1, p.2) (looks_err halts.Device 0 (tree_reads shape) 0 (tree_reads shape) (g.D.Dev.outside c.args.host.now) (g.D.Dev.outside c.walk_inodes.new.host) c.in_err-walk_inodes.field-0.0 (omega arith)
    (read_inodes shape c.in_ok-table.table _ c.walk_inodes.new.way _ c.walk_inodes.new.seen (count_of c.walk_inode_tree.new.met) c.args.roots.now.inodes (g.D.Dev.outside c.args.host.now) (g.D.Dev.outside c.walk_node.new.host) (g.D.Dev.outside c.walk_inodes.new.host) _ _ (omega (arith, c.walk_longfile.ensures.more, c.walk_node.ensures.follows.more)) c.in_ok-table.ensures.places c.in_ok-table.ensures.bounded a3 c.in_err-walk_inodes.ensures.carries))

pub returns-clause-looks : goal.returns-clause-looks
returns-clause-looks g c =
    let shape = c.args.shape in
    let a1 = read_first shape c.in_ok-met.met c.walk_inode_tree.new.met (g.D.Dev.outside c.args.host.now) (g.D.Dev.outside c.walk_inode_tree.new.host) _ c.in_ok-table.ensures.looks in
    let a2 = read_next shape c.walk_inode_tree.new.met c.walk_longfile.new.met (count_of c.walk_inode_tree.new.met) (g.D.Dev.outside c.args.host.now) (g.D.Dev.outside c.walk_inode_tree.new.host) (g.D.Dev.outside c.walk_longfile.new.host) _ _ a1 c.in_ok-longs.ensures.looks in
    let a3 = read_next shape c.walk_longfile.new.met c.walk_node.new.met (count_of c.walk_inode_tree.new.met) (g.D.Dev.outside c.args.host.now) (g.D.Dev.outside c.walk_longfile.new.host) (g.D.Dev.outside c.walk_node.new.host) _ _ a2 c.in_ok-walk_node.ensures.follows.looks in
    looks_ok halts.Device 0 (tree_reads shape) 0 (tree_reads shape) (g.D.Dev.outside c.args.host.now) (g.D.Dev.outside c.walk_inodes.new.host) _ _ (omega arith)
    (read_inodes shape c.in_ok-table.table _ c.walk_inodes.new.way _ c.walk_inodes.new.seen (count_of c.walk_inode_tree.new.met) c.args.roots.now.inodes (g.D.Dev.outside c.args.host.now) (g.D.Dev.outside c.walk_node.new.host) (g.D.Dev.outside c.walk_inodes.new.host) _ _ (omega (arith, c.walk_longfile.ensures.more, c.walk_node.ensures.follows.more)) c.in_ok-table.ensures.places c.in_ok-table.ensures.bounded a3 c.in_ok-walk_inodes.ensures.carries)

pub walk_inodes-requires-clause-underway : goal.walk_inodes-requires-clause-underway
walk_inodes-requires-clause-underway g c =
    let shape = c.args.shape in
    let limit = first_limit shape c.in_ok-met.met c.walk_inode_tree.new.met c.in_ok-met.ensures c.walk_inode_tree.ensures.limit in
    record {
      met = c.walk_node.ensures.follows.limit ∙ c.walk_longfile.ensures.limit ∙ limit;
      inside = c.in_ok-longs.ensures.inside;
      listing = subst (λ n. IsListing n c.in_ok-listing.listing) c.places.ensures c.in_ok-listing.ensures.listing;
      listed = lists_first (record { shape = shape; table = c.in_ok-table.table }) c.in_ok-listing.listing c.in_ok-listing.ensures.queue c.in_ok-test_top.ensures.directory c.in_ok-test_top.ensures.some;
      fits = fits_still shape (g.D.Dev.outside c.walk_longfile.new.host) (g.D.Dev.outside c.walk_node.new.host) c.walk_node.ensures.follows.looks.reads (fits_still shape (g.D.Dev.outside c.walk_inode_tree.new.host) (g.D.Dev.outside c.walk_longfile.new.host) c.walk_longfile.ensures.looks.reads (fits_still shape (g.D.Dev.outside c.args.host.now) (g.D.Dev.outside c.walk_inode_tree.new.host) c.walk_inode_tree.ensures.looks.reads c.requires.fits));
    }

pub returns-clause-bounds : goal.returns-clause-bounds
returns-clause-bounds g c =
    let shape = c.args.shape in
    let carries = c.walk_inodes.ensures.carries in
    let reached = c.into_listed.ensures in
    record {
      limits = record { blocks = carries.met; inodes = ap limit_of reached ∙ carries.listing.limit };
      places = c.in_ok-table.ensures.places;
      covered = c.in_ok-table.ensures.covers;
      inside = c.in_ok-table.ensures.bounded;
      some = c.in_ok-test_top.ensures.some;
      top = ap (λ (set : Members). has set 0) reached ∙ carries.listing.members 1 (omega arith) c.in_ok-test_top.ensures.some ∙ carries.listed.top;
      directory = c.in_ok-test_top.ensures.directory;
      nodes = λ n pos there is. reached_of (record { shape = shape; table = c.in_ok-table.table }) _ c.walk_inodes.new.seen.listing n carries.listing carries.listed c.in_ok-walk_inodes.ensures.reached pos there (sym (ap (λ (set : Members). has set (n - 1)) reached) ∙ is);
      longfile = c.in_ok-longs.ensures.reach;
      names = c.in_ok-longs.ensures.bounded;
    }
