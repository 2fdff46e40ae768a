use Rattle.std.proofs.Common.{rules, ◌≡◌, ℕ, ◌+◌, ◌*◌, ◌%◌, ◌<◌, ◌≤◌, inl, inr, List, length, get_or, take, sym, ◌∙◌, ap, subst, arith}
use Rattle.std.specs.Prelude.{Bool, Contains, Ok, Err}
use Rattle.std.proofs.lemmas.List.{take_all, take_more}
use Rattle.std.proofs.lemmas.List.Elements.{Contains-get_or, Contains-push_cases}
use Rattle.std.proofs.lemmas.Result.{err_from_is_err_and}
use Rattle.qx_geom.specs.Pointer.{per_block}
use Rattle.qx_nodes.specs.Content.{HasSize}
use Rattle.qx_walk.proofs.LeafDots.{has_first}
use Rattle.qx_tables.proofs.LeafLists.{leaf_listed}
use Rattle.qx_walk.proofs.LeafRecords.{block_sizes}
use Rattle.qx_walk.proofs.LeafWalks.{leaves_halt, leaves_more, records_of, records_present, split_at}
use Rattle.qx_walk.proofs.RowsInOrder.{kept_before, walks_all, walks_as, walks_none}
use Rattle.qx_pointers.proofs.ShownBlocks.{shown_size, shows_before}
use Rattle.qx_pointers.specs.declared.node.LeafPlace.{LeafPlace}
use Rattle.std.proofs.Math.Nat.{mul-le-mul_right}
use Rattle.qx_tables.proofs.FilledLeaves.{room_of}
use Rattle.qx_walk.proofs.StepsInOrder.{lists_ok, lists_then}
use Rattle.qx_walk.specs.Steps.{leaf_reads}
use Rattle.qx_walk.specs.Rows.{WalksThrough, begins_with_dots}
use Rattle.qx_walk.proofs.directory.walk_records.Goals.{then-leaf-eq0, else-leaf-eq0}
use Rattle.qx_walk.proofs.directory.walk_records.Goals as goal

-- no leaf
abbrev nowhere : LeafPlace
nowhere = record { index = 0; block = 0 }

-- a block of these sizes has room for pointers
has_room : (size block : ℕ) → size ≡ block → (block % 32 ≡ 0) × (512 ≤ block) × (block ≤ 4096) → 0 < per_block size
has_room size block e sizes = omega (arith, sizes)

pub loop-leaf-init : goal.loop-leaf-init
loop-leaf-init g c = record {
  walked = λ m r queue listed numbers s i n l a. walks_none m r c.args.directory.now (kept_before queue listed numbers) 0 _ (record { names = c.clear.ensures; listing = l; longs = n });
  dots = λ m p s a there front. absurd (omega (arith, there.1));
  lists = search (rules, arith);
}

pub loop-leaf-preserved : goal.loop-leaf-preserved
loop-leaf-preserved g c =
    let shape = c.args.ground.now.shape in
    let d = c.args.directory.now in
    let leaves : List LeafPlace = c.args.leaves.now in
    let k : ℕ = c.loop-leaf.leaf-index in
    let leaf : LeafPlace = get_or leaves k nowhere in
    let low : k < length leaves = c.loop-leaf-test.true in
    let sizes : (shape.blocksize % 32 ≡ 0) × (512 ≤ shape.blocksize) × (shape.blocksize ≤ 4096) = block_sizes shape.blocksize shape.sized in
    record {
      walked = λ m r queue listed numbers s i n l a.
          let at = leaf_listed m d.node leaves leaf (has_room m.size shape.blocksize (shown_size shape _ m s) sizes) a (Contains-get_or leaves k nowhere low) in
          let first = c.loop-leaf.invariant.walked m r queue listed numbers (shows_before shape (g.D.Dev.outside c.loop-leaf.host) (g.D.Dev.outside c.walk_leaf.new.host) m c.walk_leaf.ensures.lists.looks.reads s) i n l a in
          leaves_more m r d leaves k leaf (kept_before queue listed numbers) 0 (Ok 0) c.loop-leaf.seen c.walk_leaf.new.seen (take_more leaves k nowhere low) first
          (walks_as m r d _ _ c.in_ok-begins.begins 0 c.walk_leaf.new.seen (c.in_ok-begins.ensures.walked m r _ s i first.holds at));
      dots = λ m p s a there front.
          let at = leaf_listed m d.node leaves leaf (has_room m.size shape.blocksize (shown_size shape _ m s) sizes) a (Contains-get_or leaves k nowhere low) in
          let earlier : Contains (take k leaves) p → c.loop-leaf.dots ≡ begins_with_dots m d.node = λ before. c.loop-leaf.invariant.dots m p (shows_before shape (g.D.Dev.outside c.loop-leaf.host) (g.D.Dev.outside c.walk_leaf.new.host) m c.walk_leaf.ensures.lists.looks.reads s) a before front in
          elim c.if-leaf-eq0.branch [
            | then-leaf-eq0 w ↦ w.dots-is ∙ c.in_ok-begins.ensures.dots m s at w.if-leaf-eq0.true
            | else-leaf-eq0 w ↦
                let old : c.loop-leaf.dots ≡ begins_with_dots m d.node = elim (Contains-push_cases (take k leaves) leaf p (subst (λ z. Contains z p) (take_more leaves k nowhere low) there)) [
                  | inl before ↦ earlier before
                  | inr here ↦ absurd (w.if-leaf-eq0.false (ap (λ (q : LeafPlace). q.index) here ∙ front))
                ] in
                w.dots-is ∙ old
          ];
      lists = lists_then c.args.ground.now (k * leaf_reads shape) (leaf_reads shape) ((k + 1) * leaf_reads shape) c.args.seen.now c.loop-leaf.seen c.walk_leaf.new.seen (g.D.Dev.outside c.args.host.now) (g.D.Dev.outside c.loop-leaf.host) (g.D.Dev.outside c.walk_leaf.new.host) 0 (Ok 0) (room_of k (k + 1) (leaf_reads shape) (omega arith)) c.loop-leaf.invariant.lists
          (lists_ok c.args.ground.now (leaf_reads shape) (leaf_reads shape) c.loop-leaf.seen c.walk_leaf.new.seen (g.D.Dev.outside c.loop-leaf.host) (g.D.Dev.outside c.walk_leaf.new.host) c.in_ok-begins.begins 0 (omega arith) c.in_ok-begins.ensures.lists);
    }

pub returns-in_err-begins-clause-walked : goal.returns-in_err-begins-clause-walked
returns-in_err-begins-clause-walked g c = λ m r queue listed numbers s i n l a.
    let shape = c.args.ground.now.shape in
    let d = c.args.directory.now in
    let leaves : List LeafPlace = c.args.leaves.now in
    let k : ℕ = c.loop-leaf.leaf-index in
    let leaf : LeafPlace = get_or leaves k nowhere in
    let low : k < length leaves = c.loop-leaf-test.true in
    let size : m.size ≡ shape.blocksize = shown_size shape _ m s in
    let sizes : (shape.blocksize % 32 ≡ 0) × (512 ≤ shape.blocksize) × (shape.blocksize ≤ 4096) = block_sizes shape.blocksize shape.sized in
    let room : 0 < per_block m.size = has_room m.size shape.blocksize size sizes in
    let has : HasSize m = record { size = omega (arith, size, sizes); words = room } in
    let at = leaf_listed m d.node leaves leaf room a (Contains-get_or leaves k nowhere low) in
    let first = c.loop-leaf.invariant.walked m r queue listed numbers (shows_before shape (g.D.Dev.outside c.loop-leaf.host) (g.D.Dev.outside c.walk_leaf.new.host) m c.walk_leaf.ensures.lists.looks.reads s) i n l a in
    let p = err_from_is_err_and c.from_residual.result c.from_residual.ensures.1 in
    rw (p.1, p.2) (walks_all m r d queue listed numbers (Err c.in_err-begins.field-0.0) c.walk_leaf.new.seen has (subst (λ z. z % 32 ≡ 0) (sym size) sizes.0) a.fits
    (subst (λ ks. WalksThrough {T = Bool} m r d ks (kept_before queue listed numbers) (Err c.in_err-begins.field-0.0) c.walk_leaf.new.seen) (records_present m d.node leaves a)
    (leaves_halt m r d leaves k leaf (kept_before queue listed numbers) 0 c.in_err-begins.field-0.0 c.loop-leaf.seen c.walk_leaf.new.seen (split_at leaves k nowhere low) first
    (c.in_err-begins.ensures.walked m r _ s i first.holds at)))
    tt)

pub returns-in_err-begins-clause-lists : goal.returns-in_err-begins-clause-lists
returns-in_err-begins-clause-lists g c =
    let ground = c.args.ground.now in
    let k : ℕ = c.loop-leaf.leaf-index in
    let p = err_from_is_err_and c.from_residual.result c.from_residual.ensures.1 in
    rw (p.1, p.2) (lists_then ground (k * leaf_reads ground.shape) (leaf_reads ground.shape) _ c.args.seen.now c.loop-leaf.seen c.walk_leaf.new.seen (g.D.Dev.outside c.args.host.now) (g.D.Dev.outside c.loop-leaf.host) (g.D.Dev.outside c.walk_leaf.new.host) 0 (Err c.in_err-begins.field-0.0) (room_of k (length c.args.leaves.now) (leaf_reads ground.shape) c.loop-leaf-test.true) c.loop-leaf.invariant.lists c.in_err-begins.ensures.lists)

pub returns-clause-walked : goal.returns-clause-walked
returns-clause-walked g c = λ m r queue listed numbers s i n l a.
    let shape = c.args.ground.now.shape in
    let d = c.args.directory.now in
    let leaves : List LeafPlace = c.args.leaves.now in
    let k : ℕ = c.loop-leaf.leaf-index in
    let taken : take k leaves ≡ leaves = take_all k leaves c.loop-leaf-test.false in
    let size : m.size ≡ shape.blocksize = shown_size shape _ m s in
    let sizes : (shape.blocksize % 32 ≡ 0) × (512 ≤ shape.blocksize) × (shape.blocksize ≤ 4096) = block_sizes shape.blocksize shape.sized in
    let room : 0 < per_block m.size = has_room m.size shape.blocksize size sizes in
    let has : HasSize m = record { size = omega (arith, size, sizes); words = room } in
    walks_all m r d queue listed numbers (Ok c.loop-leaf.dots) c.loop-leaf.seen has (subst (λ z. z % 32 ≡ 0) (sym size) sizes.0) a.fits
    (subst (λ ks. WalksThrough {T = Bool} m r d ks (kept_before queue listed numbers) (Ok c.loop-leaf.dots) c.loop-leaf.seen) (ap (records_of m d) taken ∙ records_present m d.node leaves a)
    (walks_as m r d _ _ 0 c.loop-leaf.dots c.loop-leaf.seen (c.loop-leaf.invariant.walked m r queue listed numbers s i n l a)))
    (λ laid.
    let first : (p : LeafPlace) × Contains leaves p × (p.index ≡ 0) = has_first m shape d.node leaves room size a c.requires.placed laid in
    c.loop-leaf.invariant.dots m first.0 s a (subst (λ z. Contains z first.0) (sym taken) first.1) first.2)

pub returns-clause-lists : goal.returns-clause-lists
returns-clause-lists g c =
    let ground = c.args.ground.now in
    lists_ok ground (c.loop-leaf.leaf-index * leaf_reads ground.shape) _ c.args.seen.now c.loop-leaf.seen (g.D.Dev.outside c.args.host.now) (g.D.Dev.outside c.loop-leaf.host) 0 c.loop-leaf.dots (mul-le-mul_right (leaf_reads ground.shape) c.loop-leaf.auto.leaf-index-end) c.loop-leaf.invariant.lists
