use Rattle.std.proofs.Common.{rules, ◌≡◌, ℕ, ◌+◌, ◌-◌, ◌*◌, ◌/◌, ◌%◌, ◌<◌, ◌≤◌, sym, ◌∙◌, ap, subst, arith}
use Rattle.std.specs.Prelude.{Ok, Err, min}
use Rattle.std.specs.List.{range_with_len}
use Rattle.std.proofs.lemmas.Result.{err_from_is_err_and}
use Rattle.qx_nodes.specs.BlockMap.{BlockMap}
use Rattle.qx_records.specs.Slots.{raw_of_slot}
use Rattle.qx_walk.proofs.LeafDots.{leaf_dots}
use Rattle.qx_walk.proofs.LeafRecords.{block_sizes, names_some}
use Rattle.qx_walk.proofs.LeafWalks.{leaf_one, range_halts, range_more}
use Rattle.qx_walk.proofs.RowsInOrder.{walks_as, walks_none}
use Rattle.qx_pointers.proofs.ShownBlocks.{shown_size, shows_before}
use Rattle.qx_walk.proofs.StepsInOrder.{lists_err, lists_ok, lists_read, lists_then}
use Rattle.qx_walk.specs.Rows.{WalksThrough}
use Rattle.qx_walk.proofs.directory.walk_leaf.Goals as goal

-- how many records a leaf has, by the block size
abbrev count_at : ℕ → ℕ → ℕ → ℕ
count_at size index block = min (block / 32) (size / 32 - index * (block / 32))

pub walk_record-requires-clause-named : goal.walk_record-requires-clause-named
walk_record-requires-clause-named g c = names_some _ _ _ c.slot_at-slot.ensures.said

pub loop-place-init : goal.loop-place-init
loop-place-init g c = record {
  walked = λ m r kept s i h at. walks_none m r c.args.directory.now kept 0 c.args.seen.now h;
  lists = search (rules, arith);
}

pub loop-place-preserved : goal.loop-place-preserved
loop-place-preserved g c =
    let shape = c.args.ground.now.shape in
    let d = c.args.directory.now in
    let index : ℕ = c.args.leaf.index in
    let place : ℕ = c.loop-place.place in
    record {
      walked = λ m r kept s i h at.
          let size : m.size ≡ shape.blocksize = shown_size shape _ m s in
          let before = shows_before shape (g.D.Dev.outside c.loop-place.host) (g.D.Dev.outside c.walk_record.new.host) m c.walk_record.ensures.lists.looks.reads s in
          let low : place < shape.blocksize / 32 = omega (arith, c.loop-place-test.true, c.records_below-place-end.ensures) in
          let first = c.loop-place.invariant.walked m r kept before i h at in
          range_more m r d (index * (m.size / 32)) place kept 0 (Ok 0) c.loop-place.seen c.walk_record.new.seen first
          (walks_as m r d _ _ tt 0 c.walk_record.new.seen
          (leaf_one m r d index c.args.leaf.block place shape.order c.read_block.new.into (raw_of_slot c.slot_at-slot.result) _ (Ok tt) c.walk_record.new.seen
          (subst (λ z. z % 32 ≡ 0) (sym size) (block_sizes shape.blocksize shape.sized).0) at (subst (λ z. place < z / 32) (sym size) low)
          (sym (ap (λ (b : BlockMap). b.order) s.is))
          (c.in_ok-read_block.ensures.bytes m (shows_before shape (g.D.Dev.outside c.read_block.new.host) (g.D.Dev.outside c.loop-place.host) m c.loop-place.invariant.lists.looks.reads before))
          c.slot_at-slot.ensures.said
          (c.in_ok-walk_record.ensures.walked m r _ s i first.holds)));
      lists = lists_then c.args.ground.now place 1 (place + 1) c.args.seen.now c.loop-place.seen c.walk_record.new.seen (g.D.Dev.outside c.read_block.new.host) (g.D.Dev.outside c.loop-place.host) (g.D.Dev.outside c.walk_record.new.host) 0 (Ok 0) (omega arith) c.loop-place.invariant.lists
          (lists_ok c.args.ground.now 1 1 c.loop-place.seen c.walk_record.new.seen (g.D.Dev.outside c.loop-place.host) (g.D.Dev.outside c.walk_record.new.host) tt 0 (omega arith) c.in_ok-walk_record.ensures.lists);
    }

pub returns-in_err-walk_record-clause-walked : goal.returns-in_err-walk_record-clause-walked
returns-in_err-walk_record-clause-walked g c = λ m r kept s i h at.
    let shape = c.args.ground.now.shape in
    let d = c.args.directory.now in
    let index : ℕ = c.args.leaf.index in
    let place : ℕ = c.loop-place.place in
    let size : m.size ≡ shape.blocksize = shown_size shape _ m s in
    let before = shows_before shape (g.D.Dev.outside c.loop-place.host) (g.D.Dev.outside c.walk_record.new.host) m c.walk_record.ensures.lists.looks.reads s in
    let low : place < shape.blocksize / 32 = omega (arith, c.loop-place-test.true, c.records_below-place-end.ensures) in
    let below : place < count_at d.node.size index m.size = subst (λ z. place < count_at d.node.size index z) (sym size) (subst (λ z. place < z) c.records_below-place-end.ensures c.loop-place-test.true) in
    let first = c.loop-place.invariant.walked m r kept before i h at in
    let p = err_from_is_err_and c.from_residual-in_err-walk_record.result c.from_residual-in_err-walk_record.ensures.1 in
    rw (p.1, p.2) (range_halts m r d (index * (m.size / 32)) place (count_at d.node.size index m.size) kept 0 c.in_err-walk_record.field-0.0 c.loop-place.seen c.walk_record.new.seen below first
    (leaf_one m r d index c.args.leaf.block place shape.order c.read_block.new.into (raw_of_slot c.slot_at-slot.result) _ (Err c.in_err-walk_record.field-0.0) c.walk_record.new.seen
    (subst (λ z. z % 32 ≡ 0) (sym size) (block_sizes shape.blocksize shape.sized).0) at (subst (λ z. place < z / 32) (sym size) low)
    (sym (ap (λ (b : BlockMap). b.order) s.is))
    (c.in_ok-read_block.ensures.bytes m (shows_before shape (g.D.Dev.outside c.read_block.new.host) (g.D.Dev.outside c.loop-place.host) m c.loop-place.invariant.lists.looks.reads before))
    c.slot_at-slot.ensures.said
    (c.in_err-walk_record.ensures.walked m r _ s i first.holds)))

pub returns-in_err-walk_record-clause-lists : goal.returns-in_err-walk_record-clause-lists
returns-in_err-walk_record-clause-lists g c =
    let ground = c.args.ground.now in
    let place : ℕ = c.loop-place.place in
    let low : place < ground.shape.blocksize / 32 = omega (arith, c.loop-place-test.true, c.records_below-place-end.ensures) in
    let p = err_from_is_err_and c.from_residual-in_err-walk_record.result c.from_residual-in_err-walk_record.ensures.1 in
    rw (p.1, p.2) (lists_read ground (place + 1) _ c.args.seen.now c.walk_record.new.seen (g.D.Dev.outside c.args.host.now) (g.D.Dev.outside c.read_block.new.host) (g.D.Dev.outside c.walk_record.new.host) _ (Err c.in_err-walk_record.field-0.0) (omega (arith, low)) c.in_ok-read_block.ensures.looks
    (lists_then ground place 1 (place + 1) c.args.seen.now c.loop-place.seen c.walk_record.new.seen (g.D.Dev.outside c.read_block.new.host) (g.D.Dev.outside c.loop-place.host) (g.D.Dev.outside c.walk_record.new.host) 0 (Err c.in_err-walk_record.field-0.0) (omega arith) c.loop-place.invariant.lists
    (lists_err ground 1 1 c.loop-place.seen c.walk_record.new.seen (g.D.Dev.outside c.loop-place.host) (g.D.Dev.outside c.walk_record.new.host) c.in_err-walk_record.field-0.0 (omega arith) c.in_err-walk_record.ensures.lists)))

pub returns-clause-walked : goal.returns-clause-walked
returns-clause-walked g c = λ m r kept s i h at.
    let shape = c.args.ground.now.shape in
    let d = c.args.directory.now in
    let index : ℕ = c.args.leaf.index in
    let size : m.size ≡ shape.blocksize = shown_size shape _ m s in
    let ended : c.loop-place.place ≡ c.records_below-place-end.result = omega (arith, c.loop-place-test.false, c.loop-place.auto.place-end) in
    let all : c.loop-place.place ≡ count_at d.node.size index m.size = ended ∙ c.records_below-place-end.ensures ∙ ap (count_at d.node.size index) (sym size) in
    walks_as m r d _ kept 0 c.begins_with_dots.result c.loop-place.seen
    (subst (λ k. WalksThrough {T = ℕ} m r d (range_with_len (index * (m.size / 32)) k) kept (Ok 0) c.loop-place.seen) all (c.loop-place.invariant.walked m r kept s i h at))

pub returns-clause-dots : goal.returns-clause-dots
returns-clause-dots g c = λ m s at front.
    let shape = c.args.ground.now.shape in
    let size : m.size ≡ shape.blocksize = shown_size shape _ m s in
    let sizes : (shape.blocksize % 32 ≡ 0) × (512 ≤ shape.blocksize) × (shape.blocksize ≤ 4096) = block_sizes shape.blocksize shape.sized in
    let long : 64 ≤ shape.blocksize = omega (arith, sizes) in
    c.begins_with_dots.ensures
    ∙ leaf_dots m c.args.directory.now.node c.args.leaf.index c.args.leaf.block shape.order c.read_block.new.into (subst (λ z. z % 32 ≡ 0) (sym size) sizes.0) (subst (λ z. 64 ≤ z) (sym size) long) at front
    (sym (ap (λ (b : BlockMap). b.order) s.is))
    (c.in_ok-read_block.ensures.bytes m (shows_before shape (g.D.Dev.outside c.read_block.new.host) (g.D.Dev.outside c.loop-place.host) m c.loop-place.invariant.lists.looks.reads s))

pub returns-clause-lists : goal.returns-clause-lists
returns-clause-lists g c =
    let ground = c.args.ground.now in
    let ended : c.loop-place.place ≡ c.records_below-place-end.result = omega (arith, c.loop-place-test.false, c.loop-place.auto.place-end) in
    let few : c.loop-place.place ≤ ground.shape.blocksize / 32 = omega (arith, ended, c.records_below-place-end.ensures) in
    lists_read ground (ground.shape.blocksize / 32) _ c.args.seen.now c.loop-place.seen (g.D.Dev.outside c.args.host.now) (g.D.Dev.outside c.read_block.new.host) (g.D.Dev.outside c.loop-place.host) _ (Ok c.begins_with_dots.result) (omega arith) c.in_ok-read_block.ensures.looks
    (lists_ok ground c.loop-place.place (ground.shape.blocksize / 32) c.args.seen.now c.loop-place.seen (g.D.Dev.outside c.read_block.new.host) (g.D.Dev.outside c.loop-place.host) 0 c.begins_with_dots.result few c.loop-place.invariant.lists)
