use Rattle.std.proofs.Common.{rules, ◌≡◌, ℕ, List, ◌++◌, ◌*◌, ◌+◌, ◌<◌, length, drop, replicate, take, sym, refl, ◌∙◌, ap, subst, arith}
use Rattle.std.specs.Prelude.{true}
use Rattle.std.proofs.lemmas.List.{length-replicate, take_at}
use Rattle.qx_geom.proofs.BlockSizes.{BlockSizeBounds, block_size-bounds}
use Rattle.qx_geom.proofs.LevelCounts.{ceil_div-is}
use Rattle.qx_geom.specs.Layout.{is_block_size}
use Rattle.qx_geom.specs.Pointer.{ceil_div}
use Rattle.qx_nodes.specs.BlockMap.{BlockMap}
use Rattle.qx_nodes.specs.Content.{HasSize}
use Rattle.qx_nodes.specs.Leaves.{leaves_below}
use Rattle.qx_tables.proofs.FilledLeaves.{IsFilled, fill_none, fill_run, filled_all}
use Rattle.qx_tables.proofs.LeafLists.{listed_ascend}
use Rattle.qx_tables.proofs.LeafRuns.{run_blocks, run_room}
use Rattle.qx_pointers.proofs.ShownBlocks.{reads_then, shown_size, shows_before}
use Rattle.qx_pointers.specs.declared.node.LeafPlace.{LeafPlace}
use Rattle.qx_tables.specs.Tables.{IsApart, leaf_in, leaf_range}
use Rattle.qx_tables.proofs.table.InodeTable.read.Goals as goal

pub loop-at-init : goal.loop-at-init
loop-at-init g c =
    let zeros : c.in_ok-bytes.bytes.items ≡ replicate (c.div_ceil-count.result * c.args.shape.blocksize) 0 = c.in_ok-bytes.ensures.items_if_clones_equal (λ y e. e) ∙ ap (λ k. replicate (c.div_ceil-count.result * k) 0) c.from-blocksize.ensures in
    record {
      filled = λ m s up. fill_none m c.div_ceil-count.result c.args.leaves.now c.in_ok-bytes.bytes.items (zeros ∙ ap (λ k. replicate (c.div_ceil-count.result * k) 0) (sym (ap (λ (b : BlockMap). b.size) s.is)));
      long = ap (λ (l : List ℕ). length l) zeros ∙ length-replicate (c.div_ceil-count.result * c.args.shape.blocksize) 0;
      taken = omega arith;
      reads = search (rules, arith);
      faults = search rules;
    }

pub read_run-requires-clause-blocks : goal.read_run-requires-clause-blocks
read_run-requires-clause-blocks g c = run_blocks c.args.shape c.args.inodes.now c.args.leaves.now c.loop-at.at c.run_length-run.result c.requires.placed c.run_length-run.ensures.run

pub read_run-requires-clause-inside : goal.read_run-requires-clause-inside
read_run-requires-clause-inside g c =
    let bounds : BlockSizeBounds c.args.shape.blocksize = block_size-bounds c.args.shape.blocksize c.args.shape.sized in
    let count : c.div_ceil-count.result ≡ ceil_div c.args.inodes.now.size c.args.shape.blocksize
    = c.div_ceil-count.ensures ∙ ceil_div-is c.args.inodes.now.size c.from-blocksize.result (omega (arith, bounds.size_from, c.from-blocksize.ensures)) ∙ ap (ceil_div c.args.inodes.now.size) c.from-blocksize.ensures in
    let long : length c.deref_mut.result.now ≡ ceil_div c.args.inodes.now.size c.args.shape.blocksize * c.args.shape.blocksize
    = ap (λ (l : List ℕ). length l) c.deref_mut.ensures.value ∙ c.loop-at.invariant.long ∙ ap (λ n. n * c.args.shape.blocksize) count in
    omega (arith, long, run_room c.args.shape c.args.inodes.now c.args.leaves.now c.loop-at.at c.run_length-run.result c.requires.placed c.run_length-run.ensures.run)

pub loop-at-preserved : goal.loop-at-preserved
loop-at-preserved g c =
    let at : ℕ = c.loop-at.at in
    let run : ℕ = c.run_length-run.result in
    let leaves : List LeafPlace = c.args.leaves.now in
    let first : LeafPlace = leaf_in leaves at in
    let old : List ℕ = c.loop-at.bytes.items in
    let new : List ℕ = c.read_run.new.bytes in
    let value : c.deref_mut.result.now ≡ old = c.deref_mut.ensures.value in
    let long : length new ≡ length old = c.in_ok-read_run.ensures.long ∙ ap (λ (l : List ℕ). length l) value in
    let len : length new ≡ c.loop-at.bytes.len = c.in_ok-read_run.ensures.long ∙ c.deref_mut.ensures.len in
    let written : take c.loop-at.bytes.len (new ++ drop (length new) old) ≡ new = take_at new (drop (length new) old) c.loop-at.bytes.len len in
    record {
      filled = λ m s up.
          let size : m.size ≡ c.args.shape.blocksize = shown_size c.args.shape (g.D.Dev.outside c.read_run.new.host) m s in
          let before : IsFilled m c.div_ceil-count.result leaves at old = c.loop-at.invariant.filled m (shows_before c.args.shape _ _ m c.in_ok-read_run.ensures.looks.reads s) up in
          let here : (k : ℕ) → k < run → leaf_range m.size new (first.index + k) ≡ m.bytes (first.block + k)
          = λ k low. subst (λ n. leaf_range n new (first.index + k) ≡ m.bytes (first.block + k)) (sym size) (c.in_ok-read_run.ensures.leaves m s k low) in
          let others : (i : ℕ) → IsApart first.index run i → leaf_range m.size new i ≡ leaf_range m.size old i
          = λ i apart. subst (λ n. leaf_range n new i ≡ leaf_range n old i) (sym size) (c.in_ok-read_run.ensures.others i apart ∙ ap (λ (l : List ℕ). leaf_range c.args.shape.blocksize l i) value) in
          subst (λ (l : List ℕ). IsFilled m c.div_ceil-count.result leaves (at + run) l) (sym written)
          (fill_run m c.div_ceil-count.result leaves at run old new up c.run_length-run.ensures.run before here others);
      long = ap (λ (l : List ℕ). length l) written ∙ long ∙ c.loop-at.invariant.long;
      taken = c.run_length-run.ensures.run.inside;
      reads = reads_then 0 at 0 1 0 (at + run) _ _ _ (omega (arith, c.run_length-run.ensures.run.some)) c.loop-at.invariant.reads c.in_ok-read_run.ensures.looks.reads;
      faults = search (rules, c.in_ok-read_run.ensures.looks.cause.kept, c.loop-at.invariant.faults);
    }

pub returns-clause-holds : goal.returns-clause-holds
returns-clause-holds g c = λ m s a.
    let size : m.size ≡ c.args.shape.blocksize = ap (λ (b : BlockMap). b.size) s.is in
    let sized : is_block_size m.size ≡ true = ap is_block_size size ∙ c.args.shape.sized in
    let bounds : BlockSizeBounds m.size = block_size-bounds m.size sized in
    let room : HasSize m = record { size = omega (arith, bounds.size_from); words = omega (arith, bounds.pointers_from) } in
    let same : c.from-blocksize.result ≡ m.size = c.from-blocksize.ensures ∙ sym size in
    let count : c.div_ceil-count.result ≡ leaves_below m c.args.inodes.now
    = c.div_ceil-count.ensures ∙ ceil_div-is c.args.inodes.now.size c.from-blocksize.result (omega (arith, bounds.size_from, same)) ∙ ap (ceil_div c.args.inodes.now.size) same in
    let all : c.loop-at.at ≡ length c.args.leaves.now = omega (arith, c.loop-at.invariant.taken, c.loop-at-test.false) in
    let filled : IsFilled m (leaves_below m c.args.inodes.now) c.args.leaves.now (length c.args.leaves.now) c.loop-at.bytes.items
    = subst (λ n. IsFilled m n c.args.leaves.now (length c.args.leaves.now) c.loop-at.bytes.items) count (subst (λ k. IsFilled m c.div_ceil-count.result c.args.leaves.now k c.loop-at.bytes.items) all (c.loop-at.invariant.filled m s (listed_ascend m c.args.inodes.now c.args.leaves.now a))) in
    record {
      sized = sized;
      order = sym (ap (λ (b : BlockMap). b.order) s.is);
      size = refl;
      leaves = λ i low. filled_all m c.args.inodes.now c.args.leaves.now c.loop-at.bytes.items room a filled i low;
      long = c.loop-at.invariant.long ∙ ap (λ n. n * c.args.shape.blocksize) count ∙ ap (λ n. leaves_below m c.args.inodes.now * n) (sym size);
    }
