use Rattle.std.proofs.Common.{rules, ◌≡◌, ◌∙◌, ◌≤◌, ◌+◌, ap, length, List, ℕ, arith, slice_range}
use Rattle.std.specs.Prelude.{IsTrue}
use Rattle.qx_nodes.specs.Content.{leaf_bytes}
use Rattle.qx_blocks.specs.BlockState.{BlockState}
use Rattle.qx_ptree.specs.Trees.{block_map}
use Rattle.qx_ptree.proofs.KeptPlans.{kept_again, told_before}
use Rattle.qx_file.proofs.PartBytes.{put_length, taken_length}
use Rattle.qx_file.proofs.ReadBytes.{read_next, rest_stays}
use Rattle.qx_file.proofs.bytes.read.Goals as goal

pub loop-index-preserved : goal.loop-index-preserved
loop-index-preserved g c =
    let m : BlockState = g.B.Blocks.state c.args.blocks.now in
    let mid : BlockState = g.B.Blocks.state c.loop-index.blocks in
    let new : BlockState = g.B.Blocks.state c.read_leaf.new.blocks in
    let p = c.piece_in-piece.result in
    let into : List ℕ = c.loop-index.into in
    let part : List ℕ = c.read_leaf.new.into in
    let room : p.from + p.count ≤ length into = omega (arith, c.piece_in-piece.ensures.within, c.min-count.ensures, c.loop-index.invariant.long) in
    let long : length part ≡ p.count = c.read_leaf.ensures.long ∙ taken_length into p.from p.count room in
    record {
      keeps = kept_again m mid new c.loop-index.invariant.keeps c.read_leaf.ensures.reads.keeps;
      bytes = λ told k low ends.
          let told_mid : IsTrue mid.tells = told_before mid new c.read_leaf.ensures.reads.keeps told in
          let is : part ≡ slice_range (leaf_bytes (block_map c.args.order mid) c.args.node.now c.loop-index.index) p.place (p.place + p.count) =
          c.in_ok-read_leaf.ensures.bytes told ∙ ap (λ n. slice_range (leaf_bytes (block_map c.args.order mid) c.args.node.now c.loop-index.index) p.place (p.place + n)) (taken_length into p.from p.count room) in
          let same : mid ≡ m = c.loop-index.invariant.keeps.told told_mid in
          read_next (block_map c.args.order m) c.args.node.now c.args.at c.min-count.result c.loop-index.index p.place p.from p.count into part
          (rw c.size-size.ensures.size at c.piece_in-piece.ensures.place) (rw c.size-size.ensures.size at c.piece_in-piece.ensures.from) (rw c.size-size.ensures.size at c.piece_in-piece.ensures.count)
          long room (is ∙ ap (λ (x : BlockState). slice_range (leaf_bytes (block_map c.args.order x) c.args.node.now c.loop-index.index) p.place (p.place + p.count)) same)
          (rw c.size-size.ensures.size at (c.loop-index.invariant.bytes told_mid)) k low (rw c.size-size.ensures.size at ends);
      rest = rest_stays into part p.from p.count c.min-count.result long c.piece_in-piece.ensures.within room ∙ c.loop-index.invariant.rest;
      long = put_length into part p.from p.count long room ∙ c.loop-index.invariant.long;
      aside = c.read_leaf.ensures.reads.others.aside ∙ c.loop-index.invariant.aside;
      faults = search (rules, c.read_leaf.ensures.reads.others.cause.kept, c.loop-index.invariant.faults);
    }
