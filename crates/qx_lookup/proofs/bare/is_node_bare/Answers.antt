use Rattle.std.proofs.Common.{refl, rules, ◌≡◌, ◌<◌, ◌^◌, true, false, IsTrue, arith, subst, sym}
use Rattle.std.specs.Prelude.{IfSome, None, Some}
use Rattle.qx_geom.specs.Pointer.{ceil_div}
use Rattle.qx_nodes.specs.BlockMap.{BlockMap}
use Rattle.qx_blocks.specs.BlockState.{BlockState}
use Rattle.qx_blocks.specs.Calls.{Keeps}
use Rattle.qx_ptree.specs.declared.present.Leaf.{Leaf}
use Rattle.qx_ptree.specs.Trees.{block_map}
use Rattle.qx_ptree.proofs.KeptPlans.{kept_again, told_before}
use Rattle.qx_lookup.specs.Links.{says_link}
use Rattle.qx_lookup.proofs.BareRecords.{link_in_leaf, no_link_in_leaf, seen_bare}
use Rattle.qx_lookup.proofs.DirectoryRecords.{NoneBefore, none_behind, none_up_to, reaches, seen_next}
use Rattle.qx_lookup.proofs.LeafRecords.{leaf_few}
use Rattle.qx_lookup.proofs.bare.is_node_bare.Goals as goal

pub is_leaf_bare-requires-clause-held : goal.is_leaf_bare-requires-clause-held
is_leaf_bare-requires-clause-held g c =
    let first : BlockState = g.B.Blocks.state c.args.blocks.now in
    let mid : BlockState = g.B.Blocks.state c.loop-leaf.blocks in
    let read : BlockState = g.B.Blocks.state c.next_present.new.blocks in
    let both : Keeps first read = kept_again first mid read c.loop-leaf.invariant.keeps c.in_ok-leaf.ensures.reads.keeps in
    let works : IsTrue (mid.holdings.works c.in-Some.leaf.block) = subst (λ f. IfSome f (λ (leaf : Leaf). IsTrue (mid.holdings.works leaf.block))) c.in-Some.is c.in_ok-leaf.ensures.held in
    subst (λ h. IsTrue (h.held c.in-Some.leaf.block)) (sym both.holdings)
    (c.size-size.ensures.consistent.works_held c.in-Some.leaf.block (subst (λ h. IsTrue (h.works c.in-Some.leaf.block)) c.loop-leaf.invariant.keeps.holdings works))

pub returns-then-not-branch-clause-bare : goal.returns-then-not-branch-clause-bare
returns-then-not-branch-clause-bare g c told =
    let first : BlockState = g.B.Blocks.state c.args.blocks.now in
    let mid : BlockState = g.B.Blocks.state c.loop-leaf.blocks in
    let read : BlockState = g.B.Blocks.state c.next_present.new.blocks in
    let told_read : IsTrue read.tells = told_before read (g.B.Blocks.state c.is_leaf_bare.new.blocks) c.in_ok-is_leaf_bare.ensures.reads.keeps told in
    let both : Keeps first read = kept_again first mid read c.loop-leaf.invariant.keeps c.in_ok-leaf.ensures.reads.keeps in
    let other : c.in_ok-is_leaf_bare.field-0 ≡ false = search rules in
    link_in_leaf (block_map c.args.order first) c.args.longfile.now c.args.node.now c.in-Some.leaf.index
    (seen_bare c.args.order first read c.args.longfile.now c.args.node.now c.in-Some.leaf.index c.in_ok-is_leaf_bare.field-0 false (both.told told_read) other (c.in_ok-is_leaf_bare.ensures.bare told))

pub overflow_add-from : goal.overflow_add-from
overflow_add-from g c =
    let first : BlockState = g.B.Blocks.state c.args.blocks.now in
    let mid : BlockState = g.B.Blocks.state c.loop-leaf.blocks in
    let low : c.in-Some.leaf.index < ceil_div c.args.node.now.size mid.holdings.size = (subst (λ f. IfSome f (λ (leaf : Leaf). leaf.index < ceil_div c.args.node.now.size mid.holdings.size)) c.in-Some.is (search (rules, c.in_ok-leaf.ensures.bounds))) in
    let few : c.in-Some.leaf.index < 2 ^ 54 = leaf_few first.holdings.size c.in-Some.leaf.index c.args.node.now c.size-size.ensures.consistent.size c.requires.levels
    (subst (λ h. c.in-Some.leaf.index < ceil_div c.args.node.now.size h.size) c.loop-leaf.invariant.keeps.holdings low) in
    omega (arith, few)

pub loop-leaf-preserved : goal.loop-leaf-preserved
loop-leaf-preserved g c =
    let first : BlockState = g.B.Blocks.state c.args.blocks.now in
    let mid : BlockState = g.B.Blocks.state c.loop-leaf.blocks in
    let read : BlockState = g.B.Blocks.state c.next_present.new.blocks in
    let new : BlockState = g.B.Blocks.state c.is_leaf_bare.new.blocks in
    let both : Keeps first read = kept_again first mid read c.loop-leaf.invariant.keeps c.in_ok-leaf.ensures.reads.keeps in
    let t : BlockMap = block_map c.args.order first in
    let bare : c.in_ok-is_leaf_bare.field-0 ≡ true = search rules in
    record {
      none = λ told.
          let told_read : IsTrue read.tells = told_before read new c.in_ok-is_leaf_bare.ensures.reads.keeps told in
          let told_mid : IsTrue mid.tells = told_before mid read c.in_ok-leaf.ensures.reads.keeps told_read in
          let before : NoneBefore t c.args.longfile.now c.args.node.now says_link c.in-Some.leaf.index = none_up_to t c.args.longfile.now c.args.node.now says_link refl c.loop-leaf.from c.size-size.ensures.consistent.size
          (reaches c.args.order first c.args.node.now c.size-size.ensures.consistent.size c.requires.levels) (c.loop-leaf.invariant.none told_mid) c.in-Some.leaf
          (seen_next c.args.order first mid c.args.node.now c.loop-leaf.from c.in_ok-leaf.field-0 (Some c.in-Some.leaf) (c.loop-leaf.invariant.keeps.told told_mid) c.in-Some.is (c.in_ok-leaf.ensures.found told_read)) in
          no_link_in_leaf t c.args.longfile.now c.args.node.now c.in-Some.leaf.index before
          (seen_bare c.args.order first read c.args.longfile.now c.args.node.now c.in-Some.leaf.index c.in_ok-is_leaf_bare.field-0 true (both.told told_read) bare (c.in_ok-is_leaf_bare.ensures.bare told));
      keeps = kept_again first read new both c.in_ok-is_leaf_bare.ensures.reads.keeps;
      aside = search rules;
      faults = search rules;
    }

pub returns-clause-bare : goal.returns-clause-bare
returns-clause-bare g c told k least low =
    let first : BlockState = g.B.Blocks.state c.args.blocks.now in
    let mid : BlockState = g.B.Blocks.state c.loop-leaf.blocks in
    let read : BlockState = g.B.Blocks.state c.next_present.new.blocks in
    let told_mid : IsTrue mid.tells = told_before mid read c.in_ok-leaf.ensures.reads.keeps told in
    none_behind (block_map c.args.order first) c.args.longfile.now c.args.node.now says_link refl c.loop-leaf.from c.size-size.ensures.consistent.size
    (reaches c.args.order first c.args.node.now c.size-size.ensures.consistent.size c.requires.levels) (c.loop-leaf.invariant.none told_mid)
    (seen_next c.args.order first mid c.args.node.now c.loop-leaf.from c.in_ok-leaf.field-0 None (c.loop-leaf.invariant.keeps.told told_mid) c.in_default.is (c.in_ok-leaf.ensures.found told)) k low
