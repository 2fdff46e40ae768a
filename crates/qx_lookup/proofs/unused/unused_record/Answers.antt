use Rattle.std.proofs.Common.{rules, ◌≡◌, ◌<◌, ◌*◌, ◌/◌, ◌^◌, true, false, IsTrue, arith, subst, sym}
use Rattle.std.specs.Prelude.{IfSome, None, Some, is_some}
use Rattle.qx_geom.specs.Pointer.{ceil_div}
use Rattle.qx_nodes.specs.BlockMap.{BlockMap}
use Rattle.qx_blocks.specs.BlockState.{BlockState}
use Rattle.qx_blocks.specs.Calls.{Keeps}
use Rattle.qx_ptree.specs.declared.present.Leaf.{Leaf}
use Rattle.qx_ptree.specs.Present.{IsNextPresent}
use Rattle.qx_ptree.specs.Trees.{block_map}
use Rattle.qx_ptree.proofs.KeptPlans.{kept_again, told_before}
use Rattle.qx_lookup.specs.UnusedRecords.{IsFirstOf, says_unused}
use Rattle.qx_lookup.proofs.DirectoryRecords.{NoneBefore, reaches, seen_next}
use Rattle.qx_lookup.proofs.FreeRecords.{found_unused, hole_first, no_hole, no_unused, seen_unused, unused_at}
use Rattle.qx_lookup.proofs.LeafRecords.{hole_low, leaf_few}
use Rattle.qx_lookup.proofs.unused.unused_record.Goals as goal

pub unused_in_leaf-requires-clause-held : goal.unused_in_leaf-requires-clause-held
unused_in_leaf-requires-clause-held g c =
    let first : BlockState = g.B.Blocks.state c.args.blocks.now in
    let mid : BlockState = g.B.Blocks.state c.loop-leaf.blocks in
    let read : BlockState = g.B.Blocks.state c.next_present.new.blocks in
    let both : Keeps first read = kept_again first mid read c.loop-leaf.invariant.keeps c.in_ok-leaf.ensures.reads.keeps in
    let works : IsTrue (mid.holdings.works c.in-Some.leaf.block) = subst (λ f. IfSome f (λ (leaf : Leaf). IsTrue (mid.holdings.works leaf.block))) c.in-Some.is c.in_ok-leaf.ensures.held in
    subst (λ h. IsTrue (h.held c.in-Some.leaf.block)) (sym both.holdings)
    (c.size.ensures.consistent.works_held c.in-Some.leaf.block (subst (λ h. IsTrue (h.works c.in-Some.leaf.block)) c.loop-leaf.invariant.keeps.holdings works))

pub returns-then-from-leaf-clause-unused : goal.returns-then-from-leaf-clause-unused
returns-then-from-leaf-clause-unused g c told longfile =
    let first : BlockState = g.B.Blocks.state c.args.blocks.now in
    let mid : BlockState = g.B.Blocks.state c.loop-leaf.blocks in
    let read : BlockState = g.B.Blocks.state c.next_present.new.blocks in
    let t : BlockMap = block_map c.args.order first in
    let told_mid : IsTrue mid.tells = told_before mid read c.in_ok-leaf.ensures.reads.keeps told in
    let low_mid : c.in-Some.leaf.index < ceil_div c.args.node.now.size mid.holdings.size = (subst (λ f. IfSome f (λ (leaf : Leaf). leaf.index < ceil_div c.args.node.now.size mid.holdings.size)) c.in-Some.is (search (rules, c.in_ok-leaf.ensures.bounds))) in
    let below : c.in-Some.leaf.index < ceil_div c.args.node.now.size first.holdings.size = subst (λ h. c.in-Some.leaf.index < ceil_div c.args.node.now.size h.size) c.loop-leaf.invariant.keeps.holdings low_mid in
    let before : c.loop-leaf.from < c.in-Some.leaf.index = omega (arith, c.if-from-leaf.true) in
    let next : IsNextPresent t c.args.node.now c.loop-leaf.from (Some c.in-Some.leaf) = seen_next c.args.order first mid c.args.node.now c.loop-leaf.from c.in_ok-leaf.field-0 (Some c.in-Some.leaf) (c.loop-leaf.invariant.keeps.told told_mid) c.in-Some.is (c.in_ok-leaf.ensures.found told) in
    subst (λ n. IsFirstOf (unused_at t longfile c.args.node.now) 0 (c.args.node.now.size / 32) (Some (c.loop-leaf.from * (n / 32)))) (sym c.size.ensures.size)
    (hole_first t longfile c.args.node.now c.loop-leaf.from c.size.ensures.consistent.size (reaches c.args.order first c.args.node.now c.size.ensures.consistent.size c.requires.levels) (c.loop-leaf.invariant.none told_mid longfile)
    (next.1 c.loop-leaf.from (omega arith) before) (hole_low first.holdings.size c.args.node.now.size c.loop-leaf.from c.in-Some.leaf.index c.size.ensures.consistent.size below before))

pub returns-then-is_some-clause-unused : goal.returns-then-is_some-clause-unused
returns-then-is_some-clause-unused g c told longfile =
    let first : BlockState = g.B.Blocks.state c.args.blocks.now in
    let mid : BlockState = g.B.Blocks.state c.loop-leaf.blocks in
    let read : BlockState = g.B.Blocks.state c.next_present.new.blocks in
    let t : BlockMap = block_map c.args.order first in
    let told_read : IsTrue read.tells = told_before read (g.B.Blocks.state c.unused_in_leaf.new.blocks) c.in_ok-found.ensures.reads.keeps told in
    let told_mid : IsTrue mid.tells = told_before mid read c.in_ok-leaf.ensures.reads.keeps told_read in
    let both : Keeps first read = kept_again first mid read c.loop-leaf.invariant.keeps c.in_ok-leaf.ensures.reads.keeps in
    let some : is_some c.in_ok-found.found ≡ true = search rules in
    let before : NoneBefore t longfile c.args.node.now says_unused c.in-Some.leaf.index = no_hole t longfile c.args.node.now c.loop-leaf.from c.in-Some.leaf.index (omega (arith, c.if-from-leaf.false)) (c.loop-leaf.invariant.none told_mid longfile) in
    found_unused t longfile c.args.node.now c.in-Some.leaf.index c.in_ok-found.found some before
    (seen_unused c.args.order first read longfile c.args.node.now c.in-Some.leaf.index c.in_ok-found.found (both.told told_read) (c.in_ok-found.ensures.unused told longfile))

pub loop-leaf-preserved : goal.loop-leaf-preserved
loop-leaf-preserved g c =
    let first : BlockState = g.B.Blocks.state c.args.blocks.now in
    let mid : BlockState = g.B.Blocks.state c.loop-leaf.blocks in
    let read : BlockState = g.B.Blocks.state c.next_present.new.blocks in
    let t : BlockMap = block_map c.args.order first in
    let new : BlockState = g.B.Blocks.state c.unused_in_leaf.new.blocks in
    let both : Keeps first read = kept_again first mid read c.loop-leaf.invariant.keeps c.in_ok-leaf.ensures.reads.keeps in
    let no_one : is_some c.in_ok-found.found ≡ false = search rules in
    let low_mid : c.in-Some.leaf.index < ceil_div c.args.node.now.size mid.holdings.size = (subst (λ f. IfSome f (λ (leaf : Leaf). leaf.index < ceil_div c.args.node.now.size mid.holdings.size)) c.in-Some.is (search (rules, c.in_ok-leaf.ensures.bounds))) in
    let below : c.in-Some.leaf.index < ceil_div c.args.node.now.size first.holdings.size = subst (λ h. c.in-Some.leaf.index < ceil_div c.args.node.now.size h.size) c.loop-leaf.invariant.keeps.holdings low_mid in
    let few : c.in-Some.leaf.index < 2 ^ 54 = leaf_few first.holdings.size c.in-Some.leaf.index c.args.node.now c.size.ensures.consistent.size c.requires.levels below in
    record {
      none = λ told longfile.
          let told_read : IsTrue read.tells = told_before read new c.in_ok-found.ensures.reads.keeps told in
          let told_mid : IsTrue mid.tells = told_before mid read c.in_ok-leaf.ensures.reads.keeps told_read in
          let before : NoneBefore t longfile c.args.node.now says_unused c.in-Some.leaf.index = no_hole t longfile c.args.node.now c.loop-leaf.from c.in-Some.leaf.index (omega (arith, c.if-from-leaf.false)) (c.loop-leaf.invariant.none told_mid longfile) in
          no_unused t longfile c.args.node.now c.in-Some.leaf.index c.in_ok-found.found no_one before
          (seen_unused c.args.order first read longfile c.args.node.now c.in-Some.leaf.index c.in_ok-found.found (both.told told_read) (c.in_ok-found.ensures.unused told longfile));
      few = omega (arith, few);
      keeps = kept_again first read new both c.in_ok-found.ensures.reads.keeps;
      aside = search rules;
      faults = search rules;
    }

pub returns-then-place-node-clause-unused : goal.returns-then-place-node-clause-unused
returns-then-place-node-clause-unused g c told longfile =
    let first : BlockState = g.B.Blocks.state c.args.blocks.now in
    let mid : BlockState = g.B.Blocks.state c.loop-leaf.blocks in
    let read : BlockState = g.B.Blocks.state c.next_present.new.blocks in
    let t : BlockMap = block_map c.args.order first in
    let told_mid : IsTrue mid.tells = told_before mid read c.in_ok-leaf.ensures.reads.keeps told in
    let next : IsNextPresent t c.args.node.now c.loop-leaf.from None = seen_next c.args.order first mid c.args.node.now c.loop-leaf.from c.in_ok-leaf.field-0 None (c.loop-leaf.invariant.keeps.told told_mid) c.in_default.is (c.in_ok-leaf.ensures.found told) in
    let low : c.loop-leaf.from * (c.size.result / 32) < c.args.node.now.size / 32 = omega (arith, c.if-place-node.true) in
    subst (λ n. IsFirstOf (unused_at t longfile c.args.node.now) 0 (c.args.node.now.size / 32) (Some (c.loop-leaf.from * (n / 32)))) (sym c.size.ensures.size)
    (hole_first t longfile c.args.node.now c.loop-leaf.from c.size.ensures.consistent.size (reaches c.args.order first c.args.node.now c.size.ensures.consistent.size c.requires.levels) (c.loop-leaf.invariant.none told_mid longfile)
    (next c.loop-leaf.from (omega arith)) (subst (λ n. c.loop-leaf.from * (n / 32) < c.args.node.now.size / 32) c.size.ensures.size low))
