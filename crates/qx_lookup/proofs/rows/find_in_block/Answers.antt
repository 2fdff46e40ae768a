use Rattle.std.proofs.Common.{rules, ◌≡◌, ℕ, ◌∙◌, Bool, true, false, List, sym, ap, subst}
use Rattle.std.specs.Prelude.{IsTrue}
use Rattle.qx_fields.specs.declared.order.Order.{Order}
use Rattle.qx_geom.specs.declared.root.Root.{Root}
use Rattle.qx_nodes.specs.LongNames.{long_name}
use Rattle.qx_blocks.specs.BlockState.{BlockState}
use Rattle.qx_blocks.specs.Calls.{Keeps}
use Rattle.qx_dir.specs.declared.block.Found.{Found}
use Rattle.qx_dir.specs.declared.block.Found.TheVariants as founds
use Rattle.qx_ptree.specs.Trees.{block_map}
use Rattle.qx_ptree.proofs.KeptPlans.{kept_again, told_before}
use Rattle.qx_lookup.specs.Rows.{IsFoundAs, IsFoundIn, is_name}
use Rattle.qx_lookup.proofs.FoundNames.{found_long, found_other}
use Rattle.qx_lookup.proofs.rows.find_in_block.Goals as goal

-- what was found, as seen from the blocks before
seen_found : (order : Order) (first mid : BlockState) (block : ℕ) (name : List ℕ) (from count : ℕ) (result found : Found) → mid ≡ first → result ≡ found → IsFoundAs order (mid.bytes block) name from count result
    → IsFoundAs order (first.bytes block) name from count found
seen_found order first mid block name from count result found kept is h =
    subst (λ (x : BlockState). IsFoundAs order (x.bytes block) name from count found) kept (subst (λ f. IsFoundAs order (mid.bytes block) name from count f) is h)

-- whether the long name is this one, as seen from there
seen_name : (order : Order) (first mid : BlockState) (longfile : Root) (number : ℕ) (name : List ℕ) (answer truth : Bool) → mid ≡ first → answer ≡ is_name name (long_name (block_map order mid) longfile number) → answer ≡ truth
    → is_name name (long_name (block_map order first) longfile number) ≡ truth
seen_name order first mid longfile number name answer truth kept same is = ap (λ x. is_name name (long_name (block_map order x) longfile number)) (sym kept) ∙ sym same ∙ is

pub returns-then-branch-clause-row : goal.returns-then-branch-clause-row
returns-then-branch-clause-row g c told =
    let first : BlockState = g.B.Blocks.state c.args.blocks.now in
    let mid : BlockState = g.B.Blocks.state c.loop-from.blocks in
    let read : BlockState = g.B.Blocks.state c.find_from.new.blocks in
    let told_read : IsTrue read.tells = told_before read (g.B.Blocks.state c.has_name.new.blocks) c.has_name.ensures.reads.keeps told in
    let told_mid : IsTrue mid.tells = told_before mid read c.find_from.ensures.reads.keeps told_read in
    let both : Keeps first read = kept_again first mid read c.loop-from.invariant.keeps c.find_from.ensures.reads.keeps in
    let at : IsFoundIn c.loop-from.from c.args.count (founds.Maybe c.in-Maybe.place c.in-Maybe.inode c.in-Maybe.number) = subst (λ f. IsFoundIn c.loop-from.from c.args.count f) c.in-Maybe.is c.in_ok-find_from.ensures.between in
    found_long c.args.order (long_name (block_map c.args.order first) c.args.longfile.now) (first.bytes c.args.block) c.args.name.now c.loop-from.from (c.loop-from.invariant.none told_mid) c.args.count c.in-Maybe.place c.in-Maybe.inode c.in-Maybe.number at.1
    (seen_found c.args.order first mid c.args.block c.args.name.now c.loop-from.from c.args.count c.in_ok-find_from.field-0 (founds.Maybe c.in-Maybe.place c.in-Maybe.inode c.in-Maybe.number) (c.loop-from.invariant.keeps.told told_mid) c.in-Maybe.is (c.in_ok-find_from.ensures.found told_read))
    (seen_name c.args.order first read c.args.longfile.now c.in-Maybe.number c.args.name.now c.in_ok-has_name-in-Maybe.field-0 true (both.told told_read) (c.in_ok-has_name-in-Maybe.ensures.same told) c.if-branch.true)

pub loop-from-preserved : goal.loop-from-preserved
loop-from-preserved g c =
    let first : BlockState = g.B.Blocks.state c.args.blocks.now in
    let mid : BlockState = g.B.Blocks.state c.loop-from.blocks in
    let read : BlockState = g.B.Blocks.state c.find_from.new.blocks in
    let both : Keeps first read = kept_again first mid read c.loop-from.invariant.keeps c.find_from.ensures.reads.keeps in
    record {
      none = λ told.
          let told_read : IsTrue read.tells = told_before read (g.B.Blocks.state c.has_name.new.blocks) c.has_name.ensures.reads.keeps told in
          let told_mid : IsTrue mid.tells = told_before mid read c.find_from.ensures.reads.keeps told_read in
          found_other c.args.order (long_name (block_map c.args.order first) c.args.longfile.now) (first.bytes c.args.block) c.args.name.now c.loop-from.from (c.loop-from.invariant.none told_mid) c.args.count c.in-Maybe.place c.in-Maybe.inode c.in-Maybe.number
          (seen_found c.args.order first mid c.args.block c.args.name.now c.loop-from.from c.args.count c.in_ok-find_from.field-0 (founds.Maybe c.in-Maybe.place c.in-Maybe.inode c.in-Maybe.number) (c.loop-from.invariant.keeps.told told_mid) c.in-Maybe.is (c.in_ok-find_from.ensures.found told_read))
          (seen_name c.args.order first read c.args.longfile.now c.in-Maybe.number c.args.name.now c.in_ok-has_name-in-Maybe.field-0 false (both.told told_read) (c.in_ok-has_name-in-Maybe.ensures.same told) c.if-branch.false);
      keeps = kept_again first read (g.B.Blocks.state c.has_name.new.blocks) both c.has_name.ensures.reads.keeps;
      aside = search rules;
      faults = search rules;
    }
