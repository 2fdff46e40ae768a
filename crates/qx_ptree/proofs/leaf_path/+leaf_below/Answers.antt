use Rattle.std.proofs.Common.{◌≡◌, ◌<◌, ◌^◌, ◌/◌, ◌-◌, ◌%◌, IsTrue, arith, subst, sym, ◌∙◌}
use Rattle.qx_blocks.specs.BlockState.{BlockState}
use Rattle.qx_geom.specs.Pointer.{per_block}
use Rattle.qx_nodes.specs.BlockMap.{word}
use Rattle.qx_ptree.specs.Trees.{block_map}
use Rattle.qx_ptree.proofs.PointerCounts.{power_fits, power_positive}
use Rattle.qx_ptree.proofs.WorkingPaths.{found_after, path_after, read_word, works_below}
use Rattle.qx_ptree.proofs.leaf_path.+leaf_below.Goals as goal

pub pow-requires : goal.pow-requires
pow-requires g t c =
    let fits : per_block (g.B.Blocks.state c.args.blocks.now).holdings.size ^ (c.args.level - 1) < 2 ^ 64 = power_fits _ (c.args.level - 1) c.size.ensures.consistent.size (omega (arith, c.requires.level)) in
    subst (λ k. (c.size.result / 4) ^ (k - 1) < 2 ^ 64) (sym c.from.ensures) (subst (λ n. (n / 4) ^ (c.args.level - 1) < 2 ^ 64) (sym c.size.ensures.size) fits)

pub nonzero_div-word : goal.nonzero_div-word
nonzero_div-word g t c =
    subst (λ n. 0 < n) (sym (c.pow.ensures ∙ (λ i. (c.size.ensures.size i / 4) ^ (c.from.ensures i - 1)))) (power_positive _ (c.args.level - 1) c.size.ensures.consistent.size)

pub leaf_below-requires : goal.leaf_below-requires
leaf_below-requires g t c κs within =
    let old : BlockState = g.B.Blocks.state c.args.blocks.now in
    let mid : BlockState = g.B.Blocks.state c.read.follows.lender-at-none in
    let bytes = rw c.in_ok-bytes.was at c.read.follows.holds-at-none.1 in
    let is : IsTrue mid.tells → c.get32-next.result ≡ word (block_map c.args.order old) c.args.pointer (c.args.index / per_block old.holdings.size ^ (c.args.level - 1) % per_block old.holdings.size) = λ told.
    read_word c.args.order old c.args.level c.args.pointer c.args.index c.get32-next.result c.size.result c.from.result c.pow.result c.in_ok-bytes.bytes.now c.size.ensures.size c.from.ensures c.pow.ensures (bytes told) c.get32-next.ensures in (
      omega (arith, c.decreases),
      (
        within,
        (
          omega (arith, c.requires.level),
          path_after c.args.order old mid c.args.level c.args.pointer c.args.index c.get32-next.result c.read.follows.holds-at-none.0.keeps c.if-level-eq0.false c.if-pointer-eq-ABSENT.false is c.requires.leads,
        ),
      ),
    )

pub returns-clause-found : goal.returns-clause-found
returns-clause-found g t c =
    let old : BlockState = g.B.Blocks.state c.args.blocks.now in
    let mid : BlockState = g.B.Blocks.state c.read.follows.lender-at-none in
    let bytes = rw c.in_ok-bytes.was at c.read.follows.holds-at-none.1 in
    let is : IsTrue mid.tells → c.get32-next.result ≡ word (block_map c.args.order old) c.args.pointer (c.args.index / per_block old.holdings.size ^ (c.args.level - 1) % per_block old.holdings.size) = λ told.
    read_word c.args.order old c.args.level c.args.pointer c.args.index c.get32-next.result c.size.result c.from.result c.pow.result c.in_ok-bytes.bytes.now c.size.ensures.size c.from.ensures c.pow.ensures (bytes told) c.get32-next.ensures in
    let works : IsTrue (old.holdings.works c.args.pointer) = cc (c.works.ensures.works, c.if-not-works.false) in
    found_after c.args.order old mid _ c.args.level c.args.pointer c.args.index c.get32-next.result c.leaf_below.result c.read.follows.holds-at-none.0.keeps c.leaf_below.ensures.reads.keeps
    c.if-level-eq0.false c.if-pointer-eq-ABSENT.false (works_below old c.args.pointer c.size.ensures.consistent works) is c.leaf_below.ensures.found
