use Rattle.std.proofs.Common.{◌≡◌, ℕ, ◌-◌, List, length, min, sym, ◌∙◌, ap, subst, arith, inl, inr}
use Rattle.std.proofs.lemmas.List.{length-replicate}
use Rattle.std.specs.Prelude.{IsTrue, Some, None}
use Rattle.qx_geom.specs.declared.root.Root.{Root}
use Rattle.qx_blocks.specs.BlockState.{BlockState}
use Rattle.qx_ptree.proofs.KeptPlans.{told_before}
use Rattle.qx_ptree.specs.Trees.{block_map}
use Rattle.qx_nodes.specs.NodeContents.{bytes_in, node_content}
use Rattle.qx_working.proofs.LaidNodes.{levels_in}
use Rattle.qx_resolve.proofs.MeantEntries.{link_node}
use Rattle.qx_resolve.proofs.ReadTargets.{read_whole, written_whole}
use Rattle.qx_resolve.proofs.links.read_link.Goals as goal

pub returns-in_default-clause-stopped : goal.returns-in_default-clause-stopped
returns-in_default-clause-stopped g c = λ told t stands target link.
    let n = link_node (g.B.Blocks.state c.args.blocks.now) c.args.state.now t (stands.told told) c.args.link target link in
    absurd (let both : None ≡ Some n.0 = sym c.in_default.is ∙ c.node.ensures ∙ n.1 in cc)

pub returns-then-node-eq0-clause-stopped : goal.returns-then-node-eq0-clause-stopped
returns-then-node-eq0-clause-stopped g c = λ told t stands target link.
    let n = link_node (g.B.Blocks.state c.args.blocks.now) c.args.state.now t (stands.told told) c.args.link target link in
    let same : n.0 ≡ c.in-Some.node = (let both : Some n.0 ≡ Some c.in-Some.node = sym n.1 ∙ sym c.node.ensures ∙ c.in-Some.is in cc) in
    absurd (elim c.then-node-eq0.either [
      | inl none ↦ omega (arith, none, n.3, ap (λ (r : Root). r.size) same)
      | inr more ↦ omega (arith, more.1, n.4, ap (λ (r : Root). r.size) same)
    ])

pub returns-in-Ok-read-clause-target : goal.returns-in-Ok-read-clause-target
returns-in-Ok-read-clause-target g c = λ told t stands target link.
    let old : BlockState = g.B.Blocks.state c.args.blocks.now in
    let new : BlockState = g.B.Blocks.state c.read.new.blocks in
    let told_old : IsTrue old.tells = told_before old new c.read.ensures.reads.keeps told in
    let node : Root = c.in-Some.node in
    let order = c.args.state.now.order in
    let into : List ℕ = c.read.new.into in
    let n = link_node old c.args.state.now t (stands.told told_old) c.args.link target link in
    let same : n.0 ≡ node = (let both : Some n.0 ≡ Some node = sym n.1 ∙ sym c.node.ensures ∙ c.in-Some.is in cc) in
    let before : length c.deref_mut.result.now ≡ node.size = ap (λ (l : List ℕ). length l) (c.deref_mut.ensures.value ∙ c.in-Ok.ensures) ∙ length-replicate node.size 0 in
    let long : length into ≡ node.size = c.read.ensures.long ∙ before in
    let all : c.in-Ok-read.field-0 ≡ node.size = omega (arith, c.in-Ok-read.ensures.count, before) in
    let part = c.what_is_read_is_the_content.ensures order old node 0 c.in-Ok-read.field-0 into (c.in-Ok-read.ensures.count ∙ ap (λ k. min k (node.size - 0)) (sym c.read.ensures.long)) (c.in-Ok-read.ensures.bytes told) in
    written_whole c.in-Ok.target.len into c.in-Ok.target.items (omega (arith, c.in-Ok.target.ok.0, long, before, ap (λ (l : List ℕ). length l) c.deref_mut.ensures.value))
    ∙ read_whole order old node c.in-Ok-read.field-0 into long all part
    ∙ sym (subst (λ (r : Root). target ≡ bytes_in old.holdings.size (node_content (block_map order old) r)) same n.2)

pub read-requires-clause-levels : goal.read-requires-clause-levels
read-requires-clause-levels g c =
    let fit = levels_in c.in-Some.node.size c.in-Some.node.levels (g.B.Blocks.state c.args.blocks.now).holdings.size (c.requires.readable.bounded.levels c.args.link c.in-Some.node (sym c.node.ensures ∙ c.in-Some.is)) in
    record { most = fit.0; reached = fit.1 }
