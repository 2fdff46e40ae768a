use Rattle.std.proofs.Common.{sym, subst, ◌∙◌}
use Rattle.std.specs.Prelude.{IsTrue, suc, Ok}
use Rattle.qx_blocks.specs.BlockState.{BlockState}
use Rattle.qx_path.specs.Names.{names_in}
use Rattle.qx_ptree.proofs.KeptPlans.{told_before}
use Rattle.qx_model.specs.Paths.{walk}
use Rattle.qx_working.specs.Standing.{StandsForTree}
use Rattle.qx_resolve.specs.Answers.{last_of}
use Rattle.qx_resolve.specs.Walks.{Walks}
use Rattle.qx_resolve.specs.declared.walking.Walked.{Walked}
use Rattle.qx_resolve.specs.declared.walking.Walked.TheVariants as walks
use Rattle.qx_resolve.proofs.WalkedTurns.{jump_by, walk_behind}
use Rattle.qx_resolve.proofs.following.walk_on.Goals as goal

pub returns-in_ok-follow_link-in-Link-clause-turns : goal.returns-in_ok-follow_link-in-Link-clause-turns
returns-in_ok-follow_link-in-Link-clause-turns g c = λ told t stands links.
    let old : BlockState = g.B.Blocks.state c.args.blocks.now in
    let mid : BlockState = g.B.Blocks.state c.walk_names.new.blocks in
    let new : BlockState = g.B.Blocks.state c.follow_link.new.blocks in
    let told_mid : IsTrue mid.tells = told_before mid new c.follow_link.ensures.looks.keeps told in
    let there : StandsForTree mid c.args.state.now t = subst (λ (m : BlockState). StandsForTree m c.args.state.now t) (sym (c.walk_names.ensures.looks.keeps.told told_mid)) stands in
    let met : Walks t (jump_by links t (last_of c.args.last)) (Ok (walks.Link c.in-Link.directory c.in-Link.link c.in-Link.rest)) (walk (suc links) t (last_of c.args.last) c.args.from (names_in c.args.bytes.now))
    = subst (λ (l : Walked). Walks t (jump_by links t (last_of c.args.last)) (Ok l) (walk (suc links) t (last_of c.args.last) c.args.from (names_in c.args.bytes.now))) c.in-Link.is (c.in_ok-n.ensures.walked told_mid t stands (jump_by links t (last_of c.args.last))) in
    let next = c.in_ok-follow_link-in-Link.ensures.follows told t there met.0 met.1 in
    met.2 ∙ walk_behind links t (last_of c.args.last) c.in-Link.directory _ met.0 (names_in c.in-Link.rest.now) _ next.0 next.1 next.2 next.3
