use Rattle.std.proofs.Common.{◌≡◌, ◌+◌, inl, inr, subst, ◌∙◌, arith}
use Rattle.std.specs.Prelude.{Some}
use Rattle.std.proofs.lemmas.Bool.{cases_lt}
use Rattle.qx_copies.specs.Copies.{node_in}
use Rattle.qx_working.specs.States.{copy_of}
use Rattle.qx_resolve.proofs.ReadableStates.{small_readable, small_some}
use Rattle.qx_resolve.proofs.tests.is_readable.Goals as goal

pub loop-k-preserved : goal.loop-k-preserved
loop-k-preserved g c = λ o node is from to. elim (cases_lt c.loop-k.k o) [
  | inl next ↦
      let here : o ≡ c.loop-k.k + 1 = omega (arith, next, to) in
      small_some c.node.result (c.is_small-in-loop-k.ensures c.if-not-is_small-2.false) node (c.node.ensures ∙ subst (λ n. node_in (copy_of c.args.state.now) n ≡ Some node) here is)
  | inr before ↦ c.loop-k.invariant o node is from before
]

pub returns : goal.returns
returns g c = λ yes.
    let long = c.is_small.ensures c.if-not-is_small.false in
    small_readable (g.B.Blocks.state c.args.blocks.now) c.args.state.now c.requires.size c.requires.quiet (record { levels = long.0; size = long.1; sixteen = long.2 })
    (λ o node is from to. c.loop-k.invariant o node is from (omega (arith, to, c.num_inodes-k-end.ensures, c.loop-k-test.false))) c.requires.places c.requires.order
