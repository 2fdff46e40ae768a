use Rattle.std.proofs.Common.{◌≡◌, ◌%◌, ◌≤◌, length, sym, ◌∙◌, ap, arith}
use Rattle.qx_tables.proofs.LongLeaves.{bad_leaf, no_bad_leaf}
use Rattle.qx_tables.proofs.long_names.LongNames.bad.Goals as goal

pub returns-then-leaf-ne1 : goal.returns-then-leaf-ne1
returns-then-leaf-ne1 c = λ m longfile numbers size h.
    let whole : c.args.self.now.size % m.size ≡ 0 = ap (λ n. c.args.self.now.size % n) (size ∙ sym c.from.ensures) ∙ c.if-self-from-ne0.false in
    sym (bad_leaf m longfile numbers c.args.self.now c.deref-leaf-items.result.now c.loop-leaf.leaf-index _ c.deref-leaf-items.ensures.value h whole c.loop-leaf.invariant c.loop-leaf-test.true c.if-leaf-ne1.true)

pub returns : goal.returns
returns c = λ m longfile numbers size h.
    let whole : c.args.self.now.size % m.size ≡ 0 = ap (λ n. c.args.self.now.size % n) (size ∙ sym c.from.ensures) ∙ c.if-self-from-ne0.false in
    let past : length c.deref-leaf-items.result.now ≤ c.loop-leaf.leaf-index = c.loop-leaf-test.false in
    sym (no_bad_leaf m longfile numbers c.args.self.now c.deref-leaf-items.result.now c.deref-leaf-items.ensures.value h whole (λ k d from to. c.loop-leaf.invariant k d from (omega (arith, past, to))))
