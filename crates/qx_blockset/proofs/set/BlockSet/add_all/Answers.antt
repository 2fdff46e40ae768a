use Rattle.std.proofs.Common.{◌≡◌, ◌+◌, ◌/◌, length, sym, ◌∙◌, ap, arith}
use Rattle.qx_blockset.proofs.MembersInWords.{same-limit}
use Rattle.qx_blockset.proofs.SetUnion.{Unites, unites, ones-within, counted-united, view-united}
use Rattle.qx_blockset.proofs.set.BlockSet.add_all.Goals as goal

pub unite-requires-clause-long : goal.unite-requires-clause-long
unite-requires-clause-long c =
    let same : c.self.inside.limit ≡ c.other.inside.limit = same-limit c.self.inside c.other.inside c.args.self.now c.args.other.now c.self.view_is c.other.view_is c.requires in
    ap length c.deref.ensures.value ∙ c.other.invariant.words ∙ ap (λ n. (n + 63) / 64) (sym same) ∙ sym c.self.invariant.words ∙ sym (ap length c.deref_mut.ensures.value)

pub overflow_cast-self : goal.overflow_cast-self
overflow_cast-self c =
    let u : Unites c.self.inside c.other.inside c.args.self.now c.args.other.now c.unite.new.words
    = unites c.self.inside c.other.inside c.args.self.now c.args.other.now c.deref_mut.result.now c.deref.result.now c.unite.new.words
    c.self.invariant c.other.invariant c.self.view_is c.other.view_is c.requires c.deref_mut.ensures.value c.deref.ensures.value c.unite.auto.words c.unite.ensures.words c.unite.ensures.fit in
    omega (arith, ones-within c.self.inside c.other.inside c.args.self.now c.args.other.now c.unite.new.words u, c.unite.ensures.ones, c.self.ranges)

pub invariant_of-self : goal.invariant_of-self
invariant_of-self c =
    let u : Unites c.self.inside c.other.inside c.args.self.now c.args.other.now c.unite.new.words
    = unites c.self.inside c.other.inside c.args.self.now c.args.other.now c.deref_mut.result.now c.deref.result.now c.unite.new.words
    c.self.invariant c.other.invariant c.self.view_is c.other.view_is c.requires c.deref_mut.ensures.value c.deref.ensures.value c.unite.auto.words c.unite.ensures.words c.unite.ensures.fit in
    counted-united c.self.inside c.other.inside c.args.self.now c.args.other.now c.unite.new.words c.unite.result u c.unite.ensures.ones

pub returns : goal.returns
returns c =
    let u : Unites c.self.inside c.other.inside c.args.self.now c.args.other.now c.unite.new.words
    = unites c.self.inside c.other.inside c.args.self.now c.args.other.now c.deref_mut.result.now c.deref.result.now c.unite.new.words
    c.self.invariant c.other.invariant c.self.view_is c.other.view_is c.requires c.deref_mut.ensures.value c.deref.ensures.value c.unite.auto.words c.unite.ensures.words c.unite.ensures.fit in
    view-united c.self.inside c.other.inside c.args.self.now c.args.other.now c.unite.new.words c.unite.result u
