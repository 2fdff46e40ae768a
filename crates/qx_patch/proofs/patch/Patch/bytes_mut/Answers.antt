use Rattle.std.proofs.Common.{◌≡◌, false, true, Some, refl, sym, ap, ◌∙◌, arith}
use Rattle.std.specs.Prelude.{is_some}
use Rattle.qx_patch.proofs.OrderedEntries.{StandsAt, absent-from, edit_keeps, edit_view, get-there, stands-from}
use Rattle.qx_patch.proofs.patch.Patch.bytes_mut.Goals as goal

pub unreachable-requires : goal.unreachable-requires
unreachable-requires c =
    let none = absent-from c.self.inside c.args.self.now c.args.b c.self.inside.entries.items c.self.view_is refl c.in_default.ensures.absent in
    let both : false ≡ true = sym (ap is_some none) ∙ c.requires in
    cc

pub index_mut-entry-requires : goal.index_mut-entry-requires
index_mut-entry-requires c =
    let s : StandsAt c.self.inside c.args.self.now c.args.b c.in-Some.at
    = stands-from c.self.inside c.args.self.now c.args.b c.in-Some.at c.self.inside.entries.items c.self.invariant c.self.view_is refl c.in-Some.ensures.there in
    omega (arith, s.low, c.self.inside.entries.ok.0)

pub invariant_of-self-lent : goal.invariant_of-self-lent
invariant_of-self-lent c =
    let s : StandsAt c.self.inside c.args.self.now c.args.b c.in-Some.at
    = stands-from c.self.inside c.args.self.now c.args.b c.in-Some.at c.self.inside.entries.items c.self.invariant c.self.view_is refl c.in-Some.ensures.there in
    edit_keeps c.self.inside c.args.self.now c.args.b c.in-Some.at c.index_mut-entry.result.now s c.index_mut-entry.ensures.value

pub returns : goal.returns
returns c =
    let s : StandsAt c.self.inside c.args.self.now c.args.b c.in-Some.at
    = stands-from c.self.inside c.args.self.now c.args.b c.in-Some.at c.self.inside.entries.items c.self.invariant c.self.view_is refl c.in-Some.ensures.there in (
      (refl, edit_view c.self.inside c.args.self.now c.args.b c.in-Some.at c.index_mut-entry.result.now s c.index_mut-entry.ensures.value),
      record {
        bytes = get-there c.self.inside c.args.self.now c.args.b c.in-Some.at c.index_mut-entry.result.now s c.index_mut-entry.ensures.value ∙ ap (λ bytes. Some bytes) (sym c.as_mut_slice.ensures.value);
        edited = tt;
      },
    )
