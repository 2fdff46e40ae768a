use Rattle.std.proofs.Common.{refl, Some, sym, ap, ◌∙◌}
use Rattle.std.specs.Option.{option_copied}
use Rattle.qx_patch.proofs.OrderedEntries.{StandsAt, absent-from, get-there, stands-from}
use Rattle.qx_patch.proofs.patch.Patch.get.Goals as goal

pub returns-in_err-at : goal.returns-in_err-at
returns-in_err-at c =
    ap option_copied c.from_residual.ensures
    ∙ sym (absent-from c.self.inside c.args.self.now c.args.b c.self.inside.entries.items c.self.view_is refl c.in_err-at.ensures.absent)

pub returns : goal.returns
returns c =
    let s : StandsAt c.self.inside c.args.self.now c.args.b c.in_ok-at.at
    = stands-from c.self.inside c.args.self.now c.args.b c.in_ok-at.at c.self.inside.entries.items c.self.invariant c.self.view_is refl c.in_ok-at.ensures.there in
    ap (λ bytes. Some bytes) c.as_slice.ensures.value
    ∙ sym (get-there c.self.inside c.args.self.now c.args.b c.in_ok-at.at c.index-entry.result.now s c.index-entry.ensures)
