use Rattle.std.proofs.Common.{refl, ◌≡◌, ◌≢◌, ℕ, ◌<◌, List, length, get_or, Option, None, Some, IfSome, IfNone, sym, ap, ◌∙◌}
use Rattle.std.specs.Prelude.{is_some}
use Rattle.std.specs.FinMap.{get}
use Rattle.qx_patch.specs.declared.patch.Entry.{Entry}
use Rattle.qx_patch.specs.declared.patch.Patch.TheInside.{Inside}
use Rattle.qx_patch.specs.PatchState.{PatchState}
use Rattle.qx_patch.specs.PatchView.{IsInOrder, numbers_of, patch_in}
use Rattle.qx_patch.proofs.OrderedEntries.{absent-from, contains-there, stands-from}
use Rattle.qx_patch.proofs.patch.Patch.has.Goals as goal

-- a block is there where its place was found
found-there : (a : Inside) (seen : PatchState) (b : ℕ) (lent : List Entry) (found : Option ℕ) → IsInOrder a → patch_in a ≡ seen → lent ≡ a.entries.items
    → IfSome found (λ at. (at < length lent) × (get_or (numbers_of lent) at 0 ≡ b)) → IfNone found ((k : ℕ) → k < length lent → get_or (numbers_of lent) k 0 ≢ b)
    → is_some found ≡ is_some (get seen.blocks b)
found-there a seen b lent None ordered view same there absent = ap is_some (sym (absent-from a seen b lent view same absent))
found-there a seen b lent (Some at) ordered view same there absent = sym (contains-there a seen b at (stands-from a seen b at lent ordered view same there))

pub returns : goal.returns
returns c =
    c.is_some.ensures
    ∙ found-there c.self.inside c.args.self.now c.args.b c.self.inside.entries.items c.place_of.result c.self.invariant c.self.view_is refl c.place_of.ensures.there c.place_of.ensures.absent
