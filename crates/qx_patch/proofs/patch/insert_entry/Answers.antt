use Rattle.std.proofs.Common.{◌≡◌, Result, Ok, Err, is_err, OnOk, false, sym, ap, ◌∙◌}
use Rattle.std.specs.Prelude.{insert}
use Rattle.qx_patch.specs.declared.patch.Entry.{Entry}
use Rattle.qx_patch.specs.PatchView.{pairs_of}
use Rattle.qx_patch.proofs.EntriesComeAndGo.{pairs-insert}
use Rattle.qx_patch.proofs.patch.insert_entry.Goals as goal

-- what holds of a result that is no error
ok_holds : {A E : Type 0} (r : Result A E) (P : Type 0) → is_err r ≡ false → OnOk r P → P
ok_holds (Ok v) P h p = p
ok_holds (Err e) P h p = absurd (cc)

pub returns-clause-pairs : goal.returns-clause-pairs
returns-clause-pairs c =
    let entry : Entry = record { block = c.args.b; bytes = c.copy_from_slice.new.self } in
    ap pairs_of (ok_holds c.insert.result _ (sym c.is_err.ensures.value ∙ c.if-is_err.false) c.insert.ensures.items)
    ∙ pairs-insert c.args.entries.now.items c.args.at entry
    ∙ ap (λ bytes. insert (pairs_of c.args.entries.now.items) c.args.at (c.args.b, bytes)) c.copy_from_slice.ensures.items
