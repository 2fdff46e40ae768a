use Rattle.std.proofs.Common.{◌≡◌, suc, ◌+◌, ◌<◌, ◌∷◌, ◌/◌, List, length, ap, sym, ◌∙◌, arith}
use Rattle.qx_records.specs.NameRecord.{RawRecord}
use Rattle.qx_records.specs.Slots.{PlacedRecord, records_from}
use Rattle.qx_records.proofs.RecordLists.{records_from-more, records_from-end}
use Rattle.qx_records.proofs.directory.RecordsIterator.next.Goals as goal

pub returns-then-place-self-clause-steps : goal.returns-then-place-self-clause-steps
returns-then-place-self-clause-steps c =
    let s = c.self.inside in
    let none = sym c.self.view_is ∙ records_from-end s.order s.block.now s.place (omega arith) in
    (none, none)

pub returns-clause-steps : goal.returns-clause-steps
returns-clause-steps c =
    let s = c.self.inside in
    let short : s.place < length s.block.now / 32 = omega (arith, c.self.invariant) in
    sym c.self.view_is
    ∙ records_from-more s.order s.block.now s.place short
    ∙ ap (λ (raw : RawRecord). record { place = s.place; raw = raw } ∷ records_from s.order s.block.now (s.place + 1)) (sym c.slot_at.ensures.said)

pub returns-clause-goes : goal.returns-clause-goes
returns-clause-goes c =
    let left : length c.args.self.now ≡ suc (length (records_from c.self.inside.order c.self.inside.block.now (c.self.inside.place + 1))) = ap (λ (l : List PlacedRecord). length l) (returns-clause-steps c) in
    record { on = λ finite. (tt, tt, omega (arith, left)); keeps = tt; rests = λ finite. tt }
