use Rattle.std.proofs.Common.{◌*◌, set, ◌∙◌, ap}
use Rattle.qx_records.specs.Slots.{records_in}
use Rattle.qx_dir.proofs.WrittenRows.{part-written, records-written}
use Rattle.qx_dir.proofs.block.put.Goals as goal

pub returns-clause-records : goal.returns-clause-records
returns-clause-records c =
    ap (records_in c.args.order) (part-written c.args.block.now c.write_row.new.into (c.args.place * 32) c.write_row.ensures.whole)
    ∙ records-written c.args.order c.args.block.now c.write_row.new.into c.args.place c.write_row.ensures.whole c.requires.within
    ∙ ap (λ raw. set (records_in c.args.order c.args.block.now) c.args.place (record { place = c.args.place; raw = raw })) c.write_row.ensures.read_back
