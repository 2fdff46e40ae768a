use Rattle.std.proofs.Common.{ap, sym, subst}
use Rattle.qx_records.specs.Slots.{raw_of_slot}
use Rattle.qx_walk.proofs.RowTests.{short_walks}
use Rattle.qx_walk.specs.Rows.{WalksRecord, record_place}
use Rattle.qx_walk.proofs.directory.walk_record.Goals as goal

pub returns-in-Short-clause-walked : goal.returns-in-Short-clause-walked
returns-in-Short-clause-walked g c = λ m r kept s i h.
    short_walks m r (record_place c.args.at) c.in-Short.inode c.in-Short.name.now _ kept c.walk_row.result c.walk_row.new.seen (ap raw_of_slot c.in-Short.is) (c.walk_row.ensures.walked m r kept i h)

pub returns-in-Long-clause-walked : goal.returns-in-Long-clause-walked
returns-in-Long-clause-walked g c = λ m r kept s i h.
    subst (λ z. WalksRecord m r (record_place c.args.at) z kept c.walk_long.result c.walk_long.new.seen) (sym (ap raw_of_slot c.in-Long.is)) (c.walk_long.ensures.walked m r kept s i h)
