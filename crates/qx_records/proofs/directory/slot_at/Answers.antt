use Rattle.std.proofs.Common.{refl, ◌*◌, arith}
use Rattle.qx_records.proofs.RecordLists.{LendsName-range}
use Rattle.qx_records.proofs.directory.slot_at.Goals as goal

pub returns-clause-lends : goal.returns-clause-lends
returns-clause-lends c =
    LendsName-range c.args.block _ (c.args.place * 32) c.slot_in.result c.requires refl (omega arith) refl c.slot_in.ensures.lends
