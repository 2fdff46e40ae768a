use Rattle.std.proofs.Common.{rules, arith, ◌≡◌, ◌≤◌, ◌+◌, ℕ, Some, length}
use Rattle.std.proofs.lemmas.Result.{on_ok_weaker}
use Rattle.qx_pointers.proofs.BlockRanges.{blocks_side}
use Rattle.qx_pointers.proofs.ShownBlocks.{if_told, read_once}
use Rattle.qx_pointers.proofs.reading.read_blocks.Goals as goal

pub returns-clause-bytes : goal.returns-clause-bytes
returns-clause-bytes g c = λ m s.
    on_ok_weaker c.read_at.result (blocks_side c.args.shape (g.D.Dev.outside c.args.host.now) (g.D.Dev.outside c.read_at.new.self) m c.args.first c.place_of.result (length c.args.into.now) c.read_at.new.into s c.read_at.ensures.step c.place_of.ensures (search rules)) c.read_at.ensures.bytes

pub returns-clause-looks : goal.returns-clause-looks
returns-clause-looks g c = record {
  reads = read_once _ _ c.read_at.result c.read_at.ensures.step c.read_at.ensures.extent c.read_at.ensures.others c.read_at.ensures.reads c.read_at.ensures.reads_err;
  cause = c.read_at.ensures.cause;
}

pub read_at-requires : goal.read_at-requires
read_at-requires g c =
    let room : (len : ℕ) → (g.D.Dev.outside c.args.host.now).extent ≡ Some len → c.place_of.result + length c.args.into.now ≤ len = λ len told. search (rules, c.requires.fits len told, arith) in
    if_told _ _ room
