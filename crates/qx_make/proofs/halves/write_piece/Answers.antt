use Rattle.std.proofs.Common.{ℕ, replicate, ap, sym, ◌∙◌, arith}
use Rattle.qx_geom.proofs.VolumeNumbers.{IsGeometry-keeps}
use Rattle.qx_make.proofs.BlockPuts.{piece_told}
use Rattle.qx_make.proofs.halves.write_piece.Goals as goal

pub place-at-requires-clause-block : goal.place-at-requires-clause-block
place-at-requires-clause-block g c = let v = IsGeometry-keeps c.args.volume.now.geometry c.requires.geometry in omega (arith, v.room, c.requires.blocks)

pub write_at-requires : goal.write_at-requires
write_at-requires g c =
    let is = c.zeros.ensures ∙ ap (λ (n : ℕ). replicate n 0) c.requires.buffer ∙ sym c.if-are_blank.ensures in
    rw c.place-at.ensures (piece_told c.args.volume.now.geometry c.requires.geometry c.args.volume.now.order c.args.volume.now.moment c.args.first c.args.count c.zeros.result.now (g.D.Dev.outside c.args.host.now).extent is c.requires.blocks c.requires.len)

pub write_at-requires-2 : goal.write_at-requires-2
write_at-requires-2 g c =
    rw c.place-at.ensures (piece_told c.args.volume.now.geometry c.requires.geometry c.args.volume.now.order c.args.volume.now.moment c.args.first c.args.count c.fill_blocks.new.into (g.D.Dev.outside c.args.host.now).extent c.fill_blocks.ensures c.requires.blocks c.requires.len)

pub returns-then-are_blank-clause-ok : goal.returns-then-are_blank-clause-ok
returns-then-are_blank-clause-ok g c =
    let is = c.zeros.ensures ∙ ap (λ (n : ℕ). replicate n 0) c.requires.buffer ∙ sym c.if-are_blank.ensures in
    rw (sym is, sym c.place-at.ensures) c.write_at.ensures.ok

pub returns-then-are_blank-clause-step : goal.returns-then-are_blank-clause-step
returns-then-are_blank-clause-step g c =
    let is = c.zeros.ensures ∙ ap (λ (n : ℕ). replicate n 0) c.requires.buffer ∙ sym c.if-are_blank.ensures in
    rw (sym is, sym c.place-at.ensures) c.write_at.ensures.step
