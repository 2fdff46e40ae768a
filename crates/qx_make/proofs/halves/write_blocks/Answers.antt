use Rattle.qx_make.proofs.BlockPuts.{blocks_done, blocks_sync_fails}
use Rattle.qx_make.proofs.halves.write_blocks.Goals as goal

pub returns-in_err-sync-clause-stage : goal.returns-in_err-sync-clause-stage
returns-in_err-sync-clause-stage g c = λ bytes long.
    blocks_sync_fails c.args.volume.now.geometry c.requires.geometry c.args.volume.now.order c.args.volume.now.moment bytes long tt c.from_residual-in_err-sync.result (g.D.Dev.outside c.args.host.now) (g.D.Dev.outside c.write_pieces.new.host) (g.D.Dev.outside c.sync.new.self) c.from_residual-in_err-sync.ensures.0 (c.in_ok-write_pieces.ensures.stage bytes long) c.sync.ensures.step

pub returns-clause-stage : goal.returns-clause-stage
returns-clause-stage g c = λ bytes long.
    blocks_done c.args.volume.now.geometry c.requires.geometry c.args.volume.now.order c.args.volume.now.moment bytes long tt tt (g.D.Dev.outside c.args.host.now) (g.D.Dev.outside c.write_pieces.new.host) (g.D.Dev.outside c.sync.new.self) (c.in_ok-write_pieces.ensures.stage bytes long) c.in_ok-sync.ensures.ok c.sync.ensures.step
