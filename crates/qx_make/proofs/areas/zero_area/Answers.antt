use Rattle.std.proofs.Common.{sym, ◌∙◌}
use Rattle.qx_make.proofs.ZeroedAreas.{zero_done, zero_none_done, zero_none_fails, zero_sync_fails, zero_write_fails}
use Rattle.qx_make.proofs.areas.zero_area.Goals as goal

pub returns-in_err-sync-clause-stage : goal.returns-in_err-sync-clause-stage
returns-in_err-sync-clause-stage g c = λ bytes long.
    zero_none_fails bytes c.args.len c.args.place long c.zeros_within-zeros.result.now c.zeros_within-zeros.ensures c.from_residual.result (g.D.Dev.outside c.args.host.now) (g.D.Dev.outside c.sync.new.self) c.from_residual.ensures.0 (sym c.is_empty.ensures ∙ c.if-is_empty.true) c.sync.ensures.step

pub returns-then-is_empty-clause-stage : goal.returns-then-is_empty-clause-stage
returns-then-is_empty-clause-stage g c = λ bytes long.
    zero_none_done bytes c.args.len c.args.place long c.zeros_within-zeros.result.now c.zeros_within-zeros.ensures tt (g.D.Dev.outside c.args.host.now) (g.D.Dev.outside c.sync.new.self) (sym c.is_empty.ensures ∙ c.if-is_empty.true) c.in_ok-sync.ensures.ok c.sync.ensures.step

pub returns-in_err-write_at-clause-stage : goal.returns-in_err-write_at-clause-stage
returns-in_err-write_at-clause-stage g c = λ bytes long.
    zero_write_fails bytes c.args.len c.args.place long c.zeros_within-zeros.result.now c.zeros_within-zeros.ensures c.from_residual-in_err-write_at.result (g.D.Dev.outside c.args.host.now) (g.D.Dev.outside c.write_at.new.self) c.from_residual-in_err-write_at.ensures.0 (sym c.is_empty.ensures ∙ c.if-is_empty.false) c.write_at.ensures.step

pub returns-in_err-sync-2-clause-stage : goal.returns-in_err-sync-2-clause-stage
returns-in_err-sync-2-clause-stage g c = λ bytes long.
    zero_sync_fails bytes c.args.len c.args.place long c.zeros_within-zeros.result.now c.zeros_within-zeros.ensures c.from_residual-in_err-sync-2.result (g.D.Dev.outside c.args.host.now) (g.D.Dev.outside c.write_at.new.self) (g.D.Dev.outside c.sync-2.new.self) c.from_residual-in_err-sync-2.ensures.0 (sym c.is_empty.ensures ∙ c.if-is_empty.false) c.in_ok-write_at.ensures.ok c.write_at.ensures.step c.sync-2.ensures.step

pub returns-clause-stage : goal.returns-clause-stage
returns-clause-stage g c = λ bytes long.
    zero_done bytes c.args.len c.args.place long c.zeros_within-zeros.result.now c.zeros_within-zeros.ensures tt (g.D.Dev.outside c.args.host.now) (g.D.Dev.outside c.write_at.new.self) (g.D.Dev.outside c.sync-2.new.self) (sym c.is_empty.ensures ∙ c.if-is_empty.false) c.in_ok-write_at.ensures.ok c.write_at.ensures.step c.in_ok-sync-2.ensures.ok c.sync-2.ensures.step
