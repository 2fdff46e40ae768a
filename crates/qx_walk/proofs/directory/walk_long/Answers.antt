use Rattle.std.proofs.Common.{refl, sym, ◌∙◌, ap, subst}
use Rattle.std.specs.Option.{option_copied}
use Rattle.std.proofs.lemmas.Result.{err_from_is_err_and}
use Rattle.qx_walk.proofs.RowTests.{long_halts, long_nameless, long_other, long_walks}
use Rattle.qx_walk.specs.Rows.{record_place}
use Rattle.qx_tables.specs.Tables.{HoldsNames}
use Rattle.qx_walk.proofs.directory.walk_long.Goals as goal

pub returns-in_default-clause-walked : goal.returns-in_default-clause-walked
returns-in_default-clause-walked g c = λ m r kept s i h.
    long_nameless m r (record_place c.args.at) c.args.inode c.args.number c.args.sum kept _ c.found.result c.found.ensures
    (sym (c.in_ok-name.ensures.name m r.longfile kept.numbers s h.longs) ∙ ap option_copied c.in_default.is)

pub returns-then-not-is_sum_of-clause-walked : goal.returns-then-not-is_sum_of-clause-walked
returns-then-not-is_sum_of-clause-walked g c = λ m r kept s i h.
    long_other m r (record_place c.args.at) c.args.inode c.args.number c.args.sum c.in-Some.name.now kept _ c.found-then-not-is_sum_of.result c.found-then-not-is_sum_of.ensures
    (sym (c.in_ok-name.ensures.name m r.longfile kept.numbers s h.longs) ∙ ap option_copied c.in-Some.is)
    (sym c.is_sum_of.ensures ∙ c.if-not-is_sum_of.true)

pub returns-in_err-walk_row-clause-walked : goal.returns-in_err-walk_row-clause-walked
returns-in_err-walk_row-clause-walked g c = λ m r kept s i h.
    let p = err_from_is_err_and c.from_residual-in_err-walk_row.result c.from_residual-in_err-walk_row.ensures.1 in
    rw (p.1, p.2) (long_halts m r (record_place c.args.at) c.args.inode c.args.number c.args.sum c.in-Some.name.now kept c.walk_row.new.seen _ c.in_err-walk_row.field-0.0
    (sym (c.in_ok-name.ensures.name m r.longfile kept.numbers s h.longs) ∙ ap option_copied c.in-Some.is)
    (sym c.is_sum_of.ensures ∙ c.if-not-is_sum_of.false)
    (c.in_err-walk_row.ensures.walked m r kept i h))

pub returns-clause-walked : goal.returns-clause-walked
returns-clause-walked g c = λ m r kept s i h.
    long_walks m r (record_place c.args.at) c.args.inode c.args.number c.args.sum c.in-Some.name.now kept c.walk_row.new.seen _ tt tt
    (sym (c.in_ok-name.ensures.name m r.longfile kept.numbers s h.longs) ∙ ap option_copied c.in-Some.is)
    (sym c.is_sum_of.ensures ∙ c.if-not-is_sum_of.false)
    (c.in_ok-walk_row.ensures.walked m r kept i h) refl refl
    (c.count.ensures.counted m r.longfile kept.numbers (subst (λ z. HoldsNames m r.longfile kept.numbers z) (sym c.in_ok-walk_row.ensures.longs) h.longs))
