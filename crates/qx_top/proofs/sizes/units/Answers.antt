use Rattle.std.proofs.Common.{◌≢◌, sym, ◌∙◌, arith, get_or}
use Rattle.std.proofs.lemmas.Str.Pattern.{starts_char}
use Rattle.qx_top.proofs.SizeWords.{units_of_signed, units_where_read, units_where_not_read}
use Rattle.qx_top.proofs.sizes.units.Goals as goal

pub returns-then-starts_with : goal.returns-then-starts_with
returns-then-starts_with c =
    sym (units_of_signed c.args.unit c.args.digits.now ((starts_char 43 c.args.digits.now c.starts_with.result c.starts_with.ensures.cases (omega arith) (omega arith)).0 c.if-starts_with.true))

pub returns-in_err-number : goal.returns-in_err-number
returns-in_err-number c =
    let unsigned : get_or c.args.digits.now 0 0 ≢ 43 = λ sign. cc ((starts_char 43 c.args.digits.now c.starts_with.result c.starts_with.ensures.cases (omega arith) (omega arith)).1 sign) in
    c.from_residual.ensures ∙ units_where_not_read c.args.unit c.args.digits.now c.parse.result c.parse.ensures.value.0 unsigned c.requires (sym c.ok.ensures.value ∙ c.in_err-number.was)

pub returns : goal.returns
returns c =
    let unsigned : get_or c.args.digits.now 0 0 ≢ 43 = λ sign. cc ((starts_char 43 c.args.digits.now c.starts_with.result c.starts_with.ensures.cases (omega arith) (omega arith)).1 sign) in
    units_where_read c.args.unit c.args.digits.now c.parse.result c.parse.ensures.value.0 unsigned c.in_ok-number.number c.checked_mul.result (sym c.ok.ensures.value ∙ c.in_ok-number.was) c.checked_mul.ensures
