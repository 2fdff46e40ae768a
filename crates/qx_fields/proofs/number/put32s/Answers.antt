use Rattle.std.proofs.Common.{◌<◌, ◌^◌, arith}
use Rattle.std.proofs.lemmas.List.Elements.{All-from_get_or}
use Rattle.qx_fields.proofs.number.put32s.Goals as goal

pub returns-in-Little-clause-fit : goal.returns-in-Little-clause-fit
returns-in-Little-clause-fit c = All-from_get_or (λ value. value < 256 ^ 4) c.args.values.now 0 (λ k short. omega (arith, c.type_inv.values k))

pub returns-in-Big-clause-fit : goal.returns-in-Big-clause-fit
returns-in-Big-clause-fit c = All-from_get_or (λ value. value < 256 ^ 4) c.args.values.now 0 (λ k short. omega (arith, c.type_inv.values k))
