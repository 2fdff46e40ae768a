use Rattle.std.proofs.Common.{◌≡◌, ℕ, ◌-◌, min, replicate, arith, ap, ◌∙◌}
use Rattle.std.proofs.lemmas.List.{take-replicate}
use Rattle.qx_make.proofs.areas.zeros_within.Goals as goal

pub returns : goal.returns
returns c =
    let within : c.min-within.result ≡ min 4096 (c.args.len - c.args.place) = omega (arith, c.min-within.ensures, c.saturating_sub.ensures) in
    take-replicate c.min-within.result 4096 0 (omega arith) ∙ ap (λ (n : ℕ). replicate n 0) within
