use Rattle.std.proofs.Common.{◌≡◌, ◌+◌, min, refl, sym, arith}
use Rattle.qx_tables.proofs.LongLeaves.{counted_holds, held_ascend, uncounted_holds}
use Rattle.qx_tables.proofs.long_names.LongNames.count.Goals as goal

pub returns-in-Some-clause-counted : goal.returns-in-Some-clause-counted
returns-in-Some-clause-counted c = λ m longfile numbers h.
    let leaf = c.index_mut-leaf.result.now in
    let once : c.min-leaf.result ≡ min 2 (leaf.named + 1) = omega (arith, c.min-leaf.ensures, c.saturating_add.ensures) in
    counted_holds m longfile numbers c.args.number c.args.self.now _ c.in-Some.place leaf (record { place = leaf.place; named = c.min-leaf.result }) h c.in-Some.ensures.inside c.in-Some.ensures.found (sym c.index_mut-leaf.ensures.value) refl refl refl once

pub returns-in_default-clause-counted : goal.returns-in_default-clause-counted
returns-in_default-clause-counted c = λ m longfile numbers h. uncounted_holds m longfile numbers c.args.number c.args.self.now h (c.in_default.ensures.none (held_ascend m longfile numbers c.args.self.now h))
