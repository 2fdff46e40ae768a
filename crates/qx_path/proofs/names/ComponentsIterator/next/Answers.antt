use Rattle.std.proofs.Common.{rules, ◌≡◌, ◌∷◌, ℕ, List, false, take, drop, sym, ap, ◌∙◌}
use Rattle.qx_path.specs.Names.{first_length, is_empty, names_in}
use Rattle.qx_path.proofs.FirstNames.{first_length-within, names-first}
use Rattle.qx_path.proofs.names.ComponentsIterator.next.Goals as goal

-- the first name and the names behind it, where the bytes are cut before their first slash
names-cut : (all bytes front back : List ℕ) (at : ℕ) → names_in bytes ≡ names_in all → at ≡ first_length bytes → front ≡ take at bytes → back ≡ drop at bytes
    → is_empty front ≡ false → names_in all ≡ front ∷ names_in back
names-cut all bytes front back at same cut front_is back_is some =
    let first : front ≡ take (first_length bytes) bytes = rw (← cut) front_is in
    let behind : back ≡ drop (first_length bytes) bytes = rw (← cut) back_is in
    sym same ∙ names-first bytes (ap is_empty (sym first) ∙ some) ∙ (λ i. sym first i ∷ names_in (sym behind i))

pub split_at-requires : goal.split_at-requires
split_at-requires c = rw c.first_length.ensures (first_length-within c.without_slashes-names.result.now)

pub returns-else-is_empty-clause-steps : goal.returns-else-is_empty-clause-steps
returns-else-is_empty-clause-steps c =
    names-cut c.args.self.now.rest.now c.without_slashes-names.result.now c.split_at.result.0.now c.split_at.result.1.now c.first_length.result
    c.without_slashes-names.ensures.names c.first_length.ensures c.split_at.ensures.front c.split_at.ensures.back (sym c.is_empty.ensures ∙ c.if-is_empty.false)

pub returns-else-is_empty-clause-goes : goal.returns-else-is_empty-clause-goes
returns-else-is_empty-clause-goes c =
    let names : names_in c.args.self.now.rest.now ≡ c.split_at.result.0.now ∷ names_in c.split_at.result.1.now
    = returns-else-is_empty-clause-steps c in
    search rules
