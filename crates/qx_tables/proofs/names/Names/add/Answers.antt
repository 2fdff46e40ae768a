use Rattle.std.proofs.Common.{◌≡◌, ◌∷◌, ℕ, IfOk, OnOk, sym, subst, ap, ◌∙◌}
use Rattle.std.specs.Prelude.{Result, not}
use Rattle.qx_pointers.specs.declared.halt.Halt.{Halt}
use Rattle.qx_tables.specs.Tables.{HasNames}
use Rattle.qx_tables.proofs.KeptNames.{found_name, has_name, more_names}
use Rattle.qx_tables.proofs.names.Names.add.Goals.{in-Ok, in-Err}
use Rattle.qx_tables.proofs.names.Names.add.Goals as goal

same_key : (c : goal.Joined-insert-2) → c.in_ok-key.key.items ≡ c.args.name.now
same_key c = c.in_ok-key.ensures.items_if_clones_equal (λ x y e. e)

pub returns-clause-new : goal.returns-clause-new
returns-clause-new c = λ names h.
    elim c.match-insert.branch [
      | in-Ok w ↦
          let found = found_name (λ k. k.items) c.in_ok-key.key.items c.args.self.now.names.keys ∙ h.each c.in_ok-key.key.items ∙ ap (has_name names) (same_key c) in
          subst (λ r. IfOk r (λ new. new ≡ not (has_name names c.args.name.now))) (sym w.result-is) (w.in-Ok.ensures.added ∙ ap not found)
      | in-Err w ↦ subst (λ r. IfOk r (λ new. new ≡ not (has_name names c.args.name.now))) (sym w.result-is) (cc)
    ]

pub returns-clause-names : goal.returns-clause-names
returns-clause-names c = λ names h.
    elim c.match-insert.branch [
      | in-Ok w ↦ subst (λ r. OnOk r (HasNames (record { alloc = c.args.self.now.alloc; names = c.insert.new.self }) (c.args.name.now ∷ names))) (sym w.result-is) (record {
        each = more_names (λ k. k.items) c.args.self.now.names.keys c.insert.new.self.keys c.in_ok-key.key c.args.name.now names h.each w.in-Ok.ensures.keys (same_key c);
      })
      | in-Err w ↦ subst (λ r. OnOk r (HasNames (record { alloc = c.args.self.now.alloc; names = c.insert.new.self }) (c.args.name.now ∷ names))) (sym w.result-is) (cc)
    ]
