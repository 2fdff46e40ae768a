use Rattle.std.proofs.Common.{rules, ◌≡◌, None, ◌+◌, sym, ◌∙◌, ap}
use Rattle.std.specs.Prelude.{option_map}
use Rattle.qx_itable.specs.FirstPlace.{first_absent_in}
use Rattle.qx_itable.specs.TableState.{first_free_in}
use Rattle.qx_itable.specs.TableView.{table_in}
use Rattle.qx_itable.proofs.FirstPlaces.{first_free-is}
use Rattle.qx_itable.proofs.table.ITable.first_free.Goals as goal

pub returns : goal.returns
returns c =
    ap (option_map (λ place. place + 1)) (sym c.in_ok-place.was ∙ c.first_absent.ensures.first ∙ ap first_absent_in c.self.invariant.live)
    ∙ sym (first_free-is (table_in c.self.inside)) ∙ ap first_free_in c.self.view_is

pub returns-in_err-place : goal.returns-in_err-place
returns-in_err-place c =
    let none : c.from_residual.result ≡ None = search rules in
    none ∙ ap (option_map (λ place. place + 1)) (sym c.in_err-place.was ∙ c.first_absent.ensures.first ∙ ap first_absent_in c.self.invariant.live)
    ∙ sym (first_free-is (table_in c.self.inside)) ∙ ap first_free_in c.self.view_is
